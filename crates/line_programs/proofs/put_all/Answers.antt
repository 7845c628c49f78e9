use Rattle.std.proofs.Common.{◌++◌, ◌∙◌, sym, ap, take, take-append-drop, append_assoc, rules}
use Rattle.std.proofs.lemmas.List.{take_rest}
use Rattle.std.specs.Io.KnownBytes.{Appends}
use Rattle.std.proofs.KnownBytes.{Appends-trans}
use Rattle.line_programs.proofs.put_all.Goals as goal

pub loop-rest-preserved : goal.loop-rest-preserved
loop-rest-preserved g c =
    let (done, split, grew) = c.loop-rest.invariant in
    let rest = c.loop-rest.rest.now in
    let taken = c.in_ok-taken.taken in
    let grows : Appends (g.W.Write.contents c.loop-rest.output) (g.W.Write.contents c.put_again.new.output) (take taken rest) = search rules in (
      done ++ take taken rest,
      split
          ∙ ap (λ l. done ++ l) (sym (take-append-drop taken rest) ∙ ap (λ l. take taken rest ++ l) (sym (take_rest rest taken)))
          ∙ sym (append_assoc done (take taken rest) _),
      Appends-trans _ _ _ _ _ grew grows,
    )
