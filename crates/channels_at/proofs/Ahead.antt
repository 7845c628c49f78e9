-- The next chips of a generator, place after place.
--     RunsOn, x2a_runs_on, x2b_runs_on   it runs on arrival at a phase that is not its last
--     next_tells   the next chips, read as a word from where it stands, are those of the places from there on
-- Assumes nothing.
use Prim.Native.Nat.{ℕ, zero, suc, ◌+◌, ◌-◌, ◌/◌, ◌%◌, ◌^◌, ◌<◌, ◌≤◌}
use mathlib.Core.Bool.{Bool, true, false}
use mathlib.Core.Path.{◌≡◌, refl, sym, ap, ap₂, ◌∙◌}
use mathlib.Core.List.{List}
use native.Mathlib.Nat.{add-zero, add-suc}
use native.Mathlib.Omega.{arith}
use borrow.Author.Tests.{ne_eqb}
use Rattle.registers.specs.Times.{times}
use Rattle.registers.specs.Register.{stage}
use Rattle.machine.specs.Generators.{Kind, step_generator}
use Rattle.machine.specs.Signals.{x2a, x2b}
use Rattle.machine.specs.declared.Mode.{Mode}
use Rattle.machine.specs.declared.Mode.TheVariants.{Running, Held}
use Rattle.machine.specs.declared.Generator.{Generator}
use Rattle.sequences.specs.Sequences.{word_in, Tells}
use Rattle.week.specs.declared.Course.{Course}
use Rattle.week.specs.declared.Standing.{Standing}
use Rattle.week.specs.Standing.{standing_at, generator_at}
use Rattle.week.proofs.Stepping.{stand, step_shift, step_held}
use Rattle.week.proofs.GeneratorWeek.{Goes}
use Rattle.channels_at.specs.Next.{next_by}
use Rattle.channels_at.specs.declared.lines.Next.{Next}
use Rattle.channels_at.proofs.Words.{all_tells}

-- on arrival at a phase that is not its last, a generator of a kind runs
abbrev pub RunsOn : Kind → Type 0
RunsOn k = (e : Bool) (p c : ℕ) → (p ≡ k.last c → ⊥) → k.arrival e p c ≡ Running

pub x2a_runs_on : RunsOn x2a
x2a_runs_on true p c apart = simp (ne_eqb p (x2a.last c) apart)
x2a_runs_on false p c apart = simp (ne_eqb p (x2a.last c) apart)

pub x2b_runs_on : RunsOn x2b
x2b_runs_on true p c apart = simp (ne_eqb p (x2b.last c) apart)
x2b_runs_on false p c apart = simp (ne_eqb p (x2b.last c) apart)

module _ (k : Kind) (c : Course) (week : ℕ) (flag : ℕ → Bool) (goes : Goes k c week flag) (on : RunsOn k) (w p cyc : ℕ) where
  -- up to the last phase, where it may be held
  runs : generator_at k c w ≡ stand k p cyc Running → (j : ℕ) → p + j < k.last cyc → w + j < week → generator_at k c (w + j) ≡ stand k (p + j) cyc Running
  runs e zero h l = ap (generator_at k c) (add-zero w) ∙ e ∙ ap (λ (q : ℕ). stand k q cyc Running) (sym (add-zero p))
  runs e (suc j) h l =
      let here : (p + j ≡ k.last cyc → ⊥) = λ t. omega (arith, t, h) in
      let next : suc (p + j) ≡ p + suc j = omega arith in
      ap (generator_at k c) (add-suc w j)
      ∙ sym (goes.next (w + j) (omega (arith, l)))
      ∙ ap (step_generator k (flag (suc (w + j)))) (runs e j (omega (arith, h)) (omega (arith, l)))
      ∙ step_shift k (flag (suc (w + j))) (p + j) cyc here
      ∙ ap₂ (λ (q : ℕ) (m : Mode). stand k q cyc m) next (on (flag (suc (w + j))) (suc (p + j)) cyc (λ t. omega (arith, t, h)))

  running : generator_at k c w ≡ stand k p cyc Running → (j : ℕ) → p + j ≤ k.last cyc → w + j < week
      → (generator_at k c (w + j)).register ≡ times k.shift (p + j) k.start
  running e zero h l =
      ap (λ (v : ℕ). (generator_at k c v).register) (add-zero w)
      ∙ ap (λ (g : Generator). g.register) e
      ∙ ap (λ (q : ℕ). times k.shift q k.start) (sym (add-zero p))
  running e (suc j) h l =
      let here : (p + j ≡ k.last cyc → ⊥) = λ t. omega (arith, t, h) in
      ap (λ (g : Generator). g.register)
      (ap (generator_at k c) (add-suc w j)
      ∙ sym (goes.next (w + j) (omega (arith, l)))
      ∙ ap (step_generator k (flag (suc (w + j)))) (runs e j (omega (arith, h)) (omega (arith, l)))
      ∙ step_shift k (flag (suc (w + j))) (p + j) cyc here)
      ∙ ap (λ (q : ℕ). times k.shift q k.start) (omega arith)

  held : (h : ℕ) → generator_at k c w ≡ stand k p cyc (Held h) → (j : ℕ) → j ≤ h → w + j < week → generator_at k c (w + j) ≡ stand k p cyc (Held (h - j))
  held h e zero i l = ap (generator_at k c) (add-zero w) ∙ e ∙ ap (λ (x : ℕ). stand k p cyc (Held x)) (omega arith)
  held h e (suc j) i l =
      let left : h - j ≡ suc (h - suc j) = omega (arith, i) in
      ap (generator_at k c) (add-suc w j)
      ∙ sym (goes.next (w + j) (omega (arith, l)))
      ∙ ap (step_generator k (flag (suc (w + j)))) (held h e j (omega (arith, i)) (omega (arith, l)))
      ∙ step_held k (flag (suc (w + j))) p cyc (h - j) (h - suc j) left

  -- given the word of its table from where it stands
  module _ (s word last m : ℕ) (tells : Tells word 64 (λ j. stage s (times k.shift (p + j) k.start))) (word_in : word < 2 ^ 64)
      (last_is : k.last cyc ≡ last) (some : p ≤ last) (few : m ≤ 64) (in_week : w + m ≤ week)
    where
      pub tells_by : (mode : Mode) → generator_at k c w ≡ stand k p cyc mode → m ≤ (next_by mode word (last - p)).chips
          → Tells (next_by mode word (last - p)).word m (λ j. stage s (generator_at k c (w + j)).register)
      tells_by Running e h j l =
          tells j (omega (arith, l, few)) ∙ ap (stage s) (sym (running e j (rw last_is (omega (arith, h, l, some))) (omega (arith, l, in_week))))
      tells_by (Held x) e h j l =
          let top : word / 2 ^ 63 < 2 = omega (arith, word_in) in
          let one : word / 2 ^ 63 % 2 ≡ word / 2 ^ 63 = omega (arith, top) in
          all_tells (word / 2 ^ 63) top j (omega (arith, l, few))
          ∙ sym one
          ∙ tells 0 (omega arith)
          ∙ ap (λ (q : ℕ). stage s (times k.shift q k.start)) (add-zero p)
          ∙ ap (stage s) (sym (ap (λ (g : Generator). g.register) (held x e j (omega (arith, h, l)) (omega (arith, l, in_week)))))

module _ (k : Kind) (c : Course) (week : ℕ) (flag : ℕ → Bool) (goes : Goes k c week flag) (on : RunsOn k) (s last : ℕ) where
  pub next_tells : (table : List ℕ) (w m : ℕ) (at : Standing) (n : Next) → ((q : ℕ) → q ≤ last → Tells (word_in table q) 64 (λ j. stage s (times k.shift (q + j) k.start)))
      → word_in table at.phase < 2 ^ 64 → k.last at.cycles ≡ last → at.phase ≤ last → at ≡ standing_at c w
      → n ≡ next_by at.mode (word_in table at.phase) (last - at.phase) → m ≤ n.chips → m ≤ 64 → w + m ≤ week
      → Tells n.word m (λ j. stage s (generator_at k c (w + j)).register)
  unfolding generator_at
  next_tells table w m at n tells small last_is some e en h few in_week =
      let there : generator_at k c w ≡ stand k at.phase at.cycles at.mode = rw e refl in
      rw en
      (tells_by k c week flag goes on w at.phase at.cycles s (word_in table at.phase) last m (tells at.phase some) small last_is some few in_week at.mode there
      (rw (← en) h))
