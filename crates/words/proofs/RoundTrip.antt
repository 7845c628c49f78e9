-- A channel's word read back gives the channel, and a channel read, written again, gives the word.
--     there    what stands in a text as a channel's word is read as that channel, for every channel whose fields hold their numbers
--     back     what is read as a channel stands in the text as that channel's word
-- Assumes nothing.
use Prim.Native.Nat.{ℕ, ◌≤◌}
use mathlib.Core.List.{List, ◌++◌, append_assoc}
use mathlib.Core.Path.{◌≡◌, refl, sym, ap, subst, ◌∙◌}
use native.Mathlib.Omega.{arith}
use lib.ListN.{length, drop}
use Rattle.std.specs.Prelude.{false, Option, Some, None, IfSome}
use Rattle.std.specs.Borrow.{Bor}
use Rattle.std.proofs.Math.Seq.{drop-append_seam}
use Rattle.machine.specs.declared.Generator.{Generator}
use Rattle.machine.specs.declared.Channel.{Channel}
use Rattle.fields.specs.Fields.{digit}
use Rattle.numbers.specs.Numbers.{Read, of_read, most32, most64, number_word, read_number}
use Rattle.words.specs.Words.{generator_word, generators_word, channel_word, read_generator, read_channel, ChannelFits, IsReadAs}
use Rattle.words.proofs.Writing.{channel_put}
use Rattle.numbers.proofs.Numbers.{number_there, small32, small64, number_back}
use Rattle.words.proofs.Generators.{there_first, IsWord, four, number_read, generator_there, generator_back}

-- a channel, given its parts
abbrev channel_of : ℕ → ℕ → ℕ → ℕ → ℕ → Generator → Generator → Generator → Generator → Channel
channel_of signal prn place epoch delay first second third fourth =
    record {
      signal = signal;
      prn = prn;
      place = place;
      epoch = epoch;
      delay = delay;
      first = first;
      second = second;
      third = third;
      fourth = fourth;
    }

-- five words before the rest of a text
five : (a b c d e f rest : List ℕ) → (a ++ (b ++ (c ++ (d ++ (e ++ f))))) ++ rest ≡ a ++ (b ++ (c ++ (d ++ (e ++ (f ++ rest)))))
five a b c d e f rest =
    four a b c (d ++ (e ++ f)) rest
    ∙ ap (λ (l : List ℕ). a ++ (b ++ (c ++ l))) (append_assoc d (e ++ f) rest ∙ ap (λ (l : List ℕ). d ++ l) (append_assoc e f rest))

-- a number of 64 bits
wide : (n : ℕ) (rest : List ℕ) → n ≤ most64 → read_number most64 47 (number_word 47 n ++ rest) ≡ Some (n, rest)
wide n rest fits = number_there most64 47 refl n rest (omega (arith, fits)) fits

module _ (mark : ℕ) (no_digit : digit mark ≡ false) where
  pub there : (ch : Channel) (rest : List ℕ) → ChannelFits ch → read_channel mark (channel_word mark ch ++ rest) ≡ Some (ch, rest)
  unfolding read_channel channel_word generators_word
  there ch rest fits =
      let t8 = generator_word mark ch.fourth ++ rest in
      let t7 = generator_word 47 ch.third ++ t8 in
      let t6 = generator_word 47 ch.second ++ t7 in
      let t5 = generator_word 47 ch.first ++ t6 in
      let t4 = number_word 47 ch.delay ++ t5 in
      let t3 = number_word 47 ch.epoch ++ t4 in
      let t2 = number_word 47 ch.place ++ t3 in
      let t1 = number_word 47 ch.prn ++ t2 in
      rw (
        five (number_word 47 ch.signal) (number_word 47 ch.prn) (number_word 47 ch.place) (number_word 47 ch.epoch) (number_word 47 ch.delay) (generators_word mark ch) rest,
        four (generator_word 47 ch.first) (generator_word 47 ch.second) (generator_word 47 ch.third) (generator_word mark ch.fourth) rest,
        number_read 47 ch.signal t1 refl fits.signal,
        number_read 47 ch.prn t2 refl fits.prn,
        wide ch.place t3 fits.place,
        number_read 47 ch.epoch t4 refl fits.epoch,
        wide ch.delay t5 fits.delay,
        generator_there 47 ch.first t6 refl fits.first,
        generator_there 47 ch.second t7 refl fits.second,
        generator_there 47 ch.third t8 refl fits.third,
        generator_there mark ch.fourth rest no_digit fits.fourth,
      )
      refl

-- the words of a channel's parts, one behind the other, are its word
joined : (mark : ℕ) (l : List ℕ) (signal prn place epoch delay : ℕ × List ℕ) (first second third fourth : Generator × List ℕ)
    → IsWord (number_word 47) l signal → IsWord (number_word 47) signal.1 prn → IsWord (number_word 47) prn.1 place
    → IsWord (number_word 47) place.1 epoch → IsWord (number_word 47) epoch.1 delay
    → IsWord (generator_word 47) delay.1 first → IsWord (generator_word 47) first.1 second → IsWord (generator_word 47) second.1 third
    → IsWord (generator_word mark) third.1 fourth
    → IsWord (channel_word mark) l (channel_of signal.0 prn.0 place.0 epoch.0 delay.0 first.0 second.0 third.0 fourth.0, fourth.1)
unfolding channel_word generators_word
joined mark l signal prn place epoch delay first second third fourth is1 is2 is3 is4 is5 is6 is7 is8 is9 =
    let w1 = number_word 47 signal.0 in
    let w2 = number_word 47 prn.0 in
    let w3 = number_word 47 place.0 in
    let w4 = number_word 47 epoch.0 in
    let w5 = number_word 47 delay.0 in
    let w6 = generator_word 47 first.0 in
    let w7 = generator_word 47 second.0 in
    let w8 = generator_word 47 third.0 in
    let w9 = generator_word mark fourth.0 in
    let numbers : List ℕ → List ℕ = λ t. w1 ++ (w2 ++ (w3 ++ (w4 ++ (w5 ++ t)))) in
    is1
    ∙ ap (λ (t : List ℕ). w1 ++ t) is2
    ∙ ap (λ (t : List ℕ). w1 ++ (w2 ++ t)) is3
    ∙ ap (λ (t : List ℕ). w1 ++ (w2 ++ (w3 ++ t))) is4
    ∙ ap (λ (t : List ℕ). w1 ++ (w2 ++ (w3 ++ (w4 ++ t)))) is5
    ∙ ap numbers is6
    ∙ ap (λ (t : List ℕ). numbers (w6 ++ t)) is7
    ∙ ap (λ (t : List ℕ). numbers (w6 ++ (w7 ++ t))) is8
    ∙ ap (λ (t : List ℕ). numbers (w6 ++ (w7 ++ (w8 ++ t)))) is9
    ∙ ap numbers (sym (four w6 w7 w8 w9 fourth.1))
    ∙ sym (five w1 w2 w3 w4 w5 (w6 ++ (w7 ++ (w8 ++ w9))) fourth.1)

module _ (mark : ℕ) where
  pub back : (l : List ℕ) (ch : Channel) (rest : List ℕ) → read_channel mark l ≡ Some (ch, rest) → l ≡ channel_word mark ch ++ rest
  unfolding read_channel
  back l ch rest e =
      there_first (read_number most32 47 l) e (λ (signal : ℕ × List ℕ) is1 e1.
      there_first (read_number most32 47 signal.1) e1 (λ (prn : ℕ × List ℕ) is2 e2.
      there_first (read_number most64 47 prn.1) e2 (λ (place : ℕ × List ℕ) is3 e3.
      there_first (read_number most32 47 place.1) e3 (λ (epoch : ℕ × List ℕ) is4 e4.
      there_first (read_number most64 47 epoch.1) e4 (λ (delay : ℕ × List ℕ) is5 e5.
      there_first (read_generator 47 delay.1) e5 (λ (first : Generator × List ℕ) is6 e6.
      there_first (read_generator 47 first.1) e6 (λ (second : Generator × List ℕ) is7 e7.
      there_first (read_generator 47 second.1) e7 (λ (third : Generator × List ℕ) is8 e8.
      there_first (read_generator mark third.1) e8 (λ (fourth : Generator × List ℕ) is9 e9.
      subst (λ (read : Read Channel). IfSome read (IsWord (channel_word mark) l)) e9
      (joined mark l signal prn place epoch delay first second third fourth
      (number_back most32 47 small32 l signal.0 signal.1 is1)
      (number_back most32 47 small32 signal.1 prn.0 prn.1 is2)
      (number_back most64 47 small64 prn.1 place.0 place.1 is3)
      (number_back most32 47 small32 place.1 epoch.0 epoch.1 is4)
      (number_back most64 47 small64 epoch.1 delay.0 delay.1 is5)
      (generator_back 47 delay.1 first.0 first.1 is6)
      (generator_back 47 first.1 second.0 second.1 is7)
      (generator_back 47 second.1 third.0 third.1 is8)
      (generator_back mark third.1 fourth.0 fourth.1 is9)))))))))))

-- ---- as the code has them

-- a channel put behind what stands there is read back
pub put_read : (mark : ℕ) (before : List ℕ) (ch : Channel) → ChannelFits ch → digit mark ≡ false
    → IsReadAs mark ch
    (drop (length before)
    ((((((before ++ number_word 47 ch.signal) ++ number_word 47 ch.prn) ++ number_word 47 ch.place) ++ number_word 47 ch.epoch) ++ number_word 47 ch.delay)
    ++ generators_word mark ch))
put_read mark before ch fits no_digit rest =
    ap (λ (l : List ℕ). read_channel mark (drop (length before) l ++ rest)) (channel_put mark before ch)
    ∙ ap (λ (l : List ℕ). read_channel mark (l ++ rest)) (drop-append_seam before (channel_word mark ch))
    ∙ there mark no_digit ch rest fits

-- a channel read stands at the front of the text
pub read_back : (mark : ℕ) (text : List ℕ) (read : Option (Channel × Bor (List ℕ))) → of_read read ≡ read_channel mark text
    → IfSome read (λ p. text ≡ channel_word mark p.0 ++ p.1.now)
read_back mark text None e = tt
read_back mark text (Some p) e = back mark text p.0 p.1.now (sym e)
