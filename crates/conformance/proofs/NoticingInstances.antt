-- Worked instances of what division notices: for each statement a change that meets its hypotheses, and changes one step further
-- that pass, so that no statement could be had with a larger number.
use mathlib.Core.Path.{◌≡◌, refl, ap, ◌∙◌}
use mathlib.Core.List.{List, [], ◌∷◌}
use Prim.Native.Nat.{ℕ, suc, ◌+◌, ◌*◌, ◌%◌, ◌^◌, ◌<◌, zero-le, suc-le-suc}
use native.Mathlib.Omega.{arith}
use lib.Bits.{bit_xor}
use lib.Count.{ones_in, ones, ones_cat}
use lib.Dec.{lit<}
use lib.Pow.{pow_mono}
use Rattle.outcome.specs.Outcomes.{done}
use Rattle.message.specs.Message.{number, Bytes, first_bit, first_bit_agrees, is_message_length, is_word}
use Rattle.message.specs.Bits.{inverted}
use Rattle.division.specs.Polynomial.{polynomial, downwards, product}
use Rattle.division.specs.Division.{generator, generator_powers, reduce, divide, remainder, Carries}
use Rattle.encoder.specs.Seals.{seal_outcome, reply_after, interrogation_after}
use Rattle.transponder.specs.Receptions.{reception_outcome, answered}
use Rattle.transponder.specs.declared.Reception.TheVariants.{Own}
use Rattle.sensor.specs.Verdicts.{clean_answer, sensor_outcome}
use Rattle.conformance.specs.Noticing.{ByTwos, Exactly, UpTo, TwoBursts, OddNeverClean, OddNeverOwn, TwoNeverClean, TwoNeverOwn, FewNeverClean, FewNeverOwn, TwoBurstsNeverClean, TwoBurstsNeverOwn}
use Rattle.conformance.proofs.Instances.{are_bytes_lem}
use Rattle.conformance.proofs.Noticing.{zero_carries, odd_never_clean, odd_never_own, two_never_clean, two_never_own, few_never_clean, few_never_own, two_bursts_never_clean, two_bursts_never_own}

-- ---- the messages: a short reply, which is an interrogation too, and a long one

short : List ℕ
short = 0x20 ∷ 0x00 ∷ 0x00 ∷ 0x00 ∷ 0x00 ∷ 0x00 ∷ 0x00 ∷ []

long : List ℕ
long = 0xA0 ∷ 0x00 ∷ 0x00 ∷ 0x00 ∷ 0x00 ∷ 0x00 ∷ 0x00 ∷ 0x00 ∷ 0x00 ∷ 0x00 ∷ 0x00 ∷ 0x00 ∷ 0x00 ∷ 0x00 ∷ []

sealed : (seal_outcome short 0x123456 ≡ done) × (seal_outcome long 0x123456 ≡ done)
unfolding short long seal_outcome is_message_length is_word first_bit_agrees first_bit
sealed = (refl, refl)

bytes : Bytes short × Bytes long
unfolding short long
bytes = (are_bytes_lem short refl, are_bytes_lem long refl)

-- ---- how many bits a change has

-- one bit more, below all others
one_more : (a k : ℕ) → ones (a * 2 ^ suc k + 1) ≡ ones a + 1
unfolding ones ones_in
one_more a k = ones_cat (suc k) a 1 (pow_mono {i = 1} {j = suc k} (suc-le-suc zero-le))

one_bit : ones 1 ≡ 1
unfolding ones ones_in
one_bit = refl

-- ---- what a changed short message never is, for a change d and each kind of it

NotClean : ℕ → Type 0
NotClean d = sensor_outcome (inverted (reply_after short 0x123456) d) short 0x123456 24 ≡ clean_answer → ⊥

NotOwn : ℕ → Type 0
NotOwn d = reception_outcome 0x123456 (inverted (interrogation_after short 0x123456) d) ≡ answered Own → ⊥

-- ---- one bit, the last

last_is_odd : ByTwos 1 short 1
unfolding ByTwos
last_is_odd = ap (λ (n : ℕ). n % 2) one_bit

odd_met : NotClean 1 × NotOwn 1
unfolding NotClean NotOwn OddNeverClean OddNeverOwn short
odd_met = (
  odd_never_clean short short 0x123456 24 1 bytes.0 bytes.0 sealed.0 (lit< tt) last_is_odd,
  odd_never_own short 0x123456 1 bytes.0 sealed.0 (lit< tt) last_is_odd,
)

-- ---- two bits, at the two ends of a short message

ends_are_two : Exactly 2 short (1 * 2 ^ 55 + 1)
unfolding Exactly
ends_are_two = one_more 1 54 ∙ ap (λ (n : ℕ). n + 1) one_bit

two_met : NotClean (1 * 2 ^ 55 + 1) × NotOwn (1 * 2 ^ 55 + 1)
unfolding NotClean NotOwn TwoNeverClean TwoNeverOwn short
two_met = (
  two_never_clean short short 0x123456 24 (1 * 2 ^ 55 + 1) bytes.0 bytes.0 sealed.0 (lit< tt) ends_are_two,
  two_never_own short 0x123456 (1 * 2 ^ 55 + 1) bytes.0 sealed.0 (lit< tt) ends_are_two,
)

-- ---- four bits, far from each other

four : ℕ
four = ((1 * 2 ^ 30 + 1) * 2 ^ 13 + 1) * 2 ^ 11 + 1

four-bits : ones four ≡ 4
unfolding four
four-bits = one_more _ 10 ∙ ap (λ (n : ℕ). n + 1) (one_more _ 12 ∙ ap (λ (n : ℕ). n + 1) (one_more 1 29 ∙ ap (λ (n : ℕ). n + 1) one_bit))

four_are_few : UpTo 5 7 short four
unfolding UpTo short
four_are_few = (omega (arith, four-bits), omega (arith, four-bits))

few_met : NotClean four × NotOwn four
unfolding NotClean NotOwn FewNeverClean FewNeverOwn short four
few_met = (
  few_never_clean short short 0x123456 24 four bytes.0 bytes.0 sealed.0 (lit< tt) four_are_few,
  few_never_own short 0x123456 four bytes.0 sealed.0 (lit< tt) four_are_few,
)

-- ---- two bursts of twelve bits

apart : ℕ
apart = bit_xor (0xA05 * 2 ^ 3) (0xFFF * 2 ^ 40)

apart_are_two : TwoBursts 8 12 short apart
unfolding TwoBursts short apart
apart_are_two = (lit< tt, 0xA05, 3, 0xFFF, 40, lit< tt, lit< tt, refl)

two_bursts_met : NotClean apart × NotOwn apart
unfolding NotClean NotOwn TwoBurstsNeverClean TwoBurstsNeverOwn short apart
two_bursts_met = (
  two_bursts_never_clean short short 0x123456 24 apart bytes.0 bytes.0 sealed.0 (lit< tt) apart_are_two,
  two_bursts_never_own short 0x123456 apart bytes.0 sealed.0 (lit< tt) apart_are_two,
)

-- ---- six bits of 112 that pass: the coefficients 0, 1, 34, 57, 81 and 107

six : ℕ
six = ((((1 * 2 ^ 26 + 1) * 2 ^ 24 + 1) * 2 ^ 23 + 1) * 2 ^ 33 + 1) * 2 ^ 1 + 1

six_bits : ones six ≡ 6
unfolding six
six_bits =
    one_more _ 0
    ∙ ap (λ (n : ℕ). n + 1) (one_more _ 32 ∙ ap (λ (n : ℕ). n + 1) (one_more _ 22 ∙ ap (λ (n : ℕ). n + 1) (one_more _ 23 ∙ ap (λ (n : ℕ). n + 1) (one_more 1 25 ∙ ap (λ (n : ℕ). n + 1) one_bit))))

six_pass : Carries (number (inverted (reply_after long 0x123456) six)) 0x123456
unfolding six long remainder divide downwards reduce generator generator_powers polynomial
six_pass = zero_carries long 0x123456 six bytes.1 sealed.1 (lit< tt) refl

-- ---- eight bits of 56 that pass: (x + 1)·G, the coefficients 0, 1, 3, 4, 10, 11, 12 and 25

eight : ℕ
eight = ((((((1 * 2 ^ 13 + 1) * 2 ^ 1 + 1) * 2 ^ 1 + 1) * 2 ^ 6 + 1) * 2 ^ 1 + 1) * 2 ^ 2 + 1) * 2 ^ 1 + 1

eight_is : eight ≡ product 3 generator
unfolding eight product downwards generator generator_powers polynomial
eight_is = refl

eight-bits : ones eight ≡ 8
unfolding eight
eight-bits =
    one_more _ 0
    ∙ ap (λ (n : ℕ). n + 1)
    (one_more _ 1
    ∙ ap (λ (n : ℕ). n + 1)
    (one_more _ 0
    ∙ ap (λ (n : ℕ). n + 1)
    (one_more _ 5 ∙ ap (λ (n : ℕ). n + 1) (one_more _ 0 ∙ ap (λ (n : ℕ). n + 1) (one_more _ 0 ∙ ap (λ (n : ℕ). n + 1) (one_more 1 12 ∙ ap (λ (n : ℕ). n + 1) one_bit))))))

eight_pass : Carries (number (inverted (reply_after short 0x123456) eight)) 0x123456
unfolding eight short remainder divide downwards reduce generator generator_powers polynomial
eight_pass = zero_carries short 0x123456 eight bytes.0 sealed.0 (lit< tt) refl

-- ---- two bursts of nine bits in 112 that pass, 111011 on the coefficients 0 to 5 with 101010011 on 80 to 88, against what ATC-48
-- and ATC-49 report; and two of thirteen bits in 56, (x + 1)·G again

nine_pass : Carries (number (inverted (reply_after long 0x123456) (bit_xor (0x3B * 2 ^ 0) (0x153 * 2 ^ 80)))) 0x123456
unfolding long remainder divide downwards reduce generator generator_powers polynomial
nine_pass = zero_carries long 0x123456 (bit_xor (0x3B * 2 ^ 0) (0x153 * 2 ^ 80)) bytes.1 sealed.1 (lit< tt) refl

thirteen_pass : Carries (number (inverted (reply_after short 0x123456) (bit_xor (0x1C1B * 2 ^ 0) (1 * 2 ^ 25)))) 0x123456
unfolding short remainder divide downwards reduce generator generator_powers polynomial
thirteen_pass = zero_carries short 0x123456 (bit_xor (0x1C1B * 2 ^ 0) (1 * 2 ^ 25)) bytes.0 sealed.0 (lit< tt) refl
