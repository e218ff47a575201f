-- What division alone notices (document 02, Point 8). A change is spoken of as one number d, the polynomial of the message bits
-- that it inverts, so `ones d` is how many they are.
use Rattle.std.specs.Prelude.{ℕ, ◌+◌, ◌*◌, ◌-◌, ◌%◌, ◌^◌, ◌<◌, ◌≤◌, ◌≡◌, ◌↔◌, cond, List, eqb, length}
use Rattle.std.specs.Int.Bits.{bit_xor}
use Rattle.std.specs.Int.Count.{ones}
use Rattle.outcome.specs.Outcomes.{done}
use Rattle.message.specs.Message.{number, Bytes}
use Rattle.message.specs.Bits.{bits, inverted}
use Rattle.division.specs.Polynomial.{product}
use Rattle.division.specs.Division.{generator, Carries}
use Rattle.encoder.specs.Seals.{seal_outcome, reply_after, interrogation_after}
use Rattle.transponder.specs.Receptions.{reception_outcome, answered}
use Rattle.transponder.specs.declared.Reception.TheVariants.{Own}
use Rattle.sensor.specs.Verdicts.{clean_answer, sensor_outcome}

-- ---- kinds of changes

-- The number for 112 bits, or the one for 56.
abbrev pub by_length : List ℕ → ℕ → ℕ → ℕ
by_length m long short = cond (eqb (length m) 14) long short

-- An even number of bits (r is 0), or an odd one (r is 1), wherever they are.
unfoldable pub ByTwos : ℕ → List ℕ → ℕ → Type 0
ByTwos r m d = ones d % 2 ≡ r

-- Exactly n bits.
unfoldable pub Exactly : ℕ → List ℕ → ℕ → Type 0
Exactly n m d = ones d ≡ n

-- One bit or more, up to so many of 112 bits, or of 56.
unfoldable pub UpTo : ℕ → ℕ → List ℕ → ℕ → Type 0
UpTo long short m d = (0 < ones d) × (ones d ≤ by_length m long short)

-- Two bursts that together change something, each of any pattern of so many bits at any place; they may overlap, or one be
-- empty.
unfoldable pub TwoBursts : ℕ → ℕ → List ℕ → ℕ → Type 0
TwoBursts long short m d =
    (0 < d) × (p : ℕ) × (i : ℕ) × (q : ℕ) × (j : ℕ)
    × (p < 2 ^ by_length m long short) × (q < 2 ^ by_length m long short) × (d ≡ bit_xor (p * 2 ^ i) (q * 2 ^ j))

-- ---- what such a change never passes for

-- A reply sealed for the expected word and changed so is never answered 'clean', whatever the marks and the limit.
abbrev pub NeverClean : (List ℕ → ℕ → Type 0) → Type 0
NeverClean Change =
    (m c : List ℕ) (w l d : ℕ) → Bytes m → Bytes c → seal_outcome m w ≡ done → d < 2 ^ bits m → Change m d
    → sensor_outcome (inverted (reply_after m w) d) c w l ≡ clean_answer → ⊥

-- An interrogation sealed for an aircraft and changed so is never accepted as own by it.
abbrev pub NeverOwn : (List ℕ → ℕ → Type 0) → Type 0
NeverOwn Change =
    (m : List ℕ) (a d : ℕ) → Bytes m → seal_outcome m a ≡ done → d < 2 ^ bits m → Change m d
    → reception_outcome a (inverted (interrogation_after m a) d) ≡ answered Own → ⊥

-- ---- the statements

-- 'a reply sealed for the expected word, with an odd number of changed bits, wherever they are, is never answered 'clean''
unfoldable pub OddNeverClean : Type 0
OddNeverClean = NeverClean (ByTwos 1)

unfoldable pub OddNeverOwn : Type 0
OddNeverOwn = NeverOwn (ByTwos 1)

-- 'Show the same for exactly two changed bits.'
unfoldable pub TwoNeverClean : Type 0
TwoNeverClean = NeverClean (Exactly 2)

unfoldable pub TwoNeverOwn : Type 0
TwoNeverOwn = NeverOwn (Exactly 2)

-- Further than asked: up to five bits of 112, and up to seven of 56. Six and eight are too many.
unfoldable pub FewNeverClean : Type 0
FewNeverClean = NeverClean (UpTo 5 7)

unfoldable pub FewNeverOwn : Type 0
FewNeverOwn = NeverOwn (UpTo 5 7)

-- Two bursts of at most 8 bits each anywhere in 112 bits, and of at most 12 anywhere in 56. 9 and 13 are too many.
unfoldable pub TwoBurstsNeverClean : Type 0
TwoBurstsNeverClean = NeverClean (TwoBursts 8 12)

unfoldable pub TwoBurstsNeverOwn : Type 0
TwoBurstsNeverOwn = NeverOwn (TwoBursts 8 12)

-- What is not noticed: the changes of a sealed reply that leave it carrying its word are exactly the multiples of the generator,
-- by the polynomials of degree below n − 24,
unfoldable pub PassExactly : Type 0
PassExactly =
    (m : List ℕ) (w d : ℕ) → Bytes m → seal_outcome m w ≡ done → d < 2 ^ bits m
    → Carries (number (inverted (reply_after m w) d)) w ↔ ((q : ℕ) × (q < 2 ^ (bits m - 24)) × (d ≡ product q generator))

-- and different polynomials have different multiples, all of them changes of n bits: so 2^(n − 24) of the 2^n changes pass, one
-- in 2^24.
unfoldable pub OneInTwoTo24 : Type 0
OneInTwoTo24 =
    (k : ℕ) → ((q : ℕ) → q < 2 ^ k → product q generator < 2 ^ (24 + k)) × ((q r : ℕ) → product q generator ≡ product r generator → q ≡ r)
