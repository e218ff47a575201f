-- Altitude codes, read and written (document 02, Point 1). The statements speak of the relations of Point 1 (the crate
-- altitude_meaning's specs/Meaning.antt), and of the definitions that the contracts of the reader and the writer name.
use Rattle.std.specs.Prelude.{ℕ, ◌≤◌, ◌<◌, ◌^◌, ◌≡◌, ◌⊎◌, cond, List, eqb, ℤ, pos, ◌+ℤ◌, length, Option, Some, None}
use Rattle.std.specs.Int.Bits.{bit_xor}
use Rattle.std.specs.Int.Count.{ones}
use Rattle.outcome.specs.Outcomes.{Unrefused}
use Rattle.message.specs.Message.{Bytes, format_number, parity_field}
use Rattle.message.specs.Bits.{bit_at}
use Rattle.altitude_code.specs.Codes.{M, Q}
use Rattle.altitude_code.specs.Altitudes.{decoded_of, encoded_of}
use Rattle.altitude_code.specs.declared.Decoded.{Decoded}
use Rattle.altitude_code.specs.declared.Decoded.TheVariants as D
use Rattle.altitude_meaning.specs.Meaning.{Means, Encodes, how_many, is_illegal, in_steps_of_25, in_steps_of_100}
use Rattle.altitude.specs.Fields.{altitude_code}
use Rattle.altitude.specs.Answers.{said_field, said_written, reading_outcome, writing_outcome, writing_after}
use Rattle.altitude.specs.declared.Writing.TheVariants.{Written}

-- ---- the reader

-- 'the 13-bit altitude code at bits 20 to 32 of reply formats 4 and 20'
unfoldable pub HasField : List ℕ → Type 0
HasField m = (format_number m ≡ 4) ⊎ (format_number m ≡ 20)

-- The condition under which an answer of the reader is due; 'a reply in another format is answered 'no such field''.
unfoldable pub Told : List ℕ → Option Decoded → Type 0
Told m (Some d) = HasField m × Means (altitude_code m) d
Told m None = HasField m → ⊥

-- The five answers exclude each other and cover every message that no row refuses: one of the conditions holds, and its answer
-- is given,
unfoldable pub OursIsTold : Type 0
OursIsTold = (m : List ℕ) → Unrefused (reading_outcome m) → (r : Option Decoded) × (reading_outcome m ≡ said_field r) × Told m r

-- and of no other answer does the condition hold.
unfoldable pub OnlyOneIsTold : Type 0
OnlyOneIsTold = (m : List ℕ) → Unrefused (reading_outcome m) → (r : Option Decoded) → Told m r → reading_outcome m ≡ said_field r

-- ---- the writer

-- 'Reading a written altitude returns it', whatever code stood there before.
unfoldable pub WrittenIsRead : Type 0
WrittenIsRead =
    (m : List ℕ) (z : ℤ) (s : ℕ) → Bytes m → writing_outcome m z s ≡ said_written Written
    → reading_outcome (writing_after m z s) ≡ said_field (Some (D.Feet z))

-- 'The writer is told which step to use, 25 or 100': what it wrote is the code of that step.
unfoldable pub WrittenInStep : Type 0
WrittenInStep =
    (m : List ℕ) (z : ℤ) (s : ℕ) → Bytes m → writing_outcome m z s ≡ said_written Written → Encodes z s (altitude_code (writing_after m z s))

-- Bits 20 to 32 are all that is written: every other bit of the message is as before, whatever the answer,
unfoldable pub OthersStay : Type 0
OthersStay =
    (m : List ℕ) (z : ℤ) (s i : ℕ) → Bytes m → (i ≤ 19) ⊎ (33 ≤ i)
    → (length (writing_after m z s) ≡ length m) × (bit_at (writing_after m z s) i ≡ bit_at m i)

-- 'The writer leaves the parity field',
unfoldable pub ParityStays : Type 0
ParityStays = (m : List ℕ) (z : ℤ) (s : ℕ) → Bytes m → parity_field (writing_after m z s) ≡ parity_field m

-- 'A reply in another format is answered 'no such field' by reader and writer, and nothing is written.'
unfoldable pub NothingElsewhere : Type 0
NothingElsewhere = (m : List ℕ) (z : ℤ) (s : ℕ) → (HasField m → ⊥) → writing_after m z s ≡ m

-- What the reader read, written with the step that the code has, leaves the message as it was.
abbrev pub step_of : ℕ → ℕ
step_of k = cond (eqb (Q k) 1) 25 100

unfoldable pub ReadIsWritten : Type 0
ReadIsWritten =
    (m : List ℕ) (z : ℤ) → Bytes m → reading_outcome m ≡ said_field (Some (D.Feet z))
    → (writing_outcome m z (step_of (altitude_code m)) ≡ said_written Written) × (writing_after m z (step_of (altitude_code m)) ≡ m)

-- ---- the two codes

-- Both codes are one-to-one: one altitude to a pattern,
unfoldable pub OneAltitude : Type 0
OneAltitude = (z y : ℤ) (s k : ℕ) → encoded_of z s ≡ Some k → encoded_of y s ≡ Some k → z ≡ y

-- and one pattern of a step to an altitude, the one that the writer writes.
unfoldable pub OnePattern : Type 0
OnePattern = (z : ℤ) (k : ℕ) → k < 2 ^ 13 → decoded_of k ≡ D.Feet z → encoded_of z (step_of k) ≡ Some k

-- '2048 and 2048', '1280 values'; the other patterns with M = 0 and Q = 0, all zeros apart, are illegal: 767.
unfoldable pub CodesCounted : Type 0
CodesCounted = (how_many 13 in_steps_of_25 ≡ 2048) × (how_many 13 in_steps_of_100 ≡ 1280) × (how_many 13 (λ k. is_illegal (decoded_of k)) ≡ 767)

-- 'an illegal pattern is answered as illegal'
unfoldable pub ElseIllegal : Type 0
ElseIllegal =
    (k : ℕ) → k < 2 ^ 13 → M k ≡ 0 → Q k ≡ 0 → (k ≡ 0 → ⊥) → ((z : ℤ) → encoded_of z 100 ≡ Some k → ⊥) → decoded_of k ≡ D.Illegal

-- Neighbours 100 feet apart differ in exactly one bit, which is what a Gray code is for.
unfoldable pub NeighboursDiffer : Type 0
NeighboursDiffer =
    (z : ℤ) (j k : ℕ) → encoded_of z 100 ≡ Some j → encoded_of (z +ℤ pos 100) 100 ≡ Some k → ones (bit_xor j k) ≡ 1
