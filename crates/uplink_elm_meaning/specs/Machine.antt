-- The plain machine of document 02, Point 7: 'The plain machine holds whether a message is opened, its last number, and a set of
-- numbered segments of ten bytes; it does the above for each RC'.
--
-- It knows neither the bits in which a receiver keeps its numbers nor the places of the bytes: its segments are a function from a
-- number to the ten bytes held, or nothing.
use Rattle.std.specs.Prelude.{ℕ, zero, suc, ◌+◌, ◌*◌, Bool, true, false, cond, ◌&&◌, List, eqb, leb}
use Rattle.std.proofs.Math.Option.{Option}
use Rattle.std.proofs.Math.Option.Option.{none, some}
use Rattle.outcome.specs.Outcomes.{Outcome}
use Rattle.outcome.specs.Outcomes.Outcome.{refusal}
use Rattle.transponder.specs.Receptions.{reception_outcome}
use Rattle.uplink_elm.specs.declared.Progress.{Progress}
use Rattle.uplink_elm.specs.Segments.{is_extended, reply_control, segment_number, segment, all_below}
use Rattle.uplink_elm.specs.Receiving.{one, is_own, with_progress}

pub record Machine : Type 0 where
  pub opened : Bool
  pub last : ℕ
  pub segments : ℕ → Option (List ℕ)

-- 'It starts unopened and empty'
abbrev pub start : Machine
start = record { opened = false; last = 0; segments = λ n. none }

-- ---- what it does for each RC

-- The machine after a segment, or the number of the refusal.
pub data Step : Type 0 where
  refuses : ℕ → Step
  becomes : Machine → Step

-- Segment n stored with these bytes: 'a number already held takes the newer bytes'.
abbrev pub storing : ℕ → List ℕ → (ℕ → Option (List ℕ)) → ℕ → Option (List ℕ)
storing n b held k = cond (eqb k n) (some b) (held k)

-- 'RC 0 opens a message whose last segment number is NC (1 to 15), stores that segment, and discards any earlier one.' 'Checks: 10
-- .. RC 0 with NC 0'.
abbrev pub opens : ℕ → List ℕ → Step
opens n b = cond (eqb n 0) (refuses 10) (becomes (record { opened = true; last = n; segments = storing n b (λ k. none) }))

-- 'RC 1 stores segment NC.' 'Checks: 10, RC 1 or 2 with nothing opened ..; 11, RC 1 or 2 with NC above the opened last; in that
-- order'.
abbrev pub stores : ℕ → List ℕ → Machine → Step
stores n b s =
    cond s.opened
    (cond (leb n s.last) (becomes (record { opened = true; last = s.last; segments = storing n b s.segments })) (refuses 11))
    (refuses 10)

-- By RC, NC and the segment. 'RC 2 stores segment NC and asks for the acknowledgement', which every call gives. 'RC 3 changes
-- nothing.'
unfoldable pub does : ℕ → ℕ → List ℕ → Machine → Step
does zero n b s = opens n b
does (suc zero) n b s = stores n b s
does (suc (suc zero)) n b s = stores n b s
does (suc (suc (suc k))) n b s = becomes s

-- ---- what it shows

abbrev pub is_some : Option (List ℕ) → Bool
is_some none = false
is_some (some b) = true

abbrev pub holds : Machine → ℕ → Bool
holds s n = is_some (s.segments n)

-- Bits for the numbers below n, that of 0 first.
unfoldable pub bits_below : (ℕ → Bool) → ℕ → ℕ
bits_below f zero = 0
bits_below f (suc n) = bits_below f n * 2 + one (f n)

-- 'the acknowledgement: 16 bits, the first, the top one, for segment 0, set exactly for the segments held'
unfoldable pub acknowledgement : Machine → ℕ
acknowledgement s = bits_below (holds s) 16

-- 'The message is whole when all numbers up to the last are held.' It 'starts unopened ..., is then not whole'.
unfoldable pub whole : Machine → Bool
whole s = s.opened && all_below (holds s) (suc s.last)

abbrev pub progress : Machine → Progress
progress s = record { acknowledgement = acknowledgement s; whole = whole s }

-- ---- a call

-- 'The call takes the own address and a message and runs the transponder first, with its refusals; an answer other than 'own', or
-- another format, changes nothing.'
unfoldable pub step : ℕ → List ℕ → Machine → Step
step own m s =
    cond (is_own (reception_outcome own m) && is_extended m) (does (reply_control m) (segment_number m) (segment m) s) (becomes s)

-- A refused call changes nothing.
abbrev pub resulting : Step → Machine → Machine
resulting (refuses n) s = s
resulting (becomes t) s = t

-- 'Unless refused it gives that answer, the acknowledgement and whether the message is whole.'
abbrev pub showing : Step → Outcome → Outcome
showing (refuses n) o = refusal n
showing (becomes t) o = with_progress o (progress t)

unfoldable pub machine_after : ℕ → List ℕ → Machine → Machine
machine_after own m s = resulting (step own m s) s

unfoldable pub machine_outcome : ℕ → List ℕ → Machine → Outcome
machine_outcome own m s = showing (step own m s) (reception_outcome own m)
