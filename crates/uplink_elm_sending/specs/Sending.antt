-- The sending end of extended length messages (document 02, Point 10): what each call answers, and what it leaves in the buffer.
--
-- A message is ten bytes for each of its segments, which are numbered from 0.
use Rattle.std.specs.Prelude.{ℕ, zero, suc, ◌+◌, ◌*◌, ◌-◌, ◌/◌, ◌%◌, Bool, cond, ◌&&◌, List, [], ◌∷◌, ◌++◌, eqb, leb, length, Result}
use Rattle.outcome.specs.Outcomes.{Outcome, value, unless, said_by, left}
use Rattle.outcome.specs.declared.Refusal.{Refusal}
use Rattle.outcome.specs.Refusals.{word_too_large, not_sendable}
use Rattle.message.specs.Message.{is_word}
use Rattle.encoder.specs.Seals.{interrogation_seal}
use Rattle.uplink_elm.specs.Segments.{is_held, segment_at}

-- ---- a transmission

-- An interrogation of uplink format 24 before its parity field is written: bits 1 and 2 are 11, bits 3 and 4 RC, bits 5 to 8 NC, bits
-- 9 to 88 the segment.
unfoldable pub unsealed : ℕ → ℕ → List ℕ → List ℕ
unsealed control number segment = (192 + 16 * control + number) ∷ (segment ++ 0 ∷ 0 ∷ 0 ∷ [])

-- 'it writes sealed interrogations, 14 bytes each'
unfoldable pub transmission : ℕ → ℕ → ℕ → List ℕ → List ℕ
transmission address control number segment = interrogation_seal (unsealed control number segment) address

-- Those of some numbers, one after the other, with the segments of a message.
unfoldable pub transmissions : ℕ → ℕ → List ℕ → List ℕ → List ℕ
transmissions address control segments [] = []
transmissions address control segments (n ∷ ns) =
    transmission address control n (segment_at segments n) ++ transmissions address control segments ns

-- ---- the numbers that a call transmits

-- The segments of a message of so many bytes.
unfoldable pub segment_count : ℕ → ℕ
segment_count bytes = bytes / 10

-- The opening, and the exchange 'with the last segment again'.
unfoldable pub last_numbers : ℕ → List ℕ
last_numbers count = (count - 1) ∷ []

-- Of the k numbers from `from` on, those that fail a test, 'lowest first'.
unfoldable pub failing : (ℕ → Bool) → ℕ → ℕ → List ℕ
failing f from zero = []
failing f from (suc k) = cond (f from) (failing f (suc from) k) (from ∷ failing f (suc from) k)

-- 'the segments not yet acknowledged'. Of the acknowledgement bits 'those past the last segment are ignored'.
unfoldable pub unacknowledged : ℕ → ℕ → List ℕ
unacknowledged acknowledgement count = failing (is_held acknowledgement) 0 count

-- s numbers of `rest` and then of `whole`, 'starting over when they run out'; 'once all are, none'.
unfoldable pub taken : List ℕ → List ℕ → ℕ → List ℕ
taken whole rest zero = []
taken whole (n ∷ rest) (suc s) = n ∷ taken whole rest s
taken [] [] (suc s) = []
taken (n ∷ whole) [] (suc s) = n ∷ taken (n ∷ whole) whole s

-- 'A round is s transmissions'.
unfoldable pub round_numbers : ℕ → ℕ → ℕ → List ℕ
round_numbers acknowledgement count s = taken (unacknowledged acknowledgement count) (unacknowledged acknowledgement count) s

-- ---- what a call answers

-- The number of transmissions, or the refusal.
abbrev pub said : Result ℕ Refusal → Outcome
said = said_by (λ n. value n)

-- 'Checks: 12, s outside 1 to 16, a message not of 2 to 16 whole segments, or a buffer not of 14 bytes for each transmission of that
-- call'.
unfoldable pub is_round_size : ℕ → Bool
is_round_size s = leb 1 s && leb s 16

unfoldable pub is_segmented : ℕ → Bool
is_segmented bytes = eqb (bytes % 10) 0 && (leb 2 (bytes / 10) && leb (bytes / 10) 16)

unfoldable pub is_room : ℕ → List ℕ → Bool
is_room bytes numbers = eqb bytes (length numbers * 14)

-- Of the opening and the exchange, by the address and the bytes of message and buffer.
unfoldable pub last_outcome : ℕ → ℕ → ℕ → Outcome
last_outcome address bytes room =
    unless (is_word address) word_too_large
    (unless (is_segmented bytes) not_sendable
    (unless (is_room room (last_numbers (segment_count bytes))) not_sendable
    (value (length (last_numbers (segment_count bytes))))))

-- Of the round, with the acknowledgement and s.
unfoldable pub round_outcome : ℕ → ℕ → ℕ → ℕ → ℕ → Outcome
round_outcome address bytes acknowledgement s room =
    unless (is_word address) word_too_large
    (unless (is_round_size s) not_sendable
    (unless (is_segmented bytes) not_sendable
    (unless (is_room room (round_numbers acknowledgement (segment_count bytes) s)) not_sendable
    (value (length (round_numbers acknowledgement (segment_count bytes) s))))))

-- ---- what it leaves in the buffer

unfoldable pub last_after : ℕ → ℕ → List ℕ → List ℕ → List ℕ
last_after control address segments buffer =
    left (last_outcome address (length segments) (length buffer)) buffer
    (transmissions address control segments (last_numbers (segment_count (length segments))))

-- 'The opening, RC 0'; 'an exchange of its own, RC 2'; a round 'of RC 1'.
unfoldable pub opening_after : ℕ → List ℕ → List ℕ → List ℕ
opening_after address segments buffer = last_after 0 address segments buffer

unfoldable pub exchange_after : ℕ → List ℕ → List ℕ → List ℕ
exchange_after address segments buffer = last_after 2 address segments buffer

unfoldable pub round_after : ℕ → List ℕ → ℕ → ℕ → List ℕ → List ℕ
round_after address segments acknowledgement s buffer =
    left (round_outcome address (length segments) acknowledgement s (length buffer)) buffer
    (transmissions address 1 segments (round_numbers acknowledgement (segment_count (length segments)) s))
