-- Lists of calls from a fresh receiver, and what the machine's answers say (document 02, Point 7).
use Rattle.std.specs.Prelude.{ℕ, ◌+◌, ◌*◌, ◌-◌, ◌/◌, ◌%◌, ◌^◌, ◌<◌, ◌≤◌, ◌≡◌, ◌↔◌, true, cond, List, [], ◌∷◌, length}
use Rattle.std.proofs.Math.Option.{Option}
use Rattle.std.proofs.Math.Option.Option.{none, some}
use Rattle.outcome.specs.Outcomes.{Outcome}
use Rattle.message.specs.Message.{number, Bytes}
use Rattle.message.specs.Bits.{bit_at}
use Rattle.uplink_elm.specs.declared.Receiver.{Receiver}
use Rattle.uplink_elm.specs.Segments.{is_extended, reply_control, segment_number, segment, is_held, segment_at}
use Rattle.uplink_elm.specs.Receiving.{fresh_receiver, receiving_outcome, receiver_after, segments_after}
use Rattle.uplink_elm_meaning.specs.Machine.{Machine, start, holds, acknowledgement, whole, machine_after, machine_outcome}

-- ---- lists of calls

pub record Call : Type 0 where
  pub own : ℕ
  pub message : List ℕ

-- What a caller keeps: the receiver, and the bytes of its places.
pub record State : Type 0 where
  pub receiver : Receiver
  pub places : List ℕ

-- A fresh receiver, with any bytes in its places.
abbrev pub fresh : List ℕ → State
fresh places = record { receiver = fresh_receiver; places = places }

abbrev pub outcome : Call → State → Outcome
outcome c t = receiving_outcome c.own c.message t.receiver

abbrev pub after : Call → State → State
after c t = record {
  receiver = receiver_after c.own c.message t.receiver;
  places = segments_after c.own c.message t.receiver t.places;
}

-- After some calls, one after the other, and their answers; the same of the machine.
unfoldable pub after_all : List Call → State → State
after_all [] t = t
after_all (c ∷ cs) t = after_all cs (after c t)

unfoldable pub answers : List Call → State → List Outcome
answers [] t = []
answers (c ∷ cs) t = outcome c t ∷ answers cs (after c t)

unfoldable pub machine_after_all : List Call → Machine → Machine
machine_after_all [] s = s
machine_after_all (c ∷ cs) s = machine_after_all cs (machine_after c.own c.message s)

unfoldable pub machine_answers : List Call → Machine → List Outcome
machine_answers [] s = []
machine_answers (c ∷ cs) s = machine_outcome c.own c.message s ∷ machine_answers cs (machine_after c.own c.message s)

-- The bytes stored for a number that is held.
abbrev pub kept : State → ℕ → Option (List ℕ)
kept t n = cond (is_held t.receiver.held n) (some (segment_at t.places n)) none

-- A receiver and its places are the machine's: 'bytes are compared for the numbers held'.
abbrev pub Same : State → Machine → Type 0
Same t s = (t.receiver.opened ≡ s.opened) × (t.receiver.last ≡ s.last) × ((n : ℕ) → kept t n ≡ s.segments n)

-- ---- the statements

-- 'For every list of these calls from a fresh receiver, refused ones among them, acknowledgement and stored bytes are the machine's'.
-- The acknowledgement and whether the message is whole are parts of every answer.
unfoldable pub AsTheMachine : Type 0
AsTheMachine =
    (places : List ℕ) (cs : List Call) → length places ≡ 160
    → (answers cs (fresh places) ≡ machine_answers cs start) × Same (after_all cs (fresh places)) (machine_after_all cs start)

-- The message is whole exactly when one is opened and all numbers from 0 to the last are held.
unfoldable pub WholeWhenAllHeld : Type 0
WholeWhenAllHeld = (s : Machine) → (whole s ≡ true) ↔ ((s.opened ≡ true) × ((n : ℕ) → n ≤ s.last → holds s n ≡ true))

-- Bit j of the acknowledgement, from the top, is set exactly when segment j is held; it has 16 bits.
unfoldable pub AcknowledgedWhenHeld : Type 0
AcknowledgedWhenHeld =
    (s : Machine) → (acknowledgement s < 2 ^ 16)
    × ((j : ℕ) → j < 16 → (acknowledgement s / 2 ^ (15 - j) % 2 ≡ 1) ↔ (holds s j ≡ true))

-- After any calls no number above the last is held, and none where nothing is opened.
unfoldable pub NoneAboveLast : Type 0
NoneAboveLast =
    (cs : List Call) (n : ℕ) → holds (machine_after_all cs start) n ≡ true
    → ((machine_after_all cs start).opened ≡ true) × (n ≤ (machine_after_all cs start).last)

-- 'It starts unopened and empty, is then not whole, and its acknowledgement is all zeros.'
unfoldable pub StartsEmpty : Type 0
StartsEmpty = ((whole start ≡ true) → ⊥) × (acknowledgement start ≡ 0)

-- 'every message whose first two bits are 11 ..; bits 3 and 4 are RC, bits 5 to 8 are NC, bits 9 to 88 are the ten bytes of a
-- segment', of a message of 112 bits.
unfoldable pub PartsAreBits : Type 0
PartsAreBits =
    (m : List ℕ) → Bytes m → length m ≡ 14
    → ((is_extended m ≡ true) ↔ ((bit_at m 1 ≡ 1) × (bit_at m 2 ≡ 1)))
    × (reply_control m ≡ 2 * bit_at m 3 + bit_at m 4)
    × (segment_number m ≡ 8 * bit_at m 5 + 4 * bit_at m 6 + 2 * bit_at m 7 + bit_at m 8)
    × (length (segment m) ≡ 10)
    × (number (segment m) ≡ number m / 2 ^ 24 % 2 ^ 80)
