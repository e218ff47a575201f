-- The rounds of document 02, Point 10, as a game between a sender, an interferer and a receiver.
--
-- The sender's moves are what its calls leave in the buffer, the receiver's what its call makes of each of them; nothing else of the
-- two is spoken of here.
use Rattle.std.specs.Prelude.{ℕ, zero, suc, ◌*◌, ◌≤◌, ◌≡◌, Bool, true, false, List, [], ◌∷◌, length, take, drop}
use Rattle.outcome.specs.Outcomes.{Outcome}
use Rattle.outcome.specs.Outcomes.Outcome.{refusal, answer}
use Rattle.transponder.specs.Receptions.{Permitted}
use Rattle.uplink_elm_meaning.specs.Running.{Call, State, outcome, after}
use Rattle.uplink_elm_sending.specs.Sending.{segment_count, round_numbers, round_outcome, opening_after, round_after, exchange_after}

-- ---- what is given

-- The address sealed for, which is the receiver's own; the message; s; and the buffer that is lent where one of so many bytes is due.
pub record Setting : Type 0 where
  pub own : ℕ
  pub segments : List ℕ
  pub s : ℕ
  pub buffer : ℕ → List ℕ

-- The segments of the message.
abbrev pub count : Setting → ℕ
count g = segment_count (length g.segments)

-- 'a receiver that has the address sealed for as its own (neither 000000 nor FFFFFF)'; no row refuses a call.
pub record Allowed (g : Setting) : Type 0 where
  pub permitted : Permitted g.own
  pub whole_segments : length g.segments ≡ count g * 10
  pub two-or_more : 2 ≤ count g
  pub sixteen_at_most : count g ≤ 16
  pub one-or_more : 1 ≤ g.s
  pub round_of_sixteen : g.s ≤ 16
  pub lent : (n : ℕ) → length (g.buffer n) ≡ n

-- The first value of an answer: the sender's number of transmissions, the receiver's acknowledgement.
abbrev pub first_value : Outcome → ℕ
first_value (refusal n) = 0
first_value (answer n []) = 0
first_value (answer n (v ∷ vs)) = v

-- ---- the sender

-- So many transmissions of 14 bytes, one after the other in a buffer.
unfoldable pub in_buffer : ℕ → List ℕ → List (List ℕ)
in_buffer zero b = []
in_buffer (suc n) b = take 14 b ∷ in_buffer n (drop 14 b)

-- The transmissions of a round that is given an acknowledgement: as many as the call answers, from the buffer that it leaves.
abbrev pub room : Setting → ℕ → ℕ
room g acknowledgement = length (round_numbers acknowledgement (count g) g.s) * 14

unfoldable pub round_sent : Setting → ℕ → List (List ℕ)
round_sent g acknowledgement =
    in_buffer (first_value (round_outcome g.own (length g.segments) acknowledgement g.s (room g acknowledgement)))
    (round_after g.own g.segments acknowledgement g.s (g.buffer (room g acknowledgement)))

-- ---- the interferer

-- Which transmissions of a round it destroys, place by place: `true` where it does. A place past the end of the choice is left alone.
abbrev pub Choice : Type 0
Choice = List Bool

unfoldable pub destroyed : Choice → ℕ
destroyed [] = 0
destroyed (true ∷ c) = suc (destroyed c)
destroyed (false ∷ c) = destroyed c

-- What is left of a list.
unfoldable pub remaining : {A : Type 0} → Choice → List A → List A
remaining [] l = l
remaining (b ∷ c) [] = []
remaining (true ∷ c) (x ∷ l) = remaining c l
remaining (false ∷ c) (x ∷ l) = x ∷ remaining c l

-- 'An interferer may destroy up to k transmissions of a round', in each round of a list.
unfoldable pub UpTo : ℕ → List Choice → Type 0
UpTo k [] = Unit {0}
UpTo k (c ∷ cs) = (destroyed c ≤ k) × UpTo k cs

-- ---- the receiver

abbrev pub call : Setting → List ℕ → Call
call g m = record { own = g.own; message = m }

unfoldable pub heard : Setting → List (List ℕ) → State → State
heard g [] t = t
heard g (m ∷ ms) t = heard g ms (after (call g m) t)

-- ---- the game

-- The receiver, and the acknowledgement that the next round is given.
pub record Position : Type 0 where
  pub state : State
  pub acknowledged : ℕ

-- 'The opening, RC 0, counts as heard'; 'the first round is given zeros'.
unfoldable pub opened : Setting → State → Position
opened g t = record {
  state = after (call g (opening_after g.own g.segments (g.buffer 14))) t;
  acknowledged = 0;
}

-- 'After the round an exchange of its own, .. never destroyed, brings the acknowledgement that the next round is given'.
unfoldable pub exchanged : Setting → State → Position
exchanged g t =
    let asked : Call = call g (exchange_after g.own g.segments (g.buffer 14)) in
    record { state = after asked t; acknowledged = first_value (outcome asked t) }

-- A round and its exchange, and one for each choice of a list. A round with nothing to send counts as one.
unfoldable pub played : Setting → Position → Choice → Position
played g p c = exchanged g (heard g (remaining c (round_sent g p.acknowledged)) p.state)

unfoldable pub played_all : Setting → Position → List Choice → Position
played_all g p [] = p
played_all g p (c ∷ cs) = played_all g (played g p c) cs
