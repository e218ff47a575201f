-- Demand 1, what concerns refusals: 'Each public entry refuses bad input by a number from the table, with all buffers
-- unchanged', and document 01's table of refused calls: 'The lowest number that applies is returned, alone, and no lent byte
-- changes.'
--
-- The table is one relation for all calls: a call hands over parts, and each row is a condition on a part. A further call is
-- a line in each of `handed`, `outcome`, `lent` and `after`; a further row is a part.
use Rattle.std.specs.Prelude.{ℕ, ◌*◌, ◌%◌, ◌<◌, ◌≤◌, ◌≡◌, ◌↔◌, ◌⊎◌, List, [], ◌∷◌, Bool, true, false, ℤ, nat_abs, length, ◌<ℤ◌}
use Rattle.outcome.specs.Outcomes.{Outcome, Unrefused}
use Rattle.outcome.specs.Outcomes.Outcome.{refusal}
use Rattle.outcome.specs.Refusals.{wrong_length, wrong_confidence_length, word_too_large, limit_too_large, first_bit_contradicts, own_address_reserved, altitude_not_in_code, table_unsound, table_full, nothing_opened, number_above_last, not_sendable}
use Rattle.message.specs.Message.{first_bit}
use Rattle.division.specs.Answers.{register_answer, backward_answer, overlay_answer, parity_answer, remainder_answer, address_answer}
use Rattle.encoder.specs.Seals.{seal_outcome, reply_after, interrogation_after}
use Rattle.transponder.specs.Receptions.{reception_outcome, answered}
use Rattle.transponder.specs.declared.Reception.TheVariants.{Own}
use Rattle.sensor.specs.Verdicts.{sensor_outcome, sensor_after}
use Rattle.altitude_code.specs.Altitudes.{lowest, highest}
use Rattle.altitude.specs.Answers.{reading_outcome, writing_outcome, writing_after}
use Rattle.antennas.specs.Antennas.{antenna_of, said as said_antenna}
use Rattle.rollcall_table.specs.declared.Record.{Record}
use Rattle.rollcall_table.specs.declared.Sighting.{Sighting}
use Rattle.rollcall_table.specs.Table.{largest, record_at, Sound, holds}
use Rattle.rollcall_plans.specs.Calls.{clear_outcome, clear_count, clear_records, find_outcome, remove_outcome, remove_count, remove_records, remove_places, add_outcome, add_count, add_records, add_places}
use Rattle.remainders.specs.Recording.{remainders_outcome, remainders_after}
use Rattle.uplink_elm.specs.declared.Receiver.{Receiver}
use Rattle.uplink_elm.specs.Segments.{is_extended, reply_control, segment_number}
use Rattle.uplink_elm.specs.Receiving.{receiving_outcome, receiver_after, segments_after}
use Rattle.uplink_elm_sending.specs.Sending.{segment_count, last_numbers, round_numbers, last_outcome, round_outcome, opening_after, exchange_after, round_after}

-- ---- the table

-- What a call hands over. A seal, the transponder and the altitude's calls judge the first bit of their message; a confidence
-- buffer belongs to a message; a word may be an address or a register; an altitude, in feet, has its step; a roll-call table is
-- its records, its places and its count, of which clear judges the lengths alone; an address is to enter a table's records; an own
-- address, a message and the receiver that hears it are judged together, by row 10 and by row 11. Row 12 judges a message in segments, the
-- size of a round, and the buffer for the transmissions of some numbers. A recording of long replies comes with the number of words lent
-- for their remainders.
pub data Part : Type 0 where
  message : List ℕ → Part
  field : List ℕ → Part
  confidence : List ℕ → List ℕ → Part
  word : ℕ → Part
  limit : ℕ → Part
  judged : List ℕ → Part
  own_address : ℕ → Part
  altitude : ℤ → ℕ → Part
  lengths : List Record → List ℕ → Part
  table : List Record → List ℕ → ℕ → Part
  entering : List Record → ℕ → Part
  opening : ℕ → List ℕ → Receiver → Part
  numbered : ℕ → List ℕ → Receiver → Part
  segmented : List ℕ → Part
  round_size : ℕ → Part
  room : List ℕ → List ℕ → Part
  recording : List ℕ → ℕ → Part

-- The number of the row that speaks of a part,
unfoldable pub row : Part → ℕ
row (message m) = wrong_length
row (field f) = wrong_length
row (confidence m c) = wrong_confidence_length
row (word w) = word_too_large
row (limit l) = limit_too_large
row (judged m) = first_bit_contradicts
row (own_address a) = own_address_reserved
row (altitude z s) = altitude_not_in_code
row (lengths rs ps) = table_unsound
row (table rs ps n) = table_unsound
row (entering rs a) = table_full
row (opening own m r) = nothing_opened
row (numbered own m r) = number_above_last
row (segmented d) = not_sendable
row (round_size s) = not_sendable
row (room b ns) = not_sendable
row (recording s n) = wrong_length

-- and its condition: 'message not 7 or 14 bytes, or field not 4 or 11'; 'confidence length differs from message length';
-- 'word, address or register above FFFFFF'; 'density limit above 24'; 'first bit contradicts the length', where 'a first
-- bit 0 belongs to n = 56 and 1 to n = 112' (row 1 comes before it, so the length is one of the two); 'own address 000000
-- or FFFFFF'; 'the step is neither 25 nor 100, or the altitude is off it or out of that code's range' (document 02, Point 1);
-- 'the two lengths differ or lie outside 1 to' the largest, or the table is not sound; 'the address is new and every place is live'
-- (Point 4); 'RC 1 or 2 with nothing opened, or RC 0 with NC 0', and 'RC 1 or 2 with NC above the opened last', 'only where the
-- answer is 'own' and the format this one' (Point 7); 's outside 1 to 16, a message not of 2 to 16 whole segments, or a buffer not of 14 bytes
-- for each transmission of that call' (Point 10); row 1 of a recording: it has not 14 bytes for each word (Point 13).
unfoldable pub Wrong : Part → Type 0
Wrong (message m) = (length m ≡ 7 → ⊥) × (length m ≡ 14 → ⊥)
Wrong (field f) = (length f ≡ 4 → ⊥) × (length f ≡ 11 → ⊥)
Wrong (confidence m c) = length c ≡ length m → ⊥
Wrong (word w) = 0xFFFFFF < w
Wrong (limit l) = 24 < l
Wrong (judged m) = ((length m ≡ 14) × (first_bit m ≡ 1 → ⊥)) ⊎ ((length m ≡ 14 → ⊥) × (first_bit m ≡ 0 → ⊥))
Wrong (own_address a) = (a ≡ 0x000000) ⊎ (a ≡ 0xFFFFFF)
Wrong (altitude z s) =
    ((s ≡ 25 → ⊥) × (s ≡ 100 → ⊥)) ⊎ ((nat_abs z % s ≡ 0 → ⊥) ⊎ ((z <ℤ lowest s) ⊎ (highest s <ℤ z)))
Wrong (lengths rs ps) = (length rs ≡ length ps → ⊥) ⊎ ((length rs < 1) ⊎ (largest < length rs))
Wrong (table rs ps n) = Sound rs ps n → ⊥
Wrong (entering rs a) = ((i : ℕ) → holds (record_at rs i) a ≡ true → ⊥) × ((i : ℕ) → i < length rs → (record_at rs i).live ≡ true)
Wrong (opening own m r) =
    (reception_outcome own m ≡ answered Own) × (is_extended m ≡ true)
    × ((((reply_control m ≡ 1) ⊎ (reply_control m ≡ 2)) × (r.opened ≡ false)) ⊎ ((reply_control m ≡ 0) × (segment_number m ≡ 0)))
Wrong (numbered own m r) =
    (reception_outcome own m ≡ answered Own) × (is_extended m ≡ true)
    × (((reply_control m ≡ 1) ⊎ (reply_control m ≡ 2)) × (r.opened ≡ true) × (r.last < segment_number m))
Wrong (segmented d) = (n : ℕ) → 2 ≤ n → n ≤ 16 → length d ≡ n * 10 → ⊥
Wrong (round_size s) = (s < 1) ⊎ (16 < s)
Wrong (room b ns) = length b ≡ length ns * 14 → ⊥
Wrong (recording s n) = length s ≡ 14 * n → ⊥

-- ---- the calls

-- The public calls that can be refused, with what they are given. The three ways to R of a field answer by one definition.
pub data Call : Type 0 where
  register_step : ℕ → Bool → Call
  register_back : ℕ → Call
  uplink_overlay : ℕ → Call
  field_parity : List ℕ → Call
  message_remainder : List ℕ → Call
  address_read : List ℕ → Call
  seal_reply : List ℕ → ℕ → Call
  seal_interrogation : List ℕ → ℕ → Call
  receive : ℕ → List ℕ → Call
  correct : List ℕ → List ℕ → ℕ → ℕ → Call
  read_altitude : List ℕ → Call
  write_altitude : List ℕ → ℤ → ℕ → Call
  taken_antenna : ℕ → List ℕ → ℕ → List ℕ → ℕ → Call
  clear_table : List Record → List ℕ → ℕ → Call
  add_or_renew : List Record → List ℕ → ℕ → Sighting → Call
  remove_record : List Record → List ℕ → ℕ → ℕ → Call
  find_record : List Record → List ℕ → ℕ → ℕ → Call
  receive_segment : ℕ → List ℕ → Receiver → List ℕ → Call
  send_opening : ℕ → List ℕ → List ℕ → Call
  send_round : ℕ → List ℕ → ℕ → ℕ → List ℕ → Call
  send_exchange : ℕ → List ℕ → List ℕ → Call
  divide_replies : List ℕ → List ℕ → Call

-- What each hands over: the table's column 'Calls'. The companion of the two-antenna transponder hands over the own address
-- alone: 'A buffer that would be refused is simply not taken' (document 02, Point 5).
unfoldable pub handed : Call → List Part
handed (register_step r b) = word r ∷ []
handed (register_back r) = word r ∷ []
handed (uplink_overlay a) = word a ∷ []
handed (field_parity f) = field f ∷ []
handed (message_remainder m) = message m ∷ []
handed (address_read m) = message m ∷ []
handed (seal_reply m w) = message m ∷ word w ∷ judged m ∷ []
handed (seal_interrogation m a) = message m ∷ word a ∷ judged m ∷ []
handed (receive own m) = message m ∷ word own ∷ judged m ∷ own_address own ∷ []
handed (correct m c w l) = message m ∷ confidence m c ∷ word w ∷ limit l ∷ []
handed (read_altitude m) = message m ∷ judged m ∷ []
handed (write_altitude m z s) = message m ∷ judged m ∷ altitude z s ∷ []
handed (taken_antenna own u p l q) = word own ∷ own_address own ∷ []
handed (clear_table rs ps n) = lengths rs ps ∷ []
handed (add_or_renew rs ps n s) = word s.address ∷ table rs ps n ∷ entering rs s.address ∷ []
handed (remove_record rs ps n a) = word a ∷ table rs ps n ∷ []
handed (find_record rs ps n a) = word a ∷ table rs ps n ∷ []
handed (receive_segment own m r s) = message m ∷ word own ∷ judged m ∷ own_address own ∷ opening own m r ∷ numbered own m r ∷ []
handed (send_opening a d b) = word a ∷ segmented d ∷ room b (last_numbers (segment_count (length d))) ∷ []
handed (send_round a d k s b) = word a ∷ round_size s ∷ segmented d ∷ room b (round_numbers k (segment_count (length d)) s) ∷ []
handed (send_exchange a d b) = word a ∷ segmented d ∷ room b (last_numbers (segment_count (length d))) ∷ []
handed (divide_replies s w) = recording s (length w) ∷ []

-- What each answers: the definition that its contract names.
unfoldable pub outcome : Call → Outcome
outcome (register_step r b) = register_answer r b
outcome (register_back r) = backward_answer r
outcome (uplink_overlay a) = overlay_answer a
outcome (field_parity f) = parity_answer f
outcome (message_remainder m) = remainder_answer m
outcome (address_read m) = address_answer m
outcome (seal_reply m w) = seal_outcome m w
outcome (seal_interrogation m a) = seal_outcome m a
outcome (receive own m) = reception_outcome own m
outcome (correct m c w l) = sensor_outcome m c w l
outcome (read_altitude m) = reading_outcome m
outcome (write_altitude m z s) = writing_outcome m z s
outcome (taken_antenna own u p l q) = said_antenna (antenna_of own u p l q)
outcome (clear_table rs ps n) = clear_outcome rs ps
outcome (add_or_renew rs ps n s) = add_outcome rs ps n s
outcome (remove_record rs ps n a) = remove_outcome rs ps n a
outcome (find_record rs ps n a) = find_outcome rs ps n a
outcome (receive_segment own m r s) = receiving_outcome own m r
outcome (send_opening a d b) = last_outcome a (length d) (length b)
outcome (send_round a d k s b) = round_outcome a (length d) k s (length b)
outcome (send_exchange a d b) = last_outcome a (length d) (length b)
outcome (divide_replies s w) = remainders_outcome s (length w)

-- What a call may change: a buffer of bytes; or a table's records and places, and its count, which is passed in and returned; or a
-- receiver, which is passed in and returned, and the bytes of its places; or a buffer of words.
pub data Lent : Type 0 where
  bytes : List ℕ → Lent
  rollcall : List Record → List ℕ → ℕ → Lent
  upload : Receiver → List ℕ → Lent
  words : List ℕ → Lent

-- What each is lent to change, and what it is after the call; no bytes where nothing is lent so.
unfoldable pub lent : Call → Lent
lent (register_step r b) = bytes []
lent (register_back r) = bytes []
lent (uplink_overlay a) = bytes []
lent (field_parity f) = bytes []
lent (message_remainder m) = bytes []
lent (address_read m) = bytes []
lent (seal_reply m w) = bytes m
lent (seal_interrogation m a) = bytes m
lent (receive own m) = bytes []
lent (correct m c w l) = bytes m
lent (read_altitude m) = bytes []
lent (write_altitude m z s) = bytes m
lent (taken_antenna own u p l q) = bytes []
lent (clear_table rs ps n) = rollcall rs ps n
lent (add_or_renew rs ps n s) = rollcall rs ps n
lent (remove_record rs ps n a) = rollcall rs ps n
lent (find_record rs ps n a) = bytes []
lent (receive_segment own m r s) = upload r s
lent (send_opening a d b) = bytes b
lent (send_round a d k s b) = bytes b
lent (send_exchange a d b) = bytes b
lent (divide_replies s w) = words w

unfoldable pub after : Call → Lent
after (register_step r b) = bytes []
after (register_back r) = bytes []
after (uplink_overlay a) = bytes []
after (field_parity f) = bytes []
after (message_remainder m) = bytes []
after (address_read m) = bytes []
after (seal_reply m w) = bytes (reply_after m w)
after (seal_interrogation m a) = bytes (interrogation_after m a)
after (receive own m) = bytes []
after (correct m c w l) = bytes (sensor_after m c w l)
after (read_altitude m) = bytes []
after (write_altitude m z s) = bytes (writing_after m z s)
after (taken_antenna own u p l q) = bytes []
after (clear_table rs ps n) = rollcall (clear_records rs ps) ps (clear_count rs ps n)
after (add_or_renew rs ps n s) = rollcall (add_records rs ps n s) (add_places rs ps n s) (add_count rs ps n s)
after (remove_record rs ps n a) = rollcall (remove_records rs ps n a) (remove_places rs ps n a) (remove_count rs ps n a)
after (find_record rs ps n a) = bytes []
after (receive_segment own m r s) = upload (receiver_after own m r) (segments_after own m r s)
after (send_opening a d b) = bytes (opening_after a d b)
after (send_round a d k s b) = bytes (round_after a d k s b)
after (send_exchange a d b) = bytes (exchange_after a d b)
after (divide_replies s w) = words (remainders_after s w)

-- ---- the statements

-- A part of which row n speaks, and to which it applies.
unfoldable pub Breaks : ℕ → Part → Type 0
Breaks n p = (row p ≡ n) × Wrong p

-- One of some parts is such.
unfoldable pub SomeBreaks : ℕ → List Part → Type 0
SomeBreaks n [] = ⊥
SomeBreaks n (p ∷ ps) = Breaks n p ⊎ SomeBreaks n ps

-- Row n of the table applies to the call.
unfoldable pub Applies : ℕ → Call → Type 0
Applies n c = SomeBreaks n (handed c)

-- 'The lowest number that applies is returned, alone': a call is refused with n exactly when row n applies to it and no
-- lower row does.
unfoldable pub RefusedByLowest : Type 0
RefusedByLowest =
    (c : Call) (n : ℕ) → (outcome c ≡ refusal n) ↔ (Applies n c × ((k : ℕ) → k < n → Applies k c → ⊥))

-- It is refused by no number exactly when no row applies.
unfoldable pub UnrefusedWhereNone : Type 0
UnrefusedWhereNone = (c : Call) → Unrefused (outcome c) ↔ ((n : ℕ) → Applies n c → ⊥)

-- 'and no lent byte changes'
unfoldable pub RefusedLeaves : Type 0
RefusedLeaves = (c : Call) (n : ℕ) → outcome c ≡ refusal n → after c ≡ lent c
