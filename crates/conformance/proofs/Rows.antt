-- The rows of the table of refusals, by their tests: each part passes its test exactly when the row does not apply to it.
use mathlib.Core.Path.{◌≡◌, refl, sym, ap, ◌∙◌, subst}
use mathlib.Core.Logic.{◌⊎◌, inl, inr, ◌↔◌}
use mathlib.Core.List.{List}
use mathlib.Core.Bool.{Bool, true, false, not, ◌&&◌, ◌||◌}
use Prim.Native.Nat.{ℕ, ◌*◌, ◌%◌, ◌<◌, ◌≤◌}
use lib.Dec.{T, eqb, leb, lt→ltb}
use lib.IntN.{ℤ, pos, negsuc, nat_abs}
use lib.ListN.{length}
use lib.Signed.{le_z, ◌≤ℤ◌, ◌<ℤ◌, clash_ℤ}
use borrow.Author.Tests.{eqb-true, eqb-false, eq-eqb, ne_eqb, leb-false, lt-leb, not-false}
use Rattle.outcome.proofs.Laws.{never, or_cases, or_second}
use Rattle.message.specs.Message.{bit_of, first_bit, is_message_length, is_field_length, is_word, first_bit_agrees}
use Rattle.transponder.specs.Receptions.{everyone, is_reserved}
use Rattle.altitude_code.specs.Altitudes.{lowest, highest, in_code}
use Rattle.altitude_code.proofs.Laws.{was_in_code}
use Rattle.rollcall_table.specs.Table.{right_lengths, is_sound, is_in, has_room}
use Rattle.rollcall_meaning.proofs.Laws.{lengths_wrong, wrong_lengths, unsound, not_sound, no_place, place_none}
use Rattle.remainders.specs.Recording.{are_as_many}
use Rattle.uplink_elm.specs.Segments.{reply_control, segment_number}
use Rattle.uplink_elm.proofs.Laws.{opens_none, is_above, unopened, above, opens-none, is_above_lem, of_own_lem}
use Rattle.uplink_elm_sending.specs.Sending.{is_round_size, is_segmented, is_room}
use Rattle.uplink_elm_sending.proofs.Laws.{not-round_size, not_segmented, no_room}
use Rattle.conformance.specs.Refusals.{Part, Wrong}
use Rattle.conformance.specs.Refusals.Part.{message, field, confidence, word, limit, judged, own_address, altitude, lengths, table, entering, opening, numbered, segmented, round_size, room, recording}

-- ---- the test of each part

unfoldable pub passes : Part → Bool
passes (message m) = is_message_length (length m)
passes (field f) = is_field_length (length f)
passes (confidence m c) = eqb (length c) (length m)
passes (word w) = is_word w
passes (limit l) = leb l 24
passes (judged m) = first_bit_agrees m
passes (own_address a) = not (is_reserved a)
passes (altitude z s) = in_code z s
passes (lengths rs ps) = right_lengths (length rs) (length ps)
passes (table rs ps n) = is_sound rs ps n
passes (entering rs a) = is_in rs a || has_room rs
passes (opening own m r) = not (unopened own m r)
passes (numbered own m r) = not (above own m r)
passes (segmented d) = is_segmented (length d)
passes (round_size s) = is_round_size s
passes (room b ns) = is_room (length b) ns
passes (recording s n) = are_as_many (length s) n

-- two tests of equality, either of which will do
either_false : (a b c : ℕ) → ((eqb a b || eqb a c) ≡ false) ↔ ((a ≡ b → ⊥) × (a ≡ c → ⊥))
either_false a b c = (there (eqb a b) refl, λ h. back h.0 h.1)
  where
    there : (x : Bool) → eqb a b ≡ x → (x || eqb a c) ≡ false → (a ≡ b → ⊥) × (a ≡ c → ⊥)
    there true p e = absurd (never refl e)
    there false p e = (eqb-false a b p, eqb-false a c e)

    back : (a ≡ b → ⊥) → (a ≡ c → ⊥) → (eqb a b || eqb a c) ≡ false
    back h k = ap (λ (x : Bool). x || eqb a c) (ne_eqb a b h) ∙ ne_eqb a c k

first_bit_wrong : (m : List ℕ) → first_bit_agrees m ≡ false
    → ((length m ≡ 14) × (first_bit m ≡ 1 → ⊥)) ⊎ ((length m ≡ 14 → ⊥) × (first_bit m ≡ 0 → ⊥))
unfolding first_bit_agrees
first_bit_wrong m e = by (eqb (length m) 14) refl
  where
    by : (x : Bool) → eqb (length m) 14 ≡ x → ((length m ≡ 14) × (first_bit m ≡ 1 → ⊥)) ⊎ ((length m ≡ 14 → ⊥) × (first_bit m ≡ 0 → ⊥))
    by true p = inl (eqb-true (length m) 14 p, eqb-false (first_bit m) 1 (sym (ap (λ (x : Bool). eqb (first_bit m) (bit_of x)) p) ∙ e))
    by false p = inr (eqb-false (length m) 14 p, eqb-false (first_bit m) 0 (sym (ap (λ (x : Bool). eqb (first_bit m) (bit_of x)) p) ∙ e))

wrong_first_bit : (m : List ℕ) → ((length m ≡ 14) × (first_bit m ≡ 1 → ⊥)) ⊎ ((length m ≡ 14 → ⊥) × (first_bit m ≡ 0 → ⊥))
    → first_bit_agrees m ≡ false
unfolding first_bit_agrees
wrong_first_bit m (inl h) = ap (λ (x : Bool). eqb (first_bit m) (bit_of x)) (eq-eqb (length m) 14 h.0) ∙ ne_eqb (first_bit m) 1 h.1
wrong_first_bit m (inr h) = ap (λ (x : Bool). eqb (first_bit m) (bit_of x)) (ne_eqb (length m) 14 h.0) ∙ ne_eqb (first_bit m) 0 h.1

reserved : (a : ℕ) → is_reserved a ≡ true → (a ≡ 0x000000) ⊎ (a ≡ 0xFFFFFF)
unfolding is_reserved
reserved a e = by (or_cases (eqb a 0) (eqb a everyone) e)
  where
    by : (eqb a 0 ≡ true) ⊎ (eqb a everyone ≡ true) → (a ≡ 0x000000) ⊎ (a ≡ 0xFFFFFF)
    by (inl p) = inl (eqb-true a 0 p)
    by (inr p) = inr (eqb-true a everyone p)

is_reserved_lem : (a : ℕ) → (a ≡ 0x000000) ⊎ (a ≡ 0xFFFFFF) → is_reserved a ≡ true
unfolding is_reserved
is_reserved_lem a (inl e) = ap (λ (x : Bool). x || eqb a everyone) (eq-eqb a 0 e)
is_reserved_lem a (inr e) = or_second (eqb a 0) (eqb a everyone) (eq-eqb a everyone e)

-- the order of the integers, by its test
not-le : (a b : ℤ) → le_z a b ≡ false → b <ℤ a
not-le (pos a) (pos b) e = record { lt = lt→ltb b a (leb-false a b e) }
not-le (pos a) (negsuc b) e = record { lt = tt }
not-le (negsuc a) (pos b) e = absurd (never refl e)
not-le (negsuc a) (negsuc b) e = record { lt = lt→ltb a b (leb-false b a e) }

is_le : (a b : ℤ) → le_z a b ≡ true → a ≤ℤ b
is_le a b e = record { le = subst T (sym e) tt }

-- an altitude that the code of its step does not have
not_in_code : (z : ℤ) (s : ℕ) → in_code z s ≡ false → ((s ≡ 25 → ⊥) × (s ≡ 100 → ⊥)) ⊎ ((nat_abs z % s ≡ 0 → ⊥) ⊎ ((z <ℤ lowest s) ⊎ (highest s <ℤ z)))
unfolding in_code
not_in_code z s e = by (eqb s 25 || eqb s 100) refl (eqb (nat_abs z % s) 0) refl (le_z (lowest s) z) refl (le_z z (highest s)) refl e
  where
    by : (a : Bool) → (eqb s 25 || eqb s 100) ≡ a → (b : Bool) → eqb (nat_abs z % s) 0 ≡ b → (c : Bool) → le_z (lowest s) z ≡ c → (d : Bool) → le_z z (highest s) ≡ d
        → (a && (b && (c && d))) ≡ false → ((s ≡ 25 → ⊥) × (s ≡ 100 → ⊥)) ⊎ ((nat_abs z % s ≡ 0 → ⊥) ⊎ ((z <ℤ lowest s) ⊎ (highest s <ℤ z)))
    by false p b q c r d t e = inl ((either_false s 25 100).0 p)
    by true p false q c r d t e = inr (inl (eqb-false _ _ q))
    by true p true q false r d t e = inr (inr (inl (not-le (lowest s) z r)))
    by true p true q true r false t e = inr (inr (inr (not-le z (highest s) t)))
    by true p true q true r true t e = absurd (never refl e)

not_of_code : (z : ℤ) (s : ℕ) → ((s ≡ 25 → ⊥) × (s ≡ 100 → ⊥)) ⊎ ((nat_abs z % s ≡ 0 → ⊥) ⊎ ((z <ℤ lowest s) ⊎ (highest s <ℤ z))) → in_code z s ≡ false
not_of_code z s h = by (in_code z s) refl h
  where
    by : (t : Bool) → in_code z s ≡ t → ((s ≡ 25 → ⊥) × (s ≡ 100 → ⊥)) ⊎ ((nat_abs z % s ≡ 0 → ⊥) ⊎ ((z <ℤ lowest s) ⊎ (highest s <ℤ z))) → t ≡ false
    by false e h = refl
    by true e (inl n) = absurd (step (was_in_code z s e).step n)
      where
        step : (s ≡ 25) ⊎ (s ≡ 100) → (s ≡ 25 → ⊥) × (s ≡ 100 → ⊥) → ⊥
        step (inl p) n = n.0 p
        step (inr p) n = n.1 p
    by true e (inr (inl n)) = absurd (n (was_in_code z s e).multiple)
    by true e (inr (inr (inl n))) = clash_ℤ n (is_le (lowest s) z (was_in_code z s e).from_lowest)
    by true e (inr (inr (inr n))) = clash_ℤ n (is_le z (highest s) (was_in_code z s e).to_highest)

pub failed_wrong : (p : Part) → passes p ≡ false → Wrong p
unfolding passes Wrong is_message_length is_field_length is_word are_as_many
failed_wrong (message m) e = (either_false (length m) 7 14).0 e
failed_wrong (field f) e = (either_false (length f) 4 11).0 e
failed_wrong (confidence m c) e = eqb-false (length c) (length m) e
failed_wrong (word w) e = leb-false w 0xFFFFFF e
failed_wrong (limit l) e = leb-false l 24 e
failed_wrong (judged m) e = first_bit_wrong m e
failed_wrong (own_address a) e = reserved a (not-false (is_reserved a) e)
failed_wrong (altitude z s) e = not_in_code z s e
failed_wrong (lengths rs ps) e = lengths_wrong (length rs) (length ps) e
failed_wrong (table rs ps n) e = unsound rs ps n e
failed_wrong (entering rs a) e = no_place rs a e
failed_wrong (opening own m r) e =
    let h = (of_own_lem own m (opens_none (reply_control m) (segment_number m) r)).0 (not-false (unopened own m r) e) in
    (h.0, h.1, (opens-none (reply_control m) (segment_number m) r).0 h.2)
failed_wrong (numbered own m r) e =
    let h = (of_own_lem own m (is_above (reply_control m) (segment_number m) r)).0 (not-false (above own m r) e) in
    (h.0, h.1, (is_above_lem (reply_control m) (segment_number m) r).0 h.2)
failed_wrong (segmented d) e = (not_segmented (length d)).0 e
failed_wrong (round_size s) e = (not-round_size s).0 e
failed_wrong (room b ns) e = (no_room (length b) ns).0 e
failed_wrong (recording s n) e = eqb-false (length s) (14 * n) e

pub wrong_failed : (p : Part) → Wrong p → passes p ≡ false
unfolding passes Wrong is_message_length is_field_length is_word are_as_many
wrong_failed (message m) h = (either_false (length m) 7 14).1 h
wrong_failed (field f) h = (either_false (length f) 4 11).1 h
wrong_failed (confidence m c) h = ne_eqb (length c) (length m) h
wrong_failed (word w) h = lt-leb w 0xFFFFFF h
wrong_failed (limit l) h = lt-leb l 24 h
wrong_failed (judged m) h = wrong_first_bit m h
wrong_failed (own_address a) h = ap not (is_reserved_lem a h)
wrong_failed (altitude z s) h = not_of_code z s h
wrong_failed (lengths rs ps) h = wrong_lengths (length rs) (length ps) h
wrong_failed (table rs ps n) h = not_sound rs ps n h
wrong_failed (entering rs a) h = place_none rs a h
wrong_failed (opening own m r) h = ap not ((of_own_lem own m _).1 (h.0, h.1, (opens-none (reply_control m) (segment_number m) r).1 h.2))
wrong_failed (numbered own m r) h = ap not ((of_own_lem own m _).1 (h.0, h.1, (is_above_lem (reply_control m) (segment_number m) r).1 h.2))
wrong_failed (segmented d) h = (not_segmented (length d)).1 h
wrong_failed (round_size s) h = (not-round_size s).1 h
wrong_failed (room b ns) h = (no_room (length b) ns).1 h
wrong_failed (recording s n) h = ne_eqb (length s) (14 * n) h
