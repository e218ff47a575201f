-- One transmission, and several. The idea: a seal goes by the field, so that what stood in the parity field before makes no difference;
-- the bytes written so far, followed by the transmissions that are left, stay the same along a round.
use mathlib.Core.Path.{◌≡◌, refl, sym, ap, ap₂, ◌∙◌}
use mathlib.Core.Bool.{true}
use mathlib.Core.List.{List, [], ◌∷◌, ◌++◌, append-nil, append_assoc}
use Prim.Native.Nat.{ℕ, suc, ◌+◌, ◌-◌, ◌*◌, ◌/◌, ◌^◌, ◌<◌, ◌≤◌}
use native.Mathlib.Omega.{arith}
use lib.Bits.{bit_xor}
use lib.ListN.{length, get_or, set, take, drop, length-append, length-drop}
use lib.Seq.{take_at, take_all, length-take-le}
use borrow.Rule.Slice.PartMut.{put_mid, Post-is}
use Rattle.std.specs.Prelude.{Result, Ok, Err, IsOk}
use Rattle.outcome.specs.declared.Refusal.{Refusal}
use Rattle.outcome.specs.Outcomes.{done, admission}
use Rattle.outcome.proofs.Laws.{refusal_is_no_answer}
use Rattle.message.specs.Message.{number, field}
use Rattle.message.proofs.Laws.{lt-word, long_length, agrees_long, field_is}
use Rattle.division.specs.Division.{parity, overlay}
use Rattle.encoder.specs.Seals.{seal_outcome, interrogation_after}
use Rattle.encoder.proofs.Laws.{accepted, interrogation_after_lem, interrogation_is, sealed-length, seal_by_field}
use Rattle.uplink_elm.specs.Control.{number_of}
use Rattle.uplink_elm.specs.declared.control.Control.{Control}
use Rattle.uplink_elm.specs.declared.control.Control.TheVariants.{Opening, Round, Exchange}
use Rattle.uplink_elm.specs.Segments.{is_extended, reply_control, segment_number, segment, segment_at}
use Rattle.uplink_elm.proofs.Laws.{segment-at, segment-at-length, segment_of, parts_of}
use Rattle.uplink_elm_sending.specs.Choosing.{begun}
use Rattle.uplink_elm_sending.specs.Sending.{unsealed, transmission, transmissions}

-- ---- one transmission

-- a long message that begins so is sealed, whatever its parity field is
sealable : (m : List ℕ) (address control n : ℕ) → address < 2 ^ 24 → control < 4 → n < 16 → length m ≡ 14 → get_or m 0 0 ≡ 192 + 16 * control + n
    → seal_outcome m address ≡ done
sealable m address control n ha hc hn long first =
    let top : get_or m 0 0 / 2 ^ 7 ≡ 1 = omega arith in
    sym (accepted m address (long_length (length m) long) (lt-word address ha) (agrees_long m long top))

module _ (control n : ℕ) (s : List ℕ) (ten : length s ≡ 10) where
  -- the same with any three bytes in place of the parity field
  with_field : List ℕ → List ℕ
  with_field rest = (192 + 16 * control + n) ∷ (s ++ rest)

  long-with : (rest : List ℕ) → length rest ≡ 3 → length (with_field rest) ≡ 14
  unfolding with_field
  long-with rest three = ap suc (length-append s rest ∙ ap₂ ◌+◌ ten three)

  field-with : (rest : List ℕ) → length rest ≡ 3 → field (with_field rest) ≡ (192 + 16 * control + n) ∷ s
  unfolding with_field
  field-with rest three =
      field_is (with_field rest) ∙ ap (λ (k : ℕ). take (k - 3) (with_field rest)) (long-with rest three)
      ∙ ap (λ (l : List ℕ). (192 + 16 * control + n) ∷ l) (take_at s rest 10 ten)

  unsealed-is : unsealed control n s ≡ with_field (0 ∷ 0 ∷ 0 ∷ [])
  unfolding unsealed with_field
  unsealed-is = refl

  pub unsealed-parts : control < 4 → n < 16
      → (is_extended (unsealed control n s) ≡ true) × (reply_control (unsealed control n s) ≡ control)
      × (segment_number (unsealed control n s) ≡ n) × (segment (unsealed control n s) ≡ s)
  unfolding unsealed
  unsealed-parts hc hn =
      let parts = parts_of (unsealed control n s) control n refl hc hn in
      (parts.0, parts.1, parts.2, segment_of (192 + 16 * control + n) s (0 ∷ 0 ∷ 0 ∷ []) ten)

  module _ (address : ℕ) where
    pub transmission-length : length (transmission address control n s) ≡ 14
    unfolding transmission
    transmission-length =
        let long : length (unsealed control n s) ≡ 14 = ap length unsealed-is ∙ long-with (0 ∷ 0 ∷ 0 ∷ []) refl in
        ap length (interrogation_is (unsealed control n s) address)
        ∙ sealed-length (unsealed control n s) (bit_xor (parity (number (field (unsealed control n s)))) (overlay address)) (omega (arith, long)) ∙ long

    module _ (ha : address < 2 ^ 24) (hc : control < 4) (hn : n < 16) where
      -- what the seal leaves of such a message
      sealed-with : (rest : List ℕ) → length rest ≡ 3 → interrogation_after (with_field rest) address ≡ transmission address control n s
      unfolding transmission with_field
      sealed-with rest three =
          interrogation_after_lem (with_field rest) address (sealable (with_field rest) address control n ha hc hn (long-with rest three) refl)
          ∙ seal_by_field (with_field rest) (unsealed control n s) address (field-with rest three ∙ sym (ap field unsealed-is ∙ field-with (0 ∷ 0 ∷ 0 ∷ []) refl))

      -- 'it writes sealed interrogations': the seal is not refused, and leaves this
      pub transmission-sealed : (seal_outcome (unsealed control n s) address ≡ done) × (transmission address control n s ≡ interrogation_after (unsealed control n s) address)
      unfolding with_field
      transmission-sealed = (
        sealable (unsealed control n s) address control n ha hc hn (ap length unsealed-is ∙ long-with (0 ∷ 0 ∷ 0 ∷ []) refl) (ap (λ (l : List ℕ). get_or l 0 0) unsealed-is),
        sym (ap (λ (m : List ℕ). interrogation_after m address) unsealed-is ∙ sealed-with (0 ∷ 0 ∷ 0 ∷ []) refl),
      )

-- ---- as it is written to a buffer

-- the first byte set, and ten bytes copied behind it
pub put_field : (first : ℕ) (s out : List ℕ) → length out ≡ 14 → put_mid 1 10 (set out 0 first) s ≡ first ∷ (s ++ drop 11 out)
put_field first s [] h = absurd (omega arith)
put_field first s (x ∷ out) h = ap (λ (l : List ℕ). first ∷ (s ++ l)) (Post-is 1 11 (first ∷ out) (omega arith))

-- what comes back from the copy, and what the seal makes of it
module _ (control n address : ℕ) (segments : List ℕ) (hc : control < 3) (hn : n < 16) (ha : address < 2 ^ 24) (fits : n * 10 + 10 ≤ length segments) where
  pub transmitted : (out ys sealed : List ℕ) (from to : ℕ) → length out ≡ 14 → from ≡ n * 10 → to ≡ from + 10
      → ys ≡ take (to - from) (drop from segments)
      → sealed ≡ interrogation_after (put_mid 1 10 (set out 0 (192 + 16 * control + n)) ys) address
      → sealed ≡ transmission address control n (segment_at segments n)
  unfolding with_field
  transmitted out ys sealed from to long ef et ey es =
      es
      ∙ ap (λ (m : List ℕ). interrogation_after m address)
      (ap (put_mid 1 10 (set out 0 (192 + 16 * control + n))) (ey ∙ is) ∙ put_field (192 + 16 * control + n) (segment_at segments n) out long)
      ∙ sealed-with control n (segment_at segments n) (segment-at-length segments n fits) address ha (omega arith) hn (drop 11 out) (length-drop 11 out ∙ omega (arith, long))
    where
      size : to - from ≡ 10
      size = omega arith

      is : take (to - from) (drop from segments) ≡ segment_at segments n
      is = ap₂ (λ (x y : ℕ). take x (drop y segments)) size ef ∙ sym (segment-at segments n)

-- each use of a segment has an RC below 4
pub number_lt : (c : Control) → number_of c < 4
number_lt Opening = omega arith
number_lt Round = omega arith
number_lt Exchange = omega arith

-- the seal of such a buffer is not refused, and leaves the transmission
module _ (k n address : ℕ) (s buffer : List ℕ) (ten : length s ≡ 10) (long : length buffer ≡ 14) (hk : k < 4) (hn : n < 16) (ha : address < 2 ^ 24) where
  behind : length (drop 11 buffer) ≡ 3
  behind = length-drop 11 buffer ∙ omega (arith, long)

  pub begun_passes : seal_outcome (begun k n s buffer) address ≡ done
  unfolding begun with_field
  begun_passes = sealable (begun k n s buffer) address k n ha hk hn (long-with k n s ten (drop 11 buffer) behind) refl

  pub begun_leaves : interrogation_after (begun k n s buffer) address ≡ transmission address k n s
  unfolding begun with_field
  begun_leaves = sealed-with k n s ten address ha hk hn (drop 11 buffer) behind

-- a call that is done is not refused
pub done_is_ok : (r : Result Unit Refusal) → admission r ≡ done → IsOk r
done_is_ok (Ok u) e = refl
done_is_ok (Err f) e = absurd (refusal_is_no_answer e)

-- what the writer of a transmission needs
pub ruleset transmitting = (done_is_ok, number_lt, begun_passes, begun_leaves)

-- the segment that it is written with
pub part : (segments : List ℕ) (n from : ℕ) → from ≡ n * 10 → take (from + 10 - from) (drop from segments) ≡ segment_at segments n
part segments n from e =
    let size : from + 10 - from ≡ 10 = omega arith in
    ap₂ (λ (x y : ℕ). take x (drop y segments)) size e ∙ sym (segment-at segments n)

pub ruleset parting = (part, segment-at-length)

-- ---- several

pub transmissions_one : (address control : ℕ) (segments : List ℕ) (n : ℕ)
    → transmissions address control segments (n ∷ []) ≡ transmission address control n (segment_at segments n)
unfolding transmissions
transmissions_one address control segments n = append-nil (transmission address control n (segment_at segments n))

-- the first of several
pub transmissions_first : (address control : ℕ) (segments : List ℕ) (n : ℕ) (ns : List ℕ)
    → transmissions address control segments (n ∷ ns) ≡ transmission address control n (segment_at segments n) ++ transmissions address control segments ns
unfolding transmissions
transmissions_first address control segments n ns = refl

-- the bytes written, with one more; and all of them
pub one_written : (i : ℕ) (out ys rest : List ℕ) → i * 14 + 14 ≤ length out → length ys ≡ 14
    → take ((i + 1) * 14) (put_mid (i * 14) (i * 14 + 14 - i * 14) out ys) ++ rest ≡ take (i * 14) out ++ (ys ++ rest)
one_written i out ys rest fits fourteen = ap (λ (l : List ℕ). l ++ rest) front ∙ append_assoc (take (i * 14) out) ys rest
  where
    before : length (take (i * 14) out) ≡ i * 14
    before = length-take-le (i * 14) out (omega arith)

    more : length (take (i * 14) out ++ ys) ≡ (i + 1) * 14
    more = length-append (take (i * 14) out) ys ∙ omega (arith, before, fourteen)

    front : take ((i + 1) * 14) (put_mid (i * 14) (i * 14 + 14 - i * 14) out ys) ≡ take (i * 14) out ++ ys
    front =
        ap (λ (l : List ℕ). take ((i + 1) * 14) (take (i * 14) out ++ (ys ++ l))) (Post-is (i * 14) (i * 14 + 14) out (omega arith))
        ∙ ap (take ((i + 1) * 14)) (sym (append_assoc (take (i * 14) out) ys (drop (i * 14 + 14) out)))
        ∙ take_at (take (i * 14) out ++ ys) (drop (i * 14 + 14) out) ((i + 1) * 14) more

pub all_written : (address control : ℕ) (segments ns out : List ℕ) (k : ℕ) → ns ≡ [] → length out ≤ k → take k out ++ transmissions address control segments ns ≡ out
unfolding transmissions
all_written address control segments ns out k none le =
    ap (λ (l : List ℕ). take k out ++ transmissions address control segments l) none ∙ append-nil (take k out) ∙ take_all k out le

-- what the writer of a round needs
pub ruleset writing_round = (transmissions_first, one_written, all_written)
