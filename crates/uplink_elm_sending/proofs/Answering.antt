-- What a call answers: the outcomes by their tests, in the order of the table, and what an answer was given for.
use mathlib.Core.Path.{◌≡◌, refl, ap, ap₂, ◌∙◌}
use mathlib.Core.Logic.{◌↔◌, ◌⊎◌, inl, inr}
use mathlib.Core.Bool.{Bool, true, false, ◌&&◌, and-false}
use mathlib.Core.List.{List}
use Prim.Native.Nat.{ℕ, ◌*◌, ◌/◌, ◌%◌, ◌<◌, ◌≤◌}
use native.Mathlib.Omega.{arith}
use lib.Dec.{eqb, leb}
use lib.ListN.{length}
use borrow.Author.Tests.{eqb-true, eqb-false, eq-eqb, ne_eqb, leb-true, leb-false, le-leb, lt-leb}
use Rattle.std.specs.Prelude.{Result}
use Rattle.outcome.specs.declared.Refusal.{Refusal}
use Rattle.outcome.specs.Outcomes.{Outcome, value, done, unless}
use Rattle.outcome.specs.Outcomes.Outcome.{refusal}
use Rattle.outcome.specs.Refusals.{word_too_large, not_sendable}
use Rattle.outcome.proofs.Laws.{never, both, passed, passed_value, same-value, passed_row, left_of, said_by_injective, refusal_is_no_answer}
use Rattle.message.specs.Message.{is_word}
use Rattle.uplink_elm_sending.specs.Sending.{transmissions, segment_count, last_numbers, round_numbers, is_round_size, is_segmented, is_room, said, last_outcome, round_outcome, last_after, opening_after, exchange_after, round_after}

-- ---- the tests

pub is_segmented_lem : (n : ℕ) → 2 ≤ n → n ≤ 16 → is_segmented (n * 10) ≡ true
unfolding is_segmented
is_segmented_lem n lo hi =
    let none : n * 10 % 10 ≡ 0 = omega arith in
    let is : n * 10 / 10 ≡ n = omega arith in
    ap₂ ◌&&◌ (eq-eqb (n * 10 % 10) 0 none) (ap₂ ◌&&◌ (ap (leb 2) is ∙ le-leb 2 n lo) (ap (λ (k : ℕ). leb k 16) is ∙ le-leb n 16 hi))

-- a message of 2 to 16 whole segments
pub record Segmented (bytes : ℕ) : Type 0 where
  pub whole : bytes ≡ segment_count bytes * 10
  pub two : 2 ≤ segment_count bytes
  pub sixteen : segment_count bytes ≤ 16

pub segmented : (bytes : ℕ) → is_segmented bytes ≡ true → Segmented bytes
unfolding is_segmented segment_count
segmented bytes e =
    let t = both (eqb (bytes % 10) 0) (leb 2 (bytes / 10) && leb (bytes / 10) 16) e in
    let u = both (leb 2 (bytes / 10)) (leb (bytes / 10) 16) t.1 in
    let none : bytes % 10 ≡ 0 = eqb-true (bytes % 10) 0 t.0 in
    record { whole = omega arith; two = leb-true 2 (bytes / 10) u.0; sixteen = leb-true (bytes / 10) 16 u.1 }

-- where a test fails, by what row 12 says
pub not-round_size : (s : ℕ) → (is_round_size s ≡ false) ↔ ((s < 1) ⊎ (16 < s))
unfolding is_round_size
not-round_size s = (there (leb 1 s) refl, back)
  where
    there : (t : Bool) → leb 1 s ≡ t → (t && leb s 16) ≡ false → (s < 1) ⊎ (16 < s)
    there true e f = inr (leb-false s 16 f)
    there false e f = inl (leb-false 1 s e)

    back : (s < 1) ⊎ (16 < s) → (leb 1 s && leb s 16) ≡ false
    back (inl h) = ap (λ (t : Bool). t && leb s 16) (lt-leb 1 s h)
    back (inr h) = ap (λ (t : Bool). leb 1 s && t) (lt-leb s 16 h) ∙ and-false (leb 1 s)

pub not_segmented : (bytes : ℕ) → (is_segmented bytes ≡ false) ↔ ((n : ℕ) → 2 ≤ n → n ≤ 16 → bytes ≡ n * 10 → ⊥)
not_segmented bytes = (there, λ h. by (is_segmented bytes) refl h)
  where
    there : is_segmented bytes ≡ false → (n : ℕ) → 2 ≤ n → n ≤ 16 → bytes ≡ n * 10 → ⊥
    there e n lo hi f = never (ap is_segmented f ∙ is_segmented_lem n lo hi) e

    by : (t : Bool) → is_segmented bytes ≡ t → ((n : ℕ) → 2 ≤ n → n ≤ 16 → bytes ≡ n * 10 → ⊥) → t ≡ false
    by true e h = let g = segmented bytes e in absurd (h (segment_count bytes) g.two g.sixteen g.whole)
    by false e h = refl

pub no_room : (bytes : ℕ) (numbers : List ℕ) → (is_room bytes numbers ≡ false) ↔ (bytes ≡ length numbers * 14 → ⊥)
unfolding is_room
no_room bytes numbers = (eqb-false bytes (length numbers * 14), ne_eqb bytes (length numbers * 14))

-- ---- the opening and the exchange

module _ (address bytes room : ℕ) where
  module _ (word : is_word address ≡ true) where
    pub last-sent : is_segmented bytes ≡ true → room ≡ 14 → value 1 ≡ last_outcome address bytes room
    unfolding last_outcome is_room last_numbers
    last-sent e h = passed (is_word address) word_too_large _ _ word (passed (is_segmented bytes) not_sendable _ _ e (passed_value (eqb room 14) not_sendable 1 1 (eq-eqb room 14 h) refl))

-- ---- the round

module _ (address bytes acknowledgement s room : ℕ) where
  numbers : List ℕ
  numbers = round_numbers acknowledgement (segment_count bytes) s

  module _ (word : is_word address ≡ true) where
    module _ (size : is_round_size s ≡ true) where
      module _ (n : ℕ) (e : is_segmented bytes ≡ true) (g : n ≡ length (round_numbers acknowledgement (segment_count bytes) s)) where
        same-room : eqb room (n * 14) ≡ is_room room (round_numbers acknowledgement (segment_count bytes) s)
        unfolding is_room
        same-room = ap (λ (k : ℕ). eqb room (k * 14)) g

        before-room : (o : Outcome) → o ≡ unless (is_room room numbers) not_sendable (value (length numbers)) → o ≡ round_outcome address bytes acknowledgement s room
        unfolding round_outcome numbers
        before-room o h =
            passed (is_word address) word_too_large _ _ word (passed (is_round_size s) not_sendable _ _ size (passed (is_segmented bytes) not_sendable _ _ e h))

        pub round-sent : done ≡ unless (eqb room (n * 14)) not_sendable done → value n ≡ round_outcome address bytes acknowledgement s room
        unfolding numbers
        round-sent h =
            before-room (value n)
            (passed_value _ not_sendable n (length numbers) (passed_row (eqb room (n * 14)) _ not_sendable h same-room) g)

-- ---- what a call leaves

module _ (control address : ℕ) (segments buffer : List ℕ) where
  pub last-leaves : (n : ℕ) → last_outcome address (length segments) (length buffer) ≡ refusal n → last_after control address segments buffer ≡ buffer
  unfolding last_after
  last-leaves n e = left_of _ _ buffer _ e

  pub last-after : (n : ℕ) → last_outcome address (length segments) (length buffer) ≡ value n
      → last_after control address segments buffer ≡ transmissions address control segments (last_numbers (segment_count (length segments)))
  unfolding last_after
  last-after n e = left_of _ _ buffer _ e

module _ (address : ℕ) (segments buffer : List ℕ) where
  pub opening-leaves : (n : ℕ) → last_outcome address (length segments) (length buffer) ≡ refusal n → opening_after address segments buffer ≡ buffer
  unfolding opening_after
  opening-leaves n e = last-leaves 0 address segments buffer n e

  pub exchange-leaves : (n : ℕ) → last_outcome address (length segments) (length buffer) ≡ refusal n → exchange_after address segments buffer ≡ buffer
  unfolding exchange_after
  exchange-leaves n e = last-leaves 2 address segments buffer n e

module _ (address : ℕ) (segments : List ℕ) (acknowledgement s : ℕ) (buffer : List ℕ) where
  pub round-leaves : (n : ℕ) → round_outcome address (length segments) acknowledgement s (length buffer) ≡ refusal n
      → round_after address segments acknowledgement s buffer ≡ buffer
  unfolding round_after
  round-leaves n e = left_of _ _ buffer _ e

  pub round-after : (n : ℕ) → round_outcome address (length segments) acknowledgement s (length buffer) ≡ value n
      → round_after address segments acknowledgement s buffer ≡ transmissions address 1 segments (round_numbers acknowledgement (segment_count (length segments)) s)
  unfolding round_after
  round-after n e = left_of _ _ buffer _ e

-- ---- different answers of the code are different answers of the paper

pub said_injective : (x y : Result ℕ Refusal) → said x ≡ said y → x ≡ y
said_injective = said_by_injective (λ n. value n) (λ _ _. same-value) (λ _ _. refusal_is_no_answer)
