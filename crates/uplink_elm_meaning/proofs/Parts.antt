-- The parts of an interrogation by its bits. The idea: the first byte is the number without its last 104 bits, and the segment what
-- lies between it and the last 24.
use mathlib.Core.Path.{◌≡◌, refl, sym, ap, ap₂, ◌∙◌, subst}
use mathlib.Core.List.{List, [], ◌∷◌}
use Prim.Native.Nat.{ℕ, ◌+◌, ◌-◌, ◌*◌, ◌/◌, ◌%◌, ◌^◌, ◌<◌}
use native.Mathlib.Omega.{arith}
use lib.ListN.{length, take, drop, length-drop}
use lib.Dec.{eqb}
use lib.Pow.{shr-shr, high, low}
use lib.Seq.{length-take-le}
use borrow.Author.Tests.{eqb-true, eq-eqb}
use Rattle.outcome.proofs.Laws.{every, tested}
use Rattle.message.specs.Message.{number, Bytes}
use Rattle.message.specs.Bits.{bit_at}
use Rattle.message.proofs.Laws.{number-cons, number-split, number_lt, bytes_drop, bytes_take, bit_is}
use Rattle.uplink_elm.specs.Segments.{is_extended, reply_control, segment_number, segment}
use Rattle.uplink_elm.proofs.Laws.{segment-length}
use Rattle.uplink_elm_meaning.specs.Running.{PartsAreBits}

module _ (b : ℕ) (l : List ℕ) (hm : Bytes (b ∷ l)) (long : length (b ∷ l) ≡ 14) where
  rest : length l ≡ 13
  rest = omega arith

  tail : Bytes l
  tail = bytes_drop 1 (b ∷ l) hm

  small : number l < 2 ^ 104
  small = subst (λ (k : ℕ). number l < 2 ^ (8 * k)) rest (number_lt l tail)

  all : number (b ∷ l) ≡ b * 2 ^ 104 + number l
  all = number-cons b l ∙ ap (λ (k : ℕ). b * 2 ^ (8 * k) + number l) rest

  -- bit i of the first eight is that of the first byte, e bits before its end
  first_bit_lem : (i e : ℕ) → 104 + e ≡ 112 - i → bit_at (b ∷ l) i ≡ b / 2 ^ e % 2
  first_bit_lem i e h =
      bit_is (b ∷ l) i
      ∙ ap (λ (k : ℕ). number (b ∷ l) / 2 ^ k % 2) (ap (λ (n : ℕ). 8 * n - i) long ∙ sym h)
      ∙ ap (λ (x : ℕ). x % 2) (sym (shr-shr (number (b ∷ l)) 104 e))
      ∙ ap (λ (x : ℕ). x / 2 ^ e % 2) (ap (λ (x : ℕ). x / 2 ^ 104) all ∙ high b 104 small)

  middle : number (take 10 l) ≡ number (b ∷ l) / 2 ^ 24 % 2 ^ 80
  middle =
      sym (low b 80 {lo = number (take 10 l)} inner) ∙ ap (λ (x : ℕ). x % 2 ^ 80) (sym (high (b * 2 ^ 80 + number (take 10 l)) 24 {lo = number (drop 10 l)} outer))
      ∙ ap (λ (x : ℕ). x / 2 ^ 24 % 2 ^ 80) (sym (all ∙ ap (λ (x : ℕ). b * 2 ^ 104 + x) split ∙ omega arith))
    where
      three : length (drop 10 l) ≡ 3
      three = length-drop 10 l ∙ omega (arith, rest)

      outer : number (drop 10 l) < 2 ^ 24
      outer = subst (λ (k : ℕ). number (drop 10 l) < 2 ^ (8 * k)) three (number_lt (drop 10 l) (bytes_drop 10 l tail))

      ten : length (take 10 l) ≡ 10
      ten = length-take-le 10 l (omega (arith, rest))

      inner : number (take 10 l) < 2 ^ 80
      inner = subst (λ (k : ℕ). number (take 10 l) < 2 ^ (8 * k)) ten (number_lt (take 10 l) (bytes_take 10 l tail))

      split : number l ≡ number (take 10 l) * 2 ^ 24 + number (drop 10 l)
      split = number-split 10 l ∙ ap (λ (k : ℕ). number (take 10 l) * 2 ^ (8 * k) + number (drop 10 l)) three

pub parts_are_bits : PartsAreBits
unfolding PartsAreBits is_extended reply_control segment_number segment every
parts_are_bits [] hm long = absurd (omega arith)
parts_are_bits (b ∷ l) hm long =
    let byte : b < 2 ^ 8 = hm 0 in
    let one = first_bit_lem b l hm long 1 7 refl in
    let two = first_bit_lem b l hm long 2 6 refl in
    let three = first_bit_lem b l hm long 3 5 refl in
    let four = first_bit_lem b l hm long 4 4 refl in
    let five = first_bit_lem b l hm long 5 3 refl in
    let six = first_bit_lem b l hm long 6 2 refl in
    let seven = first_bit_lem b l hm long 7 1 refl in
    let eight = first_bit_lem b l hm long 8 0 refl in (
      ((λ e. let three = eqb-true (b / 2 ^ 6) 3 e in (one ∙ omega arith, two ∙ omega arith)), λ p. eq-eqb (b / 2 ^ 6) 3 (omega (arith, byte, sym one ∙ p.0, sym two ∙ p.1))),
      eqb-true _ _ (tested 8 (λ (x : ℕ). eqb (x / 2 ^ 4 % 2 ^ 2) (2 * (x / 2 ^ 5 % 2) + x / 2 ^ 4 % 2)) refl b byte)
          ∙ ap₂ (λ (x y : ℕ). 2 * x + y) (sym three) (sym four),
      eqb-true _ _ (tested 8 (λ (x : ℕ). eqb (x % 2 ^ 4) (8 * (x / 2 ^ 3 % 2) + 4 * (x / 2 ^ 2 % 2) + 2 * (x / 2 ^ 1 % 2) + x / 2 ^ 0 % 2)) refl b byte)
          ∙ ap₂ (λ (x y : ℕ). x + y) (ap₂ (λ (x y : ℕ). x + 2 * y) (ap₂ (λ (x y : ℕ). 8 * x + 4 * y) (sym five) (sym six)) (sym seven)) (sym eight),
      segment-length (b ∷ l) long,
      middle b l hm long,
    )
