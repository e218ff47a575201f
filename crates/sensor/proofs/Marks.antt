-- The window at a place of a buffer, within the part from the byte of its first bit on: its bits are those that the
-- buffer's number has at that place.
use mathlib.Core.Path.{◌≡◌, sym, ap, ◌∙◌, subst}
use mathlib.Core.Bool.{true, false}
use mathlib.Core.List.{List}
use Prim.Native.Nat.{ℕ, ◌+◌, ◌-◌, ◌*◌, ◌/◌, ◌%◌, ◌^◌, ◌<◌, ◌≤◌}
use native.Mathlib.Nat.{mod-lt, mul-add-mod_self_right}
use native.Mathlib.Omega.{arith}
use lib.Count.{ones}
use lib.Bits.{bit_and}
use lib.Dec.{eqb, lit<}
use Rattle.std.proofs.lemmas.Nat.{and_le_r}
use lib.ListN.{length, take, drop, length-drop}
use lib.Pow.{pow_pos, field as cut}
use borrow.Author.Tests.{eqb-true, le-ltb}
use Rattle.message.specs.Message.{number, Bytes}
use Rattle.message.specs.Bits.{last_window}
use Rattle.division.proofs.Laws.{shl-shl}
use Rattle.outcome.proofs.Laws.{part_from}
use Rattle.message.proofs.Laws.{number-split, bytes_drop}
use Rattle.windows.specs.Windows.{Starts, four_bytes, window_bits}
use Rattle.windows.proofs.Laws.{window_number, sparse_window}
use Rattle.sensor.specs.Changes.{marks_at}
use Rattle.sensor.specs.Verdicts.{dense_at}

abbrev pub window_at : List ℕ → ℕ → ℕ
window_at l e = last_window l - e

pub window_starts : (l : List ℕ) (e : ℕ) → 3 ≤ length l → e ≤ last_window l → Starts (drop (window_at l e / 8) l) (window_at l e % 8)
window_starts l e h g = (mod-lt (window_at l e) (lit< tt), omega (arith, length-drop (window_at l e / 8) l))

pub window_place : (l : List ℕ) (e : ℕ) → 3 ≤ length l → e ≤ last_window l → 8 * length (drop (window_at l e / 8) l) - 24 - window_at l e % 8 ≡ e
window_place l e h g = omega (arith, length-drop (window_at l e / 8) l)

-- what stands above the window does not count
above : (x y e k : ℕ) → (x * 2 ^ (k + (24 + e)) + y) / 2 ^ e % 2 ^ 24 ≡ y / 2 ^ e % 2 ^ 24
above x y e k =
    sym (cut (x * 2 ^ (k + (24 + e)) + y) 24 e)
    ∙ ap (λ (n : ℕ). n / 2 ^ e)
    (ap (λ (n : ℕ). (n + y) % 2 ^ (24 + e)) (sym (shl-shl x k (24 + e))) ∙ mul-add-mod_self_right (x * 2 ^ k) (2 ^ (24 + e)) y)
    ∙ cut y 24 e

-- the part that the test of the window is handed
abbrev pub part_at : List ℕ → ℕ → List ℕ
part_at c e = take (length c - window_at c e / 8) (drop (window_at c e / 8) c)

pub marks_at_lem : (c : List ℕ) (e : ℕ) → Bytes c → 3 ≤ length c → e ≤ last_window c → window_bits (part_at c e) (window_at c e % 8) ≡ marks_at c e
unfolding marks_at
marks_at_lem c e hb h g =
    let a : ℕ = window_at c e / 8 in
    let l = length-drop a c in
    let k : ℕ = 8 * length (drop a c) - (24 + e) in
    let room : 8 * length (drop a c) ≡ k + (24 + e) = omega arith in
    ap (λ (p : List ℕ). window_bits p (window_at c e % 8)) (part_from a c)
    ∙ window_number (drop a c) (window_at c e % 8) (bytes_drop a c hb) (window_starts c e h g)
    ∙ ap (λ (p : ℕ). number (drop a c) / 2 ^ p % 2 ^ 24) (window_place c e h g)
    ∙ sym (above (number (take a c)) (number (drop a c)) e k)
    ∙ ap (λ (n : ℕ). n / 2 ^ e % 2 ^ 24)
    (ap (λ (p : ℕ). number (take a c) * 2 ^ p + number (drop a c)) (sym room) ∙ sym (number-split a c))

-- few marks in the four bytes from a byte on: none of the eight windows that start in it is dense
pub none_dense : (c : List ℕ) (a l : ℕ) → Bytes c → a + 3 < length c → ones (four_bytes (take (length c - a) (drop a c))) ≤ l
    → (e : ℕ) → last_window c - 8 * a - 7 ≤ e → e < last_window c - 8 * a - 7 + 8 → dense_at c l e ≡ false
unfolding dense_at
none_dense c a l hb h few e low up =
    let same : a ≡ window_at c e / 8 = omega arith in
    let there : ones (window_bits (part_at c e) (window_at c e % 8)) ≤ l =
    sparse_window (part_at c e) (window_at c e % 8) l (subst (λ (n : ℕ). ones (four_bytes (take (length c - n) (drop n c))) ≤ l) same few) in
    le-ltb l (ones (marks_at c e)) (subst (λ (n : ℕ). ones n ≤ l) (marks_at_lem c e hb (omega arith) (omega arith)) there)

-- a pattern on low marks alone has 24 bits
pub fits_lt : (c : List ℕ) (e p : ℕ) → eqb (bit_and p (marks_at c e)) p ≡ true → p < 2 ^ 24
unfolding marks_at
fits_lt c e p h =
    let n : ℕ = number c / 2 ^ e % 2 ^ 24 in
    let same : bit_and p n ≡ p = eqb-true (bit_and p n) p h in
    let least : bit_and p n ≤ n = and_le_r p n in
    let upper : n < 2 ^ 24 = mod-lt (number c / 2 ^ e) (pow_pos 24) in
    omega arith
