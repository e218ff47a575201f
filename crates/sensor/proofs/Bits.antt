-- The correction: a pattern added to the bytes of a window, and the part put back in its message. The idea: a list of bytes
-- is determined by its number, and the number of the result is the exclusive or of two numbers.
use mathlib.Core.Path.{◌≡◌, ap, ◌∙◌}
use mathlib.Core.List.{List, ◌++◌, append-nil}
use Prim.Native.Nat.{ℕ, ◌+◌, ◌-◌, ◌*◌, ◌/◌, ◌%◌, ◌^◌, ◌<◌, ◌≤◌}
use native.Mathlib.Nat.{lt_of_lt_of_le}
use native.Mathlib.Omega.{arith}
use lib.ListN.{length, take, drop}
use lib.Seq.{drop-length}
use lib.Pow.{pow_mono, shl_lt, shl_exact}
use Rattle.message.specs.Message.{Bytes}
use Rattle.outcome.proofs.Laws.{part_from}
use Rattle.message.proofs.Laws.{bytes_drop, inverted_by_number, inverted_part}
use Rattle.windows.specs.Windows.{Starts, pattern_added}
use Rattle.windows.proofs.Laws.{added-number, added-length, added-bytes}
use Rattle.message.specs.Bits.{last_window, inverted}
use Rattle.sensor.proofs.Marks.{window_at, window_starts, window_place, part_at}
use borrow.Rule.Slice.PartMut.{put_mid, Post-is}

-- ---- a pattern added to the window that starts within the first byte of a part

change_lt : (n offset x : ℕ) → x < 2 ^ 24 → 24 + offset ≤ n → x * 2 ^ (n - 24 - offset) < 2 ^ n
change_lt n offset x hx h =
    lt_of_lt_of_le (shl_lt 24 (n - 24 - offset) hx) (pow_mono {i = 24 + (n - 24 - offset)} {j = n} (omega arith))

window_inverted : (p : List ℕ) (offset x : ℕ) → Bytes p → Starts p offset → x < 2 ^ 24
    → pattern_added p offset x ≡ inverted p (x * 2 ^ (8 * length p - 24 - offset))
window_inverted p offset x hp s hx =
    inverted_by_number (pattern_added p offset x) p (x * 2 ^ (8 * length p - 24 - offset)) (added-bytes p offset x hp) hp
    (added-length p offset x) (change_lt (8 * length p) offset x hx s.1) (added-number p offset x hp s hx)

-- the part with the pattern added, back in its message
pub placed_back : (m : List ℕ) (e x : ℕ) (ys : List ℕ) → Bytes m → 3 ≤ length m → e ≤ last_window m → x < 2 ^ 24
    → ys ≡ pattern_added (part_at m e) (window_at m e % 8) x
    → put_mid (window_at m e / 8) (length m - window_at m e / 8) m ys ≡ inverted m (x * 2 ^ e)
placed_back m e x ys hm h g hx w =
    let a : ℕ = window_at m e / 8 in
    let within : a ≤ length m = omega arith in
    let place = window_place m e h g in
    let room : 24 + window_at m e % 8 ≤ 8 * length (drop a m) = (window_starts m e h g).1 in
    ap (λ (t : List ℕ). take a m ++ (ys ++ t)) (Post-is a (length m) m within ∙ drop-length m)
    ∙ ap (λ (t : List ℕ). take a m ++ t)
    (append-nil ys ∙ w ∙ ap (λ (p : List ℕ). pattern_added p (window_at m e % 8) x) (part_from a m)
    ∙ window_inverted (drop a m) (window_at m e % 8) x (bytes_drop a m hm) (window_starts m e h g) hx)
    ∙ ap (λ (k : ℕ). take a m ++ inverted (drop a m) (x * 2 ^ k)) place
    ∙ inverted_part a m (x * 2 ^ e) hm within
    (lt_of_lt_of_le (shl_lt 24 e hx) (pow_mono {i = 24 + e} {j = 8 * length (drop a m)} (omega arith)))

-- a shift of 32 bits within 128 loses none
pub shifted_whole : (p e : ℕ) → p < 2 ^ 32 → e < 96 → p * 2 ^ e % 2 ^ 128 ≡ p * 2 ^ e
shifted_whole p e h g = shl_exact 32 e 128 h (omega arith)
