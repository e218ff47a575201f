-- The reflected Gray code.
use Rattle.std.specs.Prelude.{ℕ, zero, suc, ◌+◌, ◌-◌, ◌^◌, cond, ltb}

-- The reflected Gray code of the number g in w bits, width by width: the code of w + 1 bits is the code of w bits with a 0 in
-- front, and then the same in reverse order with a 1 in front.
unfoldable pub gray : ℕ → ℕ → ℕ
gray zero g = 0
gray (suc w) g = cond (ltb g (2 ^ w)) (gray w g) (2 ^ w + gray w (2 ^ suc w - 1 - g))

-- The number whose code in w bits is v: a code with a 0 in front is in the first half, one with a 1 in the reversed half.
unfoldable pub gray_number : ℕ → ℕ → ℕ
gray_number zero v = 0
gray_number (suc w) v = cond (ltb v (2 ^ w)) (gray_number w v) (2 ^ suc w - 1 - gray_number w (v - 2 ^ w))
