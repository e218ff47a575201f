-- Small facts about tests, numbers and parts of lists that proofs everywhere need.
use mathlib.Core.Path.{◌≡◌, refl, sym, ◌∙◌}
use mathlib.Core.Bool.{Bool, true, false, ◌||◌, true≢false}
use mathlib.Core.List.{List}
use mathlib.Core.Logic.{◌⊎◌, inl, inr}
use Prim.Native.Nat.{ℕ, zero, suc, ◌-◌, ◌<◌}
use native.Mathlib.Nat.{zero-lt-suc, le_of_eq}
use lib.ListN.{length, take, drop, length-drop}
use lib.Seq.{take_all}

-- a test is not passed and failed
pub never : {t : Bool} → t ≡ true → t ≡ false → ⊥
never a b = true≢false (sym a ∙ b)

pub or_cases : (a b : Bool) → (a || b) ≡ true → (a ≡ true) ⊎ (b ≡ true)
or_cases true b e = inl refl
or_cases false b e = inr e

pub or_second : (a b : Bool) → b ≡ true → (a || b) ≡ true
or_second true b e = refl
or_second false b e = e

pub positive : (n : ℕ) → (n ≡ 0 → ⊥) → 0 < n
positive zero h = absurd (h refl)
positive (suc n) h = zero-lt-suc n

-- the part of a list from a place to its end, which is what a proof sees of `&s[a..]`
pub part_from : (a : ℕ) (l : List ℕ) → take (length l - a) (drop a l) ≡ drop a l
part_from a l = take_all (length l - a) (drop a l) (le_of_eq (length-drop a l))
