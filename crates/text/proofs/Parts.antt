-- Reading a list from a place on, and picking by a test.
use mathlib.Core.Path.{◌≡◌, sym, ap, ◌∙◌}
use mathlib.Core.Bool.{Bool, true, false, cond}
use mathlib.Core.List.{List, [], ◌∷◌}
use Prim.Native.Nat.{ℕ, ◌+◌, ◌<◌, ◌≤◌}
use native.Mathlib.Numerals.{add-one}
use lib.ListN.{length, get_or, drop, drop_of_length-le}
use lib.Seq.{drop-cons}

-- what is left at a place is the byte there and what is left at the next
pub next_byte : (s : List ℕ) (i : ℕ) → i < length s → drop i s ≡ get_or s i 0 ∷ drop (i + 1) s
next_byte s i h = drop-cons s i 0 h ∙ ap (λ (n : ℕ). get_or s i 0 ∷ drop n s) (sym (add-one i))

pub no_more : (s : List ℕ) (i : ℕ) → length s ≤ i → drop i s ≡ []
no_more s i h = drop_of_length-le s h

pub picked : {A : Type 0} (t : Bool) (a b : A) → t ≡ true → cond t a b ≡ a
picked t a b e = ap (λ (t : Bool). cond t a b) e

pub passed_over : {A : Type 0} (t : Bool) (a b : A) → t ≡ false → cond t a b ≡ b
passed_over t a b e = ap (λ (t : Bool). cond t a b) e
