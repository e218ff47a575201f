-- The moves of the list of places: each is a copy within the list, and keeps its length.
use mathlib.Core.Path.{◌≡◌, refl, sym, ap, ◌∙◌}
use mathlib.Core.List.{List, [], ◌∷◌, ◌++◌}
use Prim.Native.Nat.{ℕ, zero, suc, ◌+◌, ◌-◌, ◌≤◌, ◌<◌}
use native.Mathlib.Nat.{not-suc-le-zero, le_of_suc-le-suc, zero-add, suc-add}
use native.Mathlib.Numerals.{add-one}
use native.Mathlib.Omega.{arith}
use lib.ListN.{length, set, take, drop}
use lib.Seq.{paste}
use Rattle.std.specs.List.{copy_within}
use Rattle.rollcall_plans.specs.Calls.{push, pull, opened, closed}

-- ---- the list opened

push_copies : (m p : ℕ) (ps : List ℕ) → m ≤ length ps → push m p ps ≡ take m (p ∷ ps) ++ drop m ps
unfolding push
push_copies zero p ps h = refl
push_copies (suc m) p [] h = absurd (not-suc-le-zero h)
push_copies (suc m) p (q ∷ qs) h = ap (p ∷◌) (push_copies m q qs (le_of_suc-le-suc h))

open_copies : (k m v : ℕ) (ps : List ℕ) → k + m < length ps → opened k (suc m) v ps ≡ set (paste ps (suc k) (drop k ps) m) k v
unfolding opened push
open_copies zero m v [] h = absurd (not-suc-le-zero h)
open_copies zero m v (p ∷ ps) h =
    let e : suc zero + m ≡ suc m = omega arith in
    ap (v ∷◌) (push_copies m p ps (omega arith)) ∙ ap (λ (i : ℕ). v ∷ (take m (p ∷ ps) ++ drop i (p ∷ ps))) (sym e)
open_copies (suc k) m v [] h = absurd (not-suc-le-zero h)
open_copies (suc k) m v (p ∷ ps) h =
    let e : suc (suc k) + m ≡ suc (suc k + m) = suc-add (suc k) m in
    ap (p ∷◌) (open_copies k m v ps (omega (arith, h))) ∙ ap (λ (i : ℕ). p ∷ set ((take (suc k) ps ++ take m (drop k ps)) ++ drop i (p ∷ ps)) k v) (sym e)

pub entered : (ps : List ℕ) (k n v : ℕ) → k ≤ n → n < length ps → set (copy_within ps k n (k + 1)) k v ≡ opened k (n + 1 - k) v ps
entered ps k n v h l =
    let m : n + 1 - k ≡ suc (n - k) = omega arith in
    ap (λ (i : ℕ). set (paste ps i (drop k ps) (n - k)) k v) (add-one k) ∙ sym (open_copies k (n - k) v ps (omega arith)) ∙ ap (λ (i : ℕ). opened k i v ps) (sym m)

-- ---- the list closed

pull_copies : (m p : ℕ) (ps : List ℕ) → m ≤ length ps → pull m (p ∷ ps) ≡ take m ps ++ drop m (p ∷ ps)
unfolding pull
pull_copies zero p ps h = refl
pull_copies (suc m) p [] h = absurd (not-suc-le-zero h)
pull_copies (suc m) p (q ∷ qs) h = ap (q ∷◌) (pull_copies m q qs (le_of_suc-le-suc h))

close_copies : (k m : ℕ) (ps : List ℕ) → k + m < length ps → closed k m ps ≡ paste ps k (drop (suc k) ps) m
unfolding closed pull
close_copies zero m [] h = absurd (not-suc-le-zero h)
close_copies zero m (p ∷ ps) h = pull_copies m p ps (omega (arith, h)) ∙ ap (λ (i : ℕ). take m ps ++ drop i (p ∷ ps)) (sym (zero-add m))
close_copies (suc k) m [] h = absurd (not-suc-le-zero h)
close_copies (suc k) m (p ∷ ps) h =
    ap (p ∷◌) (close_copies k m ps (omega (arith, h))) ∙ ap (λ (i : ℕ). p ∷ ((take k ps ++ take m (drop (suc k) ps)) ++ drop i (p ∷ ps))) (sym (suc-add k m))

pub left : (ps : List ℕ) (k n : ℕ) → k < n → n ≤ length ps → copy_within ps (k + 1) n k ≡ closed k (n - 1 - k) ps
left ps k n h l =
    let m : n - (k + 1) ≡ n - 1 - k = omega arith in
    ap (λ (i : ℕ). paste ps k (drop i ps) (n - (k + 1))) (add-one k) ∙ ap (λ (i : ℕ). paste ps k (drop (suc k) ps) i) m ∙ sym (close_copies k (n - 1 - k) ps (omega arith))

-- ---- lengths

push-length : (m v : ℕ) (ps : List ℕ) → length (push m v ps) ≡ length ps
unfolding push
push-length zero v ps = refl
push-length (suc m) v [] = refl
push-length (suc m) v (p ∷ ps) = ap suc (push-length m p ps)

pub open-length : (i m v : ℕ) (ps : List ℕ) → length (opened i m v ps) ≡ length ps
unfolding opened
open-length zero m v ps = push-length m v ps
open-length (suc i) m v [] = refl
open-length (suc i) m v (p ∷ ps) = ap suc (open-length i m v ps)

pull-length : (m : ℕ) (ps : List ℕ) → length (pull m ps) ≡ length ps
unfolding pull
pull-length zero ps = refl
pull-length (suc m) [] = refl
pull-length (suc m) (p ∷ []) = refl
pull-length (suc m) (p ∷ q ∷ ps) = ap suc (pull-length m (q ∷ ps))

pub close_length : (i m : ℕ) (ps : List ℕ) → length (closed i m ps) ≡ length ps
unfolding closed
close_length zero m ps = pull-length m ps
close_length (suc i) m [] = refl
close_length (suc i) m (p ∷ ps) = ap suc (close_length i m ps)
