-- The bytes kept of a line: its first 68, in an array of 68.
use mathlib.Core.Path.{◌≡◌, refl, sym, ap, ◌∙◌}
use mathlib.Core.Bool.{Bool, true, false}
use mathlib.Core.List.{List, [], ◌∷◌, ◌++◌}
use Prim.Native.Nat.{ℕ, ◌+◌, ◌<◌, ◌≤◌, min}
use native.Mathlib.Omega.{arith}
use lib.ListN.{length, take, set, length-append}
use lib.Seq.{take_all, take_at, length-take-le}
use lib.Dec.{ltb}
use borrow.Author.Tests.{ltb-true, ltb-false}
use Rattle.std.proofs.lemmas.Grind.{take-set_at}

-- a byte that the array has room for
pub byte_kept : (kept : List ℕ) (size b : ℕ) → length kept ≡ 68 → size < 68 → take (size + 1) (set kept size b) ≡ take 68 (take size kept ++ b ∷ [])
byte_kept kept size b all h =
    let line : List ℕ = take size kept ++ b ∷ [] in
    let whole : length line ≡ size + 1 = omega (arith, length-append (take size kept) (b ∷ []), length-take-le size kept (omega arith)) in
    take-set_at kept size (size + 1) b refl (omega arith) ∙ sym (take_all 68 line (omega arith))

-- a full array stays as it is
pub byte_dropped : (kept : List ℕ) (size b : ℕ) → length kept ≡ 68 → 68 ≤ size → take size kept ≡ take 68 (take size kept ++ b ∷ [])
byte_dropped kept size b all h =
    let same : take size kept ≡ kept = take_all size kept (omega arith) in
    same ∙ sym (ap (λ (l : List ℕ). take 68 (l ++ b ∷ [])) same ∙ take_at kept (b ∷ []) 68 all)

pub ruleset keeping = (byte_kept, byte_dropped)

-- a size that names more bytes than there are
pub line_taken : (kept : List ℕ) (size n : ℕ) → length kept ≡ 68 → n ≡ min size 68 → take n kept ≡ take size kept
line_taken kept size n all e = cases (ltb size 68) refl
  where
    cases : (t : Bool) → ltb size 68 ≡ t → take n kept ≡ take size kept
    cases true f = ap (λ (m : ℕ). take m kept) (omega (arith, ltb-true size 68 f))
    cases false f =
        let full : 68 ≤ size = ltb-false size 68 f in
        take_all n kept (omega arith) ∙ sym (take_all size kept (omega arith))
