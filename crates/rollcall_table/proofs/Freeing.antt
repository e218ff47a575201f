-- The lowest free place: it is free, and there is none exactly where every place is live.
use mathlib.Core.Path.{◌≡◌, refl}
use mathlib.Core.Bool.{Bool, true, false, cond}
use mathlib.Core.List.{List, [], ◌∷◌}
use Prim.Native.Nat.{ℕ, zero, suc, ◌+◌, ◌≤◌, ◌<◌}
use native.Mathlib.Nat.{not-suc-le-zero, le_of_suc-le-suc}
use native.Mathlib.Omega.{arith}
use lib.ListN.{length}
use Rattle.rollcall_table.specs.declared.Record.{Record}
use Rattle.rollcall_table.specs.Table.{record_at, one, live_in, free_place}

pub free_is : (rs : List Record) → free_place rs < length rs → (record_at rs (free_place rs)).live ≡ false
unfolding free_place
free_is [] h = absurd (not-suc-le-zero h)
free_is (r ∷ rs) h = by r.live refl (free_is rs) h
  where
    by : (b : Bool) → r.live ≡ b → (free_place rs < length rs → (record_at rs (free_place rs)).live ≡ false) → cond b (suc (free_place rs)) 0 < suc (length rs) → (record_at (r ∷ rs) (cond b (suc (free_place rs)) 0)).live ≡ false
    by true e rest h = rest (le_of_suc-le-suc h)
    by false e rest h = e

pub free_first : (rs : List Record) (i : ℕ) → i < free_place rs → (record_at rs i).live ≡ true
unfolding free_place
free_first [] i h = absurd (not-suc-le-zero h)
free_first (r ∷ rs) i h = by r.live refl (free_first rs) i h
  where
    by : (b : Bool) → r.live ≡ b → ((i : ℕ) → i < free_place rs → (record_at rs i).live ≡ true) → (i : ℕ) → i < cond b (suc (free_place rs)) 0 → (record_at (r ∷ rs) i).live ≡ true
    by true e rest zero h = e
    by true e rest (suc i) h = rest i (le_of_suc-le-suc h)
    by false e rest i h = absurd (not-suc-le-zero h)

-- with a free place fewer are live than there are, and without one as many
pub free_fewer : (rs : List Record) → free_place rs < length rs → live_in rs < length rs
unfolding free_place live_in
free_fewer [] h = absurd (not-suc-le-zero h)
free_fewer (r ∷ rs) h = by r.live (free_fewer rs) (most rs) h
  where
    most : (rs : List Record) → live_in rs ≤ length rs
    most [] = omega arith
    most (r ∷ rs) = bit r.live (most rs)
      where
        bit : (b : Bool) → live_in rs ≤ length rs → one b + live_in rs ≤ suc (length rs)
        bit true h = omega arith
        bit false h = omega arith

    by : (b : Bool) → (free_place rs < length rs → live_in rs < length rs) → live_in rs ≤ length rs → cond b (suc (free_place rs)) 0 < suc (length rs) → one b + live_in rs < suc (length rs)
    by true rest m h = omega (arith, rest (le_of_suc-le-suc h))
    by false rest m h = omega arith

pub full : (rs : List Record) → length rs ≤ free_place rs → live_in rs ≡ length rs
unfolding free_place live_in
full [] h = refl
full (r ∷ rs) h = by r.live (full rs) h
  where
    by : (b : Bool) → (length rs ≤ free_place rs → live_in rs ≡ length rs) → suc (length rs) ≤ cond b (suc (free_place rs)) 0 → one b + live_in rs ≡ suc (length rs)
    by true rest h = omega (arith, rest (le_of_suc-le-suc h))
    by false rest h = absurd (not-suc-le-zero h)
