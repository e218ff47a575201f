-- The table as a map: what each call does to it. The idea: a map goes by which records hold an address, and each call changes
-- that at one place.
use mathlib.Core.Path.{◌≡◌, refl, sym, ap, ◌∙◌}
use mathlib.Core.Bool.{Bool, true, false, cond, ◌&&◌}
use mathlib.Core.List.{List, [], ◌∷◌}
use mathlib.Core.Logic.{◌⊎◌, inl, inr}
use mathlib.Core.Option.{Option, none, some}
use Prim.Native.Nat.{ℕ, zero, suc, ◌<◌}
use native.Mathlib.Omega.{arith}
use lib.Dec.{eqb, ltb}
use lib.ListN.{length, set}
use lib.Seq.{get_or-set_same, get_or-set_other}
use borrow.Author.Tests.{eqb-true, eqb-false, eq-eqb, ne_eqb, ltb-true, ltb-false, lt-ltb, le-ltb}
use Rattle.outcome.proofs.Laws.{never}
use Rattle.rollcall_table.specs.declared.Record.{Record}
use Rattle.rollcall_table.specs.Table.{blank, record_at, address_at, holds, holder, is_in, unmarked, unmarked_all}
use Rattle.rollcall_table.proofs.Laws.{live_within, in_holds, holds_in, holds_parts}
use Rattle.rollcall_meaning.specs.Maps.{Value, value_of, map_of, is_some}

-- ---- the map by the place of the address

ltb_suc : (x y : ℕ) → ltb (suc x) (suc y) ≡ ltb x y
ltb_suc x y = by (ltb x y) refl
  where
    by : (b : Bool) → ltb x y ≡ b → ltb (suc x) (suc y) ≡ b
    by true t = lt-ltb (suc x) (suc y) (omega (arith, ltb-true x y t))
    by false t = le-ltb (suc x) (suc y) (omega (arith, ltb-false x y t))

pub map_is : (rs : List Record) (a : ℕ) → map_of rs a ≡ cond (is_in rs a) (some (value_of (record_at rs (holder rs a)))) none
unfolding map_of holder
map_is [] a = refl
map_is (r ∷ rs) a = by (holds r a) (map_is rs a)
  where
    by : (b : Bool) → map_of rs a ≡ cond (is_in rs a) (some (value_of (record_at rs (holder rs a)))) none
        → cond b (some (value_of r)) (map_of rs a) ≡ cond (ltb (cond b 0 (suc (holder rs a))) (suc (length rs))) (some (value_of (record_at (r ∷ rs) (cond b 0 (suc (holder rs a)))))) none
    by true e = ap (λ (b : Bool). cond b (some (value_of r)) none) (sym (lt-ltb 0 (suc (length rs)) (omega arith)))
    by false e = e ∙ ap (λ (b : Bool). cond b (some (value_of (record_at rs (holder rs a)))) none) (sym (ltb_suc (holder rs a) (length rs)))

pub map_some : (rs : List Record) (a : ℕ) → is_in rs a ≡ true → map_of rs a ≡ some (value_of (record_at rs (holder rs a)))
map_some rs a e = map_is rs a ∙ ap (λ (b : Bool). cond b (some (value_of (record_at rs (holder rs a)))) none) e

pub map-none : (rs : List Record) (a : ℕ) → is_in rs a ≡ false → map_of rs a ≡ none
map-none rs a e = map_is rs a ∙ ap (λ (b : Bool). cond b (some (value_of (record_at rs (holder rs a)))) none) e

pub some_in : (rs : List Record) (a : ℕ) → is_some (map_of rs a) ≡ is_in rs a
some_in rs a = ap is_some (map_is rs a) ∙ by (is_in rs a)
  where
    by : (b : Bool) → is_some (cond b (some (value_of (record_at rs (holder rs a)))) none) ≡ b
    by true = refl
    by false = refl

pub none_in : (rs : List Record) (a : ℕ) → map_of rs a ≡ none → is_in rs a ≡ false
none_in rs a e = sym (some_in rs a) ∙ ap is_some e

-- ---- one place set

-- an address that neither the old record nor the new one holds
map_other : (rs : List Record) (p b : ℕ) (r : Record) → holds (record_at rs p) b ≡ false → holds r b ≡ false → map_of (set rs p r) b ≡ map_of rs b
unfolding map_of
map_other [] p b r x y = refl
map_other (q ∷ rs) zero b r x y = ap (λ (t : Bool). cond t (some (value_of r)) (map_of rs b)) y ∙ sym (ap (λ (t : Bool). cond t (some (value_of q)) (map_of rs b)) x)
map_other (q ∷ rs) (suc p) b r x y = ap (λ (m : Option Value). cond (holds q b) (some (value_of q)) m) (map_other rs p b r x y)

-- an address that no record holds
nowhere-none : (rs : List Record) (a : ℕ) → ((i : ℕ) → holds (record_at rs i) a ≡ true → ⊥) → map_of rs a ≡ none
nowhere-none rs a h = by (is_in rs a) refl
  where
    by : (b : Bool) → is_in rs a ≡ b → map_of rs a ≡ none
    by true e = absurd (h (holder rs a) (in_holds rs a e))
    by false e = map-none rs a e

-- an address that one record alone holds
here_some : (rs : List Record) (a p : ℕ) → holds (record_at rs p) a ≡ true → ((i : ℕ) → holds (record_at rs i) a ≡ true → i ≡ p) → map_of rs a ≡ some (value_of (record_at rs p))
here_some rs a p x h =
    let e = holds_in rs a p x in
    map_some rs a e ∙ ap (λ (i : ℕ). some (value_of (record_at rs i))) (h (holder rs a) (in_holds rs a e))

not_address : (r : Record) (a b : ℕ) → r.address ≡ a → (b ≡ a → ⊥) → holds r b ≡ false
not_address r a b e ne = by r.live
  where
    apart : eqb r.address b ≡ false
    apart = ne_eqb r.address b (λ s. ne (sym s ∙ e))

    by : (l : Bool) → (l && eqb r.address b) ≡ false
    by true = apart
    by false = refl

not_live : (r : Record) (b : ℕ) → r.live ≡ false → holds r b ≡ false
not_live r b e = ap (λ (l : Bool). l && eqb r.address b) e

-- the place that add or renew writes: the address's, or one that is free
module _ (rs : List Record) (a p : ℕ) (r : Record) (within : p < length rs) (live : r.live ≡ true) (its : r.address ≡ a) where
  put-here : record_at (set rs p r) p ≡ r
  put-here = get_or-set_same rs p r blank within

  put_holds : holds (record_at (set rs p r) p) a ≡ true
  put_holds = ap (λ (x : Record). holds x a) put-here ∙ ap (λ (l : Bool). l && eqb r.address a) live ∙ eq-eqb r.address a its

  pub put_map : (holds (record_at rs p) a ≡ true) ⊎ ((record_at rs p).live ≡ false) → ((i : ℕ) → holds (record_at rs i) a ≡ true → i ≡ p) → (b : ℕ) → map_of (set rs p r) b ≡ cond (eqb b a) (some (value_of r)) (map_of rs b)
  put_map old one b = by (eqb b a) refl
    where
      only : (i : ℕ) → holds (record_at (set rs p r) i) a ≡ true → i ≡ p
      only i x = at (eqb i p) refl
        where
          at : (t : Bool) → eqb i p ≡ t → i ≡ p
          at true t = eqb-true i p t
          at false t = one i (sym (ap (λ (y : Record). holds y a) (get_or-set_other rs p i r blank (eqb-false i p t))) ∙ x)

      old-not : (b ≡ a → ⊥) → holds (record_at rs p) b ≡ false
      old-not ne = case old
        where
          case : (holds (record_at rs p) a ≡ true) ⊎ ((record_at rs p).live ≡ false) → holds (record_at rs p) b ≡ false
          case (inl x) = not_address (record_at rs p) a b (holds_parts (record_at rs p) a x).1 ne
          case (inr x) = not_live (record_at rs p) b x

      by : (t : Bool) → eqb b a ≡ t → map_of (set rs p r) b ≡ cond t (some (value_of r)) (map_of rs b)
      by true t =
          let s : b ≡ a = eqb-true b a t in
          ap (map_of (set rs p r)) s ∙ here_some (set rs p r) a p put_holds only ∙ ap (λ (x : Record). some (value_of x)) put-here
      by false t = map_other rs p b r (old-not (eqb-false b a t)) (not_address r a b its (eqb-false b a t))

-- ---- remove

pub remove-map : (rs : List Record) (a : ℕ) → is_in rs a ≡ true → ((i : ℕ) → holds (record_at rs i) a ≡ true → i ≡ holder rs a) → (b : ℕ) → map_of (set rs (holder rs a) (unmarked (record_at rs (holder rs a)))) b ≡ cond (eqb b a) none (map_of rs b)
remove-map rs a e one b = by (eqb b a) refl
  where
    h : ℕ
    h = holder rs a

    u : Record
    u = unmarked (record_at rs h)

    held : ((record_at rs (holder rs a)).live ≡ true) × (address_at rs (holder rs a) ≡ a)
    held = holds_parts (record_at rs (holder rs a)) a (in_holds rs a e)

    gone : (i : ℕ) → holds (record_at (set rs h u) i) a ≡ true → ⊥
    gone i x = at (eqb i h) refl
      where
        at : (t : Bool) → eqb i h ≡ t → ⊥
        at true t =
            let s : i ≡ h = eqb-true i h t in
            never x (ap (λ (k : ℕ). holds (record_at (set rs h u) k) a) s ∙ ap (λ (y : Record). holds y a) (get_or-set_same rs h u blank (live_within rs h held.0)))
        at false t = eqb-false i h t (one i (sym (ap (λ (y : Record). holds y a) (get_or-set_other rs h i u blank (eqb-false i h t))) ∙ x))

    by : (t : Bool) → eqb b a ≡ t → map_of (set rs h u) b ≡ cond t none (map_of rs b)
    by true t = ap (map_of (set rs h u)) (eqb-true b a t) ∙ nowhere-none (set rs h u) a gone
    by false t = map_other rs h b u (not_address (record_at rs h) a b held.1 (eqb-false b a t)) refl

-- ---- clear

pub clear-map : (rs : List Record) (b : ℕ) → map_of (unmarked_all rs) b ≡ none
unfolding map_of
clear-map [] b = refl
clear-map (r ∷ rs) b = clear-map rs b
