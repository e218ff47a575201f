-- The live records and the places that name them, counted against each other. The idea: unset, one after the other, the live marks
-- of the records that a list names in order; each was live when its turn came, so as many were live as the list is long and
-- then some; and what is live afterwards is what was live and not named.
use mathlib.Core.Path.{◌≡◌, refl, sym, ap, ◌∙◌, subst}
use mathlib.Core.Bool.{Bool, true, false, not, cond, ◌&&◌, ◌||◌}
use mathlib.Core.List.{List, [], ◌∷◌}
use Prim.Native.Nat.{ℕ, zero, suc, ◌+◌, ◌≤◌, ◌<◌}
use native.Mathlib.Nat.{not-suc-le-zero, le_of_suc-le-suc, zero-add}
use native.Mathlib.Omega.{arith}
use lib.Dec.{eqb, ltb}
use lib.ListN.{length, get_or, set, get_or-eq_default}
use lib.Seq.{get_or-set_same, get_or-set_other, set_out}
use borrow.Author.Tests.{eqb-true, eqb-false, eq-eqb, ltb-true, ltb-false}
use Rattle.outcome.proofs.Laws.{never, or_second, both}
use Rattle.rollcall_table.specs.declared.Record.{Record}
use Rattle.rollcall_table.specs.Table.{blank, record_at, address_at, one, live_in, is_next, in_order, unmarked}
use Rattle.rollcall_table.proofs.Along.{next-parts, order_parts}

-- ---- single records

-- a live record lies within
pub live_within : (rs : List Record) (i : ℕ) → (record_at rs i).live ≡ true → i < length rs
live_within rs i e = by (ltb i (length rs)) refl
  where
    by : (b : Bool) → ltb i (length rs) ≡ b → i < length rs
    by true t = ltb-true i (length rs) t
    by false t = absurd (never e (ap (λ (r : Record). r.live) (get_or-eq_default rs blank (ltb-false i (length rs) t))))

pub live_some : (rs : List Record) (i : ℕ) → (record_at rs i).live ≡ true → 1 ≤ live_in rs
unfolding live_in
live_some [] i e = absurd (never e refl)
live_some (r ∷ rs) zero e = subst (λ (b : Bool). 1 ≤ one b + live_in rs) (sym e) (omega arith)
live_some (r ∷ rs) (suc i) e = omega (arith, live_some rs i e)

pub live_none : (rs : List Record) → ((i : ℕ) → (record_at rs i).live ≡ true → ⊥) → live_in rs ≡ 0
unfolding live_in
live_none [] h = refl
live_none (r ∷ rs) h = by r.live refl (live_none rs (λ i. h (suc i)))
  where
    by : (b : Bool) → r.live ≡ b → live_in rs ≡ 0 → one b + live_in rs ≡ 0
    by true e z = absurd (h 0 e)
    by false e z = zero-add (live_in rs) ∙ z

-- ---- one mark set or unset

one_set : (rs : List Record) (q : ℕ) (r : Record) → q < length rs → live_in (set rs q r) + one (record_at rs q).live ≡ live_in rs + one r.live
unfolding live_in
one_set [] q r h = absurd (not-suc-le-zero h)
one_set (p ∷ rs) zero r h = omega arith
one_set (p ∷ rs) (suc q) r h = omega (arith, one_set rs q r (le_of_suc-le-suc h))

-- a live record replaced by a live one, by one that is not, and a free one by a live one
pub same_count : (rs : List Record) (q : ℕ) (r : Record) → (record_at rs q).live ≡ true → r.live ≡ true → live_in (set rs q r) ≡ live_in rs
same_count rs q r e f =
    let s = one_set rs q r (live_within rs q e) in
    let x : one (record_at rs q).live ≡ 1 = ap one e in
    let y : one r.live ≡ 1 = ap one f in
    omega arith

pub less_count : (rs : List Record) (q : ℕ) (r : Record) → (record_at rs q).live ≡ true → r.live ≡ false → live_in (set rs q r) + 1 ≡ live_in rs
less_count rs q r e f =
    let s = one_set rs q r (live_within rs q e) in
    let x : one (record_at rs q).live ≡ 1 = ap one e in
    let y : one r.live ≡ 0 = ap one f in
    omega arith

pub more_count : (rs : List Record) (q : ℕ) (r : Record) → q < length rs → (record_at rs q).live ≡ false → r.live ≡ true → live_in (set rs q r) ≡ live_in rs + 1
more_count rs q r h e f =
    let s = one_set rs q r h in
    let x : one (record_at rs q).live ≡ 0 = ap one e in
    let y : one r.live ≡ 1 = ap one f in
    omega arith

-- ---- the marks of some places unset

unset : List Record → List ℕ → List Record
unset rs [] = rs
unset rs (q ∷ qs) = unset (set rs q (unmarked (record_at rs q))) qs

-- some places name i
pub mem : ℕ → List ℕ → Bool
mem i [] = false
mem i (q ∷ qs) = eqb i q || mem i qs

-- a place that a list in order does not name may be set to anything
pub order_set : (rs : List Record) (least : ℕ) (qs : List ℕ) (q : ℕ) (r : Record) → in_order rs least qs ≡ true → address_at rs q < least → in_order (set rs q r) least qs ≡ true
unfolding in_order
order_set rs least [] q r e h = refl
order_set rs least (p ∷ ps) q r e h =
    let head = order_parts rs least p ps e in
    let up : least ≤ address_at rs p = (next-parts least (record_at rs p) head.0).1.0 in
    let apart : p ≡ q → ⊥ = λ s. absurd (let z : address_at rs p ≡ address_at rs q = ap (λ (k : ℕ). address_at rs k) s in omega arith) in
    let same : record_at (set rs q r) p ≡ record_at rs p = get_or-set_other rs q p r blank apart in
    let tail : in_order (set rs q r) (suc (address_at rs p)) ps ≡ true = order_set rs (suc (address_at rs p)) ps q r head.1 (omega arith) in
    let t₁ : is_next least (record_at (set rs q r) p) ≡ true = ap (is_next least) same ∙ head.0 in
    let t₂ : in_order (set rs q r) (suc (address_at (set rs q r) p)) ps ≡ true = ap (λ (x : Record). in_order (set rs q r) (suc x.address) ps) same ∙ tail in
    ap (λ (b : Bool). b && in_order (set rs q r) (suc (address_at (set rs q r) p)) ps) t₁ ∙ t₂

unset_count : (rs : List Record) (least : ℕ) (qs : List ℕ) → in_order rs least qs ≡ true → live_in (unset rs qs) + length qs ≡ live_in rs
unfolding unset
unset_count rs least [] e = omega arith
unset_count rs least (q ∷ qs) e =
    let head = order_parts rs least q qs e in
    let u : Record = unmarked (record_at rs q) in
    let live : (record_at rs q).live ≡ true = (next-parts least (record_at rs q) head.0).0 in
    let was : one (record_at rs q).live ≡ 1 = ap one live in
    let one' : live_in (set rs q u) + 1 ≡ live_in rs = omega (arith, one_set rs q u (live_within rs q live)) in
    let rest = unset_count (set rs q u) (suc (address_at rs q)) qs (order_set rs (suc (address_at rs q)) qs q u head.1 (omega arith)) in
    omega (arith, one', rest)

and-false : (b : Bool) → (b && false) ≡ false
and-false true = refl
and-false false = refl

-- the record whose mark was unset is not live, wherever it is
unset_here : (rs : List Record) (q : ℕ) → (record_at (set rs q (unmarked (record_at rs q))) q).live ≡ false
unset_here rs q = by (ltb q (length rs)) refl
  where
    by : (b : Bool) → ltb q (length rs) ≡ b → (record_at (set rs q (unmarked (record_at rs q))) q).live ≡ false
    by true t = ap (λ (r : Record). r.live) (get_or-set_same rs q (unmarked (record_at rs q)) blank (ltb-true q (length rs) t))
    by false t =
        let past = ltb-false q (length rs) t in
        ap (λ (l : List Record). (record_at l q).live) (set_out rs q (unmarked (record_at rs q)) past) ∙ ap (λ (r : Record). r.live) (get_or-eq_default rs blank past)

unset_live : (rs : List Record) (qs : List ℕ) (i : ℕ) → (record_at (unset rs qs) i).live ≡ ((record_at rs i).live && not (mem i qs))
unfolding unset mem
unset_live rs [] i = by (record_at rs i).live
  where
    by : (b : Bool) → b ≡ (b && true)
    by true = refl
    by false = refl
unset_live rs (q ∷ qs) i = unset_live (set rs q (unmarked (record_at rs q))) qs i ∙ by (eqb i q) refl
  where
    by : (b : Bool) → eqb i q ≡ b → ((record_at (set rs q (unmarked (record_at rs q))) i).live && not (mem i qs)) ≡ ((record_at rs i).live && not (b || mem i qs))
    by true t =
        let same : i ≡ q = eqb-true i q t in
        ap (λ (b : Bool). b && not (mem i qs)) (ap (λ (k : ℕ). (record_at (set rs q (unmarked (record_at rs q))) k).live) same ∙ unset_here rs q)
        ∙ sym (and-false (record_at rs i).live)
    by false t = ap (λ (r : Record). r.live && not (mem i qs)) (get_or-set_other rs q i (unmarked (record_at rs q)) blank (eqb-false i q t))

-- ---- a list in order names every live record exactly when as many are live as it is long

pub all_named : (rs : List Record) (least : ℕ) (qs : List ℕ) → in_order rs least qs ≡ true → live_in rs ≡ length qs → (i : ℕ) → (record_at rs i).live ≡ true → mem i qs ≡ true
all_named rs least qs e c i l = by (mem i qs) refl
  where
    by : (b : Bool) → mem i qs ≡ b → b ≡ true
    by true t = refl
    by false t =
        let left : (record_at (unset rs qs) i).live ≡ true = unset_live rs qs i ∙ ap (λ (b : Bool). b && not (mem i qs)) l ∙ ap not t in
        absurd (omega (arith, live_some (unset rs qs) i left, unset_count rs least qs e))

pub named_all : (rs : List Record) (least : ℕ) (qs : List ℕ) → in_order rs least qs ≡ true → ((i : ℕ) → (record_at rs i).live ≡ true → mem i qs ≡ true) → live_in rs ≡ length qs
named_all rs least qs e h =
    let none : live_in (unset rs qs) ≡ 0 = live_none (unset rs qs) gone in
    omega (arith, unset_count rs least qs e)
  where
    gone : (i : ℕ) → (record_at (unset rs qs) i).live ≡ true → ⊥
    gone i l =
        let p = both (record_at rs i).live (not (mem i qs)) (sym (unset_live rs qs i) ∙ l) in
        never p.1 (ap not (h i p.0))

-- ---- where a list names i

pub index_of : ℕ → List ℕ → ℕ
index_of i [] = 0
index_of i (q ∷ qs) = cond (eqb i q) 0 (suc (index_of i qs))

pub mem_index : (i : ℕ) (qs : List ℕ) → mem i qs ≡ true → (index_of i qs < length qs) × (get_or qs (index_of i qs) 0 ≡ i)
unfolding mem index_of
mem_index i [] e = absurd (never e refl)
mem_index i (q ∷ qs) e = by (eqb i q) refl e (mem_index i qs)
  where
    by : (b : Bool) → eqb i q ≡ b → (b || mem i qs) ≡ true → (mem i qs ≡ true → (index_of i qs < length qs) × (get_or qs (index_of i qs) 0 ≡ i))
        → (cond b 0 (suc (index_of i qs)) < suc (length qs)) × (get_or (q ∷ qs) (cond b 0 (suc (index_of i qs))) 0 ≡ i)
    by true t f rest = (omega arith, sym (eqb-true i q t))
    by false t f rest = let r = rest f in (omega (arith, r.0), r.1)

pub index_mem : (qs : List ℕ) (k : ℕ) → k < length qs → mem (get_or qs k 0) qs ≡ true
unfolding mem
index_mem [] k h = absurd (not-suc-le-zero h)
index_mem (q ∷ qs) zero h = ap (λ (b : Bool). b || mem q qs) (eq-eqb q q refl)
index_mem (q ∷ qs) (suc k) h = or_second (eqb (get_or qs k 0) q) (mem (get_or qs k 0) qs) (index_mem qs k (le_of_suc-le-suc h))
