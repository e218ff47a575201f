-- A list in order stays so when one of its entries leaves it, and when an address enters it where the search says.
use mathlib.Core.Path.{◌≡◌, refl, sym, ap, ◌∙◌, subst}
use mathlib.Core.Bool.{Bool, true, false, cond}
use mathlib.Core.List.{List, [], ◌∷◌}
use Prim.Native.Nat.{ℕ, zero, suc, ◌+◌, ◌≤◌, ◌<◌}
use native.Mathlib.Nat.{not-suc-le-zero, le_of_suc-le-suc, le_trans, zero-add, suc-add}
use native.Mathlib.Omega.{arith}
use lib.Dec.{ltb}
use lib.ListN.{length, get_or, set, take}
use lib.Seq.{get_or-set_same, get_or-set_other}
use borrow.Author.Tests.{ltb-true, ltb-false}
use Rattle.outcome.proofs.Laws.{never}
use Rattle.message.specs.Message.{is_word}
use Rattle.rollcall_table.specs.declared.Record.{Record}
use Rattle.rollcall_table.specs.Table.{blank, record_at, address_at, is_next, in_order, holds, below}
use Rattle.rollcall_table.proofs.Laws.{next-parts, order_parts, in_order_lem, is_next_lem, is_held_lem, from_least, order_set}
use Rattle.rollcall_plans.specs.Calls.{push, pull, opened, closed}

-- ---- from another least address on

pub order_from : (rs : List Record) (least least' : ℕ) (qs : List ℕ) → least' ≤ least → in_order rs least qs ≡ true → in_order rs least' qs ≡ true
unfolding in_order
order_from rs least least' [] h e = refl
order_from rs least least' (q ∷ qs) h e =
    let o = order_parts rs least q qs e in
    let n = next-parts least (record_at rs q) o.0 in
    in_order_lem rs least' q qs (is_next_lem least' (record_at rs q) n.0 (le_trans h n.1.0) n.1.1) o.1

-- ---- other records

-- a place that is not live is not named, and may be set to anything
pub order_free : (rs : List Record) (least : ℕ) (qs : List ℕ) (f : ℕ) (r : Record) → (record_at rs f).live ≡ false → in_order rs least qs ≡ true → in_order (set rs f r) least qs ≡ true
unfolding in_order
order_free rs least [] f r d e = refl
order_free rs least (q ∷ qs) f r d e =
    let o = order_parts rs least q qs e in
    let same = other rs f q r d (next-parts least (record_at rs q) o.0).0 in
    in_order_lem (set rs f r) least q qs (ap (is_next least) same ∙ o.0)
    (ap (λ (x : Record). in_order (set rs f r) (suc x.address) qs) same ∙ order_free rs (suc (address_at rs q)) qs f r d o.1)
  where
    other : (rs : List Record) (f q : ℕ) (r : Record) → (record_at rs f).live ≡ false → (record_at rs q).live ≡ true → record_at (set rs f r) q ≡ record_at rs q
    other rs f q r d l = get_or-set_other rs f q r blank (λ s. never l (ap (λ (k : ℕ). (record_at rs k).live) s ∙ d))

-- the order goes by live marks and addresses alone
pub order_same : (rs rs' : List Record) (least : ℕ) (qs : List ℕ) → ((q : ℕ) → ((record_at rs' q).live ≡ (record_at rs q).live) × (address_at rs' q ≡ address_at rs q)) → in_order rs least qs ≡ true → in_order rs' least qs ≡ true
unfolding in_order
order_same rs rs' least [] h e = refl
order_same rs rs' least (q ∷ qs) h e =
    let o = order_parts rs least q qs e in
    let n = next-parts least (record_at rs q) o.0 in
    let a : address_at rs' q ≡ address_at rs q = (h q).1 in
    in_order_lem rs' least q qs
    (is_next_lem least (record_at rs' q) ((h q).0 ∙ n.0) (subst (λ (k : ℕ). least ≤ k) (sym a) n.1.0) (ap is_word a ∙ n.1.1))
    (ap (λ (k : ℕ). in_order rs' (suc k) qs) a ∙ order_same rs rs' (suc (address_at rs q)) qs h o.1)

-- ---- an entry leaves

pub delete : ℕ → List ℕ → List ℕ
delete k [] = []
delete zero (q ∷ qs) = qs
delete (suc k) (q ∷ qs) = q ∷ delete k qs

pub order_delete : (rs : List Record) (least k : ℕ) (qs : List ℕ) (r : Record) → k < length qs → in_order rs least qs ≡ true → in_order (set rs (get_or qs k 0) r) least (delete k qs) ≡ true
unfolding delete
order_delete rs least k [] r h e = absurd (not-suc-le-zero h)
order_delete rs least zero (q ∷ qs) r h e =
    let o = order_parts rs least q qs e in
    let up : least ≤ address_at rs q = (next-parts least (record_at rs q) o.0).1.0 in
    order_from (set rs q r) (suc (address_at rs q)) least qs (omega arith) (order_set rs (suc (address_at rs q)) qs q r o.1 (omega arith))
order_delete rs least (suc k) (q ∷ qs) r h e =
    let o = order_parts rs least q qs e in
    let p = get_or qs k 0 in
    let up : suc (address_at rs q) ≤ address_at rs (get_or qs k 0) = from_least rs (suc (address_at rs q)) qs k o.1 (le_of_suc-le-suc h) in
    let apart : q ≡ get_or qs k 0 → ⊥ = λ s. absurd (let z : address_at rs q ≡ address_at rs (get_or qs k 0) = ap (λ (k : ℕ). address_at rs k) s in omega arith) in
    let same : record_at (set rs (get_or qs k 0) r) q ≡ record_at rs q = get_or-set_other rs (get_or qs k 0) q r blank apart in
    in_order_lem (set rs (get_or qs k 0) r) least q (delete k qs) (ap (is_next least) same ∙ o.0)
    (ap (λ (x : Record). in_order (set rs (get_or qs k 0) r) (suc x.address) (delete k qs)) same ∙ order_delete rs (suc (address_at rs q)) k qs r (le_of_suc-le-suc h) o.1)

pull-take : (m : ℕ) (ps : List ℕ) → m < length ps → take m (pull m ps) ≡ delete 0 (take (suc m) ps)
unfolding pull delete
pull-take zero [] h = refl
pull-take zero (p ∷ ps) h = refl
pull-take (suc m) [] h = absurd (not-suc-le-zero h)
pull-take (suc m) (p ∷ []) h = absurd (not-suc-le-zero (le_of_suc-le-suc h))
pull-take (suc m) (p ∷ q ∷ ps) h = ap (q ∷◌) (pull-take m (q ∷ ps) (le_of_suc-le-suc h) ∙ first m q ps)
  where
    first : (m q : ℕ) (ps : List ℕ) → delete 0 (take (suc m) (q ∷ ps)) ≡ take m ps
    first m q ps = refl

pub close_take : (k m : ℕ) (ps : List ℕ) → k + m < length ps → take (k + m) (closed k m ps) ≡ delete k (take (suc (k + m)) ps)
unfolding closed delete
close_take zero m ps h = subst (λ (z : ℕ). take z (pull m ps) ≡ delete 0 (take (suc z) ps)) (sym (zero-add m)) (pull-take m ps (omega arith))
close_take (suc k) m [] h = absurd (not-suc-le-zero h)
close_take (suc k) m (p ∷ ps) h =
    subst (λ (z : ℕ). take z (p ∷ closed k m ps) ≡ delete (suc k) (take (suc z) (p ∷ ps))) (sym (suc-add k m)) (ap (p ∷◌) (close_take k m ps (omega (arith, h))))

-- ---- an address enters

pub insert : ℕ → ℕ → List ℕ → List ℕ
insert zero f qs = f ∷ qs
insert (suc k) f [] = f ∷ []
insert (suc k) f (q ∷ qs) = q ∷ insert k f qs

pub order_insert : (rs : List Record) (least a f : ℕ) (qs : List ℕ) (r : Record) → f < length rs → (record_at rs f).live ≡ false → r.live ≡ true → r.address ≡ a → is_word a ≡ true → least ≤ a
    → ((q : ℕ) → holds (record_at rs q) a ≡ true → ⊥) → in_order rs least qs ≡ true → in_order (set rs f r) least (insert (below rs a qs) f qs) ≡ true
unfolding insert below in_order
order_insert rs least a f [] r h d l ea w m new e = here rs least a f r h l ea w m
  where
    here : (rs : List Record) (least a f : ℕ) (r : Record) → f < length rs → r.live ≡ true → r.address ≡ a → is_word a ≡ true → least ≤ a → in_order (set rs f r) least (f ∷ []) ≡ true
    here rs least a f r h l ea w m =
        let same : record_at (set rs f r) f ≡ r = get_or-set_same rs f r blank h in
        in_order_lem (set rs f r) least f [] (ap (is_next least) same ∙ is_next_lem least r l (subst (λ (k : ℕ). least ≤ k) (sym ea) m) (ap is_word ea ∙ w)) refl
order_insert rs least a f (q ∷ qs) r h d l ea w m new e = by (ltb (address_at rs q) a) refl (order_insert rs (suc (address_at rs q)) a f qs r h d l ea w)
  where
    o : (is_next least (record_at rs q) ≡ true) × (in_order rs (suc (address_at rs q)) qs ≡ true)
    o = order_parts rs least q qs e

    n : ((record_at rs q).live ≡ true) × ((least ≤ address_at rs q) × (is_word (address_at rs q) ≡ true))
    n = next-parts least (record_at rs q) o.0

    other : record_at (set rs f r) q ≡ record_at rs q
    other = get_or-set_other rs f q r blank (λ s. never n.0 (ap (λ (k : ℕ). (record_at rs k).live) s ∙ d))

    by : (b : Bool) → ltb (address_at rs q) a ≡ b → (suc (address_at rs q) ≤ a → ((q : ℕ) → holds (record_at rs q) a ≡ true → ⊥) → in_order rs (suc (address_at rs q)) qs ≡ true → in_order (set rs f r) (suc (address_at rs q)) (insert (below rs a qs) f qs) ≡ true)
        → in_order (set rs f r) least (insert (cond b (suc (below rs a qs)) 0) f (q ∷ qs)) ≡ true
    by true t rest =
        in_order_lem (set rs f r) least q (insert (below rs a qs) f qs) (ap (is_next least) other ∙ o.0)
        (ap (λ (x : Record). in_order (set rs f r) (suc x.address) (insert (below rs a qs) f qs)) other ∙ rest (ltb-true (address_at rs q) a t) new o.1)
    by false t rest =
        let same : record_at (set rs f r) f ≡ r = get_or-set_same rs f r blank h in
        let apart : address_at rs q ≡ a → ⊥ = λ s. new q (is_held_lem (record_at rs q) a n.0 s) in
        let up : suc a ≤ address_at rs q = above (address_at rs q) a (ltb-false (address_at rs q) a t) apart in
        in_order_lem (set rs f r) least f (q ∷ qs) (ap (is_next least) same ∙ is_next_lem least r l (subst (λ (k : ℕ). least ≤ k) (sym ea) m) (ap is_word ea ∙ w))
        (ap (λ (k : ℕ). in_order (set rs f r) (suc k) (q ∷ qs)) (ap (λ (x : Record). x.address) same ∙ ea)
        ∙ order_free rs (suc a) (q ∷ qs) f r d (in_order_lem rs (suc a) q qs (is_next_lem (suc a) (record_at rs q) n.0 up n.1.1) o.1))
      where
        above : (x a : ℕ) → a ≤ x → (x ≡ a → ⊥) → suc a ≤ x
        above x a h ne = pick (ltb a x) refl
          where
            pick : (b : Bool) → ltb a x ≡ b → suc a ≤ x
            pick true t = ltb-true a x t
            pick false t = absurd (ne (omega (arith, h, ltb-false a x t)))

push-take : (m v : ℕ) (ps : List ℕ) → m < length ps → take (suc m) (push (suc m) v ps) ≡ v ∷ take m ps
unfolding push
push-take m v [] h = absurd (not-suc-le-zero h)
push-take zero v (p ∷ ps) h = refl
push-take (suc m) v (p ∷ ps) h = ap (v ∷◌) (push-take m p ps (le_of_suc-le-suc h))

pub open-take : (k m v : ℕ) (ps : List ℕ) → k + m < length ps → take (suc (k + m)) (opened k (suc m) v ps) ≡ insert k v (take (k + m) ps)
unfolding opened insert
open-take zero m v ps h = subst (λ (z : ℕ). take (suc z) (push (suc m) v ps) ≡ v ∷ take z ps) (sym (zero-add m)) (push-take m v ps (omega arith))
open-take (suc k) m v [] h = absurd (not-suc-le-zero h)
open-take (suc k) m v (p ∷ ps) h =
    subst (λ (z : ℕ). take (suc z) (p ∷ opened k (suc m) v ps) ≡ insert (suc k) v (take z (p ∷ ps))) (sym (suc-add k m)) (ap (p ∷◌) (open-take k m v ps (omega (arith, h))))
