-- Along the records and along the list: what a turn of each loop does, and what is left at its end.
use mathlib.Core.Path.{◌≡◌, refl, sym, ap, ◌∙◌, subst}
use mathlib.Core.Bool.{Bool, true, false, cond, not, ◌&&◌}
use mathlib.Core.List.{List, [], ◌∷◌}
use Prim.Native.Nat.{ℕ, zero, suc, ◌+◌, ◌≤◌, ◌<◌}
use native.Mathlib.Nat.{not-suc-le-zero, le_of_suc-le-suc, suc-add, le_trans, zero-add}
use native.Mathlib.Numerals.{add-one}
use native.Mathlib.Omega.{arith}
use lib.Dec.{ltb, leb}
use lib.ListN.{length, get_or, get_or-eq_default, set, take, drop}
use lib.Seq.{drop-cons}
use Rattle.std.proofs.lemmas.List.{drop_all, get_or_default}
use Rattle.std.proofs.lemmas.List.Recursion.{is_count_by, is_position_or_len}
use borrow.Author.Tests.{ltb-true, ltb-false, lt-ltb, leb-true}
use Rattle.outcome.proofs.Laws.{both}
use Rattle.message.specs.Message.{is_word}
use Rattle.rollcall_table.specs.declared.Record.{Record}
use Rattle.rollcall_table.specs.Table.{blank, record_at, address_at, one, live_in, is_next, in_order, free_place, has_room, below, unmarked, unmarked_all}
use Rattle.std.specs.Prelude.{Some, None}
use Rattle.std.specs.List.{count_by, position}

-- ---- how many are live

pub live_count : (rs : List Record) → count_by (λ r. r.live) rs ≡ live_in rs
unfolding live_in
live_count rs = sym (is_count_by live_in (λ r. r.live) refl (λ r rs. by r.live (live_in rs)) rs)
  where
    by : (b : Bool) (k : ℕ) → one b + k ≡ cond b (1 + k) k
    by true k = refl
    by false k = zero-add k

-- ---- the lowest free place

pub free_position : (rs : List Record) → position (λ r. not r.live) rs ≡ cond (has_room rs) (Some (free_place rs)) None
unfolding free_place
free_position rs = ap (λ (k : ℕ). cond (ltb k (length rs)) (Some k) None) (sym (is_position_or_len free_place (λ r. not r.live) refl (λ r rs. by r.live (free_place rs)) rs))
  where
    by : (b : Bool) (k : ℕ) → cond b (suc k) 0 ≡ cond (not b) 0 (1 + k)
    by true k = omega arith
    by false k = refl

-- ---- the live marks unset

-- the first i are unmarked
abbrev pub unmarked_to : ℕ → List Record → List Record
unmarked_to zero rs = rs
unmarked_to (suc i) [] = []
unmarked_to (suc i) (r ∷ rs) = unmarked r ∷ unmarked_to i rs

unmark_next : (i : ℕ) (rs : List Record) → set (unmarked_to i rs) i (unmarked (record_at (unmarked_to i rs) i)) ≡ unmarked_to (i + 1) rs
unmark_next zero [] = refl
unmark_next zero (r ∷ rs) = refl
unmark_next (suc i) [] = ap (λ (k : ℕ). unmarked_to k []) (sym (suc-add i 1))
unmark_next (suc i) (r ∷ rs) = ap (unmarked r ∷◌) (unmark_next i rs) ∙ ap (λ (k : ℕ). unmarked_to k (r ∷ rs)) (sym (suc-add i 1))

pub unmark_turn : (rs l : List Record) (i : ℕ) (s : Record) → l ≡ unmarked_to i rs → s ≡ unmarked (record_at l i) → set l i s ≡ unmarked_to (i + 1) rs
unmark_turn rs l i s el es =
    ap (λ (y : Record). set l i y) es ∙ ap (λ (m : List Record). set m i (unmarked (record_at m i))) el ∙ unmark_next i rs

pub unmark_end : (i : ℕ) (rs : List Record) → length rs ≤ i → unmarked_to i rs ≡ unmarked_all rs
unmark_end zero [] h = refl
unmark_end zero (r ∷ rs) h = absurd (not-suc-le-zero h)
unmark_end (suc i) [] h = refl
unmark_end (suc i) (r ∷ rs) h = ap (unmarked r ∷◌) (unmark_end i rs (le_of_suc-le-suc h))

-- ---- the list's order

-- what a record is that may be listed next
pub next-parts : (least : ℕ) (r : Record) → is_next least r ≡ true → (r.live ≡ true) × ((least ≤ r.address) × (is_word r.address ≡ true))
next-parts least r e =
    let p = both r.live (leb least r.address && is_word r.address) e in
    let q = both (leb least r.address) (is_word r.address) p.1 in
    (p.0, (leb-true least r.address q.0, q.1))

-- a listed place within the records names its record, and any other place the blank one
pub record_within : (rs : List Record) (p : ℕ) (r : Record) → true ≡ ltb p (length rs) → r ≡ get_or rs p r → record_at rs p ≡ r
record_within rs p r l e = get_or_default rs p blank r (ltb-true p (length rs) (sym l)) ∙ sym e

pub record_past : (rs : List Record) (p : ℕ) → false ≡ ltb p (length rs) → record_at rs p ≡ blank
record_past rs p l = get_or-eq_default rs blank (ltb-false p (length rs) (sym l))

-- what the record listed at i says of the list from i on
pub order_turn : (rs : List Record) (least i : ℕ) (qs : List ℕ) → i < length qs
    → in_order rs least (drop i qs) ≡ (is_next least (record_at rs (get_or qs i 0)) && in_order rs (address_at rs (get_or qs i 0) + 1) (drop (i + 1) qs))
unfolding in_order
order_turn rs least i qs h =
    let q = get_or qs i 0 in
    ap (in_order rs least) (drop-cons qs i 0 h ∙ ap (λ (k : ℕ). q ∷ drop k qs) (sym (add-one i)))
    ∙ ap (λ (k : ℕ). is_next least (record_at rs q) && in_order rs k (drop (i + 1) qs)) (sym (add-one (address_at rs q)))

pub order_ends : (rs : List Record) (least i : ℕ) (qs : List ℕ) → length qs ≤ i → in_order rs least (drop i qs) ≡ true
unfolding in_order
order_ends rs least i qs h = ap (in_order rs least) (drop_all i qs h)

-- so its address can be raised by one
pub next_small : (least : ℕ) (r : Record) → is_next least r ≡ true → r.address ≤ 0xFFFFFF
unfolding is_word
next_small least r e = let w = (next-parts least r e).1.1 in leb-true r.address 0xFFFFFF w

-- what the walk along the list needs
pub ruleset walking = (record_within, record_past, order_turn, order_ends, next_small)

-- ---- the search

-- the first of some places in order, and the rest
pub order_parts : (rs : List Record) (least q : ℕ) (qs : List ℕ) → in_order rs least (q ∷ qs) ≡ true → (is_next least (record_at rs q) ≡ true) × (in_order rs (suc (address_at rs q)) qs ≡ true)
unfolding in_order
order_parts rs least q qs e = both (is_next least (record_at rs q)) (in_order rs (suc (address_at rs q)) qs) e

-- in a list in order every address is at least the least one, and above those before it
pub from_least : (rs : List Record) (least : ℕ) (qs : List ℕ) (k : ℕ) → in_order rs least qs ≡ true → k < length qs → least ≤ address_at rs (get_or qs k 0)
unfolding in_order
from_least rs least [] k e h = absurd (not-suc-le-zero h)
from_least rs least (q ∷ qs) zero e h = (next-parts least (record_at rs q) (order_parts rs least q qs e).0).1.0
from_least rs least (q ∷ qs) (suc k) e h =
    let here : least ≤ address_at rs q = (next-parts least (record_at rs q) (order_parts rs least q qs e).0).1.0 in
    let there : suc (address_at rs q) ≤ address_at rs (get_or qs k 0) = from_least rs (suc (address_at rs q)) qs k (order_parts rs least q qs e).1 (le_of_suc-le-suc h) in
    omega arith

pub below-after : (rs : List Record) (a least : ℕ) (qs : List ℕ) (k : ℕ) → in_order rs least qs ≡ true → k < length qs → address_at rs (get_or qs k 0) < a → k < below rs a qs
unfolding in_order below
below-after rs a least [] k e h l = absurd (not-suc-le-zero h)
below-after rs a least (q ∷ qs) zero e h l = subst (λ (b : Bool). 0 < cond b (suc (below rs a qs)) 0) (sym (lt-ltb _ _ l)) (omega arith)
below-after rs a least (q ∷ qs) (suc k) e h l =
    let tail : in_order rs (suc (address_at rs q)) qs ≡ true = (order_parts rs least q qs e).1 in
    let up : suc (address_at rs q) ≤ address_at rs (get_or qs k 0) = from_least rs (suc (address_at rs q)) qs k tail (le_of_suc-le-suc h) in
    let low : address_at rs q < a = omega arith in
    let more : k < below rs a qs = below-after rs a (suc (address_at rs q)) qs k tail (le_of_suc-le-suc h) l in
    subst (λ (b : Bool). suc k < cond b (suc (below rs a qs)) 0) (sym (lt-ltb _ _ low)) (omega arith)

pub below-before : (rs : List Record) (a : ℕ) (qs : List ℕ) (k : ℕ) → a ≤ address_at rs (get_or qs k 0) → k < length qs → below rs a qs ≤ k
unfolding below
below-before rs a [] k l h = absurd (not-suc-le-zero h)
below-before rs a (q ∷ qs) zero l h = by (ltb (address_at rs q) a) refl
  where
    by : (b : Bool) → ltb (address_at rs q) a ≡ b → cond b (suc (below rs a qs)) 0 ≤ 0
    by true e = let low : address_at rs q < a = ltb-true _ _ e in omega arith
    by false e = omega arith
below-before rs a (q ∷ qs) (suc k) l h = by (ltb (address_at rs q) a) (below-before rs a qs k l (le_of_suc-le-suc h))
  where
    by : (b : Bool) → below rs a qs ≤ k → cond b (suc (below rs a qs)) 0 ≤ suc k
    by true m = omega arith
    by false m = omega arith

pub below-le : (rs : List Record) (a : ℕ) (qs : List ℕ) → below rs a qs ≤ length qs
unfolding below
below-le rs a [] = omega arith
below-le rs a (q ∷ qs) = by (ltb (address_at rs q) a) (below-le rs a qs)
  where
    by : (b : Bool) → below rs a qs ≤ length qs → cond b (suc (below rs a qs)) 0 ≤ suc (length qs)
    by true h = omega arith
    by false h = omega arith

pub below-count : (rs : List Record) (a n : ℕ) (ps : List ℕ) → below rs a (take n ps) ≤ n
below-count rs a n ps = le_trans (below-le rs a (take n ps)) (length-take-at n ps)
  where
    length-take-at : (n : ℕ) (ps : List ℕ) → length (take n ps) ≤ n
    length-take-at zero ps = omega arith
    length-take-at (suc n) [] = omega arith
    length-take-at (suc n) (p ∷ ps) = omega (arith, length-take-at n ps)
