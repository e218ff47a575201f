-- The test that the code makes is passed exactly by the sound tables.
use mathlib.Core.Path.{◌≡◌, refl, sym, ap, ◌∙◌, subst}
use mathlib.Core.Bool.{Bool, true, false, ◌&&◌}
use mathlib.Core.List.{List, [], ◌∷◌}
use Prim.Native.Nat.{ℕ, zero, suc, ◌≤◌, ◌<◌}
use native.Mathlib.Nat.{not-suc-le-zero, le_of_suc-le-suc}
use native.Mathlib.Omega.{arith}
use lib.Dec.{eqb, ltb, leb}
use lib.ListN.{length, get_or, take}
use lib.Seq.{get_or-take, length-take-le}
use borrow.Author.Tests.{eqb-true, eq-eqb, leb-true, le-leb, ltb-true, ltb-false}
use Rattle.outcome.proofs.Laws.{both}
use Rattle.message.specs.Message.{is_word}
use Rattle.rollcall_table.specs.declared.Record.{Record}
use Rattle.rollcall_table.specs.Table.{largest, record_at, place_at, address_at, right_lengths, Sound, live_in, is_next, in_order, is_sound}
use Rattle.rollcall_table.proofs.Along.{next-parts, order_parts, from_least}
use Rattle.rollcall_table.proofs.Counting.{live_within, mem, all_named, named_all, index_of, mem_index, index_mem}

word-le : (a : ℕ) → is_word a ≡ true → a ≤ 0xFFFFFF
unfolding is_word
word-le a e = leb-true a 0xFFFFFF e

le-word : (a : ℕ) → a ≤ 0xFFFFFF → is_word a ≡ true
unfolding is_word
le-word a h = le-leb a 0xFFFFFF h

-- ---- a list in order, entry by entry

pub order_at : (rs : List Record) (least : ℕ) (qs : List ℕ) (k : ℕ) → in_order rs least qs ≡ true → k < length qs → ((record_at rs (get_or qs k 0)).live ≡ true) × (is_word (address_at rs (get_or qs k 0)) ≡ true)
order_at rs least [] k e h = absurd (not-suc-le-zero h)
order_at rs least (q ∷ qs) zero e h = let p = next-parts least (record_at rs q) (order_parts rs least q qs e).0 in (p.0, p.1.1)
order_at rs least (q ∷ qs) (suc k) e h = order_at rs (suc (address_at rs q)) qs k (order_parts rs least q qs e).1 (le_of_suc-le-suc h)

pub order_up : (rs : List Record) (least : ℕ) (qs : List ℕ) (j k : ℕ) → in_order rs least qs ≡ true → j < k → k < length qs → address_at rs (get_or qs j 0) < address_at rs (get_or qs k 0)
order_up rs least qs j zero e h l = absurd (not-suc-le-zero h)
order_up rs least [] j (suc k) e h l = absurd (not-suc-le-zero l)
order_up rs least (q ∷ qs) zero (suc k) e h l = from_least rs (suc (address_at rs q)) qs k (order_parts rs least q qs e).1 (le_of_suc-le-suc l)
order_up rs least (q ∷ qs) (suc j) (suc k) e h l = order_up rs (suc (address_at rs q)) qs j k (order_parts rs least q qs e).1 (le_of_suc-le-suc h) (le_of_suc-le-suc l)

-- and back
pub is_next_lem : (least : ℕ) (r : Record) → r.live ≡ true → least ≤ r.address → is_word r.address ≡ true → is_next least r ≡ true
is_next_lem least r l m w = ap (λ (b : Bool). b && (leb least r.address && is_word r.address)) l ∙ ap (λ (b : Bool). b && is_word r.address) (le-leb least r.address m) ∙ w

pub in_order_lem : (rs : List Record) (least q : ℕ) (qs : List ℕ) → is_next least (record_at rs q) ≡ true → in_order rs (suc (address_at rs q)) qs ≡ true → in_order rs least (q ∷ qs) ≡ true
unfolding in_order
in_order_lem rs least q qs e f = ap (λ (b : Bool). b && in_order rs (suc (address_at rs q)) qs) e ∙ f

up : {j k : ℕ} → j < k → suc j < suc k
up h = omega (arith, h)

order_of : (rs : List Record) (least : ℕ) (qs : List ℕ) → ((k : ℕ) → k < length qs → ((record_at rs (get_or qs k 0)).live ≡ true) × (is_word (address_at rs (get_or qs k 0)) ≡ true))
    → ((k : ℕ) → k < length qs → least ≤ address_at rs (get_or qs k 0)) → ((j k : ℕ) → j < k → k < length qs → address_at rs (get_or qs j 0) < address_at rs (get_or qs k 0)) → in_order rs least qs ≡ true
unfolding in_order
order_of rs least [] a m u = refl
order_of rs least (q ∷ qs) a m u =
    let first : 0 < suc (length qs) = omega arith in
    in_order_lem rs least q qs (is_next_lem least (record_at rs q) (a 0 first).0 (m 0 first) (a 0 first).1)
    (order_of rs (suc (address_at rs q)) qs (λ k h. a (suc k) (up h)) (λ k h. u 0 (suc k) (omega arith) (up h)) (λ j k h l. u (suc j) (suc k) (up h) (up l)))

-- ---- the test's parts

pub record Parts (rs : List Record) (ps : List ℕ) (n : ℕ) : Type 0 where
  pub same : length rs ≡ length ps
  pub some : 1 ≤ length rs
  pub few : length rs ≤ largest
  pub counted : n ≤ length rs
  pub live : live_in rs ≡ n
  pub ordered : in_order rs 0 (take n ps) ≡ true

pub parts : (rs : List Record) (ps : List ℕ) (n : ℕ) → is_sound rs ps n ≡ true → Parts rs ps n
unfolding is_sound
parts rs ps n e =
    let p = both (right_lengths (length rs) (length ps)) (leb n (length rs) && (eqb (live_in rs) n && in_order rs 0 (take n ps))) e in
    let l = both (eqb (length rs) (length ps)) (leb 1 (length rs) && leb (length rs) largest) p.0 in
    let m = both (leb 1 (length rs)) (leb (length rs) largest) l.1 in
    let q = both (leb n (length rs)) (eqb (live_in rs) n && in_order rs 0 (take n ps)) p.1 in
    let o = both (eqb (live_in rs) n) (in_order rs 0 (take n ps)) q.1 in
    record {
      same = eqb-true _ _ l.0;
      some = leb-true _ _ m.0;
      few = leb-true _ _ m.1;
      counted = leb-true _ _ q.0;
      live = eqb-true _ _ o.0;
      ordered = o.1;
    }

pub lengths_right : (m k : ℕ) → m ≡ k → 1 ≤ m → m ≤ largest → right_lengths m k ≡ true
lengths_right m k e s f =
    ap (λ (b : Bool). b && (leb 1 m && leb m largest)) (eq-eqb m k e) ∙ ap (λ (b : Bool). b && leb m largest) (le-leb 1 m s) ∙ le-leb m largest f

pub of_parts : (rs : List Record) (ps : List ℕ) (n : ℕ) → Parts rs ps n → is_sound rs ps n ≡ true
unfolding is_sound
of_parts rs ps n p =
    ap (λ (b : Bool). b && (leb n (length rs) && (eqb (live_in rs) n && in_order rs 0 (take n ps)))) (lengths_right (length rs) (length ps) p.same p.some p.few)
    ∙ ap (λ (b : Bool). b && (eqb (live_in rs) n && in_order rs 0 (take n ps))) (le-leb n (length rs) p.counted)
    ∙ ap (λ (b : Bool). b && in_order rs 0 (take n ps)) (eq-eqb (live_in rs) n p.live) ∙ p.ordered

-- ---- the test and the relation

module _ (rs : List Record) (ps : List ℕ) (n : ℕ) where
  -- the list's entry below the count
  entry : (k : ℕ) → k < n → get_or (take n ps) k 0 ≡ place_at ps k
  entry k h = get_or-take n ps k 0 h

  pub sound : Parts rs ps n → Sound rs ps n
  sound p = record {
    same = p.same;
    some = p.some;
    few = p.few;
    counted = p.counted;
    narrow = narrow;
    inside = λ k h. live_within rs (place_at ps k) (alive k h);
    alive = alive;
    listed = listed;
    once = once;
    ascending = ascending;
  }
    where
      long : length (take n ps) ≡ n
      long = length-take-le n ps (subst (λ (k : ℕ). n ≤ k) p.same p.counted)

      within : (k : ℕ) → k < n → k < length (take n ps)
      within k h = subst (λ (m : ℕ). k < m) (sym long) h

      alive : (k : ℕ) → k < n → (record_at rs (place_at ps k)).live ≡ true
      alive k h = ap (λ (q : ℕ). (record_at rs q).live) (sym (entry k h)) ∙ (order_at rs 0 (take n ps) k p.ordered (within k h)).0

      found : (i : ℕ) → (record_at rs i).live ≡ true → (index_of i (take n ps) < length (take n ps)) × (get_or (take n ps) (index_of i (take n ps)) 0 ≡ i)
      found i l = mem_index i (take n ps) (all_named rs 0 (take n ps) p.ordered (p.live ∙ sym long) i l)

      listed : (i : ℕ) → (record_at rs i).live ≡ true → (k : ℕ) × ((k < n) × (place_at ps k ≡ i))
      listed i l =
          let f = found i l in
          let h : index_of i (take n ps) < n = subst (λ (m : ℕ). index_of i (take n ps) < m) long f.0 in
          (index_of i (take n ps), (h, sym (entry (index_of i (take n ps)) h) ∙ f.1))

      narrow : (i : ℕ) → (record_at rs i).live ≡ true → address_at rs i ≤ 0xFFFFFF
      narrow i l =
          let f = found i l in
          let w : is_word (address_at rs i) ≡ true = ap (λ (q : ℕ). is_word (address_at rs q)) (sym f.1) ∙ (order_at rs 0 (take n ps) (index_of i (take n ps)) p.ordered f.0).1 in
          word-le (address_at rs i) w

      ascending : (j k : ℕ) → j < k → k < n → address_at rs (place_at ps j) < address_at rs (place_at ps k)
      ascending j k h l =
          let m : j < n = omega arith in
          subst (λ (x : ℕ). address_at rs x < address_at rs (place_at ps k)) (entry j m)
          (subst (λ (x : ℕ). address_at rs (get_or (take n ps) j 0) < address_at rs x) (entry k l) (order_up rs 0 (take n ps) j k p.ordered h (within k l)))

      once : (j k : ℕ) → j < n → k < n → place_at ps j ≡ place_at ps k → j ≡ k
      once j k h l e = by (ltb j k) refl (ltb k j) refl
        where
          same : address_at rs (place_at ps j) ≡ address_at rs (place_at ps k)
          same = ap (λ (q : ℕ). address_at rs q) e

          by : (b : Bool) → ltb j k ≡ b → (c : Bool) → ltb k j ≡ c → j ≡ k
          by true t c u = absurd (omega (arith, same, ascending j k (ltb-true j k t) l))
          by false t true u = absurd (omega (arith, same, ascending k j (ltb-true k j u) h))
          by false t false u = omega (arith, ltb-false j k t, ltb-false k j u)

  pub sound-parts : Sound rs ps n → Parts rs ps n
  sound-parts s = record { same = s.same; some = s.some; few = s.few; counted = s.counted; live = count; ordered = order }
    where
      long : length (take n ps) ≡ n
      long = length-take-le n ps (subst (λ (k : ℕ). n ≤ k) s.same s.counted)

      below : (k : ℕ) → k < length (take n ps) → k < n
      below k h = subst (λ (m : ℕ). k < m) long h

      order : in_order rs 0 (take n ps) ≡ true
      order =
          order_of rs 0 (take n ps)
          (λ k h. let e = entry k (below k h) in let l = ap (λ (q : ℕ). (record_at rs q).live) e ∙ s.alive k (below k h) in (l, le-word (address_at rs (get_or (take n ps) k 0)) (s.narrow (get_or (take n ps) k 0) l)))
          (λ k h. omega arith)
          (λ j k h l.
          let m : j < n = omega (arith, h, below k l) in
          subst (λ (x : ℕ). address_at rs x < address_at rs (get_or (take n ps) k 0)) (sym (entry j m)) (subst (λ (x : ℕ). address_at rs (place_at ps j) < address_at rs x) (sym (entry k (below k l))) (s.ascending j k h (below k l))))

      count : live_in rs ≡ n
      count = named_all rs 0 (take n ps) order named ∙ long
        where
          named : (i : ℕ) → (record_at rs i).live ≡ true → mem i (take n ps) ≡ true
          named i l =
              let f = s.listed i l in
              ap (λ (q : ℕ). mem q (take n ps)) (sym (entry f.0 f.1.0 ∙ f.1.1)) ∙ index_mem (take n ps) f.0 (subst (λ (m : ℕ). f.0 < m) (sym long) f.1.0)
