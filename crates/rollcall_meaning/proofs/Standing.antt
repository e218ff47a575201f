-- Which reply stands. The idea: the reply held after a list of replies is the earliest unbeaten one, and one reply more keeps it
-- so, since what beats the reply held beats every reply that does not beat it.
use Prim.Native.Nat.{ℕ, zero, suc, ◌<◌}
use native.Mathlib.Nat.{not-suc-le-zero}
use native.Mathlib.Omega.{arith}
use mathlib.Core.Path.{◌≡◌, refl, sym, ap, ◌∙◌, subst}
use mathlib.Core.Bool.{Bool, true, false, cond}
use mathlib.Core.List.{List, [], ◌∷◌, ◌++◌, append_assoc, append-nil}
use mathlib.Core.Logic.{◌⊎◌, inl, inr}
use mathlib.Core.Option.{Option, none, some}
use lib.Dec.{ltb}
use lib.ListN.{length, get_elem?}
use borrow.Author.Tests.{ltb-true, ltb-false}
use Rattle.outcome.proofs.Laws.{never}
use Rattle.rollcall_table.specs.declared.Grade.{Grade}
use Rattle.rollcall_table.specs.declared.Grade.TheVariants.{Clean, Sole, Several}
use Rattle.rollcall_table.specs.declared.Sighting.{Sighting}
use Rattle.rollcall_table.specs.Standing.{grade_number, beats}
use Rattle.rollcall_table.proofs.Laws.{beats-is, is-beats, beats_irreflexive, beats_transitive, beats-or_agrees, beats-others}
use Rattle.rollcall_meaning.specs.Standing.{Beats, Better, BeatsBy, BeatsOrders, Beaten, Stands, OneStands}
use Rattle.rollcall_meaning.specs.Standing.Better.{clean_sole, clean_several, sole_several}

-- ---- 'beats'

better : (g h : Grade) → grade_number g < grade_number h → Better g h
better Clean Clean l = absurd (omega (arith, l))
better Clean Sole l = clean_sole
better Clean Several l = clean_several
better Sole Clean l = absurd (omega (arith, l))
better Sole Sole l = absurd (omega (arith, l))
better Sole Several l = sole_several
better Several Clean l = absurd (omega (arith, l))
better Several Sole l = absurd (omega (arith, l))
better Several Several l = absurd (omega (arith, l))

lower : (g h : Grade) → Better g h → grade_number g < grade_number h
lower g h clean_sole = omega arith
lower g h clean_several = omega arith
lower g h sole_several = omega arith

pub beats_by : BeatsBy
unfolding BeatsBy
beats_by s q = (λ e. there (beats-is s.time s.grade q.time q.grade e), λ h. is-beats s.time s.grade q.time q.grade (back h))
  where
    there : (q.time < s.time) ⊎ ((s.time ≡ q.time) × (grade_number s.grade < grade_number q.grade)) → (q.time < s.time) ⊎ ((s.time ≡ q.time) × Better s.grade q.grade)
    there (inl l) = inl l
    there (inr (e, l)) = inr (e, better s.grade q.grade l)

    back : (q.time < s.time) ⊎ ((s.time ≡ q.time) × Better s.grade q.grade) → (q.time < s.time) ⊎ ((s.time ≡ q.time) × (grade_number s.grade < grade_number q.grade))
    back (inl l) = inl l
    back (inr (e, b)) = inr (e, lower s.grade q.grade b)

pub beats_orders : BeatsOrders
unfolding BeatsOrders
beats_orders = (
  (λ s. beats_irreflexive s.time s.grade),
  ((λ s q p. beats_transitive s.time s.grade q.time q.grade p.time p.grade), λ s q n. by s q n (beats-or_agrees s.time s.grade q.time q.grade)),
)
  where
    by : (s q : Sighting) → (((s.time ≡ q.time) × (s.grade ≡ q.grade)) → ⊥) → Beats s q ⊎ (Beats q s ⊎ ((s.time ≡ q.time) × (s.grade ≡ q.grade))) → Beats s q ⊎ Beats q s
    by s q n (inl b) = inl b
    by s q n (inr (inl b)) = inr b
    by s q n (inr (inr e)) = absurd (n e)

-- ---- entries of a list

same_some : {x y : Sighting} → some x ≡ some y → x ≡ y
same_some {x} {y} e = ap (λ (o : Option Sighting). by o) e
  where
    by : Option Sighting → Sighting
    by (some z) = z
    by none = x

no_entry : {x : Sighting} → none ≡ some x → ⊥
no_entry {x} e = never refl (ap has (sym e))
  where
    has : Option Sighting → Bool
    has (some z) = true
    has none = false

entry_within : (l : List Sighting) (i : ℕ) (q : Sighting) → get_elem? l i ≡ some q → i < length l
entry_within [] i q e = absurd (no_entry e)
entry_within (s ∷ l) zero q e = omega arith
entry_within (s ∷ l) (suc i) q e = let h = entry_within l i q e in omega (arith, h)

entry-before : (l m : List Sighting) (i : ℕ) (q : Sighting) → get_elem? l i ≡ some q → get_elem? (l ++ m) i ≡ some q
entry-before [] m i q e = absurd (no_entry e)
entry-before (s ∷ l) m zero q e = e
entry-before (s ∷ l) m (suc i) q e = entry-before l m i q e

entry_last : (l : List Sighting) (q : Sighting) → get_elem? (l ++ (q ∷ [])) (length l) ≡ some q
entry_last [] q = refl
entry_last (s ∷ l) q = entry_last l q

-- an entry of a list with one more is the list's, or the last one
entry_cases : (l : List Sighting) (q : Sighting) (i : ℕ) (p : Sighting) → get_elem? (l ++ (q ∷ [])) i ≡ some p → (get_elem? l i ≡ some p) ⊎ ((i ≡ length l) × (q ≡ p))
entry_cases [] q zero p e = inr (refl, same_some e)
entry_cases [] q (suc i) p e = absurd (no_entry e)
entry_cases (s ∷ l) q zero p e = inl e
entry_cases (s ∷ l) q (suc i) p e = by (entry_cases l q i p e)
  where
    by : (get_elem? l i ≡ some p) ⊎ ((i ≡ length l) × (q ≡ p)) → (get_elem? l i ≡ some p) ⊎ ((suc i ≡ suc (length l)) × (q ≡ p))
    by (inl x) = inl x
    by (inr (x, y)) = inr (ap suc x, y)

-- ---- the reply that stands

stands-first : (s : Sighting) → Stands (s ∷ []) s
stands-first s = record {
  position = 0;
  there = refl;
  unbeaten = λ b. by b.0 b.1.0 b.1.1.0 b.1.1.1;
  earliest = λ i q h e. absurd (not-suc-le-zero h);
}
  where
    by : (i : ℕ) (p : Sighting) → get_elem? (s ∷ []) i ≡ some p → Beats p s → ⊥
    by zero p e b = beats_irreflexive s.time s.grade (subst (λ (z : Sighting). Beats z s) (sym (same_some e)) b)
    by (suc i) p e b = no_entry e

-- one reply more: it stands where it beats the one that stood
abbrev pub later : Sighting → Sighting → Sighting
later s q = cond (beats q.time q.grade s.time s.grade) q s

stands-next : (l : List Sighting) (s q : Sighting) → Stands l s → Stands (l ++ (q ∷ [])) (later s q)
stands-next l s q st = by (beats q.time q.grade s.time s.grade) refl
  where
    open-one : (p : Sighting) → Beaten l p → Beaten (l ++ (q ∷ [])) p
    open-one p b = (b.0, (b.1.0, (entry-before l (q ∷ []) b.0 b.1.0 b.1.1.0, b.1.1.1)))

    not-beats : (i : ℕ) (p : Sighting) → get_elem? l i ≡ some p → Beats p s → ⊥
    not-beats i p e b = st.unbeaten (i, (p, (e, b)))

    by : (c : Bool) → beats q.time q.grade s.time s.grade ≡ c → Stands (l ++ (q ∷ [])) (cond c q s)
    by true c = record {
      position = length l;
      there = entry_last l q;
      unbeaten = λ b. none-beats b.0 b.1.0 b.1.1.1 (entry_cases l q b.0 b.1.0 b.1.1.0);
      earliest = λ i p h e. (length l, (q, (entry_last l q, beaten-too i p h (entry_cases l q i p e))));
    }
      where
        none-beats : (i : ℕ) (p : Sighting) → Beats p q → (get_elem? l i ≡ some p) ⊎ ((i ≡ length l) × (q ≡ p)) → ⊥
        none-beats i p b (inl e) = not-beats i p e (beats_transitive p.time p.grade q.time q.grade s.time s.grade b c)
        none-beats i p b (inr (x, y)) = beats_irreflexive q.time q.grade (subst (λ (z : Sighting). Beats z q) (sym y) b)

        beaten-too : (i : ℕ) (p : Sighting) → i < length l → (get_elem? l i ≡ some p) ⊎ ((i ≡ length l) × (q ≡ p)) → Beats q p
        beaten-too i p h (inl e) = beats-others q.time q.grade s.time s.grade p.time p.grade c (not-beats i p e)
        beaten-too i p h (inr (x, y)) = absurd (omega (arith, h, x))
    by false c = record {
      position = st.position;
      there = entry-before l (q ∷ []) st.position s st.there;
      unbeaten = λ b. none-beats b.0 b.1.0 b.1.1.1 (entry_cases l q b.0 b.1.0 b.1.1.0);
      earliest = λ i p h e. open-one p (beaten-still i p h (entry_cases l q i p e));
    }
      where
        none-beats : (i : ℕ) (p : Sighting) → Beats p s → (get_elem? l i ≡ some p) ⊎ ((i ≡ length l) × (q ≡ p)) → ⊥
        none-beats i p b (inl e) = not-beats i p e b
        none-beats i p b (inr (x, y)) = never (subst (λ (z : Sighting). Beats z s) (sym y) b) c

        beaten-still : (i : ℕ) (p : Sighting) → i < st.position → (get_elem? l i ≡ some p) ⊎ ((i ≡ length l) × (q ≡ p)) → Beaten l p
        beaten-still i p h (inl e) = st.earliest i p h e
        beaten-still i p h (inr (x, y)) = let w = entry_within l st.position s st.there in absurd (omega (arith, h, x, w))

-- the reply held after some more
abbrev pub held_after : Sighting → List Sighting → Sighting
held_after s [] = s
held_after s (q ∷ l) = held_after (later s q) l

stands_on : (l : List Sighting) (s : Sighting) (m : List Sighting) → Stands l s → Stands (l ++ m) (held_after s m)
stands_on l s [] st = subst (λ (k : List Sighting). Stands k s) (sym (append-nil l)) st
stands_on l s (q ∷ m) st =
    subst (λ (k : List Sighting). Stands k (held_after (later s q) m)) (append_assoc l (q ∷ []) m) (stands_on (l ++ (q ∷ [])) (later s q) m (stands-next l s q st))

pub held-stands : (s : Sighting) (l : List Sighting) → Stands (s ∷ l) (held_after s l)
held-stands s l = stands_on (s ∷ []) s l (stands-first s)

-- ---- there is no other

pub one-stands : OneStands
unfolding OneStands
one-stands l s q x y = by (ltb x.position y.position) refl (ltb y.position x.position) refl
  where
    by : (a : Bool) → ltb x.position y.position ≡ a → (b : Bool) → ltb y.position x.position ≡ b → s ≡ q
    by true e b f = absurd (x.unbeaten (y.earliest x.position s (ltb-true _ _ e) x.there))
    by false e true f = absurd (y.unbeaten (x.earliest y.position q (ltb-true _ _ f) y.there))
    by false e false f =
        let p : x.position ≡ y.position = omega (arith, ltb-false x.position y.position e, ltb-false y.position x.position f) in
        same_some (sym x.there ∙ ap (get_elem? l) p ∙ y.there)
