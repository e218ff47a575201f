-- The theorems of specs/Statements.antt. The idea of the first: n − 1 numbers at most are lacking after the first round, and each later
-- round leaves one fewer.
use mathlib.Core.Path.{◌≡◌, refl, sym, ap, ap₂, ◌∙◌, subst, fun_ext}
use mathlib.Core.Logic.{◌↔◌}
use mathlib.Core.Bool.{Bool, true, false, cond}
use mathlib.Core.List.{List, [], ◌∷◌, ◌++◌}
use mathlib.Core.Option.{Option, get_or}
use mathlib.Core.Option.Option.{none, some}
use Prim.Native.Nat.{ℕ, zero, suc, ◌+◌, ◌-◌, ◌*◌, ◌<◌, ◌≤◌}
use native.Mathlib.Omega.{arith}
use native.Mathlib.Decide.{ℕ_discrete}
use lib.Dec.{ltb, lit≤}
use lib.ListN.{length, take, replicate, length-replicate}
use lib.Seq.{take-add, take_all}
use borrow.Author.Tests.{ltb-true, ltb-false}
use Rattle.outcome.proofs.Laws.{never}
use Rattle.uplink_elm.specs.Segments.{is_held, segment_at}
use Rattle.uplink_elm.specs.Receiving.{is_whole}
use Rattle.uplink_elm.specs.declared.Progress.{Progress}
use Rattle.uplink_elm.proofs.Laws.{segment-at}
use Rattle.uplink_elm_meaning.specs.Machine.{Machine, start, holds, whole}
use Rattle.uplink_elm_meaning.specs.Running.{Call, fresh, after_all, machine_after_all, WholeWhenAllHeld}
use Rattle.uplink_elm_meaning.proofs.Laws.{same-progress, good_all, good_fresh, whole_when_all-held}
use Rattle.uplink_elm_sending.specs.Sending.{failing, taken}
use Rattle.uplink_elm_rounds.specs.Game.{Setting, count, Allowed, Choice, destroyed, remaining, UpTo, Position, opened, played, played_all, round_sent}
use Rattle.uplink_elm_rounds.specs.Statements.{after_rounds, Whole, Lacks, HasMessage, WholeInTime, KeptIncomplete, OpeningLacks, NothingWhenWhole, TwoAreNeeded, OneLessIsEnough}
use Rattle.uplink_elm_rounds.proofs.Sets.{Numbers, empty, with, with_all, after_round, numbers_of, Within, Bounded, with_there, with_other, with_bounded, lacking, lacking-none, lacking-le, some_numbers, no_numbers, round-kept, round-bounded, round_fewer, opening-lacking, first_brings, destroys, silent_round}
use Rattle.uplink_elm_rounds.proofs.Playing.{each, round-sends, machine_of, Stands, held_is, opened-stands, played-stands}

module _ (g : Setting) (ok : Allowed g) where
  -- the receiver after the opening, from whatever calls went before
  begun : (before : List Call) (places : List ℕ) → length places ≡ 160 → Stands g ok (opened g (after_all before (fresh places))) (with (count g - 1) empty) empty
  begun before places long =
      opened-stands g ok (after_all before (fresh places)) (machine_after_all before start) (good_all before (fresh places) start (good_fresh places long)).1

  opening-bounded : Bounded (count g) (with (count g - 1) empty)
  unfolding Bounded
  opening-bounded = with_bounded (count g) (count g - 1) empty (omega (arith, ok.two-or_more)) (λ i e. absurd (never e refl))

  -- ---- whole

  all_held : (p : Position) (h a : Numbers) → Stands g ok p h a → Whole p ↔ ((i : ℕ) → i < count g → h i ≡ true)
  unfolding WholeWhenAllHeld machine_of
  all_held p h a q = (λ w i lt. sym (held i) ∙ (told.0 (sym is ∙ w)).1 i (omega (arith, lt)), λ f. is ∙ told.1 (refl, λ i le. held i ∙ f i (omega (arith, le, ok.two-or_more))))
    where
      m : Machine
      m = machine_of g ok h

      told : (whole m ≡ true) ↔ ((m.opened ≡ true) × ((i : ℕ) → i ≤ m.last → holds m i ≡ true))
      told = whole_when_all-held m

      is : is_whole p.state.receiver ≡ whole m
      is = ap (λ (x : Progress). x.whole) (same-progress p.state m q.good)

      held : (i : ℕ) → holds m i ≡ h i
      held i = by (h i)
        where
          by : (t : Bool) → holds (record { opened = true; last = count g - 1; segments = λ j. cond t (some (segment_at g.segments j)) none }) i ≡ t
          by true = refl
          by false = refl

  -- ten bytes for each number make the message
  picked : (u : Bool) (x y : List ℕ) → u ≡ true → cond u (some x) none ≡ cond u (some y) none → x ≡ y
  picked true x y e f = ap (λ (o : Option (List ℕ)). get_or o []) f
  picked false x y e f = absurd (never e refl)

  stored : (p : Position) (h a : Numbers) → Stands g ok p h a → (i : ℕ) → h i ≡ true → segment_at p.state.places i ≡ segment_at g.segments i
  unfolding machine_of
  stored p h a q i e =
      let held : is_held p.state.receiver.held i ≡ h i = held_is g ok p.state h q.good i in
      picked (h i) _ _ e (ap (λ (t : Bool). cond t (some (segment_at p.state.places i)) none) (sym held) ∙ q.good.same.2 i)

  joined : (a b : List ℕ) (k : ℕ) → ((i : ℕ) → i < k → segment_at a i ≡ segment_at b i) → take (k * 10) a ≡ take (k * 10) b
  joined a b zero f = refl
  joined a b (suc k) f =
      let more : k * 10 + 10 ≡ suc k * 10 = omega arith in
      let rest = joined a b k (λ i lt. f i (omega arith)) in
      ap (λ (x : ℕ). take x a) (sym more) ∙ take-add (k * 10) 10 a ∙ ap₂ ◌++◌ rest (sym (segment-at a k) ∙ f k (omega arith) ∙ segment-at b k)
      ∙ sym (take-add (k * 10) 10 b) ∙ ap (λ (x : ℕ). take x b) more

  has-message : (p : Position) (h a : Numbers) → Stands g ok p h a → Bounded (count g) h → lacking (count g) h ≡ 0 → HasMessage g p
  unfolding HasMessage Bounded machine_of
  has-message p h a q b z = (
    (all_held p h a q).1 all,
    q.good.same.1,
    (λ i. held_is g ok p.state h q.good i ∙ by i (ltb i (count g)) refl (h i) refl),
    ap (λ (k : ℕ). take k p.state.places) ok.whole_segments
        ∙ joined p.state.places g.segments (count g) (λ i lt. stored p h a q i (all i lt))
        ∙ take_all (count g * 10) g.segments (omega (arith, ok.whole_segments)),
  )
    where
      all : (i : ℕ) → i < count g → h i ≡ true
      all = lacking-none (count g) h z

      by : (i : ℕ) (t : Bool) → ltb i (count g) ≡ t → (u : Bool) → h i ≡ u → u ≡ t
      by i true e u f = sym f ∙ all i (ltb-true i (count g) e)
      by i false e true f = absurd (omega (arith, b i f, ltb-false i (count g) e))
      by i false e false f = refl

  -- ---- fewer destroyed than sent

  module _ (k : ℕ) (fewer : k < g.s) where
    later : (p : Position) (h : Numbers) (cs : List Choice) → UpTo k cs → Stands g ok p h h → Bounded (count g) h → lacking (count g) h ≤ length cs
        → HasMessage g (played_all g p cs)
    unfolding UpTo played_all
    later p h [] u q b le = has-message p h h q b (omega arith)
    later p h (c ∷ cs) u q b le =
        later (played g p c) (after_round (count g) g.s h h c) cs u.1 (played-stands g ok p h h c q)
        (round-bounded (count g) g.s h h c (omega (arith, ok.two-or_more)) b) (less (ℕ_discrete (lacking (count g) h) 0))
      where
        less : Dec (lacking (count g) h ≡ 0) → lacking (count g) (after_round (count g) g.s h h c) ≤ length cs
        less (yes z) = omega (arith, z, lacking-le (count g) h _ (round-kept (count g) g.s h h c))
        less (no z) = omega (arith, le, round_fewer (count g) g.s h c (omega (arith, u.0, fewer)) (omega (arith, z)))

    -- after the first round so many are lacking at most, and as many rounds are left
    from_first : (p : Position) (c : Choice) (cs : List Choice) → Stands g ok p (with (count g - 1) empty) empty → UpTo k (c ∷ cs)
        → lacking (count g) (after_round (count g) g.s empty (with (count g - 1) empty) c) ≤ length cs → HasMessage g (played_all g p (c ∷ cs))
    unfolding UpTo played_all
    from_first p c cs q u le =
        later (played g p c) (after_round (count g) g.s empty (with (count g - 1) empty) c) cs u.1 (played-stands g ok p _ empty c q)
        (round-bounded (count g) g.s empty _ c (omega (arith, ok.two-or_more)) opening-bounded) le

pub whole_in_time : WholeInTime
unfolding WholeInTime after_rounds
whole_in_time g k ok fewer before places long [] u le = absurd (omega (arith, le, ok.two-or_more))
whole_in_time g k ok fewer before places long (c ∷ cs) u le =
    let opening = with (count g - 1) empty in
    from_first g ok k fewer _ c cs (begun g ok before places long) u
    (omega (arith, le, opening-lacking (count g) (omega (arith, ok.two-or_more)), lacking-le (count g) opening _ (round-kept (count g) g.s empty opening c)))

pub one_less_is_enough : OneLessIsEnough
unfolding OneLessIsEnough UpTo after_rounds
one_less_is_enough g k ok short fewer before places long [] u le = absurd (omega (arith, le, ok.two-or_more))
one_less_is_enough g k ok short fewer before places long (c ∷ cs) u le =
    from_first g ok k fewer _ c cs (begun g ok before places long) u
    (omega (arith, le, first_brings (count g) g.s c (omega (arith, u.0, fewer)) short))

-- ---- as many destroyed as sent

-- r rounds of which nothing is left
silence : ℕ → ℕ → List Choice
silence s r = replicate r (replicate s true)

silence_up_to : (s k r : ℕ) → s ≤ k → UpTo k (silence s r)
unfolding UpTo silence
silence_up_to s k zero le = tt
silence_up_to s k (suc r) le = (omega (arith, le, destroys s), silence_up_to s k r le)

module _ (g : Setting) (ok : Allowed g) where
  -- a position with the set that it stands for, where the next round is given any set
  Known : Position → Numbers → Type 0
  Known p h = (a : Numbers) × Stands g ok p h a

  -- the set after some rounds
  reached : (p : Position) (h a : Numbers) (cs : List Choice) → Stands g ok p h a → (h' : Numbers) × Known (played_all g p cs) h' × Within h h'
  unfolding Known Within played_all
  reached p h a [] q = (h, (a, q), λ i e. e)
  reached p h a (c ∷ cs) q =
      let next = reached (played g p c) (after_round (count g) g.s a h c) (after_round (count g) g.s a h c) cs (played-stands g ok p h a c q) in
      (next.0, next.1, λ i e. next.2 i (round-kept (count g) g.s a h c i e))

  -- silent rounds leave what is lacking
  silent : (r : ℕ) (p : Position) (h a : Numbers) → Stands g ok p h a
      → (h' : Numbers) × Known (played_all g p (silence g.s r)) h' × ((i : ℕ) → (i ≡ count g - 1 → ⊥) → h' i ≡ h i)
  unfolding Known played_all silence
  silent zero p h a q = (h, (a, q), λ i ne. refl)
  silent (suc r) p h a q =
      let c : Choice = replicate g.s true in
      let next = silent r (played g p c) (after_round (count g) g.s a h c) (after_round (count g) g.s a h c) (played-stands g ok p h a c q) in
      (next.0, next.1, λ i ne. next.2 i ne ∙ silent_round (count g) g.s a h i ne)

  played-append : (p : Position) (cs ds : List Choice) → played_all g p (cs ++ ds) ≡ played_all g (played_all g p cs) ds
  unfolding played_all
  played-append p [] ds = refl
  played-append p (c ∷ cs) ds = played-append (played g p c) cs ds

pub kept_incomplete : KeptIncomplete
unfolding KeptIncomplete after_rounds silence Known Within
kept_incomplete g k ok le before places long earlier r =
    (silence g.s r, length-replicate r (replicate g.s true), silence_up_to g.s k r le, lacked)
  where
    start_of : Position
    start_of = opened g (after_all before (fresh places))

    first : (h : Numbers) × Known g ok (played_all g start_of earlier) h × Within (with (count g - 1) empty) h
    first = reached g ok start_of (with (count g - 1) empty) empty earlier (begun g ok before places long)

    then : (h : Numbers) × Known g ok (played_all g (played_all g start_of earlier) (silence g.s r)) h × ((i : ℕ) → (i ≡ count g - 1 → ⊥) → h i ≡ first.0 i)
    then = silent g ok r (played_all g start_of earlier) first.0 first.1.0 first.1.1

    lacked : (i : ℕ) → i < count g → Lacks (played_all g start_of earlier) i
        → Lacks (played_all g start_of (earlier ++ silence g.s r)) i × (Whole (played_all g start_of (earlier ++ silence g.s r)) → ⊥)
    lacked i lt e =
        subst (λ (p : Position). Lacks p i × (Whole p → ⊥)) (sym (played-append g ok start_of earlier (silence g.s r)))
        (held_is g ok _ then.0 then.1.1.good i ∙ missing, λ w. never ((all_held g ok _ then.0 then.1.0 then.1.1).0 w i lt) missing)
      where
        before-it : first.0 i ≡ false
        before-it = sym (held_is g ok _ first.0 first.1.1.good i) ∙ e

        not_last : i ≡ count g - 1 → ⊥
        not_last z = never (ap first.0 z ∙ first.2 (count g - 1) (with_there (count g - 1) empty)) before-it

        missing : then.0 i ≡ false
        missing = then.2 i not_last ∙ before-it

pub opening_lacks : OpeningLacks
unfolding OpeningLacks after_rounds played_all
opening_lacks g ok before places long =
    held_is g ok _ (with (count g - 1) empty) (begun g ok before places long).good 0
    ∙ with_other (count g - 1) empty 0 (λ z. omega (arith, z, ok.two-or_more))

-- ---- nothing is sent exactly when all are held

each_none : (g : Setting) (ok : Allowed g) (l : List ℕ) → each g ok 1 l ≡ [] → length l ≡ 0
unfolding each
each_none g ok [] e = refl
each_none g ok (j ∷ l) e = absurd (omega (arith, ap length e))

module _ (g : Setting) (ok : Allowed g) where
  -- the numbers of a round that is given the set a
  none-sent : (a : Numbers) → ((i : ℕ) → i < count g → a i ≡ true) ↔ (each g ok 1 (numbers_of (count g) g.s a) ≡ [])
  unfolding each
  none-sent a = (
    (λ f. ap (each g ok 1) (no_numbers (count g) g.s a f)),
    λ e i lt. by i lt e (a i) refl,
  )
    where
      by : (i : ℕ) → i < count g → each g ok 1 (numbers_of (count g) g.s a) ≡ [] → (t : Bool) → a i ≡ t → a i ≡ true
      by i lt e true q = q
      by i lt e false q = absurd (omega (arith, some_numbers (count g) g.s a i lt q, each_none g ok (numbers_of (count g) g.s a) e, ok.one-or_more))

  -- where the receiver stands for a set that is also given, or for a part of the message and nothing is given
  Alike : Numbers → Numbers → Type 0
  Alike h a = ((i : ℕ) → i < count g → h i ≡ true) ↔ ((i : ℕ) → i < count g → a i ≡ true)

  alike-after : (p : Position) (h a : Numbers) (cs : List Choice) → Stands g ok p h a → Alike h a
      → (h' : Numbers) × (a' : Numbers) × Stands g ok (played_all g p cs) h' a' × Alike h' a'
  unfolding Alike played_all
  alike-after p h a [] q e = (h, a, q, e)
  alike-after p h a (c ∷ cs) q e =
      let next = after_round (count g) g.s a h c in
      alike-after (played g p c) next next cs (played-stands g ok p h a c q) ((λ f. f), λ f. f)

  alike-opened : Alike (with (count g - 1) empty) empty
  unfolding Alike
  alike-opened = (
    (λ f. absurd (never (f 0 (omega (arith, ok.two-or_more))) (with_other (count g - 1) empty 0 (λ z. omega (arith, z, ok.two-or_more))))),
    λ f. absurd (never (f 0 (omega (arith, ok.two-or_more))) refl),
  )

pub nothing_when_whole : NothingWhenWhole
unfolding NothingWhenWhole after_rounds Alike
nothing_when_whole g ok before places long cs = (
  (λ w. sends ∙ (none-sent g ok a).0 (there.3.0 ((all_held g ok p h a there.2).0 w))),
  λ e. (all_held g ok p h a there.2).1 (there.3.1 ((none-sent g ok a).1 (sym sends ∙ e))),
)
  where
    p : Position
    p = played_all g (opened g (after_all before (fresh places))) cs

    there : (h : Numbers) × (a : Numbers) × Stands g ok p h a × Alike g ok h a
    there = alike-after g ok (opened g (after_all before (fresh places))) (with (count g - 1) empty) empty cs (begun g ok before places long) (alike-opened g ok)

    h : Numbers
    h = there.0

    a : Numbers
    a = there.1

    sends : round_sent g p.acknowledged ≡ each g ok 1 (numbers_of (count g) g.s a)
    sends = round-sends g ok p.acknowledged ∙ ap (λ (f : Numbers). each g ok 1 (numbers_of (count g) g.s f)) (fun_ext there.2.given)

-- ---- the bound is met

pub two_are_needed : TwoAreNeeded
unfolding TwoAreNeeded after_rounds played_all destroyed remaining with with_all failing taken numbers_of after_round
two_are_needed g ok two s before places long =
    (true ∷ false ∷ [], lit≤ tt, λ w. never ((all_held g ok _ _ _ stands).0 w 0 (omega (arith, two))) refl)
  where
    stands : Stands g ok (played g (opened g (after_all before (fresh places))) (true ∷ false ∷ [])) (after_round 2 2 empty (with 1 empty) (true ∷ false ∷ [])) (after_round 2 2 empty (with 1 empty) (true ∷ false ∷ []))
    stands =
        subst (λ (x : ℕ). Stands g ok (played g (opened g (after_all before (fresh places))) (true ∷ false ∷ [])) (after_round 2 x empty (with 1 empty) (true ∷ false ∷ [])) (after_round 2 x empty (with 1 empty) (true ∷ false ∷ []))) s
        (subst (λ (x : ℕ). Stands g ok (played g (opened g (after_all before (fresh places))) (true ∷ false ∷ [])) (after_round x g.s empty (with (x - 1) empty) (true ∷ false ∷ [])) (after_round x g.s empty (with (x - 1) empty) (true ∷ false ∷ []))) two
        (played-stands g ok _ _ empty (true ∷ false ∷ []) (begun g ok before places long)))
