-- Every call does what the machine does. The idea: a receiver and its places are the machine's (`Same`) before a call and after it;
-- the answers then agree, since the bits held are the machine's numbers. One case for each effect of a call.
use mathlib.Core.Path.{◌≡◌, refl, sym, ap, ap₂, ◌∙◌, subst, fun_ext}
use mathlib.Core.Bool.{Bool, true, false, cond, ◌&&◌}
use mathlib.Core.List.{List, [], ◌∷◌, ◌++◌}
use mathlib.Core.Option.{Option}
use mathlib.Core.Option.Option.{none, some}
use Prim.Native.Nat.{ℕ, zero, suc, ◌+◌, ◌-◌, ◌*◌, ◌/◌, ◌%◌, ◌^◌, ◌<◌, ◌≤◌}
use native.Mathlib.Omega.{arith}
use lib.Dec.{eqb, leb, lit<}
use lib.ListN.{length}
use lib.Pow.{shr-shr}
use borrow.Author.Tests.{eqb-true, eqb-false, ne_eqb, le-leb}
use Rattle.std.specs.Prelude.{Some, None, Ok, Err}
use Rattle.outcome.specs.Outcomes.{Outcome}
use Rattle.outcome.specs.Refusals.{number_of}
use Rattle.outcome.specs.declared.Refusal.{Refusal}
use Rattle.outcome.specs.declared.Refusal.TheVariants.{NothingOpened, NumberAboveLast}
use Rattle.transponder.specs.Receptions.{reception_outcome, answered}
use Rattle.transponder.specs.declared.Reception.TheVariants.{Own}
use Rattle.uplink_elm.specs.declared.Receiver.{Receiver}
use Rattle.uplink_elm.specs.declared.Progress.{Progress}
use Rattle.uplink_elm.specs.Segments.{is_extended, reply_control, segment_number, segment, bit_of, is_held, with_number, all_below, segment_at, stored}
use Rattle.uplink_elm.specs.Receiving.{Effect, one, is_whole, progress_of, with_progress, is_own, opening_effect, adding_effect, effect_of, own_effect, call_effect, receiver_of, segments_of, outcome_of, receiving_outcome, receiver_after, segments_after}
use Rattle.uplink_elm.proofs.Laws.{held-lt, held_is, with-here, with_other, with-lt, first-number, nothing_held, stored-length, stored_here, stored_other, segment-length, own_answer, long_message, number-lt_16}
use Rattle.uplink_elm_meaning.specs.Machine.{Machine, start, Step, storing, opens, stores, does, is_some, holds, bits_below, acknowledgement, whole, progress, step, resulting, showing, machine_after, machine_outcome}
use Rattle.uplink_elm_meaning.specs.Machine.Step.{refuses, becomes}
use Rattle.uplink_elm_meaning.specs.Running.{Call, State, fresh, after, after_all, answers, machine_after_all, machine_answers, Same, AsTheMachine}

-- ---- the bits held are their numbers

held_bit : (held k : ℕ) → k < 16 → one (is_held held k) ≡ held / 2 ^ (15 - k) % 2
held_bit held k h = ap one (sym (held_is held k h)) ∙ bit (held / 2 ^ (15 - k) % 2) (omega arith)
  where
    bit : (x : ℕ) → x < 2 → one (eqb x 1) ≡ x
    bit zero l = refl
    bit (suc zero) l = refl
    bit (suc (suc x)) l = absurd (omega arith)

bits_up_to : (held k : ℕ) → held < 2 ^ 16 → k ≤ 16 → bits_below (is_held held) k ≡ held / 2 ^ (16 - k)
unfolding bits_below
bits_up_to held zero h l = omega (arith, h)
bits_up_to held (suc k) h l =
    ap₂ (λ (a b : ℕ). a * 2 + b) (bits_up_to held k h (omega arith)) (held_bit held k l)
    ∙ ap (λ (a : ℕ). a * 2 + held / 2 ^ (15 - k) % 2) halved ∙ whole_of (held / 2 ^ (15 - k)) ∙ ap (λ (e : ℕ). held / 2 ^ e) left_over
  where
    left_over : 15 - k ≡ 16 - suc k
    left_over = omega arith

    halved : held / 2 ^ (16 - k) ≡ held / 2 ^ (15 - k) / 2
    halved =
        let next : 15 - k + 1 ≡ 16 - k = omega arith in
        ap (λ (e : ℕ). held / 2 ^ e) (sym next) ∙ sym (shr-shr held (15 - k) 1)

    whole_of : (x : ℕ) → x / 2 * 2 + x % 2 ≡ x
    whole_of x = omega arith

bits_of_held : (held : ℕ) → held < 2 ^ 16 → bits_below (is_held held) 16 ≡ held
bits_of_held held h = bits_up_to held 16 h (omega arith) ∙ omega arith

-- ---- a receiver that is the machine's

pub record Good (t : State) (s : Machine) : Type 0 where
  pub same : Same t s
  pub long : length t.places ≡ 160
  pub narrow : t.receiver.held < 2 ^ 16

module _ (t : State) (s : Machine) (g : Good t s) where
  pub same_numbers : (k : ℕ) → is_held t.receiver.held k ≡ holds s k
  same_numbers k = told (is_held t.receiver.held k) ∙ ap is_some (g.same.2 k)
    where
      told : (u : Bool) → u ≡ is_some (cond u (some (segment_at t.places k)) none)
      told true = refl
      told false = refl

  pub same-progress : progress_of t.receiver ≡ progress s
  unfolding is_whole whole acknowledgement
  same-progress =
      ap₂ (λ (a : ℕ) (w : Bool). of-both a w)
      (sym (bits_of_held t.receiver.held g.narrow) ∙ ap (λ (f : ℕ → Bool). bits_below f 16) (fun_ext same_numbers))
      (ap₂ ◌&&◌ g.same.0 (ap₂ (λ (f : ℕ → Bool) (n : ℕ). all_below f (suc n)) (fun_ext same_numbers) g.same.1))
    where
      of-both : ℕ → Bool → Progress
      of-both a w = record { acknowledgement = a; whole = w }

-- ---- a segment stored

module _ (held : ℕ) (places : List ℕ) (n : ℕ) (b : List ℕ) (f : ℕ → Option (List ℕ)) (small : n < 16) (ten : length b ≡ 10) (long : length places ≡ 160) where
  fits : (k : ℕ) → k < 16 → k * 10 + 10 ≤ length places
  fits k h = omega (arith, long)

  keeps : ((k : ℕ) → cond (is_held held k) (some (segment_at places k)) none ≡ f k)
      → (k : ℕ) → cond (is_held (with_number held n) k) (some (segment_at (stored n b places) k)) none ≡ storing n b f k
  keeps h k = by (eqb k n) refl
    where
      picked : Bool → List ℕ → Option (List ℕ)
      picked u x = cond u (some x) none

      others : (u : Bool) → is_held held k ≡ u → (k ≡ n → ⊥) → picked u (segment_at (stored n b places) k) ≡ picked u (segment_at places k)
      others true e d = ap some (stored_other n b places ten (fits n small) k d (fits k (held-lt held k e)))
      others false e d = refl

      by : (t : Bool) → eqb k n ≡ t → picked (is_held (with_number held n) k) (segment_at (stored n b places) k) ≡ cond t (some b) (f k)
      by true e =
          let p : k ≡ n = eqb-true k n e in
          ap₂ picked (ap (is_held (with_number held n)) p ∙ with-here held n small) (ap (segment_at (stored n b places)) p ∙ stored_here n b places ten (fits n small))
      by false e =
          let d : k ≡ n → ⊥ = eqb-false k n e in
          ap (λ (u : Bool). picked u (segment_at (stored n b places) k)) (with_other held n small k d) ∙ others (is_held held k) refl d ∙ h k

-- ---- one call

module _ (own : ℕ) (m : List ℕ) (t : State) (s : Machine) (g : Good t s) where
  r : Receiver
  r = t.receiver

  o : Outcome
  o = reception_outcome own m

  n : ℕ
  n = segment_number m

  -- an effect of the call answers and leaves what a step of the machine does
  Alike : Effect → Step → Type 0
  Alike e p = (outcome_of e o r ≡ showing p o) × Good (record { receiver = receiver_of e r; places = segments_of e m t.places }) (resulting p s)

  nothing-alike : Alike (Ok None) (becomes s)
  unfolding Alike r
  nothing-alike = (ap (with_progress o) (same-progress t s g), g)

  refused-alike : (e : Refusal) → Alike (Err e) (refuses (number_of e))
  unfolding Alike r
  refused-alike e = (refl, g)

  stored-alike : (q : Receiver) (p : Machine) → Good (record { receiver = q; places = stored n (segment m) t.places }) p → Alike (Ok (Some q)) (becomes p)
  unfolding Alike r n
  stored-alike q p h = (ap (with_progress o) (same-progress _ p h), h)

  module _ (ten : length (segment m) ≡ 10) where
    placed : (held : ℕ) (f : ℕ → Option (List ℕ)) (last : ℕ) (x : ℕ) → x ≡ last → held < 2 ^ 16
        → ((k : ℕ) → cond (is_held held k) (some (segment_at t.places k)) none ≡ f k)
        → Good (record { receiver = record { opened = true; last = x; held = with_number held n }; places = stored n (segment m) t.places })
        (record { opened = true; last = last; segments = storing n (segment m) f })
    unfolding n
    placed held f last x e h k = record {
      same = (refl, e, keeps held t.places n (segment m) f (number-lt_16 m) ten g.long k);
      long = stored-length n (segment m) t.places ten (fits held t.places n (segment m) f (number-lt_16 m) ten g.long n (number-lt_16 m)) ∙ g.long;
      narrow = with-lt held n h;
    }

    opening-alike : Alike (opening_effect n) (opens n (segment m))
    opening-alike = by (eqb n 0)
      where
        empty : (k : ℕ) → cond (is_held 0 k) (some (segment_at t.places k)) none ≡ none
        empty k = ap (λ (u : Bool). cond u (some (segment_at t.places k)) none) (nothing_held k)

        by : (u : Bool) → Alike (cond u (Err NothingOpened) (Ok (Some (record { opened = true; last = n; held = bit_of n }))))
            (cond u (refuses 10) (becomes (record { opened = true; last = n; segments = storing n (segment m) (λ k. none) })))
        by true = refused-alike NothingOpened
        by false =
            stored-alike (record { opened = true; last = n; held = bit_of n }) _
            (subst (λ (b : ℕ). Good (record { receiver = record { opened = true; last = n; held = b }; places = stored n (segment m) t.places }) (record { opened = true; last = n; segments = storing n (segment m) (λ k. none) }))
            (sym (first-number n)) (placed 0 (λ k. none) n n refl (lit< tt) empty))

    adding-alike : Alike (adding_effect n r) (stores n (segment m) s)
    unfolding r
    adding-alike =
        subst (λ (p : Step). Alike (adding_effect n r) p)
        (ap₂ (λ (a : Bool) (l : ℕ). cond a (cond (leb n l) (becomes next) (refuses 11)) (refuses 10)) g.same.0 g.same.1)
        (by t.receiver.opened (leb n t.receiver.last))
      where
        next : Machine
        next = record { opened = true; last = s.last; segments = storing n (segment m) s.segments }

        by : (a u : Bool)
            → Alike (cond a (cond u (Ok (Some (record { opened = true; last = t.receiver.last; held = with_number t.receiver.held n }))) (Err NumberAboveLast)) (Err NothingOpened))
            (cond a (cond u (becomes next) (refuses 11)) (refuses 10))
        by true true = stored-alike _ next (placed t.receiver.held s.segments s.last t.receiver.last g.same.1 g.narrow g.same.2)
        by true false = refused-alike NumberAboveLast
        by false u = refused-alike NothingOpened

    does-alike : (c : ℕ) → Alike (effect_of c n r) (does c n (segment m) s)
    unfolding effect_of does
    does-alike zero = opening-alike
    does-alike (suc zero) = adding-alike
    does-alike (suc (suc zero)) = adding-alike
    does-alike (suc (suc (suc k))) = nothing-alike

  call-alike : Alike (call_effect own m r) (step own m s)
  unfolding call_effect own_effect step n
  call-alike = by (is_own (reception_outcome own m)) refl (is_extended m) refl
    where
      by : (x : Bool) → is_own (reception_outcome own m) ≡ x → (y : Bool) → is_extended m ≡ y
          → Alike (cond x (cond y (effect_of (reply_control m) n r) (Ok None)) (Ok None)) (cond (x && y) (does (reply_control m) n (segment m) s) (becomes s))
      by true e true f = does-alike (segment-length m (long_message own m (own_answer own m e) f)) (reply_control m)
      by true e false f = nothing-alike
      by false e y f = nothing-alike

  pub same_outcome : receiving_outcome own m t.receiver ≡ machine_outcome own m s
  unfolding receiving_outcome machine_outcome Alike r o
  same_outcome = call-alike.0

  pub good-after : Good (record { receiver = receiver_after own m t.receiver; places = segments_after own m t.receiver t.places }) (machine_after own m s)
  unfolding receiver_after segments_after machine_after Alike r
  good-after = call-alike.1

-- ---- every list of calls

pub good_all : (cs : List Call) (t : State) (s : Machine) → Good t s
    → (answers cs t ≡ machine_answers cs s) × Good (after_all cs t) (machine_after_all cs s)
unfolding answers machine_answers after_all machine_after_all
good_all [] t s g = (refl, g)
good_all (c ∷ cs) t s g =
    let rest = good_all cs (after c t) (machine_after c.own c.message s) (good-after c.own c.message t s g) in
    (ap₂ ◌∷◌ (same_outcome c.own c.message t s g) rest.0, rest.1)

pub good_fresh : (places : List ℕ) → length places ≡ 160 → Good (fresh places) start
good_fresh places h = record {
  same = (refl, refl, λ k. ap (λ (u : Bool). cond u (some (segment_at places k)) none) (nothing_held k));
  long = h;
  narrow = lit< tt;
}

pub as_the_machine : AsTheMachine
unfolding AsTheMachine
as_the_machine places cs h = let all = good_all cs (fresh places) start (good_fresh places h) in (all.0, all.1.same)

-- ---- the machine, call by call

pub same-all : (places : List ℕ) (cs : List Call) → length places ≡ 160 → Same (after_all cs (fresh places)) (machine_after_all cs start)
unfolding AsTheMachine
same-all places cs h = (as_the_machine places cs h).1

pub machine_after-none : (s : Machine) → machine_after_all [] s ≡ s
unfolding machine_after_all
machine_after-none s = refl

pub machine_after-one : (c : Call) (cs : List Call) (s : Machine) → machine_after_all (c ∷ cs) s ≡ machine_after_all cs (machine_after c.own c.message s)
unfolding machine_after_all
machine_after-one c cs s = refl

pub machine_after-append : (cs ds : List Call) (s : Machine) → machine_after_all (cs ++ ds) s ≡ machine_after_all ds (machine_after_all cs s)
unfolding machine_after_all
machine_after-append [] ds s = refl
machine_after-append (c ∷ cs) ds s = machine_after-append cs ds (machine_after c.own c.message s)

-- a message that the transponder answers 'own', by its parts
pub step_of_own : (own : ℕ) (m : List ℕ) (c n : ℕ) (b : List ℕ) (s : Machine) → reception_outcome own m ≡ answered Own → is_extended m ≡ true
    → reply_control m ≡ c → segment_number m ≡ n → segment m ≡ b → machine_after own m s ≡ resulting (does c n b s) s
unfolding machine_after step
step_of_own own m c n b s e f h i j =
    ap (λ (t : Bool). resulting (cond t (does (reply_control m) (segment_number m) (segment m) s) (becomes s)) s) (ap₂ ◌&&◌ (ap is_own e) f)
    ∙ ap (λ (x : ℕ). resulting (does x (segment_number m) (segment m) s) s) h ∙ ap₂ (λ (x : ℕ) (y : List ℕ). resulting (does c x y s) s) i j

-- what each RC makes of it, where no row refuses
pub opened_with : (n : ℕ) (b : List ℕ) (s : Machine) → (n ≡ 0 → ⊥)
    → resulting (does 0 n b s) s ≡ record { opened = true; last = n; segments = storing n b (λ k. none) }
unfolding does
opened_with n b s h =
    ap (λ (t : Bool). resulting (cond t (refuses 10) (becomes (record { opened = true; last = n; segments = storing n b (λ k. none) }))) s) (ne_eqb n 0 h)

pub adds_to : (n : ℕ) (b : List ℕ) (s : Machine) → s.opened ≡ true → n ≤ s.last
    → does 1 n b s ≡ becomes (record { opened = true; last = s.last; segments = storing n b s.segments })
unfolding does
adds_to n b s e h =
    ap₂ (λ (t u : Bool). cond t (cond u (becomes (record { opened = true; last = s.last; segments = storing n b s.segments })) (refuses 11)) (refuses 10))
    e (le-leb n s.last h)

pub added_to : (n : ℕ) (b : List ℕ) (s : Machine) → s.opened ≡ true → n ≤ s.last
    → resulting (does 1 n b s) s ≡ record { opened = true; last = s.last; segments = storing n b s.segments }
added_to n b s e h = ap (λ (p : Step). resulting p s) (adds_to n b s e h)

-- RC 2 stores as RC 1 does
pub asking_adds : (n : ℕ) (b : List ℕ) (s : Machine) → does 2 n b s ≡ does 1 n b s
unfolding does
asking_adds n b s = refl

-- what such a call shows
pub shown_of_own : (own : ℕ) (m : List ℕ) (s : Machine) → reception_outcome own m ≡ answered Own → is_extended m ≡ true
    → machine_outcome own m s ≡ showing (does (reply_control m) (segment_number m) (segment m) s) (answered Own)
unfolding machine_outcome step
shown_of_own own m s e f =
    ap (λ (t : Bool). showing (cond t (does (reply_control m) (segment_number m) (segment m) s) (becomes s)) (reception_outcome own m)) (ap₂ ◌&&◌ (ap is_own e) f)
    ∙ ap (showing (does (reply_control m) (segment_number m) (segment m) s)) e
