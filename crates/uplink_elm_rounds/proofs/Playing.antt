-- The game by its sets. The idea: after the opening the receiver is a machine that holds the segments of one set of numbers and no other
-- (`machine_of`); each transmission that is heard adds its number, and the acknowledgement is that set again.
use mathlib.Core.Path.{◌≡◌, refl, sym, ap, ap₂, ◌∙◌, subst, fun_ext}
use mathlib.Core.Bool.{Bool, true, false, cond, ◌||◌}
use mathlib.Core.List.{List, [], ◌∷◌}
use mathlib.Core.Option.{Option}
use mathlib.Core.Option.Option.{none, some}
use Prim.Native.Nat.{ℕ, ◌-◌, ◌^◌, ◌<◌}
use native.Mathlib.Omega.{arith}
use lib.Dec.{eqb, lit<}
use lib.ListN.{length}
use lib.Seq.{take_at, drop_at}
use borrow.Author.Tests.{eqb-true}
use Rattle.outcome.specs.Outcomes.{Outcome}
use Rattle.transponder.specs.Receptions.{Permitted, answered}
use Rattle.transponder.specs.declared.Reception.TheVariants.{Own}
use Rattle.uplink_elm.specs.declared.Progress.{Progress}
use Rattle.uplink_elm.specs.Segments.{segment_number, segment, is_held, segment_at}
use Rattle.uplink_elm.specs.Receiving.{receiving_outcome}
use Rattle.uplink_elm.proofs.Laws.{nothing_held, segment-at-length}
use Rattle.uplink_elm_meaning.specs.Machine.{Machine, Step, storing, does, is_some, resulting, showing, machine_after, machine_outcome}
use Rattle.uplink_elm_meaning.specs.Machine.Step.{becomes}
use Rattle.uplink_elm_meaning.specs.Running.{State, after}
use Rattle.uplink_elm_meaning.proofs.Laws.{Good, same_numbers, same-progress, same_outcome, good-after, opened_with, adds_to, asking_adds, sealed-step, sealed-shows}
use Rattle.uplink_elm_sending.specs.Sending.{unsealed, transmission, transmissions, opening_after, exchange_after}
use Rattle.uplink_elm_sending.proofs.Laws.{round_by_test, unsealed-parts, transmission-length, transmission-sealed, opening-written, exchange-written, round-answered, round-written}
use Rattle.uplink_elm_rounds.specs.Game.{Setting, count, Allowed, first_value, in_buffer, room, round_sent, Choice, remaining, call, heard, Position, opened, exchanged, played}
use Rattle.uplink_elm_rounds.proofs.Sets.{Numbers, empty, with, with_all, numbers_of, after_round, Lacked, remaining_lacked, numbers_lacked}

module _ (g : Setting) (ok : Allowed g) where
  own_lt : g.own < 2 ^ 24
  unfolding Permitted
  own_lt = omega (arith, ok.permitted.0)

  ten : (j : ℕ) → j < count g → length (segment_at g.segments j) ≡ 10
  ten j lt = segment-at-length g.segments j (omega (arith, ok.whole_segments, lt))

  last-lt : count g - 1 < count g
  last-lt = omega (arith, ok.two-or_more)

  -- ---- the transmissions of some numbers, one by one

  unfoldable pub each : ℕ → List ℕ → List (List ℕ)
  each rc [] = []
  each rc (j ∷ l) = transmission g.own rc j (segment_at g.segments j) ∷ each rc l

  in_buffer_lem : (rc : ℕ) (a : Numbers) (l : List ℕ) → Lacked (count g) a l → in_buffer (length l) (transmissions g.own rc g.segments l) ≡ each rc l
  unfolding Lacked in_buffer transmissions each
  in_buffer_lem rc a [] k = refl
  in_buffer_lem rc a (j ∷ l) k =
      let long = transmission-length rc j (segment_at g.segments j) (ten j k.0) g.own in
      let first = transmission g.own rc j (segment_at g.segments j) in
      let rest = transmissions g.own rc g.segments l in
      ap₂ (λ (x : List ℕ) (y : List ℕ). x ∷ in_buffer (length l) y) (take_at first rest 14 long) (drop_at first rest 14 long)
      ∙ ap (λ (x : List (List ℕ)). transmission g.own rc j (segment_at g.segments j) ∷ x) (in_buffer_lem rc a l k.2)

  remaining-each : (rc : ℕ) (c : Choice) (l : List ℕ) → remaining c (each rc l) ≡ each rc (remaining c l)
  unfolding remaining each
  remaining-each rc [] l = refl
  remaining-each rc (b ∷ c) [] = refl
  remaining-each rc (true ∷ c) (j ∷ l) = remaining-each rc c l
  remaining-each rc (false ∷ c) (j ∷ l) = ap (λ (x : List (List ℕ)). transmission g.own rc j (segment_at g.segments j) ∷ x) (remaining-each rc c l)

  -- what a round sends is that of its numbers
  pub round-sends : (x : ℕ) → round_sent g x ≡ each 1 (numbers_of (count g) g.s (is_held x))
  unfolding round_sent numbers_of
  round-sends x =
      ap₂ (λ (o : Outcome) (b : List ℕ). in_buffer (first_value o) b)
      (round-answered g.own g.segments own_lt ok.whole_segments ok.two-or_more ok.sixteen_at_most x g.s ok.one-or_more ok.round_of_sixteen)
      (round-written g.own g.segments own_lt ok.whole_segments ok.two-or_more ok.sixteen_at_most x g.s ok.one-or_more ok.round_of_sixteen (g.buffer (room g x)) (ok.lent (room g x)))
      ∙ ap (λ (l : List ℕ). in_buffer (length l) (transmissions g.own 1 g.segments l)) (round_by_test x (count g) g.s)
      ∙ in_buffer_lem 1 (is_held x) _ (numbers_lacked (count g) g.s (is_held x))

  -- ---- a transmission heard

  unfoldable pub machine_of : Numbers → Machine
  machine_of h = record { opened = true; last = count g - 1; segments = λ j. cond (h j) (some (segment_at g.segments j)) none }

  module _ (rc j : ℕ) (hc : rc < 4) (lt : j < count g) where
    sent : List ℕ
    sent = transmission g.own rc j (segment_at g.segments j)

    bare : List ℕ
    bare = unsealed rc j (segment_at g.segments j)

    small : j < 16
    small = omega (arith, lt, ok.sixteen_at_most)

    steps : (m : Machine) → machine_after g.own (transmission g.own rc j (segment_at g.segments j)) m ≡ resulting (does rc j (segment_at g.segments j) m) m
    unfolding sent bare
    steps m =
        let sealed = transmission-sealed rc j (segment_at g.segments j) (ten j lt) g.own own_lt hc small in
        let parts = unsealed-parts rc j (segment_at g.segments j) (ten j lt) hc small in
        ap (λ (l : List ℕ). machine_after g.own l m) sealed.1 ∙ sealed-step g.own bare ok.permitted sealed.0 parts.0 m
        ∙ ap (λ (x : ℕ). resulting (does x (segment_number bare) (segment bare) m) m) parts.1
        ∙ ap₂ (λ (x : ℕ) (y : List ℕ). resulting (does rc x y m) m) parts.2 parts.3

    shows : (m : Machine) → machine_outcome g.own (transmission g.own rc j (segment_at g.segments j)) m ≡ showing (does rc j (segment_at g.segments j) m) (answered Own)
    unfolding sent bare
    shows m =
        let sealed = transmission-sealed rc j (segment_at g.segments j) (ten j lt) g.own own_lt hc small in
        let parts = unsealed-parts rc j (segment_at g.segments j) (ten j lt) hc small in
        ap (λ (l : List ℕ). machine_outcome g.own l m) sealed.1 ∙ sealed-shows g.own bare ok.permitted sealed.0 parts.0 m
        ∙ ap (λ (x : ℕ). showing (does x (segment_number bare) (segment bare) m) (answered Own)) parts.1
        ∙ ap₂ (λ (x : ℕ) (y : List ℕ). showing (does rc x y m) (answered Own)) parts.2 parts.3

  -- one number more
  stored-as : (j : ℕ) (h : Numbers) → storing j (segment_at g.segments j) (λ i. cond (h i) (some (segment_at g.segments i)) none) ≡ (λ i. cond (with j h i) (some (segment_at g.segments i)) none)
  unfolding with
  stored-as j h = fun_ext (λ i. by i (eqb i j) refl)
    where
      by : (i : ℕ) (t : Bool) → eqb i j ≡ t
          → cond t (some (segment_at g.segments j)) (cond (h i) (some (segment_at g.segments i)) none) ≡ cond (t || h i) (some (segment_at g.segments i)) none
      by i true e = ap (λ (x : ℕ). some (segment_at g.segments x)) (sym (eqb-true i j e))
      by i false e = refl

  with_segments : (ℕ → Option (List ℕ)) → Machine
  with_segments f = record { opened = true; last = count g - 1; segments = f }

  adds : (j : ℕ) (h : Numbers) → j < count g → does 1 j (segment_at g.segments j) (machine_of h) ≡ becomes (machine_of (with j h))
  unfolding machine_of with_segments
  adds j h lt =
      adds_to j (segment_at g.segments j) (machine_of h) refl (omega (arith, lt))
      ∙ ap (λ (f : ℕ → Option (List ℕ)). becomes (with_segments f)) (stored-as j h)

  added : (j : ℕ) (h : Numbers) → j < count g → machine_after g.own (transmission g.own 1 j (segment_at g.segments j)) (machine_of h) ≡ machine_of (with j h)
  added j h lt = steps 1 j (lit< tt) lt (machine_of h) ∙ ap (λ (p : Step). resulting p (machine_of h)) (adds j h lt)

  pub heard-good : (a : Numbers) (l : List ℕ) → Lacked (count g) a l → (t : State) (h : Numbers) → Good t (machine_of h) → Good (heard g (each 1 l) t) (machine_of (with_all l h))
  unfolding Lacked heard each with_all
  heard-good a [] k t h q = q
  heard-good a (j ∷ l) k t h q =
      heard-good a l k.2 (after (call g (transmission g.own 1 j (segment_at g.segments j))) t) (with j h)
      (subst (Good _) (added j h k.0) (good-after g.own (transmission g.own 1 j (segment_at g.segments j)) t (machine_of h) q))

  -- ---- the opening and the exchange

  last-asks : (h : Numbers) → does 2 (count g - 1) (segment_at g.segments (count g - 1)) (machine_of h) ≡ becomes (machine_of (with (count g - 1) h))
  last-asks h = asking_adds _ _ (machine_of h) ∙ adds (count g - 1) h last-lt

  opening-is : opening_after g.own g.segments (g.buffer 14) ≡ transmission g.own 0 (count g - 1) (segment_at g.segments (count g - 1))
  opening-is = opening-written g.own g.segments own_lt ok.whole_segments ok.two-or_more ok.sixteen_at_most (g.buffer 14) (ok.lent 14)

  exchange-is : exchange_after g.own g.segments (g.buffer 14) ≡ transmission g.own 2 (count g - 1) (segment_at g.segments (count g - 1))
  exchange-is = exchange-written g.own g.segments own_lt ok.whole_segments ok.two-or_more ok.sixteen_at_most (g.buffer 14) (ok.lent 14)

  -- a receiver that holds the numbers of h, and a next round that is given those of a
  pub record Stands (p : Position) (h a : Numbers) : Type 0 where
    pub good : Good p.state (machine_of h)
    pub given : (i : ℕ) → is_held p.acknowledged i ≡ a i

  pub held_is : (t : State) (h : Numbers) → Good t (machine_of h) → (i : ℕ) → is_held t.receiver.held i ≡ h i
  unfolding machine_of
  held_is t h q i = same_numbers t (machine_of h) q i ∙ told (h i)
    where
      told : (u : Bool) → is_some (cond u (some (segment_at g.segments i)) none) ≡ u
      told true = refl
      told false = refl

  pub opened-stands : (t : State) (m : Machine) → Good t m → Stands (opened g t) (with (count g - 1) empty) empty
  unfolding opened machine_of with_segments
  opened-stands t m q = record {
    good = subst (Good _) is (good-after g.own (opening_after g.own g.segments (g.buffer 14)) t m q);
    given = nothing_held;
  }
    where
      is : machine_after g.own (opening_after g.own g.segments (g.buffer 14)) m ≡ machine_of (with (count g - 1) empty)
      is =
          ap (λ (l : List ℕ). machine_after g.own l m) opening-is ∙ steps 0 (count g - 1) (lit< tt) last-lt m
          ∙ opened_with (count g - 1) (segment_at g.segments (count g - 1)) m (λ z. omega (arith, z, ok.two-or_more))
          ∙ ap with_segments (stored-as (count g - 1) empty)

  exchanged-stands : (t : State) (h : Numbers) → Good t (machine_of h) → Stands (exchanged g t) (with (count g - 1) h) (with (count g - 1) h)
  unfolding exchanged
  exchanged-stands t h q = record { good = later; given = λ i. ap (λ (x : ℕ). is_held x i) brought ∙ held_is _ (with (count g - 1) h) later i }
    where
      x : List ℕ
      x = exchange_after g.own g.segments (g.buffer 14)

      m : Machine
      m = machine_of (with (count g - 1) h)

      is : machine_after g.own x (machine_of h) ≡ m
      is =
          ap (λ (l : List ℕ). machine_after g.own l (machine_of h)) exchange-is ∙ steps 2 (count g - 1) (lit< tt) last-lt (machine_of h)
          ∙ ap (λ (p : Step). resulting p (machine_of h)) (last-asks h)

      later : Good (after (call g x) t) m
      later = subst (Good _) is (good-after g.own x t (machine_of h) q)

      shown : receiving_outcome g.own x t.receiver ≡ showing (becomes m) (answered Own)
      shown =
          same_outcome g.own x t (machine_of h) q ∙ ap (λ (l : List ℕ). machine_outcome g.own l (machine_of h)) exchange-is
          ∙ shows 2 (count g - 1) (lit< tt) last-lt (machine_of h) ∙ ap (λ (p : Step). showing p (answered Own)) (last-asks h)

      brought : first_value (receiving_outcome g.own x t.receiver) ≡ (after (call g x) t).receiver.held
      brought = ap first_value shown ∙ sym (ap (λ (p : Progress). p.acknowledgement) (same-progress _ m later))

  -- ---- a round and its exchange

  pub played-stands : (p : Position) (h a : Numbers) (c : Choice) → Stands p h a
      → Stands (played g p c) (after_round (count g) g.s a h c) (after_round (count g) g.s a h c)
  unfolding played after_round
  played-stands p h a c q =
      exchanged-stands _ (with_all (remaining c (numbers_of (count g) g.s a)) h)
      (subst (λ (l : List (List ℕ)). Good (heard g l p.state) (machine_of (with_all (remaining c (numbers_of (count g) g.s a)) h))) (sym sends)
      (heard-good a (remaining c (numbers_of (count g) g.s a)) (remaining_lacked (count g) a c _ (numbers_lacked (count g) g.s a)) p.state h q.good))
    where
      sends : remaining c (round_sent g p.acknowledged) ≡ each 1 (remaining c (numbers_of (count g) g.s a))
      sends =
          ap (remaining c) (round-sends p.acknowledged ∙ ap (λ (f : Numbers). each 1 (numbers_of (count g) g.s f)) (fun_ext q.given))
          ∙ remaining-each 1 c (numbers_of (count g) g.s a)
