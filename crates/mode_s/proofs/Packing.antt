-- The number names the answer. The idea: each part of a number is read back by itself, so an unpacking function gives every
-- answer back; two answers with one number are then one answer.
use mathlib.Core.Path.{◌≡◌, refl, sym, ap, ◌∙◌}
use mathlib.Core.Logic.{◌⊎◌, inl, inr}
use mathlib.Core.List.{List}
use Prim.Native.Nat.{ℕ, ◌^◌, ◌<◌}
use native.Mathlib.Omega.{arith}
use lib.Dec.{lit<}
use Rattle.outcome.specs.Outcomes.{Outcome}
use Rattle.outcome.specs.Outcomes.Outcome.{refusal, answer}
use Rattle.sensor.specs.Verdicts.{sole_mark, several_mark}
use Rattle.mode_s.specs.Packing.{parts, number_in, refusal_in, mark_in, window_in, bits_in, address_in, Source, refused_number, packed, answer_of, answer_by, unpacked, GivesBack, OneToOne, OneToOneOfOne, AlikeWhereRefused, PartsApart, NeverZero}
use Rattle.mode_s.specs.Packing.Answer.{refused, given}
use Rattle.mode_s.specs.Packing.Possible.{refused_by, sealed, own, all_call, broadcast, not_ours, clean, dense, no_fit, corrected, divided}

-- ---- the parts

pub parts-apart : PartsApart
unfolding PartsApart parts number_in refusal_in mark_in window_in bits_in address_in
parts-apart n f m w b a hn hf hm hw hb ha =
    (omega arith, omega arith, omega arith, omega arith, omega arith, omega arith, omega arith)

-- ---- the answer of some parts, given back

given_back : (n f m w b a : ℕ) → n < 2 ^ 8 → f < 2 ^ 8 → m < 2 ^ 8 → w < 2 ^ 8 → b < 2 ^ 8 → a < 2 ^ 24
    → unpacked (parts n f m w b a) ≡ answer_by n f m w b a
unfolding unpacked PartsApart
given_back n f m w b a hn hf hm hw hb ha =
    let x : ℕ = parts n f m w b a in
    let p = parts-apart n f m w b a hn hf hm hw hb ha in
    ap (λ (t : ℕ). answer_by t (refusal_in x) (mark_in x) (window_in x) (bits_in x) (address_in x)) p.0
    ∙ ap (λ (t : ℕ). answer_by n t (mark_in x) (window_in x) (bits_in x) (address_in x)) p.1
    ∙ ap (λ (t : ℕ). answer_by n f t (window_in x) (bits_in x) (address_in x)) p.2
    ∙ ap (λ (t : ℕ). answer_by n f m t (bits_in x) (address_in x)) p.3
    ∙ ap (λ (t : ℕ). answer_by n f m w t (address_in x)) p.4
    ∙ ap (λ (t : ℕ). answer_by n f m w b t) p.5

-- an answer that has only its number
alone : (n : ℕ) → n < 2 ^ 8 → unpacked (parts n 0 0 0 0 0) ≡ answer_by n 0 0 0 0 0
alone n h = given_back n 0 0 0 0 0 h (lit< tt) (lit< tt) (lit< tt) (lit< tt) (lit< tt)

mark_small : (k : ℕ) → (k ≡ sole_mark) ⊎ (k ≡ several_mark) → k < 2 ^ 8
mark_small k (inl e) = omega arith
mark_small k (inr e) = omega arith

pub gives_back : GivesBack
unfolding GivesBack packed
gives_back s o (refused_by _ n _ h) = given_back _ _ _ _ _ _ (lit< tt) (omega arith) (lit< tt) (lit< tt) (lit< tt) (lit< tt)
gives_back s o sealed = alone _ (lit< tt)
gives_back s o own = alone _ (lit< tt)
gives_back s o all_call = alone _ (lit< tt)
gives_back s o broadcast = alone _ (lit< tt)
gives_back s o (not_ours a h) = given_back _ _ _ _ _ _ (lit< tt) (lit< tt) (lit< tt) (lit< tt) (lit< tt) h
gives_back s o clean = alone _ (lit< tt)
gives_back s o (dense w h) = given_back _ _ _ _ _ _ (lit< tt) (lit< tt) (lit< tt) (omega arith) (lit< tt) (lit< tt)
gives_back s o no_fit = alone _ (lit< tt)
gives_back s o (corrected w b k hw _ hb hk) = given_back _ _ _ _ _ _ (lit< tt) (lit< tt) (mark_small k hk) (omega arith) (omega arith) (lit< tt)
gives_back s o divided = alone _ (lit< tt)

-- ---- one to one

pub one_to_one : OneToOne
unfolding OneToOne GivesBack
one_to_one s t o p x y e = sym (gives_back s o x) ∙ ap unpacked e ∙ gives_back t p y

refused_is_none_given : {n k : ℕ} {s : Source} {vs : List ℕ} → refused n ≡ given s k vs → ⊥
refused_is_none_given e = let z : ◌≡◌ {A = ℕ} 0 1 = cc in omega arith

same_row : {n k : ℕ} → refused n ≡ refused k → n ≡ k
same_row e = cc

-- an answer tells the outcome, and whose it is unless it is a refusal
same_outcome : (s : Source) (o p : Outcome) → answer_of s o ≡ answer_of s p → o ≡ p
same_outcome s (refusal n) (refusal k) e = cc
same_outcome s (refusal n) (answer k vs) e = absurd (refused_is_none_given e)
same_outcome s (answer n us) (refusal k) e = absurd (refused_is_none_given (sym e))
same_outcome s (answer n us) (answer k vs) e = cc

pub one_to_one_of_one : OneToOneOfOne
unfolding OneToOneOfOne OneToOne
one_to_one_of_one s o p x y e = same_outcome s o p (one_to_one s s o p x y e)

told-apart : (s t : Source) (o p : Outcome) → answer_of s o ≡ answer_of t p → (s ≡ t → ⊥) → (n : ℕ) × (o ≡ refusal n) × (p ≡ refusal n)
told-apart s t (refusal n) (refusal k) e d = (n, refl, ap refusal (sym (same_row e)))
told-apart s t (refusal n) (answer k vs) e d = absurd (refused_is_none_given e)
told-apart s t (answer n us) (refusal k) e d = absurd (refused_is_none_given (sym e))
told-apart s t (answer n us) (answer k vs) e d = absurd (d cc)

pub alike_where_refused : AlikeWhereRefused
unfolding AlikeWhereRefused OneToOne
alike_where_refused s t o p x y e d = told-apart s t o p (one_to_one s t o p x y e) d

-- a refusal has one number, whichever call gave it, so the answer alone fixes the number
pub same-answer-same-number : (s t : Source) (o p : Outcome) → answer_of s o ≡ answer_of t p → packed s o ≡ packed t p
unfolding packed
same-answer-same-number s t (refusal n) (refusal k) e = ap (λ (x : ℕ). parts refused_number x 0 0 0 0) (same_row e)
same-answer-same-number s t (refusal n) (answer k vs) e = absurd (refused_is_none_given e)
same-answer-same-number s t (answer n us) (refusal k) e = absurd (refused_is_none_given (sym e))
same-answer-same-number s t (answer n us) (answer k vs) e =
    let z : s ≡ t = cc in
    let x : answer n us ≡ answer k vs = cc in
    ap (λ (q : Source). packed q (answer n us)) z ∙ ap (packed t) x

-- ---- never zero

number_of_some : (n f m w b a : ℕ) → 0 < n → n < 2 ^ 8 → parts n f m w b a ≡ 0 → ⊥
unfolding parts
number_of_some n f m w b a g h e = omega arith

pub never_zero : NeverZero
unfolding NeverZero packed
never_zero s o (refused_by _ n _ _) = number_of_some _ _ _ _ _ _ (lit< tt) (lit< tt)
never_zero s o sealed = number_of_some _ _ _ _ _ _ (lit< tt) (lit< tt)
never_zero s o own = number_of_some _ _ _ _ _ _ (lit< tt) (lit< tt)
never_zero s o all_call = number_of_some _ _ _ _ _ _ (lit< tt) (lit< tt)
never_zero s o broadcast = number_of_some _ _ _ _ _ _ (lit< tt) (lit< tt)
never_zero s o (not_ours a _) = number_of_some _ _ _ _ _ _ (lit< tt) (lit< tt)
never_zero s o clean = number_of_some _ _ _ _ _ _ (lit< tt) (lit< tt)
never_zero s o (dense w _) = number_of_some _ _ _ _ _ _ (lit< tt) (lit< tt)
never_zero s o no_fit = number_of_some _ _ _ _ _ _ (lit< tt) (lit< tt)
never_zero s o (corrected w b k _ _ _ _) = number_of_some _ _ _ _ _ _ (lit< tt) (lit< tt)
never_zero s o divided = number_of_some _ _ _ _ _ _ (lit< tt) (lit< tt)
