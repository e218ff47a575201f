-- The remainders, one after the other: a list with each reply's remainder in its place is the list of the definition.
use mathlib.Core.Path.{◌≡◌, refl, sym, ap, ◌∙◌, subst}
use mathlib.Core.Logic.{◌⊎◌, inl, inr}
use mathlib.Core.List.{List}
use Prim.Native.Nat.{ℕ, zero, suc, ◌+◌, ◌*◌, ◌<◌, ◌≤◌}
use native.Mathlib.Nat.{eq-or-lt_of_le, not-suc-le-zero}
use native.Mathlib.Omega.{arith}
use lib.ListN.{length, get_or, take, drop, set, length-drop}
use lib.Seq.{get_or-set_same, get_or-set_other, drop-drop, ext_get_or, length-take-le}
use Rattle.outcome.specs.Outcomes.{value}
use Rattle.message.specs.Message.{number, Bytes}
use Rattle.message.proofs.Laws.{long_length}
use Rattle.division.specs.Division.{remainder}
use Rattle.division.proofs.Laws.{remainder-value}
use Rattle.remainders.specs.Recording.{remainders_of, EachAlone}
use Rattle.remainders.specs.Entries.{AreTables, words_at, sum_of}
use Rattle.remainders.specs.declared.replies.Words.{Words}
use Rattle.remainders.proofs.Summing.{sum-is-remainder}

abbrev pub reply_remainder : List ℕ → ℕ → ℕ
reply_remainder s i = remainder (number (take 14 (drop (14 * i) s)))

-- the first n are there
unfoldable pub Divided : List ℕ → ℕ → List ℕ → Type 0
Divided s n out = (j : ℕ) → j < n → get_or out j 0 ≡ reply_remainder s j

pub divided_none : (s out : List ℕ) → Divided s 0 out
unfolding Divided
divided_none s out j h = absurd (not-suc-le-zero h)

-- one more, from the words that are at hand for it
pub divided_next : (t s out : List ℕ) (i v : ℕ) (w : Words) → AreTables t → Bytes s → i < length out → 14 * i + 14 ≤ length s
    → w ≡ words_at s (14 * i) → v ≡ sum_of t w.first w.second w.ninth w.tenth w.last → Divided s i out → Divided s (i + 1) (set out i v)
unfolding Divided
divided_next t s out i v w tables bytes within room ew ev d j h = by (eq-or-lt_of_le (omega arith))
  where
    value : v ≡ reply_remainder s i
    value =
        ev ∙ ap (λ (w : Words). sum_of t w.first w.second w.ninth w.tenth w.last) ew
        ∙ sum-is-remainder s (14 * i) t tables bytes room

    by : (j ≡ i) ⊎ (j < i) → get_or (set out i v) j 0 ≡ reply_remainder s j
    by (inl same) = ap (λ (k : ℕ). get_or (set out i v) k 0) same ∙ get_or-set_same out i v 0 within ∙ value ∙ ap (reply_remainder s) (sym same)
    by (inr below) = get_or-set_other out i j v 0 (λ q. omega arith) ∙ d j below

remainders-length : (n : ℕ) (s : List ℕ) → length (remainders_of s n) ≡ n
unfolding remainders_of
remainders-length zero s = refl
remainders-length (suc n) s = ap suc (remainders-length n (drop 14 s))

remainders-at : (n : ℕ) (s : List ℕ) (j : ℕ) → j < n → get_or (remainders_of s n) j 0 ≡ reply_remainder s j
unfolding remainders_of
remainders-at zero s j h = absurd (not-suc-le-zero h)
remainders-at (suc n) s zero h = refl
remainders-at (suc n) s (suc j) h =
    remainders-at n (drop 14 s) j (omega arith)
    ∙ ap (λ l. remainder (number (take 14 l))) (drop-drop (14 * j) 14 s ∙ ap (λ (k : ℕ). drop k s) {x = 14 + 14 * j} {y = 14 * suc j} (omega arith))

pub divided_all : (s out : List ℕ) (n k : ℕ) → length out ≡ n → n ≤ k → Divided s k out → out ≡ remainders_of s n
unfolding Divided
divided_all s out n k l h d =
    ext_get_or 0 out (remainders_of s n) (l ∙ sym (remainders-length n s))
    (λ i below. let b : i < n = subst (λ (m : ℕ). i < m) l below in d i (omega arith) ∙ sym (remainders-at n s i b))

pub ruleset divided = (divided_none, divided_next, divided_all)

pub each_alone : EachAlone
unfolding EachAlone
each_alone s n l = (
  remainders-length n s,
  λ i h.
      remainder-value (take 14 (drop (14 * i) s))
      (long_length _ (length-take-le 14 (drop (14 * i) s) (subst (λ (k : ℕ). 14 ≤ k) (sym (length-drop (14 * i) s)) (omega arith))))
      ∙ ap (λ (v : ℕ). value v) (sym (remainders-at n s i h)),
)
