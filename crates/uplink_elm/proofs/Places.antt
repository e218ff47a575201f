-- The places of the segments: a segment that is stored stands in its place, and every other place stays. The idea: a byte outside
-- the ten that are written is the one before, by its index.
use mathlib.Core.Path.{◌≡◌, refl, sym, ap, ap₂, ◌∙◌, subst}
use mathlib.Core.Bool.{Bool, true, false}
use mathlib.Core.List.{List, [], ◌∷◌, ◌++◌, append-nil}
use Prim.Native.Nat.{ℕ, ◌+◌, ◌-◌, ◌*◌, ◌<◌, ◌≤◌}
use native.Mathlib.Omega.{arith}
use lib.Dec.{ltb}
use lib.ListN.{length, get_or, take, drop, length-append, length-drop, drop_of_length-le, get_or-append}
use lib.Seq.{take-length, length-take-le, take_at, drop_at, get_or-take, get_or-drop, get_or-append-add, ext_get_or}
use borrow.Author.Tests.{ltb-true, ltb-false}
use borrow.Rule.Slice.PartMut.{put_mid, Post-is}
use Rattle.outcome.proofs.Laws.{positive}
use Rattle.message.specs.Message.{field}
use Rattle.message.proofs.Laws.{field_is}
use Rattle.uplink_elm.specs.Segments.{segment, segment_at, stored}

-- ---- the copy of a segment

-- a list copied over another of one length, whose rest stays
pub copied : (k : ℕ) (src dst ys : List ℕ) → k ≡ length src → length dst ≤ length src → ys ≡ take k src ++ drop k dst → ys ≡ src
copied k src dst ys e h f =
    f ∙ ap (λ (n : ℕ). take n src ++ drop n dst) e
    ∙ ap₂ ◌++◌ (take-length src) (drop_of_length-le dst h) ∙ append-nil src

pub part_length : (a n : ℕ) (l : List ℕ) → a + n ≤ length l → length (take n (drop a l)) ≡ n
part_length a n l h = length-take-le n (drop a l) (omega (arith, length-drop a l))

-- ten bytes of the message, copied to the ten bytes from place n on
pub put_segment : (n : ℕ) (m s ys : List ℕ) → ys ≡ take 10 (drop 1 m) → put_mid (n * 10) (n * 10 + 10 - n * 10) s ys ≡ stored n (segment m) s
unfolding stored segment
put_segment n m s ys f =
    ap (λ (t : List ℕ). take (n * 10) s ++ (ys ++ t)) (Post-is (n * 10) (n * 10 + 10) s (omega arith))
    ∙ ap (λ (b : List ℕ). take (n * 10) s ++ (b ++ drop (n * 10 + 10) s)) f

-- ---- a segment stored

module _ (n : ℕ) (b s : List ℕ) (ten : length b ≡ 10) (fits : n * 10 + 10 ≤ length s) where
  front : length (take (n * 10) s) ≡ n * 10
  front = length-take-le (n * 10) s (omega arith)

  pub stored-length : length (stored n b s) ≡ length s
  unfolding stored
  stored-length =
      length-append (take (n * 10) s) (b ++ drop (n * 10 + 10) s) ∙ ap₂ ◌+◌ front (length-append b (drop (n * 10 + 10) s))
      ∙ omega (arith, ten, length-drop (n * 10 + 10) s)

  pub stored_here : segment_at (stored n b s) n ≡ b
  unfolding stored segment_at
  stored_here =
      ap (take 10) (drop_at (take (n * 10) s) (b ++ drop (n * 10 + 10) s) (n * 10) front)
      ∙ take_at b (drop (n * 10 + 10) s) 10 ten

  -- a byte outside the place
  before : (i : ℕ) → i < n * 10 → get_or (stored n b s) i 0 ≡ get_or s i 0
  unfolding stored
  before i h =
      get_or-append (take (n * 10) s) (b ++ drop (n * 10 + 10) s) 0 i (omega (arith, front)) ∙ get_or-take (n * 10) s i 0 h

  behind : (i : ℕ) → n * 10 + 10 ≤ i → get_or (stored n b s) i 0 ≡ get_or s i 0
  unfolding stored
  behind i h =
      ap (λ (k : ℕ). get_or (take (n * 10) s ++ (b ++ drop (n * 10 + 10) s)) k 0) first
      ∙ get_or-append-add (take (n * 10) s) (b ++ drop (n * 10 + 10) s) (length b + (i - (n * 10 + 10))) 0
      ∙ get_or-append-add b (drop (n * 10 + 10) s) (i - (n * 10 + 10)) 0
      ∙ get_or-drop (n * 10 + 10) s (i - (n * 10 + 10)) 0 ∙ ap (λ (k : ℕ). get_or s k 0) last
    where
      first : i ≡ length (take (n * 10) s) + (length b + (i - (n * 10 + 10)))
      first = omega (arith, front, ten, h)

      last : n * 10 + 10 + (i - (n * 10 + 10)) ≡ i
      last = omega arith

  outside : (k j : ℕ) → (k ≡ n → ⊥) → j < 10 → get_or (stored n b s) (k * 10 + j) 0 ≡ get_or s (k * 10 + j) 0
  outside k j h l = by (ltb k n) refl
    where
      by : (t : Bool) → ltb k n ≡ t → get_or (stored n b s) (k * 10 + j) 0 ≡ get_or s (k * 10 + j) 0
      by true e = before (k * 10 + j) (omega (arith, ltb-true k n e))
      by false e = behind (k * 10 + j) (omega (arith, ltb-false k n e, positive (k - n) (λ z. h (omega (arith, z, ltb-false k n e)))))

  pub stored_other : (k : ℕ) → (k ≡ n → ⊥) → k * 10 + 10 ≤ length s → segment_at (stored n b s) k ≡ segment_at s k
  unfolding segment_at
  stored_other k h l =
      ext_get_or 0 (take 10 (drop (k * 10) (stored n b s))) (take 10 (drop (k * 10) s))
      (here ∙ sym (part_length (k * 10) 10 s l)) (λ i g. entry (stored n b s) i (subst (λ (x : ℕ). i < x) here g) ∙ outside k i h (subst (λ (x : ℕ). i < x) here g) ∙ sym (entry s i (subst (λ (x : ℕ). i < x) here g)))
    where
      here : length (take 10 (drop (k * 10) (stored n b s))) ≡ 10
      here = part_length (k * 10) 10 (stored n b s) (subst (λ (x : ℕ). k * 10 + 10 ≤ x) (sym stored-length) l)

      entry : (x : List ℕ) (i : ℕ) → i < 10 → get_or (take 10 (drop (k * 10) x)) i 0 ≡ get_or x (k * 10 + i) 0
      entry x i g = get_or-take 10 (drop (k * 10) x) i 0 g ∙ get_or-drop (k * 10) x i 0

pub segment-at : (s : List ℕ) (n : ℕ) → segment_at s n ≡ take 10 (drop (n * 10) s)
unfolding segment_at
segment-at s n = refl

pub segment-at-length : (s : List ℕ) (n : ℕ) → n * 10 + 10 ≤ length s → length (segment_at s n) ≡ 10
segment-at-length s n h = ap length (segment-at s n) ∙ part_length (n * 10) 10 s h

-- ---- the segment of a message

pub segment-length : (m : List ℕ) → length m ≡ 14 → length (segment m) ≡ 10
unfolding segment
segment-length m h = part_length 1 10 m (omega arith)

pub segment_of : (b : ℕ) (s rest : List ℕ) → length s ≡ 10 → segment (b ∷ (s ++ rest)) ≡ s
unfolding segment
segment_of b s rest h = take_at s rest 10 h

-- it goes by the field
pub segment_by_field : (m k : List ℕ) → length m ≡ 14 → length k ≡ 14 → field m ≡ field k → segment m ≡ segment k
unfolding segment
segment_by_field m k h g e = of_field m h ∙ ap (drop 1) e ∙ sym (of_field k g)
  where
    behind-first : (l : List ℕ) → take 10 (drop 1 l) ≡ drop 1 (take 11 l)
    behind-first [] = refl
    behind-first (x ∷ l) = refl

    of_field : (l : List ℕ) → length l ≡ 14 → take 10 (drop 1 l) ≡ drop 1 (field l)
    of_field l q = behind-first l ∙ ap (drop 1) (sym (field_is l ∙ ap (λ (n : ℕ). take (n - 3) l) q))
