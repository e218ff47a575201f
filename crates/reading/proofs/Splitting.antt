-- Lines and columns, one after the other.
use mathlib.Core.Path.{◌≡◌, refl, sym, ap, ap₂, ◌∙◌}
use mathlib.Core.Bool.{Bool, true, false, cond}
use mathlib.Core.List.{List, [], ◌∷◌, ◌++◌}
use Prim.Native.Nat.{ℕ, suc, ◌+◌, ◌-◌, ◌<◌, ◌≤◌}
use native.Mathlib.Numerals.{add-one}
use native.Mathlib.Omega.{arith}
use lib.ListN.{length, take, drop, length-drop}
use lib.Seq.{take_all, length-take-le, drop-drop}
use lib.Dec.{eqb, ltb}
use borrow.Author.Tests.{ltb-true, ltb-false, eq-eqb, ne_eqb}
use Rattle.text.specs.Ascii.{space, line_feed}
use Rattle.outcome.proofs.Laws.{part_from}
use Rattle.text.proofs.Laws.{no_more, picked, passed_over, above, above-parts}
use Rattle.reading.specs.Lines.{in_first, lines, columns, before, behind}

-- ---- what stands in front of a byte is a part of the list

pub before-le : (b : ℕ) (s : List ℕ) → length (before b s) ≤ length s
unfolding before
before-le b [] = omega arith
before-le b (x ∷ s) = cases (eqb x b) (before-le b s)
  where
    cases : (t : Bool) → length (before b s) ≤ length s → length (cond t [] (x ∷ before b s)) ≤ suc (length s)
    cases true h = omega arith
    cases false h = omega arith

pub before-take : (b : ℕ) (s : List ℕ) → before b s ≡ take (length (before b s)) s
unfolding before
before-take b [] = refl
before-take b (x ∷ s) = cases (eqb x b) (before-take b s)
  where
    cases : (t : Bool) → before b s ≡ take (length (before b s)) s → cond t [] (x ∷ before b s) ≡ take (length (cond t [] (x ∷ before b s))) (x ∷ s)
    cases true e = refl
    cases false e = ap (λ (l : List ℕ). x ∷ l) e

-- ---- a text that a byte does not part

unfoldable pub Lacks : ℕ → List ℕ → Type 0
Lacks b [] = Unit {0}
Lacks b (x ∷ s) = (x ≡ b → ⊥) × Lacks b s

pub lacks_none : (b : ℕ) → Lacks b []
unfolding Lacks
lacks_none b = tt

pub lacks_more : (b x : ℕ) (s : List ℕ) → Lacks b s → (x ≡ b → ⊥) → Lacks b (s ++ x ∷ [])
unfolding Lacks
lacks_more b x [] h k = (k, tt)
lacks_more b x (y ∷ s) h k = (h.0, lacks_more b x s h.1 k)

above_lacks : (b : ℕ) (s : List ℕ) → above b s ≡ true → Lacks b s
unfolding Lacks
above_lacks b [] e = tt
above_lacks b (x ∷ s) e =
    let parts = above-parts b x s e in
    let other : x ≡ b → ⊥ = λ f. omega (arith, parts.0) in
    (other, above_lacks b s parts.1)

-- ---- the pieces that a byte parts: lines and columns differ in the byte, and in the pieces of an empty text

module _ (b : ℕ) (pieces : List ℕ → List (List ℕ)) (step : (x : ℕ) (s : List ℕ) → pieces (x ∷ s) ≡ cond (eqb x b) ([] ∷ pieces s) (in_first x (pieces s))) where
  -- a text with a b: the piece in front of it, and the others are those of what stands behind it
  first_piece : (s : List ℕ) → length (before b s) < length s → pieces s ≡ before b s ∷ pieces (drop (suc (length (before b s))) s)
  unfolding before
  first_piece [] h = absurd (omega arith)
  first_piece (x ∷ s) h = step x s ∙ cases (eqb x b) h (first_piece s)
    where
      cases : (t : Bool) → length (cond t [] (x ∷ before b s)) < suc (length s)
          → (length (before b s) < length s → pieces s ≡ before b s ∷ pieces (drop (suc (length (before b s))) s))
          → cond t ([] ∷ pieces s) (in_first x (pieces s))
          ≡ cond t [] (x ∷ before b s) ∷ pieces (drop (length (cond t [] (x ∷ before b s))) s)
      cases true h e = refl
      cases false h e = ap (in_first x) (e (omega arith))

  -- the same for the place k that a search found
  split-piece : (s : List ℕ) (k : ℕ) → k ≡ length (before b s) → k < length s → pieces s ≡ take k s ∷ pieces (drop (k + 1) s)
  split-piece s k e h =
      first_piece s (omega arith)
      ∙ ap (λ (l : List ℕ). l ∷ pieces (drop (suc (length (before b s))) s)) (before-take b s)
      ∙ ap (λ (n : ℕ). take n s ∷ pieces (drop (suc n) s)) (sym e)
      ∙ ap (λ (n : ℕ). take k s ∷ pieces (drop n s)) (sym (add-one k))

  one_more : (x : ℕ) (s : List ℕ) (t : Bool) → suc (length s) ≤ length (cond t [] (x ∷ before b s))
      → (length s ≤ length (before b s) → in_first x (pieces s) ≡ (x ∷ s) ∷ [])
      → cond t ([] ∷ pieces s) (in_first x (pieces s)) ≡ (x ∷ s) ∷ []
  one_more x s true h e = absurd (omega arith)
  one_more x s false h e = e (omega arith)

  -- a text with a byte and without a b is one piece
  only-piece : ((x : ℕ) → in_first x (pieces []) ≡ (x ∷ []) ∷ []) → (x : ℕ) (s : List ℕ) → suc (length s) ≤ length (before b (x ∷ s)) → pieces (x ∷ s) ≡ (x ∷ s) ∷ []
  unfolding before
  only-piece none x [] h = step x [] ∙ one_more x [] (eqb x b) h (λ j. none x)
  only-piece none x (y ∷ s) h = step x (y ∷ s) ∙ one_more x (y ∷ s) (eqb x b) h (λ j. ap (in_first x) (only-piece none y s j))

  -- a text without b, a b, and more: the text is the first piece
  piece_then : (a t : List ℕ) → Lacks b a → pieces (a ++ b ∷ t) ≡ a ∷ pieces t
  unfolding Lacks
  piece_then [] t e = step b t ∙ picked (eqb b b) ([] ∷ pieces t) (in_first b (pieces t)) (eq-eqb b b refl)
  piece_then (x ∷ a) t e =
      step x (a ++ b ∷ t)
      ∙ passed_over (eqb x b) ([] ∷ pieces (a ++ b ∷ t)) (in_first x (pieces (a ++ b ∷ t))) (ne_eqb x b e.0)
      ∙ ap (in_first x) (piece_then a t e.1)

  -- and alone, if it has a byte
  piece-alone : ((x : ℕ) → in_first x (pieces []) ≡ (x ∷ []) ∷ []) → (x : ℕ) (a : List ℕ) → Lacks b (x ∷ a) → pieces (x ∷ a) ≡ (x ∷ a) ∷ []
  unfolding Lacks
  piece-alone none x [] e =
      step x [] ∙ passed_over (eqb x b) ([] ∷ pieces []) (in_first x (pieces [])) (ne_eqb x b e.0) ∙ none x
  piece-alone none x (y ∷ a) e =
      step x (y ∷ a)
      ∙ passed_over (eqb x b) ([] ∷ pieces (y ∷ a)) (in_first x (pieces (y ∷ a))) (ne_eqb x b e.0)
      ∙ ap (in_first x) (piece-alone none y a e.1)

-- ---- columns

-- the first column is what stands in front of the first space
pub first-column : (s : List ℕ) → columns s ≡ before space s ∷ drop 1 (columns s)
unfolding columns before
first-column [] = refl
first-column (x ∷ s) = cases (eqb x space) (columns s) (first-column s)
  where
    cases : (t : Bool) (cs : List (List ℕ)) → cs ≡ before space s ∷ drop 1 cs
        → cond t ([] ∷ cs) (in_first x cs) ≡ cond t [] (x ∷ before space s) ∷ drop 1 (cond t ([] ∷ cs) (in_first x cs))
    cases true cs e = refl
    cases false [] e = ap (in_first x) e
    cases false (c ∷ cs) e = ap (in_first x) e

-- a search that found a space: the column in front of it, and the others are those of what stands behind it
pub split-column : (s : List ℕ) (k : ℕ) → k ≡ length (before space s) → k < length s → columns s ≡ take k s ∷ columns (drop (k + 1) s)
unfolding columns
split-column = split-piece space columns (λ x s. refl)

-- a search that found none
pub whole-column : (s : List ℕ) (k : ℕ) → k ≡ length (before space s) → length s ≤ k → columns s ≡ s ∷ []
unfolding columns
whole-column [] k e h = refl
whole-column (x ∷ s) k e h = only-piece space columns (λ x s. refl) (λ x. refl) x s (omega arith)

-- the same of the first piece and of what stands behind it, as `split_once` gives them
pub columns-split : (s a t : List ℕ) → a ≡ before space s → t ≡ behind space s → length a < length s → columns s ≡ a ∷ columns t
columns-split s a t e f h =
    split-column s (length (before space s)) refl (omega (arith, ap length e))
    ∙ ap₂ (λ (x y : List ℕ). x ∷ columns y) (sym (before-take space s) ∙ sym e) (sym f)

-- and where it finds none
pub columns-whole : (s : List ℕ) → before space s ≡ s → columns s ≡ s ∷ []
columns-whole s e = whole-column s (length (before space s)) refl (omega (arith, ap length e))

pub ruleset column_steps = (columns-split, columns-whole)

-- a text of bytes above the space is a column, alone and in front of a space
pub column_alone : (a : List ℕ) → above space a ≡ true → columns a ≡ a ∷ []
unfolding columns
column_alone [] e = refl
column_alone (x ∷ a) e = piece-alone space columns (λ x s. refl) (λ x. refl) x a (above_lacks space (x ∷ a) e)

pub column_then : (a t : List ℕ) → above space a ≡ true → columns (a ++ space ∷ t) ≡ a ∷ columns t
unfolding columns
column_then a t e = piece_then space columns (λ x s. refl) a t (above_lacks space a e)

-- ---- how long the columns are

-- the bytes of some columns, each with the space behind it
unfoldable pub columns_size : List (List ℕ) → ℕ
columns_size [] = 0
columns_size (c ∷ cs) = length c + 1 + columns_size cs

-- no byte of a line is lost: its columns have its bytes, but the last has no space behind it
pub columns_size_lem : (s : List ℕ) → columns_size (columns s) ≡ length s + 1
unfolding columns columns_size
columns_size_lem [] = refl
columns_size_lem (x ∷ s) = cases (eqb x space) (columns s) (columns_size_lem s)
  where
    cases : (t : Bool) (cs : List (List ℕ)) → columns_size cs ≡ length s + 1 → columns_size (cond t ([] ∷ cs) (in_first x cs)) ≡ suc (length s) + 1
    cases true cs e = omega arith
    cases false [] e = absurd (omega arith)
    cases false (c ∷ cs) e = omega arith

-- ---- lines

-- a text that has a byte, when the search for the line feed found the place k
pub split_line : (s : List ℕ) (k : ℕ) → k ≡ length (before line_feed s) → 0 < length s → lines s ≡ take k s ∷ lines (drop (k + 1) s)
unfolding lines
split_line [] k e h = absurd (omega arith)
split_line (x ∷ s) k e h = cases (ltb k (suc (length s))) refl
  where
    cases : (t : Bool) → ltb k (suc (length s)) ≡ t → lines (x ∷ s) ≡ take k (x ∷ s) ∷ lines (drop (k + 1) (x ∷ s))
    cases true f = split-piece line_feed lines (λ x s. refl) (x ∷ s) k e (ltb-true k (suc (length s)) f)
    cases false f =
        let over : suc (length s) ≤ k = ltb-false k (suc (length s)) f in
        only-piece line_feed lines (λ x s. refl) (λ x. refl) x s (omega arith)
        ∙ ap (λ (l : List ℕ). l ∷ []) (sym (take_all k (x ∷ s) over))
        ∙ ap (λ (l : List ℕ). take k (x ∷ s) ∷ lines l) (sym (no_more (x ∷ s) (k + 1) (omega arith)))

pub no_line_left : (s : List ℕ) (i : ℕ) → length s ≤ i → lines (drop i s) ≡ []
unfolding lines
no_line_left s i h = ap lines (no_more s i h)

-- the first line of a text that has a byte, and those of what stands behind it
pub lines-more : (s : List ℕ) → 0 < length s → lines s ≡ before line_feed s ∷ lines (behind line_feed s)
lines-more s h = split_line s (length (before line_feed s)) refl h ∙ ap (λ (l : List ℕ). l ∷ lines (behind line_feed s)) (sym (before-take line_feed s))

pub lines-none : (s : List ℕ) → length s ≡ 0 → lines s ≡ []
lines-none s h = no_line_left s 0 (omega arith)

pub ruleset line_steps = (lines-more, lines-none)

-- a text without a line feed, in front of one
pub line_ends : (a t : List ℕ) → Lacks line_feed a → lines (a ++ line_feed ∷ t) ≡ a ∷ lines t
unfolding lines
line_ends = piece_then line_feed lines (λ x s. refl)

pub line_then : (a t : List ℕ) → above line_feed a ≡ true → lines (a ++ line_feed ∷ t) ≡ a ∷ lines t
line_then a t e = line_ends a t (above_lacks line_feed a e)

-- and without one behind it: 'a last piece without one is a line if it has a byte'
pub no_line : lines [] ≡ []
unfolding lines
no_line = refl

pub last_line : (x : ℕ) (a : List ℕ) → Lacks line_feed (x ∷ a) → lines (x ∷ a) ≡ (x ∷ a) ∷ []
unfolding lines
last_line = piece-alone line_feed lines (λ x s. refl) (λ x. refl)

-- ---- how long the lines are

-- the bytes of some lines, each with the line feed behind it
unfoldable pub lines_size : List (List ℕ) → ℕ
lines_size [] = 0
lines_size (l ∷ ls) = length l + 1 + lines_size ls

pub lines_size-le : (s : List ℕ) → lines_size (lines s) ≤ length s + 1
unfolding lines lines_size
lines_size-le [] = omega arith
lines_size-le (x ∷ s) = cases (eqb x line_feed) (lines s) (lines_size-le s)
  where
    cases : (t : Bool) (ls : List (List ℕ)) → lines_size ls ≤ length s + 1 → lines_size (cond t ([] ∷ ls) (in_first x ls)) ≤ suc (length s) + 1
    cases true ls h = omega arith
    cases false [] h = omega arith
    cases false (l ∷ ls) h = omega arith

-- a line has one byte at least, its line feed, but the last
pub length-le-lines_size : (ls : List (List ℕ)) → length ls ≤ lines_size ls
unfolding lines_size
length-le-lines_size [] = omega arith
length-le-lines_size (l ∷ ls) = omega (arith, length-le-lines_size ls)

pub few_lines : (s : List ℕ) → length (lines s) ≤ length s + 1
few_lines s = omega (arith, length-le-lines_size (lines s), lines_size-le s)

-- ---- the lines of a text from a place on, when the search for the line feed in `&text[at..]` found the place k

module _ (text : List ℕ) (at k : ℕ) (e : k ≡ length (before line_feed (take (length text - at) (drop at text)))) where
  pub next-line : at < length text
      → lines (drop at text) ≡ take k (take (length text - at) (drop at text)) ∷ lines (drop (at + k + 1) text)
  next-line h =
      let rest : List ℕ = drop at text in
      let part : take (length text - at) rest ≡ rest = part_from at text in
      let some : 0 < length rest = omega (arith, length-drop at text) in
      let sum : at + (k + 1) ≡ at + k + 1 = omega arith in
      split_line rest k (e ∙ ap (λ (l : List ℕ). length (before line_feed l)) part) some
      ∙ ap (λ (l : List ℕ). take k l ∷ lines (drop (k + 1) rest)) (sym part)
      ∙ ap (λ (l : List ℕ). take k (take (length text - at) rest) ∷ lines l)
      (drop-drop (k + 1) at text ∙ ap (λ (j : ℕ). drop j text) sum)

  -- the place found lies within the text
  pub line-within : at < length text → at + k ≤ length text
  line-within h =
      omega (arith, before-le line_feed (take (length text - at) (drop at text)), ap length (part_from at text), length-drop at text)

  pub line_taken : k ≡ length (take k (take (length text - at) (drop at text)))
  line_taken =
      let rest : List ℕ = take (length text - at) (drop at text) in
      sym (length-take-le k rest (omega (arith, before-le line_feed rest)))
