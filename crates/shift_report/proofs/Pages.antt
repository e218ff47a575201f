-- The page, a line after the other: each line appended is the next of the page, and a line has its name, at most ten digits,
-- a space and the line feed.
use mathlib.Core.Path.{◌≡◌, refl, sym, ap, ◌∙◌}
use mathlib.Core.List.{List, [], ◌∷◌, ◌++◌}
use Prim.Native.Nat.{ℕ, ◌+◌, ◌<◌, ◌≤◌}
use native.Mathlib.Omega.{arith}
use lib.ListN.{length, drop, length-append}
use lib.Dec.{leb}
use borrow.Author.Tests.{le-leb, lt-leb}
use Rattle.text.specs.Ascii.{ascii, space, line_feed}
use Rattle.text.specs.Digits.{decimal_text}
use Rattle.text.specs.Output.{Place, append}
use Rattle.text.proofs.Laws.{append-append, decimal-length, picked, passed_over}
use Rattle.shift_report.specs.Tally.{Row, rows, how_many, page_line, names, counts, page, tally_output}

line_length : (name : List ℕ) (n : ℕ) → length (decimal_text n) ≤ 10 → length (page_line name n) ≤ length name + 12
unfolding page_line
line_length name n h =
    omega (
      arith,
      length-append name (space ∷ []),
      length-append (name ++ (space ∷ [])) (decimal_text n),
      length-append (name ++ (space ∷ []) ++ decimal_text n) (line_feed ∷ []),
    )

pub ten_digits : (n : ℕ) → n < 10000000000 → length (decimal_text n) ≤ 10
ten_digits n h = decimal-length 9 n (omega arith)

-- ---- the counts, one after the other

module _ (rs : List Row) where
  -- a name, and then the others
  next : (p : Place) (name word : List ℕ) (others : List (List ℕ)) → word ≡ name
      → append (append p (page_line word (how_many word rs))) (counts rs others) ≡ append p (counts rs (name ∷ others))
  unfolding counts
  next p name word others e =
      ap (λ (w : List ℕ). append (append p (page_line w (how_many w rs))) (counts rs others)) e
      ∙ append-append p (page_line name (how_many name rs)) (counts rs others)

  -- no name is left
  none : (p : Place) → p ≡ append p (counts rs [])
  unfolding append counts
  none p = refl

  none_size : length (counts rs []) ≡ 0
  unfolding counts
  none_size = refl

  size : (name word : List ℕ) (others : List (List ℕ)) → word ≡ name → length (decimal_text (how_many word rs)) ≤ 10
      → length (counts rs (name ∷ others)) ≤ length name + 12 + length (counts rs others)
  unfolding counts
  size name word others e h =
      omega (
        arith,
        ap (λ (w : List ℕ). length (decimal_text (how_many w rs))) e,
        length-append (page_line name (how_many name rs)) (counts rs others),
        line_length name (how_many name rs),
      )

-- the seven names as the code writes them
module _ (rs : List Row) (clean sole several dense nofit refused malformed : List ℕ)
    (clean-is : clean ≡ ascii "clean")
    (sole-is : sole ≡ ascii "sole")
    (several-is : several ≡ ascii "several")
    (dense-is : dense ≡ ascii "dense")
    (nofit-is : nofit ≡ ascii "nofit")
    (refused-is : refused ≡ ascii "refused")
    (malformed-is : malformed ≡ ascii "malformed")
  where
    pub counts-put : (p : Place)
        → append (append (append (append (append (append (append p (page_line clean (how_many clean rs))) (page_line sole (how_many sole rs))) (page_line several (how_many several rs))) (page_line dense (how_many dense rs))) (page_line nofit (how_many nofit rs))) (page_line refused (how_many refused rs))) (page_line malformed (how_many malformed rs))
        ≡ append p (counts rs names)
    counts-put p =
        none rs _
        ∙ next rs _ (ascii "malformed") malformed (drop 7 names) malformed-is
        ∙ next rs _ (ascii "refused") refused (drop 6 names) refused-is
        ∙ next rs _ (ascii "nofit") nofit (drop 5 names) nofit-is
        ∙ next rs _ (ascii "dense") dense (drop 4 names) dense-is
        ∙ next rs _ (ascii "several") several (drop 3 names) several-is
        ∙ next rs _ (ascii "sole") sole (drop 2 names) sole-is
        ∙ next rs _ (ascii "clean") clean (drop 1 names) clean-is

    pub counts-length : length (decimal_text (how_many clean rs)) ≤ 10
        → length (decimal_text (how_many sole rs)) ≤ 10
        → length (decimal_text (how_many several rs)) ≤ 10
        → length (decimal_text (how_many dense rs)) ≤ 10
        → length (decimal_text (how_many nofit rs)) ≤ 10
        → length (decimal_text (how_many refused rs)) ≤ 10
        → length (decimal_text (how_many malformed rs)) ≤ 10
        → length (counts rs names) ≤ 126
    counts-length a b c d e f g =
        omega (
          arith,
          size rs (ascii "clean") clean (drop 1 names) clean-is a,
          size rs (ascii "sole") sole (drop 2 names) sole-is b,
          size rs (ascii "several") several (drop 3 names) several-is c,
          size rs (ascii "dense") dense (drop 4 names) dense-is d,
          size rs (ascii "nofit") nofit (drop 5 names) nofit-is e,
          size rs (ascii "refused") refused (drop 6 names) refused-is f,
          size rs (ascii "malformed") malformed (drop 7 names) malformed-is g,
          none_size rs,
        )

pub ruleset counts_written = (counts-put, counts-length)

-- ---- the page and the output

-- the line of all, and then the counts
pub page-written : (p : Place) (rs : List Row) (name : List ℕ) → name ≡ ascii "lines"
    → append (append p (page_line name (length rs))) (counts rs names) ≡ append p (page rs)
unfolding page
page-written p rs name e =
    ap (λ (w : List ℕ). append (append p (page_line w (length rs))) (counts rs names)) e
    ∙ append-append p (page_line (ascii "lines") (length rs)) (counts rs names)

pub page_length : (rs : List Row) → length (decimal_text (length rs)) ≤ 10 → length (counts rs names) ≤ 126 → length (page rs) ≤ 192
unfolding page
page_length rs h k =
    omega (arith, length-append (page_line (ascii "lines") (length rs)) (counts rs names), line_length (ascii "lines") (length rs) h)

pub ruleset pages = (page-written, page_length)

pub output_page : (input : List ℕ) → length input ≤ 65536 → page (rows input) ≡ tally_output input
unfolding tally_output
output_page input h = sym (picked (leb (length input) 65536) (page (rows input)) (ascii "too long\n") (le-leb (length input) 65536 h))

pub output_too_long : (input text : List ℕ) → text ≡ ascii "too long\n" → 65536 < length input → text ≡ tally_output input
unfolding tally_output
output_too_long input text e h =
    e ∙ sym (passed_over (leb (length input) 65536) (page (rows input)) (ascii "too long\n") (lt-leb (length input) 65536 h))
