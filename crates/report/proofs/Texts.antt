-- The texts that the functions append, put together, and their lengths.
use mathlib.Core.Path.{◌≡◌, refl, sym, ap, ap₂, ◌∙◌}
use mathlib.Core.List.{List, [], ◌∷◌, ◌++◌, append_assoc, append-nil}
use Prim.Native.Nat.{ℕ, ◌+◌, ◌-◌, ◌*◌, ◌%◌, ◌^◌, ◌<◌, ◌≤◌}
use native.Mathlib.Omega.{arith}
use lib.ListN.{length, take, drop, length-append}
use lib.Dec.{leb}
use borrow.Author.Tests.{le-leb, lt-leb}
use mathlib.Core.Bool.{true, false}
use Rattle.text.specs.Ascii.{ascii, line_feed, space}
use Rattle.reading.specs.Lines.{before, columns, lines}
use Rattle.text.specs.Output.{Place, append}
use Rattle.text.specs.Digits.{decimal_text}
use Rattle.reading.specs.Digits.{hex_bytes, hex_number, decimal_number}
use Rattle.text.proofs.Laws.{part_done, append-append, at_start, decimal-length, hex_text-length, picked, passed_over}
use Rattle.reading.proofs.Laws.{next-line, columns_size, columns_size_lem, lines_size, lines_size-le, length-le-lines_size, hex_number-whole, decimal_number-whole}
use Rattle.request.specs.Requests.{well_formed}
use Rattle.request.proofs.Laws.{message-fits, confidence-fits, word_size, limit-size}
use Rattle.verdicts.specs.Columns.{spaced}
use Rattle.verdicts.proofs.Laws.{spaced-nil, spaced-cons, spaced-append}
use Rattle.report.specs.Sift.{line_end, request_columns, malformed, answer_columns, answer_text, output_line, output_lines, header, sift_output}
use Rattle.report.proofs.Forms.{well_formed_columns, ill_formed_columns}

-- ---- the message after a verdict, and the line feed

pub called_text : (cs : List (List ℕ)) (t : List ℕ)
    → spaced cs ++ (space ∷ []) ++ t ++ (line_feed ∷ []) ≡ line_end (cs ++ t ∷ [])
called_text cs t =
    ap (λ (u : List ℕ). u ++ line_feed ∷ [])
    (append_assoc (spaced cs) (space ∷ []) t
    ∙ ap (λ (u : List ℕ). spaced cs ++ u) (sym (rw (spaced-cons, spaced-nil) (append-nil (space ∷ t))))
    ∙ sym (spaced-append cs (t ∷ [])))

pub called_length : (cs : List (List ℕ)) (t : List ℕ) → length (spaced cs) ≤ 40 → length t ≤ 28 → length (line_end (cs ++ t ∷ [])) ≤ 70
called_length cs t h k =
    omega (
      arith,
      ap length (called_text cs t),
      length-append (spaced cs) (space ∷ []),
      length-append (spaced cs ++ (space ∷ [])) t,
      length-append (spaced cs ++ (space ∷ []) ++ t) (line_feed ∷ []),
    )

pub ruleset called = (called_text, called_length, hex_text-length)

-- ---- a line's answer

pub malformed_text : ascii " malformed - - - -\n" ≡ answer_text []
unfolding answer_text answer_columns malformed
malformed_text = simp (spaced-cons, spaced-nil)

-- what a well-formed line's columns write: bytes that fit the buffers, and numbers that are read whole
pub request_fits : (m c w l : List ℕ) → well_formed m c w l ≡ true
    → (well_formed m c w l ≡ true) × (length (hex_bytes m) ≤ 14) × (length (hex_bytes c) ≤ 14) × (hex_number w % 2 ^ 32 ≡ hex_number w) × (decimal_number l % 2 ^ 32 ≡ decimal_number l)
request_fits m c w l e = (
  e,
  message-fits m c w l e,
  confidence-fits m c w l e,
  hex_number-whole w (omega (arith, word_size m c w l e)),
  decimal_number-whole l (omega (arith, limit-size m c w l e)),
)

pub ruleset requested = (request_fits, at_start)

-- the answer to a line by what `Request::of` makes of it: four columns, well-formed or not, or too few; and its length
module _ (line m c w l : List ℕ) (e : columns line ≡ m ∷ c ∷ w ∷ columns l) where
  three_spaces : 3 ≤ length line
  unfolding columns_size
  three_spaces = omega (arith, columns_size_lem line, ap columns_size e, columns_size_lem l)

  well_formed_text : well_formed m c w l ≡ true
      → line_end (request_columns (hex_bytes m) (hex_bytes c) (hex_number w) (decimal_number l)) ≡ answer_text (columns line)
  unfolding answer_text
  well_formed_text h =
      ap (λ (cs : List (List ℕ)). line_end cs) (sym (well_formed_columns m c w l h)) ∙ ap answer_text (sym e)

  -- the three spaces and 70 bytes are within the bound
  pub well_formed_answer : well_formed m c w l ≡ true → length (line_end (request_columns (hex_bytes m) (hex_bytes c) (hex_number w) (decimal_number l))) ≤ 70
      → (line_end (request_columns (hex_bytes m) (hex_bytes c) (hex_number w) (decimal_number l)) ≡ answer_text (columns line)) × (length (answer_text (columns line)) ≤ 19 + 24 * length line)
  well_formed_answer h k = (well_formed_text h, omega (arith, three_spaces, ap length (well_formed_text h)))

  ill_formed_text : well_formed m c w l ≡ false → ascii " malformed - - - -\n" ≡ answer_text (columns line)
  unfolding answer_text answer_columns
  ill_formed_text h =
      malformed_text ∙ ap (λ (cs : List (List ℕ)). line_end cs) (sym (ill_formed_columns m c w l h)) ∙ ap answer_text (sym e)

  pub ill_formed_answer : well_formed m c w l ≡ false
      → (columns line ≡ m ∷ c ∷ w ∷ columns l) × (ascii " malformed - - - -\n" ≡ answer_text (columns line)) × (length (answer_text (columns line)) ≤ 19 + 24 * length line)
  ill_formed_answer h = (e, ill_formed_text h, omega (arith, ap length (ill_formed_text h)))

too_few : (cs : List (List ℕ)) → length cs < 4 → answer_text [] ≡ answer_text cs
unfolding answer_text answer_columns
too_few [] h = refl
too_few (a ∷ []) h = refl
too_few (a ∷ b ∷ []) h = refl
too_few (a ∷ b ∷ c ∷ []) h = refl
too_few (a ∷ b ∷ c ∷ d ∷ cs) h = absurd (omega arith)

pub short_answer : (line : List ℕ) → length (columns line) < 4
    → (ascii " malformed - - - -\n" ≡ answer_text (columns line)) × (length (answer_text (columns line)) ≤ 19 + 24 * length line)
short_answer line h =
    let text = malformed_text ∙ too_few (columns line) h in
    (text, omega (arith, ap length text))

pub ruleset answers = (well_formed_answer, ill_formed_answer, short_answer)

-- ---- output lines: of a number of at most 5 digits and an answer, so of 24 bytes for each byte and for the line feed

pub line_length : (n : ℕ) (line : List ℕ) → n ≤ 99999 → length (answer_text (columns line)) ≤ 19 + 24 * length line
    → length (output_line n line) ≤ 24 * (length line + 1)
unfolding output_line
line_length n line h k =
    let digits : length (decimal_text n) ≤ 5 = decimal-length 4 n (omega arith) in
    omega (arith, length-append (decimal_text n) (answer_text (columns line)))

-- no line more
pub none_left : (p : Place) (n : ℕ) (ls : List (List ℕ)) → ls ≡ [] → append p (output_lines n ls) ≡ p
unfolding append output_lines
none_left p n ls e = ap (λ (xs : List (List ℕ)). append p (output_lines n xs)) e

pub none-size : (n : ℕ) (ls : List (List ℕ)) → ls ≡ [] → (length (output_lines n ls) ≡ 0) × (lines_size ls ≡ 0)
unfolding output_lines lines_size
none-size n ls e = (ap (λ (xs : List (List ℕ)). length (output_lines n xs)) e, ap lines_size e)

-- the text of the lines of an input from a place on, where there is one
pub next_output : (input : List ℕ) (at k n : ℕ) → at < length input → k ≡ length (before line_feed (take (length input - at) (drop at input)))
    → output_lines n (lines (drop at input))
    ≡ output_line n (take k (take (length input - at) (drop at input))) ++ output_lines (n + 1) (lines (drop (at + k + 1) input))
unfolding output_lines
next_output input at k n h e = ap (output_lines n) (next-line input at k e h)

-- one line more: l, the first of ls, has the number k; the others are numbered on from m
module _ (n k m : ℕ) (l : List ℕ) (ls ms : List (List ℕ)) (e : ls ≡ l ∷ ms) (ek : k ≡ n) (em : m ≡ n + 1) where
  next-text : output_lines n ls ≡ output_line k l ++ output_lines m ms
  unfolding output_lines
  next-text =
      ap (output_lines n) e
      ∙ ap (λ (x : ℕ). output_line x l ++ output_lines (n + 1) ms) (sym ek)
      ∙ ap (λ (x : ℕ). output_line k l ++ output_lines x ms) (sym em)

  pub next-put : (p q : Place) → q ≡ append p (output_line k l) → append p (output_lines n ls) ≡ append q (output_lines m ms)
  next-put p q f = sym (part_done p q (output_line k l) (output_lines m ms) (output_lines n ls) f next-text)

  pub next-size : (length (output_lines n ls) ≡ length (output_line k l) + length (output_lines m ms)) × (lines_size ls ≡ length l + 1 + lines_size ms) × (length ls ≡ length ms + 1)
  unfolding lines_size
  next-size = (ap length next-text ∙ length-append (output_line k l) (output_lines m ms), ap lines_size e, omega (arith, ap length e))

pub ruleset numbering = (none_left, none-size, next-put, next-size, lines_size-le)

-- ---- the whole output

pub output_read : (input : List ℕ) → length input ≤ 65536 → header ++ output_lines 1 (lines input) ≡ sift_output input
unfolding sift_output
output_read input h =
    ap (λ (t : List ℕ). header ++ t)
    (sym (picked (leb (length input) 65536) (output_lines 1 (lines input)) (ascii "too long\n") (le-leb (length input) 65536 h)))

pub output_too_long : (input : List ℕ) → 65536 < length input → header ++ ascii "too long\n" ≡ sift_output input
unfolding sift_output
output_too_long input h =
    ap (λ (t : List ℕ). header ++ t)
    (sym (passed_over (leb (length input) 65536) (output_lines 1 (lines input)) (ascii "too long\n") (lt-leb (length input) 65536 h)))

-- 37 bytes of header and 24 * 65,537 are 1,572,925; 1,572,928 is the next multiple of 64 (src/lib.rt)
pub output_length : (input : List ℕ) → length input ≤ 65536 → length (output_lines 1 (lines input)) ≤ 24 * (length input + 1)
    → length (sift_output input) ≤ 1572928
output_length input h k =
    omega (arith, ap length (output_read input h), length-append header (output_lines 1 (lines input)))

-- one after the other; h and t are the texts that the code writes
pub read_appended : (p : Place) (h : List ℕ) (input : List ℕ) → h ≡ header → length input ≤ 65536
    → append (append p h) (output_lines 1 (lines input)) ≡ append p (sift_output input)
read_appended p h input e k = append-append p h (output_lines 1 (lines input)) ∙ ap (append p) (ap (λ (t : List ℕ). t ++ output_lines 1 (lines input)) e ∙ output_read input k)

pub too_long_appended : (p : Place) (h t : List ℕ) (input : List ℕ) → h ≡ header → t ≡ ascii "too long\n" → 65536 < length input
    → append (append p h) t ≡ append p (sift_output input)
too_long_appended p h t input e f k =
    append-append p h t ∙ ap (append p) (ap₂ ◌++◌ e f ∙ output_too_long input k)

pub too_long_length : (input : List ℕ) → 65536 < length input → length (sift_output input) ≤ 1572928
too_long_length input h = omega (arith, ap length (output_too_long input h))

pub ruleset outputs = (read_appended, too_long_appended, output_length, too_long_length)
