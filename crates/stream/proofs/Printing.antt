-- What is printed and held, byte by byte from a place on, and how long a line of output is.
use mathlib.Core.Path.{◌≡◌, sym, ap, ◌∙◌}
use mathlib.Core.List.{List, [], ◌∷◌, ◌++◌}
use Prim.Native.Nat.{ℕ, ◌+◌, ◌*◌, ◌<◌, ◌≤◌}
use native.Mathlib.Omega.{arith}
use lib.ListN.{length, take, drop, get_or, length-append}
use lib.Dec.{eqb, leb}
use borrow.Author.Tests.{eq-eqb, ne_eqb, le-leb, lt-leb}
use Rattle.text.specs.Ascii.{line_feed}
use Rattle.text.specs.Digits.{decimal_text}
use Rattle.text.specs.Output.{Place, append}
use Rattle.text.proofs.Laws.{append-none, part_done, decimal-length, picked, passed_over, next_byte, no_more}
use Rattle.reading.specs.Lines.{columns}
use Rattle.report.specs.Sift.{answer_text, output_line}
use Rattle.report.proofs.Laws.{line_text_lem}
use Rattle.stream.specs.Stream.{Held, held_after_byte, printed_at_byte, held_after, printed, printed_at_end}

-- ---- a line of output: of a number of at most 19 digits and an answer

pub line_length : (n : ℕ) (line : List ℕ) → n < 10000000000000000000 → length (answer_text (columns line)) ≤ 19 + 24 * length line
    → length (output_line n line) ≤ 38 + 24 * length line
line_length n line h k =
    let digits : length (decimal_text n) ≤ 19 = decimal-length 18 n h in
    omega (arith, ap length (line_text_lem n line), length-append (decimal_text n) (answer_text (columns line)))

pub output_line_text : (n : ℕ) (line : List ℕ) → decimal_text n ++ answer_text (columns line) ≡ output_line n line
output_line_text n line = sym (line_text_lem n line)

pub ruleset line_steps = (line_length, output_line_text)

-- ---- a byte that is a line feed, and one that is not

module _ (h : Held) (b : ℕ) where
  pub held-ended : b ≡ 10 → held_after_byte h b ≡ (h.0 + 1, [])
  unfolding held_after_byte
  held-ended e = picked (eqb b line_feed) (h.0 + 1, []) (h.0, take 68 (h.1 ++ b ∷ [])) (eq-eqb b line_feed e)

  pub held_kept : (b ≡ 10 → ⊥) → held_after_byte h b ≡ (h.0, take 68 (h.1 ++ b ∷ []))
  unfolding held_after_byte
  held_kept e = passed_over (eqb b line_feed) (h.0 + 1, []) (h.0, take 68 (h.1 ++ b ∷ [])) (ne_eqb b line_feed e)

  pub printed_ended : b ≡ 10 → printed_at_byte h b ≡ output_line (h.0 + 1) h.1
  unfolding printed_at_byte
  printed_ended e = picked (eqb b line_feed) (output_line (h.0 + 1) h.1) [] (eq-eqb b line_feed e)

  pub printed-kept : (b ≡ 10 → ⊥) → printed_at_byte h b ≡ []
  unfolding printed_at_byte
  printed-kept e = passed_over (eqb b line_feed) (output_line (h.0 + 1) h.1) [] (ne_eqb b line_feed e)

pub ruleset byte_steps = (held-ended, held_kept, printed_ended, printed-kept, append-none)

-- ---- the bytes of a piece, from a place on

-- one byte of the piece, after which h' is held
module _ (h h' : Held) (piece : List ℕ) (i : ℕ) (k : i < length piece) (e : h' ≡ held_after_byte h (get_or piece i 0)) where
  next-printed : printed h (drop i piece) ≡ printed_at_byte h (get_or piece i 0) ++ printed h' (drop (i + 1) piece)
  unfolding printed
  next-printed =
      ap (printed h) (next_byte piece i k)
      ∙ ap (λ (x : Held). printed_at_byte h (get_or piece i 0) ++ printed x (drop (i + 1) piece)) (sym e)

  pub next-put : (p q : Place) → q ≡ append p (printed_at_byte h (get_or piece i 0)) → append p (printed h (drop i piece)) ≡ append q (printed h' (drop (i + 1) piece))
  next-put p q f = sym (part_done p q (printed_at_byte h (get_or piece i 0)) (printed h' (drop (i + 1) piece)) (printed h (drop i piece)) f next-printed)

  pub next-size : length (printed h (drop i piece)) ≡ length (printed_at_byte h (get_or piece i 0)) + length (printed h' (drop (i + 1) piece))
  next-size = ap length next-printed ∙ length-append (printed_at_byte h (get_or piece i 0)) (printed h' (drop (i + 1) piece))

  pub next-held : held_after h (drop i piece) ≡ held_after h' (drop (i + 1) piece)
  unfolding held_after
  next-held = ap (held_after h) (next_byte piece i k) ∙ ap (λ (x : Held). held_after x (drop (i + 1) piece)) (sym e)

-- no byte more
module _ (h : Held) (piece : List ℕ) (i : ℕ) (k : length piece ≤ i) where
  none-printed : printed h (drop i piece) ≡ []
  unfolding printed
  none-printed = ap (printed h) (no_more piece i k)

  pub none-put : (p : Place) → append p (printed h (drop i piece)) ≡ p
  unfolding append
  none-put p = ap (append p) none-printed

  pub none-size : length (printed h (drop i piece)) ≡ 0
  none-size = ap length none-printed

  pub none-held : held_after h (drop i piece) ≡ h
  unfolding held_after
  none-held = ap (held_after h) (no_more piece i k)

pub ruleset piece_steps = (next-put, next-size, next-held, none-put, none-size, none-held)

-- ---- the end

module _ (h : Held) where
  pub last_line : 0 < length h.1 → printed_at_end h ≡ output_line (h.0 + 1) h.1
  unfolding printed_at_end
  last_line k = passed_over (leb (length h.1) 0) [] (output_line (h.0 + 1) h.1) (lt-leb (length h.1) 0 k)

  pub no-last-line : length h.1 ≤ 0 → printed_at_end h ≡ []
  unfolding printed_at_end
  no-last-line k = picked (leb (length h.1) 0) [] (output_line (h.0 + 1) h.1) (le-leb (length h.1) 0 k)

pub ruleset end_steps = (last_line, no-last-line, append-none)
