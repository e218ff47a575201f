-- The statements of specs/Pieces.antt. The line that has begun is `line`, all of it; what is held of it is its first 68 bytes, and
-- the answer to these is the answer to the line.
use mathlib.Core.Path.{◌≡◌, refl, sym, ap, ap₂, ◌∙◌, subst}
use mathlib.Core.Bool.{Bool, true, false, ◌||◌}
use mathlib.Core.List.{List, [], ◌∷◌, ◌++◌, append_assoc, append-nil}
use Prim.Native.Nat.{ℕ, ◌+◌, ◌^◌, ◌<◌}
use native.Mathlib.Omega.{arith}
use lib.ListN.{length, take, length-append}
use lib.Seq.{take_all, take-take, take-append-le, length-take-le}
use lib.Dec.{eqb, leb}
use borrow.Author.Tests.{leb-true, leb-false, eqb-true, eqb-false}
use Rattle.text.specs.Ascii.{line_feed}
use Rattle.reading.specs.Lines.{lines}
use Rattle.reading.proofs.Laws.{Lacks, lacks_none, lacks_more, line_ends, no_line, last_line}
use Rattle.report.specs.Sift.{header, output_line, output_lines}
use Rattle.report.proofs.Laws.{no_output, next_output_line, long_lines_alike, output_read}
use Rattle.stream.specs.Stream.{Held, held_after_byte, printed_at_byte, held_after, printed, printed_at_end, is_refused, feed_held}
use Rattle.stream.proofs.Laws.{held-ended, held_kept, printed_ended, printed-kept, last_line as end_line, no-last-line, printed-none, printed-first, held_none, held_first, printed-joined, held-joined, ended_le, fed-text, fed-held, fed-end, is_not-refused}
use Rattle.stream_meaning.specs.Pieces.{joined, EachShort, fed, written, some_refused, AnswersEveryLine, AsSift, CutsChangeNothing, NoneRefused}

-- ---- the first 68 bytes of a line stand for it
kept-answer : (n : ℕ) (line : List ℕ) → output_line n (take 68 line) ≡ output_line n line
kept-answer n line = cases (leb (length line) 68) refl
  where
    cases : (t : Bool) → leb (length line) 68 ≡ t → output_line n (take 68 line) ≡ output_line n line
    cases true e = ap (output_line n) (take_all 68 line (leb-true (length line) 68 e))
    cases false e =
        let long : 68 < length line = leb-false (length line) 68 e in
        long_lines_alike n (take 68 line) line (omega (arith, length-take-le 68 line (omega arith))) (omega arith)

-- and for the line when a byte more is kept
kept_more : (line : List ℕ) (b : ℕ) → take 68 (take 68 line ++ b ∷ []) ≡ take 68 (line ++ b ∷ [])
kept_more line b = cases (leb (length line) 68) refl
  where
    cases : (t : Bool) → leb (length line) 68 ≡ t → take 68 (take 68 line ++ b ∷ []) ≡ take 68 (line ++ b ∷ [])
    cases true e = ap (λ (l : List ℕ). take 68 (l ++ b ∷ [])) (take_all 68 line (leb-true (length line) 68 e))
    cases false e =
        let long : 68 < length line = leb-false (length line) 68 e in
        take-append-le 68 (take 68 line) (b ∷ []) (omega (arith, length-take-le 68 line (omega arith)))
        ∙ take-take 68 68 line (omega arith)
        ∙ sym (take-append-le 68 line (b ∷ []) (omega arith))

-- ---- the bytes, one after the other

-- what is written for s and at its end, when n lines have ended
abbrev rest : Held → List ℕ → List ℕ
rest h s = printed h s ++ printed_at_end (held_after h s)

rest-none : (h : Held) → rest h [] ≡ printed_at_end h
rest-none h = ap₂ (λ (t : List ℕ) (x : Held). t ++ printed_at_end x) (printed-none h) (held_none h)

rest-first : (h : Held) (b : ℕ) (s : List ℕ) → rest h (b ∷ s) ≡ printed_at_byte h b ++ rest (held_after_byte h b) s
rest-first h b s =
    ap₂ (λ (t : List ℕ) (x : Held). t ++ printed_at_end x) (printed-first h b s) (held_first h b s)
    ∙ append_assoc (printed_at_byte h b) (printed (held_after_byte h b) s) (printed_at_end (held_after (held_after_byte h b) s))

one_line : (n : ℕ) (l : List ℕ) → output_lines n (l ∷ []) ≡ output_line n l
one_line n l =
    next_output_line n l []
    ∙ ap (λ (t : List ℕ). output_line n l ++ t) (no_output (n + 1))
    ∙ append-nil (output_line n l)

at-end : (n : ℕ) (line : List ℕ) → Lacks line_feed line → printed_at_end (n, take 68 line) ≡ output_lines (n + 1) (lines line)
at-end n [] k = no-last-line (n, []) (omega arith) ∙ sym (ap (output_lines (n + 1)) no_line ∙ no_output (n + 1))
at-end n (x ∷ a) k =
    end_line (n, take 68 (x ∷ a)) (omega arith)
    ∙ kept-answer (n + 1) (x ∷ a)
    ∙ sym (ap (output_lines (n + 1)) (last_line x a k) ∙ one_line (n + 1) (x ∷ a))

-- after every beginning of a line, s is answered line by line
abbrev Answered : List ℕ → Type 0
Answered s = (n : ℕ) (line : List ℕ) → Lacks line_feed line → rest (n, take 68 line) s ≡ output_lines (n + 1) (lines (line ++ s))

-- so is a byte more: a line feed ends the line, another byte belongs to it
byte_answered : (b : ℕ) (s : List ℕ) → Answered s → Answered (b ∷ s)
byte_answered b s others n line k = rest-first h b s ∙ cases (eqb b line_feed) refl
  where
    h : Held
    h = (n, take 68 line)

    cases : (t : Bool) → eqb b line_feed ≡ t → printed_at_byte h b ++ rest (held_after_byte h b) s ≡ output_lines (n + 1) (lines (line ++ b ∷ s))
    cases true e =
        let feed : b ≡ line_feed = eqb-true b line_feed e in
        ap₂ (λ (t : List ℕ) (x : Held). t ++ rest x s) (printed_ended h b feed ∙ kept-answer (n + 1) line) (held-ended h b feed)
        ∙ ap (λ (t : List ℕ). output_line (n + 1) line ++ t) (others (n + 1) [] (lacks_none line_feed))
        ∙ sym (next_output_line (n + 1) line (lines s))
        ∙ sym (ap (output_lines (n + 1)) (ap (λ (x : ℕ). lines (line ++ x ∷ s)) feed ∙ line_ends line s k))
    cases false e =
        let other : b ≡ line_feed → ⊥ = eqb-false b line_feed e in
        ap₂ (λ (t : List ℕ) (x : Held). t ++ rest x s) (printed-kept h b other)
        (held_kept h b other ∙ ap (λ (l : List ℕ). (n, l)) (kept_more line b))
        ∙ others n (line ++ b ∷ []) (lacks_more line_feed b line k other)
        ∙ ap (λ (l : List ℕ). output_lines (n + 1) (lines l)) (append_assoc line (b ∷ []) s)

every_line : (s : List ℕ) → Answered s
every_line [] n line k =
    rest-none (n, take 68 line)
    ∙ at-end n line k
    ∙ sym (ap (λ (l : List ℕ). output_lines (n + 1) (lines l)) (append-nil line))
every_line (b ∷ s) n line k = byte_answered b s (every_line s) n line k

-- ---- the pieces, one after the other

-- none is refused, and they write what their bytes do
fed-joined : (ps : List (List ℕ)) (h : Held) → EachShort ps → h.0 + length (joined ps) < 2 ^ 63
    → (fed h ps ≡ rest h (joined ps)) × (some_refused h ps ≡ false)
unfolding fed joined EachShort some_refused
fed-joined [] h k j =
    let passed : is_refused h.0 [] ≡ false = is_not-refused h.0 [] (omega arith) (omega arith) in
    (fed-end h passed ∙ sym (rest-none h), passed)
fed-joined (p ∷ ps) h k j =
    let passed : is_refused h.0 p ≡ false = is_not-refused h.0 p (omega (arith, length-append p (joined ps))) k.0 in
    let after : feed_held h p ≡ held_after h p = fed-held h p passed in
    let others = fed-joined ps (held_after h p) k.1 (omega (arith, ended_le h p, length-append p (joined ps))) in
    let q : List ℕ = joined ps in (
      ap₂ (λ (t : List ℕ) (x : Held). t ++ fed x ps) (fed-text h p passed) after
          ∙ ap (λ (t : List ℕ). printed h p ++ t) others.0
          ∙ sym (append_assoc (printed h p) (printed (held_after h p) q) (printed_at_end (held_after (held_after h p) q)))
          ∙ sym (ap₂ (λ (t : List ℕ) (x : Held). t ++ printed_at_end x) (printed-joined h p q) (held-joined h p q)),
      ap₂ (λ (t : Bool) (x : Held). t || some_refused x ps) passed after ∙ others.1,
    )

-- ---- the statements

pub none-refused : NoneRefused
unfolding NoneRefused
none-refused ps k j = (fed-joined ps (0, []) k (omega arith)).1

pub answers-every_line : AnswersEveryLine
unfolding AnswersEveryLine written
answers-every_line ps k j =
    ap (λ (t : List ℕ). header ++ t)
    ((fed-joined ps (0, []) k (omega arith)).0 ∙ every_line (joined ps) 0 [] (lacks_none line_feed))

pub as_sift : AsSift
unfolding AsSift AnswersEveryLine
as_sift ps k j = answers-every_line ps k (omega arith) ∙ output_read (joined ps) j

pub cuts_change_nothing : CutsChangeNothing
unfolding CutsChangeNothing AnswersEveryLine
cuts_change_nothing ps qs k l j e =
    answers-every_line ps k j
    ∙ ap (λ (s : List ℕ). header ++ output_lines 1 (lines s)) e
    ∙ sym (answers-every_line qs l (subst (λ (s : List ℕ). length s < 2 ^ 63) e j))
