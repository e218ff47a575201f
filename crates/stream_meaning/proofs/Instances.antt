-- Worked instances, computed from the definitions. The lines are malformed: a line that is a call would have the checker divide.
use mathlib.Core.Path.{◌≡◌, refl}
use mathlib.Core.List.{List, [], ◌∷◌}
use mathlib.Core.Bool.{cond}
use Prim.Native.Nat.{ℕ}
use lib.ListN.{length}
use lib.Dec.{ltb}
use Rattle.std.specs.Prelude.{Some, None}
use Rattle.text.specs.Ascii.{ascii}
use Rattle.text.specs.Digits.{digit_of, decimal_within, decimal_text}
use Rattle.reading.specs.Lines.{columns}
use Rattle.verdicts.specs.Columns.{spaced}
use Rattle.report.specs.Sift.{malformed, answer_columns, answer_text, output_line}
use Rattle.stream.specs.Stream.{held_after_byte, printed_at_byte, held_after, printed, printed_at_end, is_refused, refusal_of, feed_text, feed_held, finish_text}
use Rattle.stream.specs.declared.state.Refused.TheVariants.{TooManyLines, PieceTooLong}
use Rattle.stream_meaning.specs.Pieces.{fed, written}

-- three lines, cut in the middle of the second, with an empty piece there, and the third without a line feed
pub cut_in_a_line : written (ascii "\nx" ∷ [] ∷ ascii "y\nz" ∷ [])
    ≡ ascii "line answer window bits mark message\n1 malformed - - - -\n2 malformed - - - -\n3 malformed - - - -\n"
unfolding written fed feed_text feed_held finish_text is_refused printed held_after printed_at_end printed_at_byte held_after_byte output_line answer_text answer_columns columns malformed spaced decimal_text decimal_within digit_of
cut_in_a_line = refl

-- after 2^63 lines a piece is refused: nothing is written, and what is held stays
pub too_many_lines : feed_text (9223372036854775808, []) (ascii "\n") ≡ []
unfolding feed_text is_refused
too_many_lines = refl

-- the reason is then the lines, whatever the piece is; one line earlier it is a piece of more than 4,096 bytes
pub lines_are_the_reason : (piece : List ℕ) → refusal_of 9223372036854775808 piece ≡ Some TooManyLines
unfolding refusal_of
lines_are_the_reason piece = refl

pub piece_is_the_reason : (piece : List ℕ) → refusal_of 9223372036854775807 piece ≡ cond (ltb 4096 (length piece)) (Some PieceTooLong) None
unfolding refusal_of
piece_is_the_reason piece = refl
