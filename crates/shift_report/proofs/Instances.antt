-- Worked instances, computed from the definitions: the empty input, and lines that are malformed.
use mathlib.Core.Path.{◌≡◌, refl}
use mathlib.Core.List.{[]}
use Rattle.text.specs.Ascii.{ascii}
use Rattle.text.specs.Digits.{digit_of, decimal_within, decimal_text}
use Rattle.reading.specs.Lines.{lines, columns}
use Rattle.report.specs.Sift.{malformed, answer_columns}
use Rattle.shift_report.specs.Tally.{rows, same_text, label, how_many, page_line, counts, page, tally_output}

-- 'Empty input': eight lines with 0
empty : tally_output [] ≡ ascii "lines 0\nclean 0\nsole 0\nseveral 0\ndense 0\nnofit 0\nrefused 0\nmalformed 0\n"
unfolding tally_output page page_line counts how_many rows lines decimal_text decimal_within digit_of
empty = refl

-- an empty line, one of one column and a last piece without a line feed
three : tally_output (ascii "\n00\nmalformed") ≡ ascii "lines 3\nclean 0\nsole 0\nseveral 0\ndense 0\nnofit 0\nrefused 0\nmalformed 3\n"
unfolding tally_output page page_line counts how_many rows lines columns answer_columns malformed label same_text decimal_text decimal_within digit_of
three = refl
