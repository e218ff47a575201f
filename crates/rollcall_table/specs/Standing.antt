-- Which of two replies of one aircraft stands (document 02, Point 12).
use Rattle.std.specs.Prelude.{ℕ, Bool, ◌&&◌, ◌||◌, ltb, eqb}
use Rattle.rollcall_table.specs.declared.Record.{Record}
use Rattle.rollcall_table.specs.declared.Grade.{Grade}
use Rattle.rollcall_table.specs.declared.Grade.TheVariants.{Clean, Sole, Several}

-- The better the grade, the lower its number.
abbrev pub grade_number : Grade → ℕ
grade_number Clean = 0
grade_number Sole = 1
grade_number Several = 2

-- 'A later time beats an earlier one. At equal times clean beats sole and several, and sole beats several': whether a reply of
-- time t and grade g beats one of time u and grade h.
unfoldable pub beats : ℕ → Grade → ℕ → Grade → Bool
beats t g u h = ltb u t || (eqb t u && ltb (grade_number g) (grade_number h))

-- The same of the replies that two records hold.
abbrev pub record_beats : Record → Record → Bool
record_beats r q = beats r.time r.grade q.time q.grade
