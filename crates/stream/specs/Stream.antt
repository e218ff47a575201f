-- sift's answers to a recording that comes in pieces, one byte after the other. Nothing here says what a line is or what is
-- answered to it: a line is answered by `output_line`, sift's own definition (report/specs/Sift.antt). That this is sift's
-- output for the pieces joined, without its limit of 65,536 bytes, is a theorem (stream_meaning).
use Rattle.std.specs.Prelude.{ℕ, ◌+◌, ◌^◌, List, [], ◌∷◌, ◌++◌, Bool, cond, ◌||◌, length, take, eqb, leb, ltb, Option, Some, None}
use Rattle.text.specs.Ascii.{line_feed}
use Rattle.report.specs.Sift.{output_line}
use Rattle.stream.specs.declared.state.State.{State}
use Rattle.stream.specs.declared.state.Refused.{Refused}
use Rattle.stream.specs.declared.state.Refused.TheVariants.{TooManyLines, PieceTooLong}

-- ---- what is held between two pieces

-- how many lines have ended, and the bytes kept of the line that has begun
abbrev pub Held : Type 0
Held = ℕ × List ℕ

-- the bytes kept are the first of an array
abbrev pub held : ℕ → List ℕ → ℕ → Held
held ended kept size = (ended, take size kept)

abbrev pub held_by : State → Held
held_by s = held s.ended s.kept s.size

-- ---- a byte

-- A line ends at a line feed. Of a line its first 68 bytes are kept: a well-formed line has at most 67, so that 68 bytes say
-- that it is malformed, and that is all there is to know of it.
unfoldable pub held_after_byte : Held → ℕ → Held
held_after_byte h b = cond (eqb b line_feed) (h.0 + 1, []) (h.0, take 68 (h.1 ++ b ∷ []))

-- a line is answered at its line feed
unfoldable pub printed_at_byte : Held → ℕ → List ℕ
printed_at_byte h b = cond (eqb b line_feed) (output_line (h.0 + 1) h.1) []

-- ---- the bytes of a piece, and the end

unfoldable pub held_after : Held → List ℕ → Held
held_after h [] = h
held_after h (b ∷ bs) = held_after (held_after_byte h b) bs

unfoldable pub printed : Held → List ℕ → List ℕ
printed h [] = []
printed h (b ∷ bs) = printed_at_byte h b ++ printed (held_after_byte h b) bs

-- 'a last piece without one is a line if it has a byte'
unfoldable pub printed_at_end : Held → List ℕ
printed_at_end h = cond (leb (length h.1) 0) [] (output_line (h.0 + 1) h.1)

-- ---- the calls, which are refused where 2^63 lines have ended, or a piece has more than 4,096 bytes

unfoldable pub is_refused : ℕ → List ℕ → Bool
is_refused ended piece = leb (2 ^ 63) ended || ltb 4096 (length piece)

-- and why: where both hold, for the lines that have ended
unfoldable pub refusal_of : ℕ → List ℕ → Option Refused
refusal_of ended piece = cond (leb (2 ^ 63) ended) (Some TooManyLines) (cond (ltb 4096 (length piece)) (Some PieceTooLong) None)

unfoldable pub feed_text : Held → List ℕ → List ℕ
feed_text h piece = cond (is_refused h.0 piece) [] (printed h piece)

unfoldable pub feed_held : Held → List ℕ → Held
feed_held h piece = cond (is_refused h.0 piece) h (held_after h piece)

unfoldable pub finish_text : Held → List ℕ
finish_text h = cond (is_refused h.0 []) [] (printed_at_end h)
