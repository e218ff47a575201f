-- What is stated of a recording that is fed in pieces. A recording here has fewer than 2^63 bytes, and each piece at most 4,096;
-- a piece may be empty, and may end anywhere.
use Rattle.std.specs.Prelude.{ℕ, ◌^◌, ◌≤◌, ◌<◌, ◌≡◌, List, [], ◌∷◌, ◌++◌, Bool, false, ◌||◌, length}
use Rattle.reading.specs.Lines.{lines}
use Rattle.report.specs.Sift.{header, output_lines, sift_output}
use Rattle.stream.specs.Stream.{Held, is_refused, feed_text, feed_held, finish_text}

-- ---- the pieces

unfoldable pub joined : List (List ℕ) → List ℕ
joined [] = []
joined (p ∷ ps) = p ++ joined ps

unfoldable pub EachShort : List (List ℕ) → Type 0
EachShort [] = Unit {0}
EachShort (p ∷ ps) = (length p ≤ 4096) × EachShort ps

-- ---- the calls: `begin`, `feed` for each piece, `finish`

-- what they write from here on, by the definitions that their contracts cite
unfoldable pub fed : Held → List (List ℕ) → List ℕ
fed h [] = finish_text h
fed h (p ∷ ps) = feed_text h p ++ fed (feed_held h p) ps

-- all that they write
unfoldable pub written : List (List ℕ) → List ℕ
written ps = header ++ fed (0, []) ps

unfoldable pub some_refused : Held → List (List ℕ) → Bool
some_refused h [] = is_refused h.0 []
some_refused h (p ∷ ps) = is_refused h.0 p || some_refused (feed_held h p) ps

-- ---- the statements

-- the header and the answer to each line of the pieces joined: sift's own definition, without its limit
unfoldable pub AnswersEveryLine : Type 0
AnswersEveryLine = (ps : List (List ℕ)) → EachShort ps → length (joined ps) < 2 ^ 63
    → written ps ≡ header ++ output_lines 1 (lines (joined ps))

-- up to sift's limit, what sift writes
unfoldable pub AsSift : Type 0
AsSift = (ps : List (List ℕ)) → EachShort ps → length (joined ps) ≤ 65536 → written ps ≡ sift_output (joined ps)

-- where the pieces end changes no byte
unfoldable pub CutsChangeNothing : Type 0
CutsChangeNothing = (ps qs : List (List ℕ)) → EachShort ps → EachShort qs → length (joined ps) < 2 ^ 63
    → joined ps ≡ joined qs → written ps ≡ written qs

-- no call is refused
unfoldable pub NoneRefused : Type 0
NoneRefused = (ps : List (List ℕ)) → EachShort ps → length (joined ps) < 2 ^ 63 → some_refused (0, []) ps ≡ false
