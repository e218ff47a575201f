-- ASCII characters as bytes: the two that part a text, and those of a quoted text.
use Rattle.std.specs.Prelude.{ℕ, List, [], ◌∷◌}
use Prim.Native.Char.{code}
use Prim.Native.String.{String, [] as none, ◌∷◌ as ◌and◌}

abbrev pub space : ℕ
space = 32

abbrev pub line_feed : ℕ
line_feed = 10

abbrev pub ascii : String → List ℕ
ascii none = []
ascii (c and s) = code c ∷ ascii s
