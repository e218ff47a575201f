-- Appending to a buffer: a place is a buffer with the number of its bytes that are taken.
use Rattle.std.specs.Prelude.{ℕ, ◌+◌, ◌≡◌, List, [], ◌∷◌, cond, length, set, ltb}
use Rattle.text.specs.declared.output.Output.{Output}

abbrev pub Place : Type 0
Place = List ℕ × ℕ

-- the byte goes to the first place that is not taken; a full buffer takes no more
unfoldable pub append_byte : Place → ℕ → Place
append_byte p b = cond (ltb p.1 (length p.0)) (set p.0 p.1 b, p.1 + 1) p

-- the bytes one after the other
unfoldable pub append : Place → List ℕ → Place
append p [] = p
append p (b ∷ bs) = append (append_byte p b) bs

-- ---- an output, which is a place in a lent buffer

abbrev pub place : Output → Place
place o = (o.buffer.now, o.taken)

-- It has lent the same buffer, and a text has been appended.
pub record Appends (old new : Output) (s : List ℕ) : Type 0 where
  pub same_buffer : new.buffer.ghost_name ≡ old.buffer.ghost_name
  pub appended : place new ≡ append (place old) s
