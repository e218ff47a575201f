-- Feeding two pieces is feeding the one and then the other.
use mathlib.Core.Path.{◌≡◌, refl, sym, ap, ◌∙◌}
use mathlib.Core.Bool.{Bool, true, false, cond}
use mathlib.Core.List.{List, [], ◌∷◌, ◌++◌, append_assoc}
use Prim.Native.Nat.{ℕ, ◌+◌, ◌≤◌}
use native.Mathlib.Omega.{arith}
use lib.ListN.{length, take}
use lib.Dec.{eqb}
use Rattle.text.specs.Ascii.{line_feed}
use Rattle.stream.specs.Stream.{Held, held_after_byte, printed_at_byte, held_after, printed}

-- ---- a byte and more

pub printed-none : (h : Held) → printed h [] ≡ []
unfolding printed
printed-none h = refl

pub printed-first : (h : Held) (b : ℕ) (s : List ℕ) → printed h (b ∷ s) ≡ printed_at_byte h b ++ printed (held_after_byte h b) s
unfolding printed
printed-first h b s = refl

pub held_none : (h : Held) → held_after h [] ≡ h
unfolding held_after
held_none h = refl

pub held_first : (h : Held) (b : ℕ) (s : List ℕ) → held_after h (b ∷ s) ≡ held_after (held_after_byte h b) s
unfolding held_after
held_first h b s = refl

-- ---- two pieces

pub printed-joined : (h : Held) (p q : List ℕ) → printed h (p ++ q) ≡ printed h p ++ printed (held_after h p) q
unfolding printed held_after
printed-joined h [] q = refl
printed-joined h (b ∷ p) q =
    ap (λ (t : List ℕ). printed_at_byte h b ++ t) (printed-joined (held_after_byte h b) p q)
    ∙ sym (append_assoc (printed_at_byte h b) (printed (held_after_byte h b) p) (printed (held_after (held_after_byte h b) p) q))

pub held-joined : (h : Held) (p q : List ℕ) → held_after h (p ++ q) ≡ held_after (held_after h p) q
unfolding held_after
held-joined h [] q = refl
held-joined h (b ∷ p) q = held-joined (held_after_byte h b) p q

-- ---- no more lines end than there are bytes

ended_by_byte : (h : Held) (b : ℕ) → (held_after_byte h b).0 ≤ h.0 + 1
unfolding held_after_byte
ended_by_byte h b = cases (eqb b line_feed)
  where
    cases : (t : Bool) → (cond {A = Held} t (h.0 + 1, []) (h.0, take 68 (h.1 ++ b ∷ []))).0 ≤ h.0 + 1
    cases true = omega arith
    cases false = omega arith

pub ended_le : (h : Held) (p : List ℕ) → (held_after h p).0 ≤ h.0 + length p
unfolding held_after
ended_le h [] = omega arith
ended_le h (b ∷ p) = omega (arith, ended_le (held_after_byte h b) p, ended_by_byte h b)
