-- The numbers of the few bytes that a word is read from, and of the two parts of a field or a message. The idea: eight bytes
-- have 64 bits, and a list is its first eight bytes times a power of x, and the others.
use mathlib.Core.Path.{◌≡◌, subst}
use mathlib.Core.List.{List}
use Prim.Native.Nat.{ℕ, ◌+◌, ◌*◌, ◌^◌, ◌≤◌, ◌<◌}
use native.Mathlib.Nat.{lt_of_lt_of_le}
use native.Mathlib.Omega.{arith}
use lib.ListN.{length, get_or, take, drop, length-drop}
use lib.Pow.{pow_mono}
use lib.Seq.{length-take-le, take_all}
use Rattle.message.specs.Message.{number, Bytes}
use Rattle.message.proofs.Laws.{number-nil, number-next, number_lt, number_part_lt, number-joined, bytes_take}

-- ---- one byte more

pub next-lt : (l : List ℕ) (i : ℕ) → Bytes l → length l ≤ 8 → i < length l → number (take i l) * 2 ^ 8 + get_or l i 0 < 2 ^ 64
next-lt l i h e b =
    let s : 8 * length (take (i + 1) l) ≤ 64 = rw (length-take-le (i + 1) l (omega arith)) (omega arith) in
    subst (λ (n : ℕ). n < 2 ^ 64) (number-next l i b) (lt_of_lt_of_le (number_lt (take (i + 1) l) (bytes_take (i + 1) l h)) (pow_mono s))

-- what `number_of` needs
pub ruleset byte_steps = (number-nil, number-next, next-lt)

-- ---- the two parts of a field and of a message

pub short-lt : (f : List ℕ) → Bytes f → length f ≡ 4 → number f < 2 ^ 32
short-lt f h e = subst (λ (n : ℕ). number f < 2 ^ (8 * n)) e (number_lt f h)

rest : (k n : ℕ) (l : List ℕ) → length l ≡ k + n → take n (drop k l) ≡ drop k l
rest k n l e = take_all n (drop k l) (omega (arith, length-drop k l))

pub long-last-lt : (f : List ℕ) → Bytes f → length f ≡ 11 → number (take 3 (drop 8 f)) < 2 ^ 24
long-last-lt f h e = rw (rest 8 3 f e) (number_part_lt 8 3 f h e)

pub long-joined : (f : List ℕ) → length f ≡ 11 → number (take 8 f) * 2 ^ 48 + number (take 3 (drop 8 f)) * 2 ^ 24 ≡ number f * 2 ^ 24
long-joined f e = rw (rest 8 3 f e) (omega (arith, number-joined 8 3 f e))

pub message-last-lt : (m : List ℕ) → Bytes m → length m ≡ 14 → number (take 6 (drop 8 m)) < 2 ^ 48
message-last-lt m h e = rw (rest 8 6 m e) (number_part_lt 8 6 m h e)

pub message-joined : (m : List ℕ) → length m ≡ 14 → number (take 8 m) * 2 ^ 48 + number (take 6 (drop 8 m)) ≡ number m
message-joined m e = rw (rest 8 6 m e) (number-joined 8 6 m e)

-- what the functions need that take a field or a message apart
pub ruleset parts = (short-lt, long-last-lt, long-joined, message-last-lt, message-joined)
