-- The lengths of messages and fields, and words of 24 bits: what it means that a test of them is passed.
use mathlib.Core.Path.{◌≡◌, ap}
use mathlib.Core.Bool.{true}
use mathlib.Core.Logic.{◌⊎◌}
use Prim.Native.Nat.{ℕ, ◌+◌, ◌<◌, ◌≤◌, ◌^◌}
use native.Mathlib.Omega.{arith}
use Rattle.std.proofs.lemmas.Bool.Decides.{nat_tests}
use borrow.Author.Tests.{leb-true, le-leb}
use Rattle.message.specs.Message.{is_message_length, is_field_length, is_word}

pub word_lt : (w : ℕ) → is_word w ≡ true → w < 2 ^ 24
unfolding is_word
word_lt w e = omega (arith, leb-true w 0xFFFFFF e)

pub lt-word : (w : ℕ) → w < 2 ^ 24 → is_word w ≡ true
unfolding is_word
lt-word w h = le-leb w 0xFFFFFF (omega arith)

-- what a call with a word needs
pub ruleset words = (word_lt, lt-word)

pub message-length : (n : ℕ) → is_message_length n ≡ true → (n ≡ 7) ⊎ (n ≡ 14)
unfolding is_message_length
message-length n e = grind (arith, nat_tests)

pub message-length_ge : (n : ℕ) → is_message_length n ≡ true → 3 ≤ n
unfolding is_message_length
message-length_ge n e = grind (arith, nat_tests)

pub long_length : (n : ℕ) → n ≡ 14 → is_message_length n ≡ true
unfolding is_message_length
long_length n e = ap is_message_length e

-- one that is not short is long
pub long_message : (n : ℕ) → is_message_length n ≡ true → (n ≡ 7 → ⊥) → n ≡ 14
unfolding is_message_length
long_message n e other = grind (arith, nat_tests)

pub long_field : (n : ℕ) → is_field_length n ≡ true → (n ≡ 4 → ⊥) → n ≡ 11
unfolding is_field_length
long_field n e other = grind (arith, nat_tests)

pub field-length-le : (n : ℕ) → is_field_length n ≡ true → n ≤ 11
unfolding is_field_length
field-length-le n e = grind (arith, nat_tests)

-- the field of a message has a field's length
pub field_is_field : (n k : ℕ) → is_message_length n ≡ true → k + 3 ≡ n → is_field_length k ≡ true
unfolding is_message_length is_field_length
field_is_field n k e s = grind (arith, nat_tests)
