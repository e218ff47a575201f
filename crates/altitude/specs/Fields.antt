-- Where a reply has its altitude code (document 02, Point 1; Annex 10 Volume IV: AC).
use Rattle.std.specs.Prelude.{ℕ, ◌+◌, ◌*◌, ◌-◌, ◌/◌, ◌%◌, ◌^◌, Bool, ◌||◌, List, eqb, length}
use Rattle.message.specs.Message.{number, format_number}
use Rattle.message.specs.Bits.{bits, number_bytes}

-- 'reply formats 4 and 20'
unfoldable pub has_altitude : List ℕ → Bool
has_altitude m = eqb (format_number m) 4 || eqb (format_number m) 20

-- 'the 13-bit altitude code at bits 20 to 32', bit 20 on top: bit 32 stands for x^(n−32).
unfoldable pub altitude_code : List ℕ → ℕ
altitude_code m = number m / 2 ^ (bits m - 32) % 2 ^ 13

-- The message with another code there: bits 1 to 19, the code, and the bits from 33 on.
unfoldable pub with_code : List ℕ → ℕ → List ℕ
with_code m k =
    number_bytes (length m) ((number m / 2 ^ (13 + (bits m - 32)) * 2 ^ 13 + k) * 2 ^ (bits m - 32) + number m % 2 ^ (bits m - 32))
