-- Digits, and the numbers and bytes that they write.
use mathlib.Core.Path.{◌≡◌, refl, sym, ap, ◌∙◌, subst}
use mathlib.Core.Bool.{Bool, true, false, cond, ◌&&◌, ◌||◌, and-eq-true_iff, and_assoc, and-true}
use mathlib.Core.List.{List, [], ◌∷◌, ◌++◌}
use Prim.Native.Nat.{ℕ, suc, ◌+◌, ◌-◌, ◌*◌, ◌/◌, ◌%◌, ◌^◌, ◌<◌, ◌≤◌}
use native.Mathlib.Nat.{pow-suc, mod-eq_of_lt, div-add-mod, add-mul, mul_assoc, add_assoc, mul-add-mod_self_left, mul-le-mul_left, mul-one, one-mul, pow-le-pow_right}
use native.Mathlib.Omega.{arith}
use lib.ListN.{length, get_or}
use lib.Dec.{leb, eqb}
use borrow.Author.Tests.{leb-true, ne_eqb}
use Rattle.text.specs.Ascii.{space}
use Rattle.reading.specs.Lines.{before, columns}
use Rattle.reading.specs.Digits.{hex_number, decimal_number, is_decimal_digit, is_hex_digit, digit_value, all, number_after, hex_bytes}
use Rattle.reading.proofs.Splitting.{whole-column}
use Rattle.outcome.proofs.Laws.{never}
use Rattle.std.specs.List.{fold}
use Rattle.text.proofs.Laws.{appending, picked, passed_over}

-- ---- one digit

decimal_range : (b : ℕ) → is_decimal_digit b ≡ true → (48 ≤ b) × (b ≤ 57)
unfolding is_decimal_digit
decimal_range b e =
    let both = (and-eq-true_iff (leb 48 b) (leb b 57)).0 e in
    (leb-true 48 b both.0, leb-true b 57 both.1)

-- a digit that is not decimal is a letter
letter_range : (b : ℕ) → is_decimal_digit b ≡ false → is_hex_digit b ≡ true → (65 ≤ b) × (b ≤ 70)
unfolding is_hex_digit
letter_range b n e =
    let both = (and-eq-true_iff (leb 65 b) (leb b 70)).0 (ap (λ (t : Bool). t || (leb 65 b && leb b 70)) (sym n) ∙ e) in
    (leb-true 65 b both.0, leb-true b 70 both.1)

decimal_is_hex : (b : ℕ) → is_decimal_digit b ≡ true → is_hex_digit b ≡ true
unfolding is_hex_digit
decimal_is_hex b e = ap (λ (t : Bool). t || (leb 65 b && leb b 70)) e

pub value-digit : (b : ℕ) → is_hex_digit b ≡ true → b % 16 + b / 64 * 9 ≡ digit_value b
unfolding digit_value
value-digit b h = by (is_decimal_digit b) refl
  where
    by : (t : Bool) → is_decimal_digit b ≡ t → b % 16 + b / 64 * 9 ≡ cond (is_decimal_digit b) (b - 48) (cond (is_hex_digit b) (b - 55) 0)
    by true e = omega (arith, decimal_range b e, picked (is_decimal_digit b) (b - 48) (cond (is_hex_digit b) (b - 55) 0) e)
    by false e =
        omega (arith, letter_range b e h, passed_over (is_decimal_digit b) (b - 48) (cond (is_hex_digit b) (b - 55) 0) e, picked (is_hex_digit b) (b - 55) 0 h)

pub value_none : (b : ℕ) → is_hex_digit b ≡ false → 0 ≡ digit_value b
unfolding digit_value
value_none b h = by (is_decimal_digit b) refl
  where
    by : (t : Bool) → is_decimal_digit b ≡ t → 0 ≡ cond (is_decimal_digit b) (b - 48) (cond (is_hex_digit b) (b - 55) 0)
    by true e = absurd (never (decimal_is_hex b e) h)
    by false e = sym (passed_over (is_decimal_digit b) (b - 48) (cond (is_hex_digit b) (b - 55) 0) e ∙ passed_over (is_hex_digit b) (b - 55) 0 h)

pub digit-value-lt : (b : ℕ) → digit_value b < 16
unfolding digit_value
digit-value-lt b = decimal (is_decimal_digit b) refl
  where
    letter : (t : Bool) → is_decimal_digit b ≡ false → is_hex_digit b ≡ t → cond t (b - 55) 0 < 16
    letter true n e = omega (arith, letter_range b n e)
    letter false n e = omega arith

    decimal : (t : Bool) → is_decimal_digit b ≡ t → cond t (b - 48) (cond (is_hex_digit b) (b - 55) 0) < 16
    decimal true e = omega (arith, decimal_range b e)
    decimal false e = letter (is_hex_digit b) e refl

pub ruleset digit_values = (value-digit, value_none, digit-value-lt)

-- ---- a test of every byte

pub fold-all : (test : ℕ → Bool) (t : Bool) (s : List ℕ) → fold (λ so_far b. so_far && test b) t s ≡ (t && all test s)
unfolding all
fold-all test t [] = sym (and-true t)
fold-all test t (b ∷ s) = fold-all test (t && test b) s ∙ and_assoc t (test b) (all test s)

-- ---- a text of decimal digits is one column, since no digit is a space

no_space : (s : List ℕ) → all is_decimal_digit s ≡ true → length (before space s) ≡ length s
unfolding all before
no_space [] e = refl
no_space (b ∷ s) e =
    let both = (and-eq-true_iff (is_decimal_digit b) (all is_decimal_digit s)).0 e in
    let other : b ≡ space → ⊥ = λ f. omega (arith, decimal_range b both.0) in
    ap length (passed_over (eqb b space) [] (b ∷ before space s) (ne_eqb b space other))
    ∙ ap suc (no_space s both.1)

pub decimal-column : (s : List ℕ) → all is_decimal_digit s ≡ true → columns s ≡ s ∷ []
decimal-column s e = whole-column s (length s) (sym (no_space s e)) (omega arith)

-- ---- numbers

mod-step : (M v b d : ℕ) → (v * b + d) % M ≡ (v % M * b + d) % M
mod-step M v b d =
    ap (λ (x : ℕ). (x * b + d) % M) (sym (div-add-mod v M))
    ∙ ap (λ (x : ℕ). (x + d) % M) (add-mul (M * (v / M)) (v % M) b ∙ ap (λ (x : ℕ). x + v % M * b) (mul_assoc M (v / M) b))
    ∙ ap (λ (x : ℕ). x % M) (add_assoc (M * (v / M * b)) (v % M * b) d)
    ∙ mul-add-mod_self_left M (v / M * b) (v % M * b + d)

-- the low bits of a number decide the low bits of the number with more digits
low_bits : (M base v w : ℕ) (s : List ℕ) → v % M ≡ w % M → number_after base v s % M ≡ number_after base w s % M
unfolding number_after
low_bits M base v w [] e = e
low_bits M base v w (d ∷ s) e =
    low_bits M base (v * base + digit_value d) (w * base + digit_value d) s
    (mod-step M v base (digit_value d) ∙ ap (λ (x : ℕ). (x * base + digit_value d) % M) e ∙ sym (mod-step M w base (digit_value d)))

-- digits read one after the other, the low 32 bits of each number alone
pub fold-number : (base v : ℕ) (s : List ℕ) → v < 2 ^ 32
    → fold (λ v d. (v * base % 2 ^ 32 + digit_value d) % 2 ^ 32) v s ≡ number_after base v s % 2 ^ 32
unfolding number_after
fold-number base v [] h = sym (mod-eq_of_lt h)
fold-number base v (d ∷ s) h =
    fold-number base ((v * base % 2 ^ 32 + digit_value d) % 2 ^ 32) s (omega arith)
    ∙ low_bits (2 ^ 32) base ((v * base % 2 ^ 32 + digit_value d) % 2 ^ 32) (v * base + digit_value d) s (omega arith)

pub number_folded : (base : ℕ) (s : List ℕ) (r : ℕ) → r ≡ fold (λ v d. (v * base % 2 ^ 32 + digit_value d) % 2 ^ 32) 0 s → r ≡ number_after base 0 s % 2 ^ 32
number_folded base s r e = e ∙ fold-number base 0 s (omega arith)

-- a number of k digits in a base up to 16 is below 16^k
number_bound : (base v b : ℕ) (s : List ℕ) → base ≤ 16 → v < b → number_after base v s < b * 16 ^ length s
unfolding number_after
number_bound base v b [] h k = omega (arith, mul-one b)
number_bound base v b (d ∷ s) h k =
    let more : v * base + digit_value d < b * 16 = omega (arith, mul-le-mul_left v h, digit-value-lt d) in
    let e : b * 16 * 16 ^ length s ≡ b * 16 ^ suc (length s) = mul_assoc b 16 (16 ^ length s) ∙ ap (λ (x : ℕ). b * x) (omega (arith, pow-suc 16 (length s))) in
    subst (λ (x : ℕ). number_after base (v * base + digit_value d) s < x) e (number_bound base (v * base + digit_value d) (b * 16) s h more)

number_fits : (base : ℕ) (s : List ℕ) → base ≤ 16 → length s ≤ 8 → number_after base 0 s < 2 ^ 32
number_fits base s h k =
    let small : 16 ^ length s ≤ 16 ^ 8 = pow-le-pow_right (omega arith) k in
    omega (arith, number_bound base 0 1 s h (omega arith), one-mul (16 ^ length s))

-- so a number of up to 8 digits is read whole
pub hex_number-whole : (s : List ℕ) → length s ≤ 8 → hex_number s % 2 ^ 32 ≡ hex_number s
unfolding hex_number
hex_number-whole s h = mod-eq_of_lt (number_fits 16 s (omega arith) h)

pub decimal_number-whole : (s : List ℕ) → length s ≤ 8 → decimal_number s % 2 ^ 32 ≡ decimal_number s
unfolding decimal_number
decimal_number-whole s h = mod-eq_of_lt (number_fits 10 s (omega arith) h)

-- ---- pairs of digits

pub hex_bytes_more : (p s : List ℕ) → length p ≡ 2 → hex_bytes (p ++ s) ≡ (digit_value (get_or p 0 0) * 16 + digit_value (get_or p 1 0)) ∷ hex_bytes s
unfolding hex_bytes
hex_bytes_more (a ∷ b ∷ []) s h = refl
hex_bytes_more [] s h = absurd (omega arith)
hex_bytes_more (a ∷ []) s h = absurd (omega arith)
hex_bytes_more (a ∷ b ∷ c ∷ p) s h = absurd (omega arith)

pub hex_bytes_short : (s : List ℕ) → length s < 2 → hex_bytes s ≡ []
unfolding hex_bytes
hex_bytes_short [] h = refl
hex_bytes_short (a ∷ []) h = refl
hex_bytes_short (a ∷ b ∷ s) h = absurd (omega arith)

-- half as many bytes as digits
pub hex_bytes-length : (s : List ℕ) → length (hex_bytes s) ≡ length s / 2
unfolding hex_bytes
hex_bytes-length [] = refl
hex_bytes-length (a ∷ []) = refl
hex_bytes-length (a ∷ b ∷ s) = omega (arith, hex_bytes-length s)

pub ruleset pairs = (hex_bytes_more, hex_bytes_short, appending)
