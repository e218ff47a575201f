-- The number of a byte list: how it splits at any place, how large it is, and that it determines the list.
use mathlib.Core.Path.{◌≡◌, refl, sym, ap, ap₂, ◌∙◌, subst}
use mathlib.Core.List.{List, [], ◌∷◌, ◌++◌}
use Prim.Native.Nat.{ℕ, zero, suc, ◌+◌, ◌*◌, ◌-◌, ◌/◌, ◌%◌, ◌^◌, ◌≤◌, ◌<◌}
use native.Mathlib.Nat.{add-zero, zero-mul, zero-add, mul-one, mul-add, mul_assoc, add_assoc, add-mul, mul-suc, add_comm, div-add-mod'}
use native.Mathlib.Numerals.{add-one}
use native.Mathlib.Omega.{arith}
use lib.Dec.{lit<}
use lib.Arith.{digits_lt}
use lib.ListN.{length, get_or, take, drop, take-append-drop, length-append, length-drop}
use lib.Seq.{take-suc, get_or-drop, length-take-le}
use lib.Pow.{pow-add, shr-shr, high, low}
use Rattle.message.specs.Message.{number, Bytes, field, parity_field}

pub number-nil : number [] ≡ 0
unfolding number
number-nil = refl

pub number-cons : (b : ℕ) (bs : List ℕ) → number (b ∷ bs) ≡ b * 2 ^ (8 * length bs) + number bs
unfolding number
number-cons b bs = refl

pub number-one : (b : ℕ) → number (b ∷ []) ≡ b
unfolding number
number-one b = add-zero (b * 1) ∙ mul-one b

-- ---- where a list splits

byte_more : (n : ℕ) → 2 ^ 8 * 2 ^ (8 * n) ≡ 2 ^ (8 * suc n)
byte_more n = sym (ap (λ (e : ℕ). 2 ^ e) (mul-suc 8 n ∙ add_comm (8 * n) 8) ∙ pow-add 2 8 (8 * n))

shift_past : (x n a b : ℕ) → x * 2 ^ (8 * (a + b)) + n * 2 ^ (8 * b) ≡ (x * 2 ^ (8 * a) + n) * 2 ^ (8 * b)
shift_past x n a b =
    ap (λ (p : ℕ). x * p + n * 2 ^ (8 * b)) (ap (λ (e : ℕ). 2 ^ e) (mul-add 8 a b) ∙ pow-add 2 (8 * a) (8 * b))
    ∙ ap (λ (p : ℕ). p + n * 2 ^ (8 * b)) (sym (mul_assoc x (2 ^ (8 * a)) (2 ^ (8 * b))))
    ∙ sym (add-mul (x * 2 ^ (8 * a)) n (2 ^ (8 * b)))

pub number_append : (xs ys : List ℕ) → number (xs ++ ys) ≡ number xs * 2 ^ (8 * length ys) + number ys
unfolding number
number_append [] ys = sym (ap (λ (n : ℕ). n + number ys) (zero-mul (2 ^ (8 * length ys))) ∙ zero-add (number ys))
number_append (x ∷ xs) ys =
    ap₂ (λ (l n : ℕ). x * 2 ^ (8 * l) + n) (length-append xs ys) (number_append xs ys)
    ∙ sym (add_assoc (x * 2 ^ (8 * (length xs + length ys))) (number xs * 2 ^ (8 * length ys)) (number ys))
    ∙ ap (λ (n : ℕ). n + number ys) (shift_past x (number xs) (length xs) (length ys))

pub number-split : (n : ℕ) (l : List ℕ) → number l ≡ number (take n l) * 2 ^ (8 * length (drop n l)) + number (drop n l)
number-split n l = ap number (sym (take-append-drop n l)) ∙ number_append (take n l) (drop n l)

-- with n bytes after the first k
pub number-joined : (k n : ℕ) (l : List ℕ) → length l ≡ k + n → number (take k l) * 2 ^ (8 * n) + number (drop k l) ≡ number l
number-joined k n l h =
    sym (number-split k l ∙ ap (λ (j : ℕ). number (take k l) * 2 ^ (8 * j) + number (drop k l)) (length-drop k l ∙ omega arith))

-- a byte that goes from a list to the number before it
pub number-append_byte : (n b : ℕ) (l : List ℕ) → n * 2 ^ (8 * length (b ∷ l)) + number (b ∷ l) ≡ (n * 2 ^ 8 + b) * 2 ^ (8 * length l) + number l
unfolding number
number-append_byte n b l =
    sym (add_assoc (n * 2 ^ (8 * suc (length l))) (b * 2 ^ (8 * length l)) (number l))
    ∙ ap (λ (x : ℕ). x + number l)
    (ap (λ (p : ℕ). n * p + b * 2 ^ (8 * length l)) (sym (byte_more (length l)))
    ∙ ap (λ (p : ℕ). p + b * 2 ^ (8 * length l)) (sym (mul_assoc n (2 ^ 8) (2 ^ (8 * length l))))
    ∙ sym (add-mul (n * 2 ^ 8) b (2 ^ (8 * length l))))

-- one byte more
pub number-next : (l : List ℕ) (i : ℕ) → i < length l → number (take (i + 1) l) ≡ number (take i l) * 2 ^ 8 + get_or l i 0
number-next l i h =
    ap (λ (n : ℕ). number (take n l)) (add-one i) ∙ ap number (take-suc l i 0 h)
    ∙ number_append (take i l) (get_or l i 0 ∷ [])
    ∙ ap (λ (n : ℕ). number (take i l) * 2 ^ 8 + n) (number-one (get_or l i 0))

pub field_is : (m : List ℕ) → field m ≡ take (length m - 3) m
unfolding field
field_is m = refl

pub parity_field_is : (m : List ℕ) → parity_field m ≡ drop (length m - 3) m
unfolding parity_field
parity_field_is m = refl

pub parity_field-length : (m : List ℕ) → 3 ≤ length m → length (parity_field m) ≡ 3
unfolding parity_field
parity_field-length m h = length-drop (length m - 3) m ∙ omega arith

pub field-length : (m : List ℕ) → 3 ≤ length m → length (field m) ≡ length m - 3
unfolding field
field-length m h = length-take-le (length m - 3) m (omega arith)

-- a message is x^24·field + parity field
pub number-message : (m : List ℕ) → 3 ≤ length m → number m ≡ number (field m) * 2 ^ 24 + number (parity_field m)
unfolding field parity_field
number-message m h =
    number-split (length m - 3) m
    ∙ ap (λ (n : ℕ). number (take (length m - 3) m) * 2 ^ (8 * n) + number (drop (length m - 3) m)) (parity_field-length m h)

pub number-two : (p : List ℕ) → length p ≡ 2 → get_or p 0 0 * 256 + get_or p 1 0 ≡ number p
unfolding number
number-two [] h = absurd (omega arith)
number-two (a ∷ []) h = absurd (omega arith)
number-two (a ∷ b ∷ []) h = omega arith
number-two (a ∷ b ∷ c ∷ p) h = absurd (omega arith)

pub number_three : (p : List ℕ) → length p ≡ 3 → get_or p 0 0 * 65536 + get_or p 1 0 * 256 + get_or p 2 0 ≡ number p
unfolding number
number_three [] h = absurd (omega arith)
number_three (a ∷ []) h = absurd (omega arith)
number_three (a ∷ b ∷ []) h = absurd (omega arith)
number_three (a ∷ b ∷ c ∷ []) h = omega arith
number_three (a ∷ b ∷ c ∷ d ∷ p) h = absurd (omega arith)

pub number-four : (p : List ℕ) → length p ≡ 4 → get_or p 0 0 * 16777216 + get_or p 1 0 * 65536 + get_or p 2 0 * 256 + get_or p 3 0 ≡ number p
unfolding number
number-four [] h = absurd (omega arith)
number-four (a ∷ []) h = absurd (omega arith)
number-four (a ∷ b ∷ []) h = absurd (omega arith)
number-four (a ∷ b ∷ c ∷ []) h = absurd (omega arith)
number-four (a ∷ b ∷ c ∷ d ∷ []) h = omega arith
number-four (a ∷ b ∷ c ∷ d ∷ e ∷ p) h = absurd (omega arith)

-- ---- the next bit of a number, from the top

pub next_bit : (b e : ℕ) → b / 2 ^ e ≡ b / 2 ^ suc e * 2 + b / 2 ^ e % 2
next_bit b e =
    sym (div-add-mod' (b / 2 ^ e) 2)
    ∙ ap (λ (n : ℕ). n * 2 + b / 2 ^ e % 2) (shr-shr b e 1 ∙ ap (λ (n : ℕ). b / 2 ^ n) (add-one e))

-- ---- bytes

pub bytes_tail : (x : ℕ) (l : List ℕ) → Bytes (x ∷ l) → Bytes l
bytes_tail x l h i = h (suc i)

pub bytes_drop : (n : ℕ) (l : List ℕ) → Bytes l → Bytes (drop n l)
bytes_drop n l h i = subst (λ (b : ℕ). b < 2 ^ 8) (sym (get_or-drop n l i 0)) (h (n + i))

pub bytes_take : (n : ℕ) (l : List ℕ) → Bytes l → Bytes (take n l)
bytes_take zero l h i = lit< tt
bytes_take (suc n) [] h i = lit< tt
bytes_take (suc n) (x ∷ l) h zero = h zero
bytes_take (suc n) (x ∷ l) h (suc i) = bytes_take n l (λ j. h (suc j)) i

pub bytes-append : (k l : List ℕ) → Bytes k → Bytes l → Bytes (k ++ l)
bytes-append [] l hk hl i = hl i
bytes-append (x ∷ k) l hk hl zero = hk zero
bytes-append (x ∷ k) l hk hl (suc i) = bytes-append k l (λ j. hk (suc j)) hl i

pub number_lt : (l : List ℕ) → Bytes l → number l < 2 ^ (8 * length l)
unfolding number
number_lt [] h = lit< tt
number_lt (x ∷ l) h =
    subst (λ (b : ℕ). x * 2 ^ (8 * length l) + number l < b) (byte_more (length l))
    (digits_lt (h zero) (number_lt l (λ i. h (suc i))))

pub number_part_lt : (k n : ℕ) (l : List ℕ) → Bytes l → length l ≡ k + n → number (drop k l) < 2 ^ (8 * n)
number_part_lt k n l h e =
    subst (λ (j : ℕ). number (drop k l) < 2 ^ (8 * j)) (length-drop k l ∙ omega arith) (number_lt (drop k l) (bytes_drop k l h))

pub parity_field-lt : (m : List ℕ) → 3 ≤ length m → Bytes m → number (parity_field m) < 2 ^ 24
unfolding parity_field
parity_field-lt m l h =
    subst (λ (n : ℕ). number (drop (length m - 3) m) < 2 ^ (8 * n)) (parity_field-length m l) (number_lt (drop (length m - 3) m) (bytes_drop (length m - 3) m h))

-- the number determines the bytes
pub number_injective : (k l : List ℕ) → Bytes k → Bytes l → length k ≡ length l → number k ≡ number l → k ≡ l
unfolding number
number_injective [] [] hk hl e p = refl
number_injective [] (y ∷ l) hk hl e p = absurd (omega arith)
number_injective (x ∷ k) [] hk hl e p = absurd (omega arith)
number_injective (x ∷ k) (y ∷ l) hk hl e p =
    ap₂ (λ (b : ℕ) (bs : List ℕ). b ∷ bs)
    (sym (high x (8 * length k) (number_lt k (bytes_tail x k hk))) ∙ ap (λ (n : ℕ). n / 2 ^ (8 * length k)) same ∙ high y (8 * length k) below)
    (number_injective k l (bytes_tail x k hk) (bytes_tail y l hl) lengths
    (sym (low x (8 * length k) (number_lt k (bytes_tail x k hk))) ∙ ap (λ (n : ℕ). n % 2 ^ (8 * length k)) same ∙ low y (8 * length k) below))
  where
    lengths : length k ≡ length l
    lengths = omega arith

    same : x * 2 ^ (8 * length k) + number k ≡ y * 2 ^ (8 * length k) + number l
    same = p ∙ ap (λ (n : ℕ). y * 2 ^ (8 * n) + number l) (sym lengths)

    below : number l < 2 ^ (8 * length k)
    below = subst (λ (n : ℕ). number l < 2 ^ (8 * n)) (sym lengths) (number_lt l (bytes_tail y l hl))
