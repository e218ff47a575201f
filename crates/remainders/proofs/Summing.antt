-- The sum of the entries of a reply is its remainder: R is linear, so R of a field is the sum of R of its bytes, each at its place.
use mathlib.Core.Path.{◌≡◌, refl, sym, ap, ap₂, ◌∙◌, subst}
use mathlib.Core.List.{List, [], ◌∷◌}
use Prim.Native.Nat.{ℕ, zero, suc, ◌+◌, ◌*◌, ◌-◌, ◌/◌, ◌%◌, ◌^◌, ◌<◌, ◌≤◌}
use native.Mathlib.Nat.{add-zero, add-suc, add_assoc}
use native.Mathlib.Omega.{arith}
use lib.ListN.{length, get_or, take, drop}
use lib.Seq.{drop-cons}
use lib.Bits.{bit_xor, xor_zero_r, xor_shifted}
use Rattle.message.specs.Message.{number, Bytes, field, parity_field}
use Rattle.message.proofs.Laws.{number-nil, number-cons, number_lt, number_three, bytes_take, bytes_drop}
use Rattle.division.specs.Division.{remainder, parity}
use Rattle.division.proofs.Laws.{xor_assoc, parity-zero, parity-xor, remainder-parts}
use Rattle.remainders.specs.Entries.{entry_at, AreTables, lowest_first, highest_first, entry_in, entries_in, sum_of}

-- ---- R of a field as a sum of entries

abbrev entry_sum : List ℕ → ℕ
entry_sum [] = 0
entry_sum (b ∷ bs) = bit_xor (entry_at (length bs) b) (entry_sum bs)

by_entries : (f : List ℕ) → Bytes f → entry_sum f ≡ parity (number f)
unfolding entry_at
by_entries [] h = sym (ap parity number-nil ∙ parity-zero)
by_entries (b ∷ bs) h =
    let tail : Bytes bs = λ i. h (suc i) in
    ap (bit_xor (parity (b * 2 ^ (8 * length bs)))) (by_entries bs tail)
    ∙ sym (parity-xor (b * 2 ^ (8 * length bs)) (number bs))
    ∙ ap parity (xor_shifted b (8 * length bs) (number bs) (number_lt bs tail) ∙ sym (number-cons b bs))

-- ---- the entries that the code picks

-- table j, counted from 0, has the entry of a byte with 10 − j bytes after it
entry_is : (t : List ℕ) → AreTables t → (b k j : ℕ) → b < 256 → j ≤ 10 → k ≡ j * 256 → get_or t (b + k) 0 ≡ entry_at (10 - j) b
unfolding AreTables
entry_is t h b k j hb hj e =
    h (b + k) (omega arith)
    ∙ ap₂ (λ (i c : ℕ). entry_at (10 - i) c) {x = (b + k) / 256} {y = j} {u = (b + k) % 256} {v = b} (omega arith) (omega arith)

entries_are : (t : List ℕ) → AreTables t → (a b c d k j : ℕ) → a < 256 → b < 256 → c < 256 → d < 256 → j ≤ 7 → k ≡ j * 256
    → entries_in t (a + b * 256 + c * 65536 + d * 16777216) k
    ≡ bit_xor (bit_xor (entry_at (10 - j) a) (entry_at (10 - (j + 1)) b)) (bit_xor (entry_at (10 - (j + 2)) c) (entry_at (10 - (j + 3)) d))
unfolding entries_in entry_in
entries_are t h a b c d k j ha hb hc hd hj e =
    ap₂ bit_xor
    (ap₂ bit_xor (picked w a k j ha (omega arith) (omega arith) e) (picked (w / 256) b (k + 256) (j + 1) hb (omega arith) (omega arith) (omega arith)))
    (ap₂ bit_xor (picked (w / 65536) c (k + 512) (j + 2) hc (omega arith) (omega arith) (omega arith)) (picked (w / 16777216) d (k + 768) (j + 3) hd (omega arith) (omega arith) (omega arith)))
  where
    w : ℕ
    w = a + b * 256 + c * 65536 + d * 16777216

    picked : (v x k j : ℕ) → x < 256 → v % 256 ≡ x → j ≤ 10 → k ≡ j * 256 → get_or t (v % 256 + k) 0 ≡ entry_at (10 - j) x
    picked v x k j hx ex hj e = ap (λ (n : ℕ). get_or t (n + k) 0) ex ∙ entry_is t h x k j hx hj e

-- ---- twelve terms in the code's order, and in the list's

flat : (a b c d x : ℕ) → bit_xor (bit_xor (bit_xor a b) (bit_xor c d)) x ≡ bit_xor a (bit_xor b (bit_xor c (bit_xor d x)))
flat a b c d x = xor_assoc (bit_xor a b) (bit_xor c d) x ∙ xor_assoc a b (bit_xor (bit_xor c d) x) ∙ ap (λ (n : ℕ). bit_xor a (bit_xor b n)) (xor_assoc c d x)

in_order_lem : (a b c d e f g h i j k p : ℕ)
    → bit_xor (bit_xor (bit_xor (bit_xor (bit_xor a b) (bit_xor c d)) (bit_xor (bit_xor e f) (bit_xor g h))) (bit_xor i j)) (bit_xor k p)
    ≡ bit_xor (bit_xor a (bit_xor b (bit_xor c (bit_xor d (bit_xor e (bit_xor f (bit_xor g (bit_xor h (bit_xor i (bit_xor j (bit_xor k 0))))))))))) p
in_order_lem a b c d e f g h i j k p =
    sym (xor_assoc (bit_xor (bit_xor x y) (bit_xor i j)) k p)
    ∙ ap (λ (n : ℕ). bit_xor n p)
    (xor_assoc (bit_xor x y) (bit_xor i j) k ∙ xor_assoc x y (bit_xor (bit_xor i j) k)
    ∙ flat a b c d (bit_xor y (bit_xor (bit_xor i j) k))
    ∙ ap (λ (n : ℕ). bit_xor a (bit_xor b (bit_xor c (bit_xor d n))))
    (flat e f g h (bit_xor (bit_xor i j) k)
    ∙ ap (λ (n : ℕ). bit_xor e (bit_xor f (bit_xor g (bit_xor h n)))) (xor_assoc i j k ∙ ap (λ (n : ℕ). bit_xor i (bit_xor j n)) (sym (xor_zero_r k)))))
  where
    x : ℕ
    x = bit_xor (bit_xor a b) (bit_xor c d)

    y : ℕ
    y = bit_xor (bit_xor e f) (bit_xor g h)

-- ---- fourteen bytes

fourteen : (t : List ℕ) → AreTables t → (a b c d e f g h i j k l m n : ℕ) → Bytes (a ∷ b ∷ c ∷ d ∷ e ∷ f ∷ g ∷ h ∷ i ∷ j ∷ k ∷ l ∷ m ∷ n ∷ [])
    → sum_of t (a + b * 256 + c * 65536 + d * 16777216) (e + f * 256 + g * 65536 + h * 16777216) i j (n + m * 256 + l * 65536 + k * 16777216)
    ≡ remainder (number (a ∷ b ∷ c ∷ d ∷ e ∷ f ∷ g ∷ h ∷ i ∷ j ∷ k ∷ l ∷ m ∷ n ∷ []))
unfolding sum_of entry_in field parity_field
fourteen t tables a b c d e f g h i j k l m n bytes =
    let word : ℕ = n + m * 256 + l * 65536 + k * 16777216 in
    let lm : l < 256 = bytes 11 in
    let mm : m < 256 = bytes 12 in
    let nm : n < 256 = bytes 13 in
    let ninth : i % 256 ≡ i = omega (arith, bytes 8) in
    let tenth : j % 256 ≡ j = omega (arith, bytes 9) in
    let eleventh : word / 16777216 % 256 ≡ k = omega (arith, bytes 10) in
    let rest : word % 16777216 ≡ l * 65536 + m * 256 + n = omega (arith, bytes 10) in
    ap₂ bit_xor
    (ap₂ bit_xor
    (ap₂ bit_xor
    (entries_are t tables a b c d 0 0 (bytes 0) (bytes 1) (bytes 2) (bytes 3) (omega arith) refl)
    (entries_are t tables e f g h 1024 4 (bytes 4) (bytes 5) (bytes 6) (bytes 7) (omega arith) refl))
    (ap₂ bit_xor
    (ap (λ (x : ℕ). get_or t (x + 2048) 0) ninth ∙ entry_is t tables i 2048 8 (bytes 8) (omega arith) refl)
    (ap (λ (x : ℕ). get_or t (x + 2304) 0) tenth ∙ entry_is t tables j 2304 9 (bytes 9) (omega arith) refl)))
    (ap₂ bit_xor
    (ap (λ (x : ℕ). get_or t (x + 2560) 0) eleventh ∙ entry_is t tables k 2560 10 (bytes 10) (omega arith) refl)
    (rest ∙ number_three (l ∷ m ∷ n ∷ []) refl))
    ∙ in_order_lem (entry_at 10 a) (entry_at 9 b) (entry_at 8 c) (entry_at 7 d) (entry_at 6 e) (entry_at 5 f) (entry_at 4 g) (entry_at 3 h) (entry_at 2 i) (entry_at 1 j) (entry_at 0 k) (number (l ∷ m ∷ n ∷ []))
    ∙ ap (λ (r : ℕ). bit_xor r (number (l ∷ m ∷ n ∷ [])))
    (by_entries (a ∷ b ∷ c ∷ d ∷ e ∷ f ∷ g ∷ h ∷ i ∷ j ∷ k ∷ []) (bytes_take 11 (a ∷ b ∷ c ∷ d ∷ e ∷ f ∷ g ∷ h ∷ i ∷ j ∷ k ∷ l ∷ m ∷ n ∷ []) bytes))
    ∙ remainder-parts (a ∷ b ∷ c ∷ d ∷ e ∷ f ∷ g ∷ h ∷ i ∷ j ∷ k ∷ l ∷ m ∷ n ∷ []) (omega arith) bytes

-- ---- a reply in a recording

module _ (r : List ℕ) (a : ℕ) where
  -- n bytes from a + k on, one by one
  abbrev listed : ℕ → ℕ → List ℕ
  listed k zero = []
  listed k (suc n) = get_or r (a + k) 0 ∷ listed (suc k) n

  part-listed : (k n : ℕ) → a + k + n ≤ length r → take n (drop (a + k) r) ≡ listed k n
  part-listed k zero h = refl
  part-listed k (suc n) h =
      ap (take (suc n)) (drop-cons r (a + k) 0 (omega arith))
      ∙ ap (λ l. get_or r (a + k) 0 ∷ l) (ap (λ (m : ℕ). take n (drop m r)) (sym (add-suc a k)) ∙ part-listed (suc k) n (omega arith))

  lowest-at : (k : ℕ) → lowest_first r (a + k) ≡ get_or r (a + k) 0 + get_or r (a + (k + 1)) 0 * 256 + get_or r (a + (k + 2)) 0 * 65536 + get_or r (a + (k + 3)) 0 * 16777216
  unfolding lowest_first
  lowest-at k =
      ap₂ (λ (x y : ℕ). get_or r (a + k) 0 + get_or r x 0 * 256 + get_or r y 0 * 65536 + get_or r (a + k + 3) 0 * 16777216) (add_assoc a k 1) (add_assoc a k 2)
      ∙ ap (λ (x : ℕ). get_or r (a + k) 0 + get_or r (a + (k + 1)) 0 * 256 + get_or r (a + (k + 2)) 0 * 65536 + get_or r x 0 * 16777216) (add_assoc a k 3)

  highest-at : (k : ℕ) → highest_first r (a + k) ≡ get_or r (a + (k + 3)) 0 + get_or r (a + (k + 2)) 0 * 256 + get_or r (a + (k + 1)) 0 * 65536 + get_or r (a + k) 0 * 16777216
  unfolding highest_first
  highest-at k =
      ap₂ (λ (x y : ℕ). get_or r x 0 + get_or r y 0 * 256 + get_or r (a + k + 1) 0 * 65536 + get_or r (a + k) 0 * 16777216) (add_assoc a k 3) (add_assoc a k 2)
      ∙ ap (λ (x : ℕ). get_or r (a + (k + 3)) 0 + get_or r (a + (k + 2)) 0 * 256 + get_or r x 0 * 65536 + get_or r (a + k) 0 * 16777216) (add_assoc a k 1)

  pub sum-is-remainder : (t : List ℕ) → AreTables t → Bytes r → a + 14 ≤ length r
      → sum_of t (lowest_first r a) (lowest_first r (a + 4)) (get_or r (a + 8) 0) (get_or r (a + 9) 0) (highest_first r (a + 10))
      ≡ remainder (number (take 14 (drop a r)))
  sum-is-remainder t tables bytes h =
      ap (λ (w : ℕ). sum_of t w (lowest_first r (a + 4)) (get_or r (a + 8) 0) (get_or r (a + 9) 0) (highest_first r (a + 10))) (ap (lowest_first r) (sym (add-zero a)) ∙ lowest-at 0)
      ∙ ap₂ (λ (w l : ℕ). sum_of t (get_or r (a + 0) 0 + get_or r (a + 1) 0 * 256 + get_or r (a + 2) 0 * 65536 + get_or r (a + 3) 0 * 16777216) w (get_or r (a + 8) 0) (get_or r (a + 9) 0) l) (lowest-at 4) (highest-at 10)
      ∙ fourteen t tables (get_or r (a + 0) 0) (get_or r (a + 1) 0) (get_or r (a + 2) 0) (get_or r (a + 3) 0) (get_or r (a + 4) 0) (get_or r (a + 5) 0) (get_or r (a + 6) 0) (get_or r (a + 7) 0) (get_or r (a + 8) 0) (get_or r (a + 9) 0) (get_or r (a + 10) 0) (get_or r (a + 11) 0) (get_or r (a + 12) 0) (get_or r (a + 13) 0)
      (subst Bytes part (bytes_take 14 (drop a r) (bytes_drop a r bytes)))
      ∙ ap (λ l. remainder (number l)) (sym part)
    where
      part : take 14 (drop a r) ≡ listed 0 14
      part = ap (λ (m : ℕ). take 14 (drop m r)) (sym (add-zero a)) ∙ part-listed 0 14 (omega arith)
