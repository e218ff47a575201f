-- Two bursts are noticed. The test: for every pattern q of b = 2·s bits and every place k, the remainder of x^k·q is none of the
-- polynomials below x^b. It takes q in two halves, so that what is compared is a list of 2^s with a list of 2^s.
use mathlib.Core.Path.{◌≡◌, refl, sym, ap, ap₂, ◌∙◌, subst}
use mathlib.Core.Logic.{◌⊎◌, inl, inr}
use mathlib.Core.List.{List, [], ◌∷◌}
use mathlib.Core.Bool.{Bool, true, not, ◌&&◌}
use Prim.Native.Nat.{ℕ, zero, suc, ◌+◌, ◌-◌, ◌*◌, ◌/◌, ◌%◌, ◌^◌, ◌<◌, ◌≤◌}
use native.Mathlib.Nat.{add-zero, add-suc, suc-add, zero-add, add_comm, one-mul, zero-mul, div-eq_of_lt, not-suc-le-zero, le_of_suc-le-suc, lt_of_lt_of_le, lt_of_le_of_lt, lt_trans, eq-zero-or-pos, mod-lt, lt_of_not-le, not-le_of_lt, mul-le-mul_right}
use native.Mathlib.Omega.{arith}
use native.Mathlib.Decide.{dec_le, dec_lt}
use lib.Arith.{digits_lt}
use lib.Dec.{T, T_not, eqb, eqb_refl, lit<}
use lib.Pow.{pow_pos, pow-add, pow_mono, shl_lt, shl-shr, shr_lt, shr_le, split}
use lib.Bits.{bit_xor, xor_comm, xor_self, xor_lt, xor_shr, xor_shifted}
use Rattle.division.specs.Division.{remainder}
use Rattle.division.proofs.Laws.{reduce_by, double, double_is, xor-zero→eq, xor_cancel, xor-shl, shl-shl, shl-suc, remainder-xor, remainder_small, burst_noticed}
use Rattle.notices.proofs.Walk.{shifted_zero, both}

-- ---- lists

unfoldable pub tab : (ℕ → ℕ) → ℕ → ℕ → List ℕ
tab g zero a = []
tab g (suc n) a = g a ∷ tab g n (suc a)

unfoldable pub each : (ℕ → ℕ) → List ℕ → List ℕ
each f [] = []
each f (v ∷ vs) = f v ∷ each f vs

unfoldable pub all : (ℕ → Bool) → List ℕ → Bool
all f [] = true
all f (v ∷ vs) = f v && all f vs

each-tab : (f g g' : ℕ → ℕ) → ((q : ℕ) → f (g q) ≡ g' q) → (n a : ℕ) → each f (tab g n a) ≡ tab g' n a
unfolding tab each
each-tab f g g' e zero a = refl
each-tab f g g' e (suc n) a = ap₂ (λ (v : ℕ) (vs : List ℕ). v ∷ vs) (e a) (each-tab f g g' e n (suc a))

all-tab : (f : ℕ → Bool) (g : ℕ → ℕ) (n a q : ℕ) → T (all f (tab g n a)) → q < n → T (f (g (q + a)))
unfolding tab all
all-tab f g zero a q t h = absurd (not-suc-le-zero h)
all-tab f g (suc n) a zero t h = subst (λ (x : ℕ). T (f (g x))) (sym (zero-add a)) (both (f (g a)) (all f (tab g n (suc a))) t).0
all-tab f g (suc n) a (suc q) t h =
    subst (λ (x : ℕ). T (f (g x))) (add-suc q a ∙ sym (suc-add q a))
    (all-tab f g n (suc a) q (both (f (g a)) (all f (tab g n (suc a))) t).1 (le_of_suc-le-suc h))

-- ---- the test

-- no polynomial of one list has the coefficients from x^b on of one of the other
unfoldable pub apart : List ℕ → List ℕ → Bool
apart hs ls = all (λ h. all (λ l. not (eqb h l)) ls) hs

unfoldable pub climb : ℕ → ℕ → List ℕ → List ℕ → Bool
climb b zero hs ls = true
climb b (suc n) hs ls = apart (each (λ v. v / 2 ^ b) hs) (each (λ v. v / 2 ^ b) ls) && climb b n (each double hs) (each double ls)

-- the remainders of x^k·q, of n patterns q from a on
abbrev at : ℕ → ℕ → ℕ → List ℕ
at k n a = tab (λ q. remainder (q * 2 ^ k)) n a

next : (k n a : ℕ) → each double (at k n a) ≡ at (suc k) n a
next k n a = each-tab double (λ q. remainder (q * 2 ^ k)) (λ q. remainder (q * 2 ^ suc k)) (λ q. double_is (q * 2 ^ k) ∙ ap remainder (sym (shl-suc q k))) n a

tops : (b k n a : ℕ) → each (λ v. v / 2 ^ b) (at k n a) ≡ tab (λ q. remainder (q * 2 ^ k) / 2 ^ b) n a
tops b k n a = each-tab (λ v. v / 2 ^ b) (λ q. remainder (q * 2 ^ k)) (λ q. remainder (q * 2 ^ k) / 2 ^ b) (λ q. refl) n a

apart-at : (b k j m n a c h l : ℕ) → T (apart (each (λ v. v / 2 ^ b) (at j m a)) (each (λ v. v / 2 ^ b) (at k n c))) → h < m → l < n
    → remainder ((h + a) * 2 ^ j) / 2 ^ b ≡ remainder ((l + c) * 2 ^ k) / 2 ^ b → ⊥
unfolding apart
apart-at b k j m n a c h l t hm ln e =
    T_not (eqb x y)
    (all-tab (λ (w : ℕ). not (eqb x w)) (λ (q : ℕ). remainder (q * 2 ^ k) / 2 ^ b) n c l
    (all-tab (λ (w : ℕ). all (λ (u : ℕ). not (eqb w u)) (tab (λ q. remainder (q * 2 ^ k) / 2 ^ b) n c)) (λ (q : ℕ). remainder (q * 2 ^ j) / 2 ^ b) m a h both-tops hm) ln)
    (subst (λ (w : ℕ). T (eqb x w)) e (eqb_refl x))
  where
    x : ℕ
    x = remainder ((h + a) * 2 ^ j) / 2 ^ b

    y : ℕ
    y = remainder ((l + c) * 2 ^ k) / 2 ^ b

    both-tops : T (apart (tab (λ q. remainder (q * 2 ^ j) / 2 ^ b) m a) (tab (λ q. remainder (q * 2 ^ k) / 2 ^ b) n c))
    both-tops = subst T (ap₂ apart (tops b j m a) (tops b k n c)) t

climb-at : (b n m a c k j h l i : ℕ) (w : ℕ) → T (climb b n (at j m a) (at k w c)) → h < m → l < w → i < n
    → remainder ((h + a) * 2 ^ (i + j)) / 2 ^ b ≡ remainder ((l + c) * 2 ^ (i + k)) / 2 ^ b → ⊥
unfolding climb
climb-at b zero m a c k j h l i w t hm lw h' e = not-suc-le-zero h'
climb-at b (suc n) m a c k j h l zero w t hm lw h' e =
    apart-at b k j m w a c h l
    (both (apart (each (λ v. v / 2 ^ b) (at j m a)) (each (λ v. v / 2 ^ b) (at k w c))) (climb b n (each double (at j m a)) (each double (at k w c))) t).0
    hm lw
    (ap (λ (x : ℕ). remainder ((h + a) * 2 ^ x) / 2 ^ b) (sym (zero-add j)) ∙ e ∙ ap (λ (x : ℕ). remainder ((l + c) * 2 ^ x) / 2 ^ b) (zero-add k))
climb-at b (suc n) m a c k j h l (suc i) w t hm lw h' e =
    climb-at b n m a c (suc k) (suc j) h l i w
    (subst T (ap₂ (λ (x y : List ℕ). climb b n x y) (next j m a) (next k w c))
    (both (apart (each (λ v. v / 2 ^ b) (at j m a)) (each (λ v. v / 2 ^ b) (at k w c))) (climb b n (each double (at j m a)) (each double (at k w c))) t).1)
    hm lw (le_of_suc-le-suc h')
    (ap (λ (x : ℕ). remainder ((h + a) * 2 ^ x) / 2 ^ b) (add-suc i j ∙ sym (suc-add i j)) ∙ e
    ∙ ap (λ (x : ℕ). remainder ((l + c) * 2 ^ x) / 2 ^ b) (suc-add i k ∙ sym (add-suc i k)))

-- ---- a pattern of b = s + s bits at a place k from k₀ on

small_top : (b x y : ℕ) → bit_xor x y < 2 ^ b → x / 2 ^ b ≡ y / 2 ^ b
small_top b x y h = xor-zero→eq (x / 2 ^ b) (y / 2 ^ b) (sym (xor_shr x y b) ∙ div-eq_of_lt h)

parts : (s k h l : ℕ) → l < 2 ^ s → remainder ((h * 2 ^ s + l) * 2 ^ k) ≡ bit_xor (remainder (h * 2 ^ (k + s))) (remainder (l * 2 ^ k))
parts s k h l ls =
    ap (λ (x : ℕ). remainder (x * 2 ^ k)) (sym (xor_shifted h s l ls))
    ∙ ap remainder (xor-shl (h * 2 ^ s) l k ∙ ap (λ (x : ℕ). bit_xor x (l * 2 ^ k)) (shl-shl h s k ∙ ap (λ (x : ℕ). h * 2 ^ x) (add_comm s k)))
    ∙ remainder-xor (h * 2 ^ (k + s)) (l * 2 ^ k)

power_lt : (i j : ℕ) → 2 ^ i < 2 ^ j → i < j
power_lt i j h = lt_of_not-le (λ (g : j ≤ i). not-le_of_lt h (pow_mono g))

module _ (b s k₀ n : ℕ) (t : T (climb b n (at (k₀ + s) (2 ^ s) 0) (at k₀ (2 ^ s - 1) 1))) where
  -- the lower half is not 0
  lower : (h l k : ℕ) → h < 2 ^ s → 0 < l → l < 2 ^ s → k₀ ≤ k → k < k₀ + n → remainder ((h * 2 ^ s + l) * 2 ^ k) < 2 ^ b → ⊥
  lower h l k hs l0 ls kk kn small =
      climb-at b n (2 ^ s) 0 1 k₀ (k₀ + s) h (l - 1) (k - k₀) (2 ^ s - 1) t hs (omega arith) (omega arith)
      (ap₂ (λ (x y : ℕ). remainder (x * 2 ^ y) / 2 ^ b) (add-zero h) (omega arith)
      ∙ small_top b (remainder (h * 2 ^ (k + s))) (remainder (l * 2 ^ k)) (subst (λ (x : ℕ). x < 2 ^ b) (parts s k h l ls) small)
      ∙ ap₂ (λ (x y : ℕ). remainder (x * 2 ^ y) / 2 ^ b) (omega arith) (omega arith))

  pattern : (q k : ℕ) → 0 < q → q < 2 ^ (s + s) → k₀ ≤ k → q * 2 ^ k < 2 ^ (k₀ + n) → remainder (q * 2 ^ k) < 2 ^ b → ⊥
  pattern q k q0 qb kk kn small = pick (eq-zero-or-pos (q % 2 ^ s))
    where
      h : ℕ
      h = q / 2 ^ s

      whole : h * 2 ^ s + q % 2 ^ s ≡ q
      whole = split q s

      h-lt : h < 2 ^ s
      h-lt = shr_lt s s qb

      within : (v j : ℕ) → 0 < v → v * 2 ^ j < 2 ^ (k₀ + n) → j < k₀ + n
      within v j v0 l = power_lt j (k₀ + n) (lt_of_le_of_lt (subst (λ (x : ℕ). x ≤ v * 2 ^ j) (one-mul (2 ^ j)) (mul-le-mul_right (2 ^ j) v0)) l)

      high : q % 2 ^ s ≡ 0 → (h ≡ 0) ⊎ (0 < h) → 0 < h
      high z (inl e) =
          let none : q ≡ 0 = sym whole ∙ ap₂ (λ (x y : ℕ). x * 2 ^ s + y) e z ∙ ap (λ (x : ℕ). x + 0) (zero-mul (2 ^ s)) in
          omega arith
      high z (inr l) = l

      pick : (q % 2 ^ s ≡ 0) ⊎ (0 < q % 2 ^ s) → ⊥
      pick (inl z) =
          let e : h * 2 ^ (s + k) ≡ q * 2 ^ k = sym (shl-shl h s k) ∙ ap (λ (x : ℕ). x * 2 ^ k) (sym (add-zero (h * 2 ^ s)) ∙ ap (λ (x : ℕ). h * 2 ^ s + x) (sym z) ∙ whole) in
          let h0 : 0 < h = high z (eq-zero-or-pos h) in
          lower 0 h (s + k) (pow_pos s) h0 h-lt (omega arith) (within h (s + k) h0 (subst (λ (x : ℕ). x < 2 ^ (k₀ + n)) (sym e) kn))
          (subst (λ (x : ℕ). x < 2 ^ b) (ap remainder (sym e ∙ ap (λ (x : ℕ). x * 2 ^ (s + k)) (sym (zero-add h) ∙ ap (λ (x : ℕ). x + h) (sym (zero-mul (2 ^ s)))))) small)
      pick (inr p) =
          lower h (q % 2 ^ s) k h-lt p (mod-lt q (pow_pos s)) kk (within q k q0 kn) (subst (λ (x : ℕ). remainder (x * 2 ^ k) < 2 ^ b) (sym whole) small)

-- ---- two bursts

shl_mono : (a c j : ℕ) → a < c → a * 2 ^ j < c * 2 ^ j
shl_mono a c j h = subst (λ (x : ℕ). x < c * 2 ^ j) (add-zero (a * 2 ^ j)) (digits_lt h (pow_pos j))

-- The lists at the start are shifted numerals: nothing is divided yet.
tab_small : (j n a c : ℕ) → n + a ≤ c → c * 2 ^ j ≤ 2 ^ 24 → tab (λ q. q * 2 ^ j) n a ≡ at j n a
unfolding tab
tab_small j zero a c h l = refl
tab_small j (suc n) a c h l =
    ap₂ (λ (v : ℕ) (vs : List ℕ). v ∷ vs)
    (sym (remainder_small (a * 2 ^ j) (lt_of_lt_of_le (shl_mono a c j (omega arith)) l)))
    (tab_small j n (suc a) c (omega arith) l)

module _ (b s k₀ n : ℕ) (eb : b ≡ s + s) (ek : k₀ + b ≡ 24)
    (t : T (climb b n (tab (λ q. q * 2 ^ (k₀ + s)) (2 ^ s) 0) (tab (λ q. q * 2 ^ k₀) (2 ^ s - 1) 1))) where
  start : T (climb b n (at (k₀ + s) (2 ^ s) 0) (at k₀ (2 ^ s - 1) 1))
  start =
      subst T
      (ap₂ (λ (x y : List ℕ). climb b n x y)
      (tab_small (k₀ + s) (2 ^ s) 0 (2 ^ s) (omega arith) (subst (λ (x : ℕ). x ≤ 2 ^ 24) (pow-add 2 s (k₀ + s)) (pow_mono {i = s + (k₀ + s)} {j = 24} (omega arith))))
      (tab_small k₀ (2 ^ s - 1) 1 (2 ^ s) (omega (arith, pow_pos s)) (subst (λ (x : ℕ). x ≤ 2 ^ 24) (pow-add 2 s k₀) (pow_mono {i = s + k₀} {j = 24} (omega arith)))))
      t

  -- the lower one at 0
  at_zero : (p q k : ℕ) → p < 2 ^ b → q < 2 ^ b → q * 2 ^ k < 2 ^ (k₀ + n) → remainder (bit_xor p (q * 2 ^ k)) ≡ 0 → bit_xor p (q * 2 ^ k) ≡ 0
  at_zero p q k hp hq hk e = pick (dec_lt (q * 2 ^ k) (2 ^ 24))
    where
      same : p ≡ remainder (q * 2 ^ k)
      same =
          xor-zero→eq p (remainder (q * 2 ^ k))
          (ap (λ (x : ℕ). bit_xor x (remainder (q * 2 ^ k))) (sym (remainder_small p (lt_of_lt_of_le hp (pow_mono {i = b} {j = 24} (omega arith)))))
          ∙ sym (remainder-xor p (q * 2 ^ k)) ∙ e)

      positive : (q * 2 ^ k < 2 ^ 24 → ⊥) → (q ≡ 0) ⊎ (0 < q) → 0 < q
      positive f (inl z) = absurd (f (subst (λ (x : ℕ). x < 2 ^ 24) (sym (ap (λ (x : ℕ). x * 2 ^ k) z ∙ zero-mul (2 ^ k))) (lit< tt)))
      positive f (inr l) = l

      pick : Dec (q * 2 ^ k < 2 ^ 24) → bit_xor p (q * 2 ^ k) ≡ 0
      pick (yes l) = ap (λ (x : ℕ). bit_xor x (q * 2 ^ k)) (same ∙ remainder_small (q * 2 ^ k) l) ∙ xor_self (q * 2 ^ k)
      pick (no f) =
          absurd
          (pattern b s k₀ n start q k (positive f (eq-zero-or-pos q)) (subst (λ (x : ℕ). q < 2 ^ x) eb hq)
          (le_of_suc-le-suc (lt_of_not-le (λ (g : suc k ≤ k₀). f (lt_of_lt_of_le (shl_lt b k hq) (pow_mono {i = b + k} {j = 24} (omega arith))))))
          hk (subst (λ (x : ℕ). x < 2 ^ b) same hp))

  module _ (p q i j : ℕ) (ij : i ≤ j) (hp : p < 2 ^ b) (hq : q < 2 ^ b) where
    k : ℕ
    k = j - i

    place : q * 2 ^ k * 2 ^ i ≡ q * 2 ^ j
    unfolding k
    place = shl-shl q k i ∙ ap (λ (x : ℕ). q * 2 ^ x) {x = k + i} {y = j} (omega arith)

    up : q * 2 ^ k ≤ q * 2 ^ j
    up = subst (λ (x : ℕ). x ≤ q * 2 ^ j) (ap (λ (x : ℕ). x / 2 ^ i) (sym place) ∙ shl-shr (q * 2 ^ k) i) (shr_le (q * 2 ^ j) i)

    whole : bit_xor (p * 2 ^ i) (q * 2 ^ j) ≡ bit_xor p (q * 2 ^ k) * 2 ^ i
    whole = ap (bit_xor (p * 2 ^ i)) (sym place) ∙ sym (xor-shl p (q * 2 ^ k) i)

    -- both end within the bits, or both begin so high that together they are one short burst
    ordered : bit_xor (p * 2 ^ i) (q * 2 ^ j) < 2 ^ (k₀ + n)
        → remainder (bit_xor (p * 2 ^ i) (q * 2 ^ j)) ≡ 0 → bit_xor (p * 2 ^ i) (q * 2 ^ j) ≡ 0
    ordered hd e = whole ∙ ap (λ (x : ℕ). x * 2 ^ i) (pick (dec_lt (p * 2 ^ i) (2 ^ (k₀ + n)))) ∙ zero-mul (2 ^ i)
      where
        pick : Dec (p * 2 ^ i < 2 ^ (k₀ + n)) → bit_xor p (q * 2 ^ k) ≡ 0
        pick (yes l) =
            at_zero p q k hp hq
            (lt_of_le_of_lt up
            (subst (λ (x : ℕ). x < 2 ^ (k₀ + n)) (xor_cancel (p * 2 ^ i) (q * 2 ^ j)) (xor_lt (k₀ + n) (p * 2 ^ i) (bit_xor (p * 2 ^ i) (q * 2 ^ j)) l hd)))
            (shifted_zero (bit_xor p (q * 2 ^ k)) i (ap remainder (sym whole) ∙ e))
        pick (no f) =
            let d-lt : bit_xor (p * 2 ^ i) (q * 2 ^ j) < 2 ^ (b + i) = lt_of_lt_of_le hd (le_of_suc-le-suc (lt_of_not-le (λ (g : suc (2 ^ (b + i)) ≤ 2 ^ (k₀ + n)). f (lt_trans (shl_lt b i hp) g)))) in
            let c_lt : bit_xor p (q * 2 ^ k) < 2 ^ b = subst (λ (x : ℕ). x < 2 ^ b) (ap (λ (x : ℕ). x / 2 ^ i) whole ∙ shl-shr (bit_xor p (q * 2 ^ k)) i) (shr_lt b i d-lt) in
            burst_noticed (bit_xor p (q * 2 ^ k)) i (lt_of_lt_of_le c_lt (pow_mono {i = b} {j = 24} (omega arith))) (ap remainder (sym whole) ∙ e)

  pub two-bursts : (p q i j : ℕ) → p < 2 ^ b → q < 2 ^ b → bit_xor (p * 2 ^ i) (q * 2 ^ j) < 2 ^ (k₀ + n)
      → remainder (bit_xor (p * 2 ^ i) (q * 2 ^ j)) ≡ 0 → bit_xor (p * 2 ^ i) (q * 2 ^ j) ≡ 0
  two-bursts p q i j hp hq hd e = pick (dec_le i j)
    where
      turned : bit_xor (p * 2 ^ i) (q * 2 ^ j) ≡ bit_xor (q * 2 ^ j) (p * 2 ^ i)
      turned = xor_comm (p * 2 ^ i) (q * 2 ^ j)

      pick : Dec (i ≤ j) → bit_xor (p * 2 ^ i) (q * 2 ^ j) ≡ 0
      pick (yes l) = ordered p q i j l hp hq hd e
      pick (no f) =
          turned ∙ ordered q p j i (omega arith) hq hp (subst (λ (x : ℕ). x < 2 ^ (k₀ + n)) turned hd) (ap remainder (sym turned) ∙ e)

-- ---- of 8 bits each in 112, and of 12 in 56

eight_test : T (climb 8 96 (tab (λ q. q * 2 ^ 20) 16 0) (tab (λ q. q * 2 ^ 16) 15 1))
unfolding reduce_by double tab each all apart climb
eight_test = tt

twelve_test : T (climb 12 44 (tab (λ q. q * 2 ^ 18) 64 0) (tab (λ q. q * 2 ^ 12) 63 1))
unfolding reduce_by double tab each all apart climb
twelve_test = tt

pub two_of_eight : (p q i j : ℕ) → p < 2 ^ 8 → q < 2 ^ 8 → bit_xor (p * 2 ^ i) (q * 2 ^ j) < 2 ^ 112
    → remainder (bit_xor (p * 2 ^ i) (q * 2 ^ j)) ≡ 0 → bit_xor (p * 2 ^ i) (q * 2 ^ j) ≡ 0
two_of_eight = two-bursts 8 4 16 96 refl refl eight_test

pub two_of_twelve : (p q i j : ℕ) → p < 2 ^ 12 → q < 2 ^ 12 → bit_xor (p * 2 ^ i) (q * 2 ^ j) < 2 ^ 56
    → remainder (bit_xor (p * 2 ^ i) (q * 2 ^ j)) ≡ 0 → bit_xor (p * 2 ^ i) (q * 2 ^ j) ≡ 0
two_of_twelve = two-bursts 12 6 12 44 refl refl twelve_test
