-- A program that takes at most n bytes makes of the first n + 1 bytes of an input what it makes of all.
use Rattle.std.proofs.Common.{◌≡◌, ℕ, ◌+◌, inl, inr, List, ◌++◌, cond, leb, length, take, sym, ap, ◌∙◌, arith, length-take-le, Option, Some, None, IfSome, subst, Result, Ok, Err, OnOk}
use Rattle.std.specs.Io.KnownBytes.{Appends}
use Rattle.std.proofs.Math.Seq.{take-append_seam}
use Rattle.std.proofs.lemmas.List.{take_all}
use Rattle.std.proofs.lemmas.Bool.{cases_lt, lt-leb}

pub cond-take : {A : Type 0} (n : ℕ) (f : List ℕ → A) (z : A) (xs : List ℕ) → cond (leb (length (take (n + 1) xs)) n) (f (take (n + 1) xs)) z ≡ cond (leb (length xs) n) (f xs) z
cond-take n f z xs = elim (cases_lt n (length xs)) [
  | inl above ↦
      let k : length (take (n + 1) xs) ≡ n + 1 = length-take-le (n + 1) xs (omega arith) in
      ap (λ b. cond b (f (take (n + 1) xs)) z) (lt-leb (length (take (n + 1) xs)) n (omega arith)) ∙ sym (ap (λ b. cond b (f xs) z) (lt-leb (length xs) n above))
  | inr within ↦ ap (λ l. cond (leb (length l) n) (f l) z) (take_all (n + 1) xs (omega arith))
]

-- A program reads its buffer full of the input, makes of what it read what stands at the start of a second buffer, and
-- writes that: so it has written what it makes of the whole input.
pub writes-all : {T E O : Type 0} (f : List ℕ → List ℕ) (contents : O → Option (List ℕ)) (read after : Option (List ℕ)) (bytes out rest : List ℕ) (size n : ℕ) (o p : O) (ended : Result T E)
    → ((xs : List ℕ) → f (take (length bytes) xs) ≡ f xs)
    → OnOk ended (IfSome read (λ xs. take size bytes ≡ take (length bytes) xs))
    → n ≡ length (f (take size bytes)) → out ≡ f (take size bytes) ++ rest → o ≡ p → Appends (contents o) after (take n out)
    → OnOk ended (IfSome read (λ xs. Appends (contents p) after (f xs)))
writes-all f contents read after bytes out rest size n o p (Err e) same first value made kept written = tt
writes-all f contents None after bytes out rest size n o p (Ok v) same first value made kept written = tt
writes-all f contents (Some xs) after bytes out rest size n o p (Ok v) same first value made kept written =
    let text : take n out ≡ f xs = ap (λ m. take m out) value ∙ ap (take (length (f (take size bytes)))) made ∙ take-append_seam (f (take size bytes)) rest ∙ ap f first ∙ same xs in
    subst (Appends (contents p) after) text (subst (λ q. Appends (contents q) after (take n out)) kept written)
