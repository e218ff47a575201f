-- A row of the table of refusals is known by its number.
use mathlib.Core.Path.{◌≡◌, refl, sym, ap, ◌∙◌}
use Prim.Native.Nat.{ℕ}
use mathlib.Core.Bool.{cond}
use lib.Dec.{eqb}
use Rattle.outcome.specs.Refusals.{number_of}
use Rattle.outcome.specs.declared.Refusal.{Refusal}
use Rattle.outcome.specs.declared.Refusal.TheVariants.{WrongLength, WrongConfidenceLength, WordTooLarge, LimitTooLarge, FirstBitContradicts, OwnAddressReserved, AltitudeNotInCode, TableUnsound, TableFull, NothingOpened, NumberAboveLast, NotSendable}

-- the row of a number; of one that is none, the last
pub row_of : ℕ → Refusal
row_of n =
    cond (eqb n 1) WrongLength
    (cond (eqb n 2) WrongConfidenceLength
    (cond (eqb n 3) WordTooLarge
    (cond (eqb n 4) LimitTooLarge
    (cond (eqb n 5) FirstBitContradicts
    (cond (eqb n 6) OwnAddressReserved
    (cond (eqb n 7) AltitudeNotInCode
    (cond (eqb n 8) TableUnsound
    (cond (eqb n 9) TableFull (cond (eqb n 10) NothingOpened (cond (eqb n 11) NumberAboveLast NotSendable))))))))))

pub row_of-number : (r : Refusal) → row_of (number_of r) ≡ r
unfolding row_of
row_of-number WrongLength = refl
row_of-number WrongConfidenceLength = refl
row_of-number WordTooLarge = refl
row_of-number LimitTooLarge = refl
row_of-number FirstBitContradicts = refl
row_of-number OwnAddressReserved = refl
row_of-number AltitudeNotInCode = refl
row_of-number TableUnsound = refl
row_of-number TableFull = refl
row_of-number NothingOpened = refl
row_of-number NumberAboveLast = refl
row_of-number NotSendable = refl

pub same_row : (r s : Refusal) → number_of r ≡ number_of s → r ≡ s
same_row r s e = sym (row_of-number r) ∙ ap row_of e ∙ row_of-number s
