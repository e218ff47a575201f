-- The text of a signed number, by its sign and its size.
use mathlib.Core.Path.{◌≡◌, refl}
use mathlib.Core.Bool.{true, false}
use mathlib.Core.List.{◌∷◌}
use Prim.Native.Nat.{◌<◌}
use native.Mathlib.Omega.{arith}
use borrow.Author.Tests.{ltb-true}
use lib.IntN.{ℤ, pos, negsuc, nat_abs}
use lib.Signed.{lt_z}
use mir.ValLaws.{to_z-of_z}
use Rattle.text.specs.Digits.{decimal_text, signed_text}

pub text_below : (z : ℤ) → lt_z z (pos 0) ≡ true → signed_text z ≡ 45 ∷ decimal_text (nat_abs z)
unfolding signed_text
text_below (pos n) h = absurd (let k : n < 0 = ltb-true n 0 h in omega arith)
text_below (negsuc n) h = refl

pub text_not-below : (z : ℤ) → lt_z z (pos 0) ≡ false → signed_text z ≡ decimal_text (nat_abs z)
unfolding signed_text
text_not-below (pos n) h = refl
text_not-below (negsuc n) h = absurd (cc)

pub ruleset signed_steps = (text_below, text_not-below, to_z-of_z)
