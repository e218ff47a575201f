-- RC (reply control): the number of each use of a segment, and back (document 02, Point 7; Annex 10 Volume IV).
use Rattle.std.specs.Prelude.{ℕ, zero, suc, Option, Some, None}
use Rattle.uplink_elm.specs.declared.control.Control.{Control}
use Rattle.uplink_elm.specs.declared.control.Control.TheVariants.{Opening, Round, Exchange}

-- 'RC 0 opens a message'; 'RC 1 stores segment NC'; 'RC 2 .. asks for the acknowledgement'.
abbrev pub number_of : Control → ℕ
number_of Opening = 0
number_of Round = 1
number_of Exchange = 2

-- 'RC 3 changes nothing': it is none of them.
abbrev pub control_of : ℕ → Option Control
control_of zero = Some Opening
control_of (suc zero) = Some Round
control_of (suc (suc zero)) = Some Exchange
control_of (suc (suc (suc k))) = None
