-- Altitudes counted in feet above −1200, as the code does inside. Only private functions cite this file.
use Rattle.std.specs.Prelude.{ℕ, ◌-◌, ◌/◌, ◌%◌, Bool, cond, ◌&&◌, eqb, leb, Option, None, Some, ℤ, pos, negsuc, nat_abs, ◌+ℤ◌}
use Rattle.std.specs.Int.Signed.{lt_z}

-- Below −1200, none.
unfoldable pub above_lowest : ℤ → Option ℕ
above_lowest z = cond (lt_z z (negsuc 1199)) None (Some (nat_abs (z +ℤ pos 1200)))

-- A multiple of the step between the two ends.
unfoldable pub is_at : ℕ → ℕ → ℕ → ℕ → Bool
is_at low high step above = eqb (above % step) 0 && (leb low above && leb above high)

-- How many steps it is above the low end.
unfoldable pub steps_from : ℕ → ℕ → ℕ → ℕ → Option ℕ
steps_from low high step above = cond (is_at low high step above) (Some ((above - low) / step)) None
