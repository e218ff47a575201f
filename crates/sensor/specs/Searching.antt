-- What the search of the code holds after some places: cited by private functions alone. That it ends with what
-- Verdicts.antt defines is the law `search_seen` (proofs/Fits.antt).
use Rattle.std.specs.Prelude.{ℕ, zero, suc, ◌*◌, ◌^◌, Bool, cond, eqb, Option, None, Some}
use Rattle.sensor.specs.Verdicts.{Found, candidate, fits_at}
use Rattle.sensor.specs.Verdicts.Found.{nowhere, at}
use Rattle.sensor.specs.declared.Mark.{Mark}
use Rattle.sensor.specs.declared.Mark.TheVariants.{Sole, Several}
use Rattle.sensor.specs.declared.search.Fit.{Fit}

-- A place, if there is one; and a place, or another where there is none.
abbrev pub found_of : Option ℕ → Found
found_of None = nowhere
found_of (Some e) = at e

abbrev pub or_else : Found → Found → Found
or_else nowhere g = g
or_else (at e) g = at e

-- The mark of a fit with the pattern p at place e, by the fit before it: whether all so far invert the same message bits.
abbrev pub mark_after : Option Fit → ℕ → ℕ → Mark
mark_after None p e = Sole
mark_after (Some f) p e = cond (eqb (f.pattern * 2 ^ f.place) (p * 2 ^ e)) f.mark Several

abbrev pub noted : Option Fit → ℕ → ℕ → Fit
noted r p e = record { mark = mark_after r p e; place = e; pattern = p }

-- the fit of the highest place below k, of the syndrome s
unfoldable pub fit_to : (ℕ → ℕ → Bool) → ℕ → ℕ → Option Fit
fit_to φ s zero = None
fit_to φ s (suc k) = cond (fits_at φ s k) (Some (noted (fit_to φ s k) (candidate s k) k)) (fit_to φ s k)
