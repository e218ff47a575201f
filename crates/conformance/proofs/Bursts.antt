-- A burst is a pattern placed in a window.
use mathlib.Core.Path.{refl}
use Rattle.conformance.specs.Bursts.{Burst, BurstIsInWindow}

pub burst_is_in_window : BurstIsInWindow
unfolding BurstIsInWindow Burst
burst_is_in_window m w d = refl
