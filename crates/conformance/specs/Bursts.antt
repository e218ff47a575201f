-- Bursts (document 01, 'Demand 3's words'): 'A burst inverts one or more bits of a sealed message, all inside one window, and
-- leaves the rest.'
use Rattle.std.specs.Prelude.{ℕ, ◌*◌, ◌-◌, ◌^◌, ◌<◌, ◌≤◌, ◌≡◌, List, length}
use Rattle.message.specs.Bits.{InWindow}

-- 'Window w covers bits w + 1 to w + 24, for w from 0 to n − 24': d inverts a nonzero pattern p inside window w of m.
unfoldable pub Burst : List ℕ → ℕ → ℕ → Type 0
Burst m w d = (w ≤ 8 * length m - 24) × (p : ℕ) × (0 < p) × (p < 2 ^ 24) × (d ≡ p * 2 ^ (8 * length m - 24 - w))

-- 'A change is a nonzero pattern placed in a window': a burst is what a change is, of which the definitions of the sensor
-- speak as `InWindow`. The two are one.
unfoldable pub BurstIsInWindow : Type 1
BurstIsInWindow = (m : List ℕ) (w d : ℕ) → Burst m w d ≡ InWindow m w d
