-- What is demanded of the rounds (document 02, Point 10).
use Rattle.std.specs.Prelude.{ℕ, ◌-◌, ◌<◌, ◌≤◌, ◌≡◌, ◌↔◌, true, false, List, [], ◌∷◌, ◌++◌, ltb, length, take}
use Rattle.uplink_elm.specs.Segments.{is_held}
use Rattle.uplink_elm.specs.Receiving.{is_whole}
use Rattle.uplink_elm_meaning.specs.Running.{Call, fresh, after_all}
use Rattle.uplink_elm_rounds.specs.Game.{Setting, count, Allowed, Choice, destroyed, UpTo, Position, opened, played_all, round_sent}

-- A receiver after any calls, and then the opening and a round for each choice.
unfoldable pub after_rounds : Setting → List Call → List ℕ → List Choice → Position
after_rounds g before places cs = played_all g (opened g (after_all before (fresh places))) cs

-- Whether the receiver is whole, and which segments it holds.
abbrev pub Whole : Position → Type 0
Whole p = is_whole p.state.receiver ≡ true

abbrev pub Lacks : Position → ℕ → Type 0
Lacks p i = is_held p.state.receiver.held i ≡ false

-- It is whole, holds the numbers of the message and no others, and stores its bytes.
unfoldable pub HasMessage : Setting → Position → Type 0
HasMessage g p =
    Whole p × (p.state.receiver.last ≡ count g - 1) × ((i : ℕ) → is_held p.state.receiver.held i ≡ ltb i (count g))
    × (take (length g.segments) p.state.places ≡ g.segments)

-- 'with k below s, every choice of the interferer leaves the receiver whole within as many rounds as the message has segments', and it
-- stays so.
unfoldable pub WholeInTime : Type 0
WholeInTime =
    (g : Setting) (k : ℕ) → Allowed g → k < g.s
    → (before : List Call) (places : List ℕ) → length places ≡ 160
    → (cs : List Choice) → UpTo k cs → count g ≤ length cs → HasMessage g (after_rounds g before places cs)

-- 'with k at least s, it can keep a message that has one unheard segment incomplete for any number of rounds': after whatever it chose
-- before, there are choices for r rounds more that leave the receiver without each segment that it lacked.
unfoldable pub KeptIncomplete : Type 0
KeptIncomplete =
    (g : Setting) (k : ℕ) → Allowed g → g.s ≤ k
    → (before : List Call) (places : List ℕ) → length places ≡ 160
    → (earlier : List Choice) (r : ℕ)
    → (cs : List Choice) × (length cs ≡ r) × UpTo k cs
    × ((i : ℕ) → i < count g → Lacks (after_rounds g before places earlier) i
    → Lacks (after_rounds g before places (earlier ++ cs)) i × (Whole (after_rounds g before places (earlier ++ cs)) → ⊥))

-- After the opening segment 0 is unheard, so this can be done from the start.
unfoldable pub OpeningLacks : Type 0
OpeningLacks = (g : Setting) → Allowed g → (before : List Call) (places : List ℕ) → length places ≡ 160 → Lacks (after_rounds g before places []) 0

-- 'once all are, none': the next round sends nothing exactly when the receiver is whole.
unfoldable pub NothingWhenWhole : Type 0
NothingWhenWhole =
    (g : Setting) → Allowed g → (before : List Call) (places : List ℕ) → length places ≡ 160 → (cs : List Choice)
    → Whole (after_rounds g before places cs) ↔ (round_sent g (after_rounds g before places cs).acknowledged ≡ [])

-- The bound is met: two segments in rounds of two, of which one is destroyed, are not whole after one round for some choice.
unfoldable pub TwoAreNeeded : Type 0
TwoAreNeeded =
    (g : Setting) → Allowed g → count g ≡ 2 → g.s ≡ 2
    → (before : List Call) (places : List ℕ) → length places ≡ 160
    → (c : Choice) × (destroyed c ≤ 1) × (Whole (after_rounds g before places (c ∷ [])) → ⊥)

-- With fewer transmissions in a round than the message has segments one round less is enough: the first round repeats nothing, and the
-- last segment is heard with the opening.
unfoldable pub OneLessIsEnough : Type 0
OneLessIsEnough =
    (g : Setting) (k : ℕ) → Allowed g → g.s < count g → k < g.s
    → (before : List Call) (places : List ℕ) → length places ≡ 160
    → (cs : List Choice) → UpTo k cs → count g - 1 ≤ length cs → HasMessage g (after_rounds g before places cs)
