-- `sensor::reply::Reply::lowest_fit` meets its contract. The loop's invariant: the fit of the definition after the places passed,
-- and the pattern that the next place needs.
use mathlib.Core.Path.{◌≡◌}
use Rattle.sensor.specs.Verdicts.{candidate, passes}
use Rattle.sensor.specs.Searching.{fit_to}
use Rattle.sensor.proofs.reply.Reply.lowest_fit.Given as goal

abbrev pub invariant-loop-place : goal.invariant-loop-place
invariant-loop-place l =
    (l.fit ≡ fit_to (passes l.self.message.now l.self.marks.now) l.syndrome l.place) × (l.pattern ≡ candidate l.syndrome l.place)
