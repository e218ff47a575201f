-- `roster::answers::put_sighting` meets its contract: each of the five appends keeps the length of the buffer.
-- Tried without: the search gives up at its limit.
use mathlib.Core.Path.{◌∙◌}
use Rattle.text.proofs.Laws.{appends_length}
use Rattle.roster.proofs.answers.put_sighting.Goals as goal

pub returns : goal.returns
returns c =
    appends_length _ _ _ c.put_decimal-2.ensures ∙ appends_length _ _ _ c.put_byte-2.ensures ∙ appends_length _ _ _ c.put_decimal.ensures ∙ appends_length _ _ _ c.put_byte.ensures
    ∙ c.put_altitude.ensures
