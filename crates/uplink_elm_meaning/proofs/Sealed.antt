-- What the encoder sealed for the own address is one step of the machine, by its RC. The idea: a seal leaves the field, and so the
-- parts of the message; the transponder reads the address from it.
use mathlib.Core.Path.{◌≡◌, ap, ap₂, ◌∙◌}
use mathlib.Core.Bool.{true}
use mathlib.Core.List.{List}
use Prim.Native.Nat.{ℕ}
use native.Mathlib.Omega.{arith}
use lib.Bits.{bit_xor}
use lib.ListN.{length, get_or}
use Rattle.outcome.specs.Outcomes.{done}
use Rattle.message.specs.Message.{number, field, is_message_length}
use Rattle.message.proofs.Laws.{same-first_bit}
use Rattle.division.specs.Division.{parity, overlay, address_read}
use Rattle.encoder.specs.Seals.{with_parity, seal_outcome, interrogation_after}
use Rattle.encoder.proofs.Laws.{was_accepted, interrogation_after_lem, interrogation_is, sealed-length, sealed_first, sealed-field, sealed_read}
use Rattle.transponder.specs.Receptions.{Permitted, reception_outcome, answered}
use Rattle.transponder.specs.declared.Reception.TheVariants.{Own}
use Rattle.transponder.proofs.Laws.{own_of_read}
use Rattle.uplink_elm.specs.Segments.{is_extended, reply_control, segment_number, segment}
use Rattle.uplink_elm.proofs.Laws.{long_format, parts_by_first, segment_by_field}
use Rattle.uplink_elm_meaning.specs.Machine.{Machine, does, resulting, showing, machine_after, machine_outcome}
use Rattle.uplink_elm_meaning.proofs.Simulating.{step_of_own, shown_of_own}

module _ (own : ℕ) (u : List ℕ) (h : Permitted own) (e : seal_outcome u own ≡ done) (f : is_extended u ≡ true) where
  sealed : List ℕ
  sealed = interrogation_after u own

  long : length u ≡ 14
  long = long_format u (was_accepted u own e).2 f

  is : sealed ≡ with_parity u (bit_xor (parity (number (field u))) (overlay own))
  unfolding sealed
  is = interrogation_after_lem u own e ∙ interrogation_is u own

  same_length : length sealed ≡ length u
  same_length = ap length is ∙ sealed-length u _ (omega (arith, long))

  first : get_or sealed 0 0 ≡ get_or u 0 0
  first = ap (λ (l : List ℕ). get_or l 0 0) is ∙ sealed_first u _ (omega (arith, long))

  is_own_lem : reception_outcome own sealed ≡ answered Own
  unfolding sealed
  is_own_lem =
      own_of_read own sealed h (ap is_message_length same_length ∙ (was_accepted u own e).0)
      (same-first_bit sealed u first same_length ∙ (was_accepted u own e).2)
      (ap (λ (l : List ℕ). address_read (number l)) (interrogation_after_lem u own e) ∙ sealed_read u own (omega (arith, long)) (was_accepted u own e).1)

  extended : is_extended sealed ≡ true
  extended = (parts_by_first sealed u first).0 ∙ f

  control : reply_control sealed ≡ reply_control u
  control = (parts_by_first sealed u first).1

  pub sealed-number-is : segment_number (interrogation_after u own) ≡ segment_number u
  unfolding sealed
  sealed-number-is = (parts_by_first sealed u first).2

  same-segment : segment sealed ≡ segment u
  same-segment = segment_by_field sealed u (same_length ∙ long) long (ap field is ∙ sealed-field u _ (omega (arith, long)))

  pub sealed-step : (s : Machine) → machine_after own (interrogation_after u own) s ≡ resulting (does (reply_control u) (segment_number u) (segment u) s) s
  unfolding sealed
  sealed-step s = step_of_own own sealed (reply_control u) (segment_number u) (segment u) s is_own_lem extended control sealed-number-is same-segment

  pub sealed-shows : (s : Machine) → machine_outcome own (interrogation_after u own) s ≡ showing (does (reply_control u) (segment_number u) (segment u) s) (answered Own)
  unfolding sealed
  sealed-shows s =
      shown_of_own own sealed s is_own_lem extended
      ∙ ap (λ (x : ℕ). showing (does x (segment_number sealed) (segment sealed) s) (answered Own)) control
      ∙ ap₂ (λ (x : ℕ) (y : List ℕ). showing (does (reply_control u) x y s) (answered Own)) sealed-number-is same-segment
