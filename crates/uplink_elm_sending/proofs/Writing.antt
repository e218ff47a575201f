-- What a call answers and writes where no row refuses it, by its numbers.
use mathlib.Core.Path.{◌≡◌, refl, sym, ap, ap₂, ◌∙◌}
use mathlib.Core.Bool.{true, ◌&&◌}
use mathlib.Core.List.{List}
use Prim.Native.Nat.{ℕ, ◌-◌, ◌*◌, ◌^◌, ◌<◌, ◌≤◌}
use lib.ListN.{length}
use lib.Dec.{eqb}
use borrow.Author.Tests.{le-leb, eq-eqb}
use Rattle.outcome.specs.Outcomes.{value, done}
use Rattle.outcome.specs.Refusals.{not_sendable}
use Rattle.outcome.proofs.Laws.{unless_passed}
use Rattle.message.proofs.Laws.{lt-word}
use Rattle.uplink_elm.specs.Segments.{segment_at}
use Rattle.uplink_elm_sending.specs.Sending.{transmission, transmissions, segment_count, last_numbers, round_numbers, is_round_size, is_segmented, round_outcome, last_after, opening_after, exchange_after, round_after}
use Rattle.uplink_elm_sending.proofs.Answering.{is_segmented_lem, last-sent, last-after, round-sent, round-after}
use Rattle.uplink_elm_sending.proofs.Transmitting.{transmissions_one}

is_round_size_lem : (s : ℕ) → 1 ≤ s → s ≤ 16 → is_round_size s ≡ true
unfolding is_round_size
is_round_size_lem s lo hi = ap₂ ◌&&◌ (le-leb 1 s lo) (le-leb s 16 hi)

module _ (address : ℕ) (segments : List ℕ) (ha : address < 2 ^ 24) (e : length segments ≡ segment_count (length segments) * 10) (lo : 2 ≤ segment_count (length segments)) (hi : segment_count (length segments) ≤ 16) where
  n : ℕ
  n = segment_count (length segments)

  segmented-so : is_segmented (length segments) ≡ true
  unfolding n
  segmented-so = ap is_segmented e ∙ is_segmented_lem n lo hi

  last_written : (control : ℕ) (buffer : List ℕ) → length buffer ≡ 14
      → last_after control address segments buffer ≡ transmission address control (n - 1) (segment_at segments (n - 1))
  unfolding last_numbers n
  last_written control buffer room =
      last-after control address segments buffer 1 (sym (last-sent address (length segments) (length buffer) (lt-word address ha) segmented-so room))
      ∙ transmissions_one address control segments (n - 1)

  pub opening-written : (buffer : List ℕ) → length buffer ≡ 14
      → opening_after address segments buffer ≡ transmission address 0 (segment_count (length segments) - 1) (segment_at segments (segment_count (length segments) - 1))
  unfolding opening_after n
  opening-written buffer room = last_written 0 buffer room

  pub exchange-written : (buffer : List ℕ) → length buffer ≡ 14
      → exchange_after address segments buffer ≡ transmission address 2 (segment_count (length segments) - 1) (segment_at segments (segment_count (length segments) - 1))
  unfolding exchange_after n
  exchange-written buffer room = last_written 2 buffer room

  module _ (acknowledgement s : ℕ) (one : 1 ≤ s) (sixteen : s ≤ 16) where
    pub round-answered : round_outcome address (length segments) acknowledgement s (length (round_numbers acknowledgement (segment_count (length segments)) s) * 14)
        ≡ value (length (round_numbers acknowledgement (segment_count (length segments)) s))
    round-answered =
        sym (round-sent address (length segments) acknowledgement s _ (lt-word address ha) (is_round_size_lem s one sixteen) n' segmented-so refl (sym (unless_passed (eqb (n' * 14) (n' * 14)) not_sendable done (eq-eqb (n' * 14) (n' * 14) refl))))
      where
        n' : ℕ
        n' = length (round_numbers acknowledgement (segment_count (length segments)) s)

    pub round-written : (buffer : List ℕ) → length buffer ≡ length (round_numbers acknowledgement (segment_count (length segments)) s) * 14
        → round_after address segments acknowledgement s buffer ≡ transmissions address 1 segments (round_numbers acknowledgement (segment_count (length segments)) s)
    round-written buffer room =
        round-after address segments acknowledgement s buffer _ (ap (round_outcome address (length segments) acknowledgement s) room ∙ round-answered)
