-- `tally::run` meets its contract: it writes what it makes of the first bytes, which is what it makes of all.
-- Tried without: the check does not find it alone.
use Rattle.std.proofs.Common.{◌≡◌, List, ℕ, take, length, arith}
use Rattle.text.specs.Ascii.{ascii}
use Rattle.shift_report.specs.Tally.{tally_output, page, rows}
use Rattle.console.proofs.Laws.{cond-take, writes-all}
use Rattle.tally.proofs.run.Goals as goal

tally_output-take : (n : ℕ) → n ≡ 65537 → (xs : List ℕ) → tally_output (take n xs) ≡ tally_output xs
unfolding tally_output
tally_output-take n e xs = rw e (cond-take 65536 (λ s. page (rows s)) (ascii "too long\n") xs)

pub returns : goal.returns
returns g c =
    writes-all tally_output g.W.Write.contents (g.R.Read.remaining c.args.console.now.input) _ c.read-read.new.bytes c.tally-length.new.out _ c.read-read.result.size _ _ _ c.read-read.result.ended
    (tally_output-take (length c.read-read.new.bytes) (omega arith)) c.read-read.ensures.first c.tally-length.ensures.value c.tally-length.ensures.out_after c.read-read.ensures.output c.in_ok-write.ensures.ok
