-- `sift::run` meets its contract: it writes what it makes of the first bytes, which is what it makes of all.
-- Tried without: the check does not find it alone.
use Rattle.std.proofs.Common.{◌≡◌, List, ℕ, ◌++◌, take, length, ap, arith}
use Rattle.text.specs.Ascii.{ascii}
use Rattle.reading.specs.Lines.{lines}
use Rattle.report.specs.Sift.{sift_output, output_lines, header}
use Rattle.console.proofs.Laws.{cond-take, writes-all}
use Rattle.sift.proofs.run.Goals as goal

sift_output-take : (n : ℕ) → n ≡ 65537 → (xs : List ℕ) → sift_output (take n xs) ≡ sift_output xs
unfolding sift_output
sift_output-take n e xs = rw e (ap (λ t. header ++ t) (cond-take 65536 (λ s. output_lines 1 (lines s)) (ascii "too long\n") xs))

pub returns : goal.returns
returns g c =
    writes-all sift_output g.W.Write.contents (g.R.Read.remaining c.args.console.now.input) _ c.read-read.new.bytes c.sift-length.new.out _ c.read-read.result.size _ _ _ c.read-read.result.ended
    (sift_output-take (length c.read-read.new.bytes) (omega arith)) c.read-read.ensures.first c.sift-length.ensures.value c.sift-length.ensures.out_after c.read-read.ensures.output c.in_ok-write.ensures.ok
