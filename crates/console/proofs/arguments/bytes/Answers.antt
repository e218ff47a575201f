-- `console::arguments::bytes` meets its contract: bytes that fit are taken within the buffer. Tried without: the check does not
-- find it alone.
use Rattle.std.proofs.Common.{arith, ◌≤◌, length}
use Rattle.reading.specs.Digits.{hex_bytes}
use Rattle.reading.proofs.Laws.{hex_bytes-length}
use Rattle.text.proofs.Laws.{taken-le}
use Rattle.console.proofs.arguments.bytes.Goals as goal

pub returns-then-is_byte_text-clause-in_bounds : goal.returns-then-is_byte_text-clause-in_bounds
returns-then-is_byte_text-clause-in_bounds c =
    let h : length (hex_bytes c.args.s.now) ≤ length c.args.buffer.now = omega (arith, hex_bytes-length c.args.s.now) in
    taken-le (hex_bytes c.args.s.now) _ _ _ h c.hex_bytes.ensures
