-- The bits at the places so far.
use Rattle.std.proofs.Common.{◌≡◌, map, take}
use Rattle.altitude_code.specs.Codes.{binary, digit}
use Rattle.altitude_code.proofs.bits.gathered.Given as goal

abbrev pub invariant-loop-place : goal.invariant-loop-place
invariant-loop-place l = l.number ≡ binary (map (digit l.code) (take l.place-index l.places))
