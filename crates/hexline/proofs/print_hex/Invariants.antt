-- `hexline::print_hex`: as many bytes were printed as were gone over. Assumes nothing.
use Rattle.std.proofs.Common.{◌≡◌}
use Rattle.hexline.proofs.print_hex.Given as goal

abbrev pub invariant-loop-byte : goal.invariant-loop-byte
invariant-loop-byte g l = l.n ≡ l.byte-index
