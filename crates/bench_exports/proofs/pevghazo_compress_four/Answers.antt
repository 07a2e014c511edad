-- `bench_exports::pevghazo_compress_four` meets its contract. Assumes nothing.
use mathlib.Core.Path.{ap}
use Rattle.xoofff.specs.declared.Compressed.{Compressed}
use Rattle.bench_exports.proofs.pevghazo_compress_four.Goals as goal

pub returns : goal.returns
returns c =
    (ap (λ (r : Compressed). r.state.acc) c.compress_four-r.ensures, ap (λ (r : Compressed). r.state.mask) c.compress_four-r.ensures)
