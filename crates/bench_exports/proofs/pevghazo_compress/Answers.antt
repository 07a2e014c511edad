-- `bench_exports::pevghazo_compress` meets its contract. Assumes nothing.
use mathlib.Core.Path.{ap}
use Rattle.xoofff.specs.declared.Compressed.{Compressed}
use Rattle.bench_exports.proofs.pevghazo_compress.Goals as goal

pub returns : goal.returns
returns c =
    (ap (λ (r : Compressed). r.state.acc) c.compress-r.ensures, ap (λ (r : Compressed). r.state.mask) c.compress-r.ensures)
