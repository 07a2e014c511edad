-- `rows::Row::advance` meets its contract. Assumes nothing.
use mathlib.Core.Path.{ap₂, ◌∙◌}
use mathlib.Core.List.{List}
use Prim.Native.Nat.{ℕ, ◌+◌}
use Rattle.rows.specs.Row.{appended}
use Rattle.rows.proofs.Row.advance.Goals as goal

pub returns : goal.returns
returns g c =
    let r = c.renew-self.ensures in
    (r.0, c.append.ensures ∙ ap₂ (λ (n : ℕ) (w : List ℕ). appended g.R.Rolling.rolled (n + 4) w) r.0 r.1)
