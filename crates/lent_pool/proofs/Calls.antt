-- Calls on a lent pool, of which nothing is known but their promises: they leave the pool of the list and give its numbers, and every list has such
-- calls. Assumes nothing.
use Prim.Native.Nat.{ℕ}
use mathlib.Core.Path.{refl, ap, ap₂, ◌∙◌}
use mathlib.Core.List.{List, [], ◌∷◌}
use Rattle.pool.specs.declared.Pool.{Pool}
use Rattle.pool.specs.Pool.{Added}
use Rattle.pool_lines.specs.Lines.{add_line}
use Rattle.pool_lines.specs.History.{after}
use Rattle.lent_pool.specs.Lent.{Calls, no_call, a_call, numbers_from, CallsGive}

pub calls-give : {p last : Pool} {lines : List (List ℕ)} {numbers : List ℕ} → Calls p lines numbers last → CallsGive p lines numbers last
unfolding after numbers_from
calls-give no_call = record { pool = refl; given = refl }
calls-give (a_call {lines = lines} added rest) =
    let left = ap (λ (a : Added). a.pool) added in
    let more = calls-give rest in
    record {
      pool = more.pool ∙ ap (λ (q : Pool). after add_line q lines) left;
      given = ap₂ (λ (n : ℕ) (ns : List ℕ). n ∷ ns) (ap (λ (a : Added). a.number) added) (more.given ∙ ap (λ (q : Pool). numbers_from q lines) left);
    }

pub calls-exist : (p : Pool) (lines : List (List ℕ)) → Calls p lines (numbers_from p lines) (after add_line p lines)
unfolding after numbers_from
calls-exist p [] = no_call
calls-exist p (bytes ∷ lines) = a_call refl (calls-exist (add_line p bytes).pool lines)
