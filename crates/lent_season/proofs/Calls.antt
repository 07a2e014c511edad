-- Calls on a lent pool with the same windows, of which nothing is known but their promises: they leave the pool of the list and give its numbers, and
-- every list has such calls. Assumes nothing.
use Prim.Native.Nat.{ℕ}
use mathlib.Core.Path.{refl, ap, ap₂, ◌∙◌}
use mathlib.Core.List.{List, [], ◌∷◌}
use Rattle.pool.specs.declared.Pool.{Pool}
use Rattle.pool.specs.Pool.{Added}
use Rattle.pool_lines.specs.History.{after}
use Rattle.seasons.specs.declared.Windows.{Windows}
use Rattle.season_lines.specs.Lines.{add_in_season}
use Rattle.lent_season.specs.Lent.{Calls, no_call, a_call, numbers_from, CallsGive}

module _ (ws : Windows) where
  pub calls-give : {p last : Pool} {lines : List (List ℕ)} {numbers : List ℕ} → Calls ws p lines numbers last → CallsGive ws p lines numbers last
  unfolding after numbers_from
  calls-give no_call = record { pool = refl; given = refl }
  calls-give (a_call {lines = lines} added rest) =
      let left = ap (λ (a : Added). a.pool) added in
      let more = calls-give rest in
      record {
        pool = more.pool ∙ ap (λ (q : Pool). after (add_in_season ws) q lines) left;
        given =
            ap₂ (λ (n : ℕ) (ns : List ℕ). n ∷ ns) (ap (λ (a : Added). a.number) added)
            (more.given ∙ ap (λ (q : Pool). numbers_from ws q lines) left);
      }

  pub calls-exist : (p : Pool) (lines : List (List ℕ)) → Calls ws p lines (numbers_from ws p lines) (after (add_in_season ws) p lines)
  unfolding after numbers_from
  calls-exist p [] = no_call
  calls-exist p (bytes ∷ lines) = a_call refl (calls-exist (add_in_season ws p bytes).pool lines)
