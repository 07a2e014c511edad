-- Every list of byte strings, added to the empty pool as issue lines one after the other: the claims of specs/History.antt. Assumes nothing.
use Prim.Native.Nat.{ℕ}
use mathlib.Core.Path.{◌≡◌}
use mathlib.Core.Logic.{◌↔◌, ◌⊎◌, inl, inr}
use mathlib.Core.List.{List, [], ◌∷◌}
use native.Mathlib.Omega.{arith}
use Rattle.issue_line.specs.Layout.{IsLine}
use Rattle.issue_line.proofs.Reading.{line-sound}
use Rattle.runs.specs.Runs.{a_run}
use Rattle.runs.specs.Meaning.{In, Holds, here, there}
use Rattle.runs.proofs.Fewest.{holds-some}
use Rattle.pool.specs.declared.Pool.{Pool}
use Rattle.pool.specs.Pool.{empty_pool}
use Rattle.pool.specs.Good.{InPool, HoldsWith, added}
use Rattle.pool.proofs.Adding.{empty-good}
use Rattle.pool_lines.specs.Lines.{add_line, LineStop, is_a_line}
use Rattle.pool_lines.specs.History.{after, pool_after, HeldBy, ListPooled, Alike, SamePool, FirstLine}
use Rattle.pool_lines.proofs.Steps.{accepted-found}
use Rattle.pool_lines.proofs.Adding.{line-takes, line-number, line-stop-as}
use Rattle.pool_lines.proofs.Lists.{nothing, list-pooled, pools-same, lists-same}

-- The theorem over every list.
pub lines-pooled : (lines : List (List ℕ)) → ListPooled add_line LineStop lines
lines-pooled lines = list-pooled add_line line-takes LineStop line-number line-stop-as lines

-- Good pools that hold the same numbers, and two lists whose accepted lines held the same, whatever more is added to both.
pub same-pool : (p q : Pool) → Alike p q → (more : List (List ℕ)) → SamePool add_line (after add_line p more) (after add_line q more)
same-pool p q alike more = pools-same add_line line-takes LineStop line-number line-stop-as p q alike more

pub same_lists : (lines others : List (List ℕ)) → ((size x : ℕ) → HeldBy add_line lines size x ↔ HeldBy add_line others size x)
    → (more : List (List ℕ)) → SamePool add_line (after add_line (pool_after add_line lines) more) (after add_line (pool_after add_line others) more)
same_lists lines others same more = lists-same add_line line-takes LineStop line-number line-stop-as lines others same more

-- The first line: nothing is pooled, and its run is one of 256.
only-run : (size first last : ℕ) → HoldsWith (InPool empty_pool) (a_run size first last) (a_run size first last ∷ [])
only-run size first last s x = ((λ h. one h), (λ k. back k))
  where
    one : Holds s x (a_run size first last ∷ []) → InPool empty_pool s x ⊎ In s x (a_run size first last)
    one (here i) = inr i
    one (there h) = let no : ⊥ = omega (arith, holds-some h) in absurd no

    back : InPool empty_pool s x ⊎ In s x (a_run size first last) → Holds s x (a_run size first last ∷ [])
    back (inl h) = absurd (nothing s x h)
    back (inr i) = here i

pub first-line : (bytes : List ℕ) → FirstLine bytes
first-line bytes = (is-line, accepted-one)
  where
    is-line : (add_line empty_pool bytes).number ≡ 0
        → (group : ℕ) × (size : ℕ) × (first : ℕ) × (last : ℕ) × (day : ℕ) × IsLine bytes group size first last day
    is-line ok = (_, _, _, _, _, line-sound bytes (accepted-found empty_pool bytes ok))

    accepted-one : (group : ℕ) × (size : ℕ) × (first : ℕ) × (last : ℕ) × (day : ℕ) × IsLine bytes group size first last day
        → (add_line empty_pool bytes).number ≡ 0
    accepted-one (group, size, first, last, day, is) =
        (line-number empty_pool bytes empty-good 0).1
        (is_a_line group size first last day 0 is
        (added (λ x i h. nothing size x h) (a_run size first last ∷ []) (only-run size first last) (omega arith)))
