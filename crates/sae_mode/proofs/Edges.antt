-- SAE's rows of edges hold, and so do the bytes after its strings, at every length. Assumes nothing.
use mathlib.Core.List.{List, [], ◌∷◌, map}
use mathlib.Core.Path.{◌≡◌, refl, ap}
use Prim.Native.Nat.{ℕ}
use native.Mathlib.Omega.{arith}
use Rattle.rolling.specs.Edges.{Row, Hold}
use Rattle.deck.specs.Closing.{closing_byte}
use Rattle.envelope.specs.Layout.{tag_length}
use Rattle.modes.specs.Mode.{sane_count}
use Rattle.modes.specs.Rules.{nonce_start_at}
use Rattle.modes.proofs.Edges.{closing_at}
use Rattle.sae_mode.specs.Edges.{sae_rows, SaeBytesAfter}

pub sae-rows-hold : Hold sae_rows
unfolding sane_count closing_byte nonce_start_at tag_length
sae-rows-hold = refl

-- the rows are there
pub sae-rows-say : map (λ (r : Row). r.says) sae_rows
    ≡ (3 ∷ []) ∷ (5 ∷ 5 ∷ 6 ∷ []) ∷ (8 ∷ 1029 ∷ []) ∷ (0 ∷ 0 ∷ []) ∷ (1 ∷ 1 ∷ []) ∷ (0 ∷ []) ∷ (2 ∷ 3 ∷ 1 ∷ []) ∷ (16 ∷ 16 ∷ [])
    ∷ (83 ∷ 1 ∷ 0 ∷ []) ∷ (78 ∷ 1 ∷ 0 ∷ []) ∷ (70 ∷ 0 ∷ 1 ∷ []) ∷ (32 ∷ 16 ∷ 16 ∷ []) ∷ (4 ∷ 4 ∷ 5 ∷ []) ∷ (7 ∷ 0 ∷ 7 ∷ []) ∷ []
sae-rows-say = refl

pub sae-bytes-after : (x : List ℕ) → SaeBytesAfter x
unfolding closing_byte
sae-bytes-after x =
    record { after_a = closing_at x _ (omega arith); after_c = closing_at x _ (omega arith); after_n = ap (λ (n : ℕ). n ∷ []) (closing_at x [] (omega arith)) }
