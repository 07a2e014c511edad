-- What the permutation gives: twelve words, whatever goes in; and one permutation computed by antt from the definitions. Assumes nothing.
use mathlib.Core.Path.{◌≡◌, refl}
use mathlib.Core.List.{List, [], ◌∷◌}
use Prim.Native.Nat.{ℕ}
use lib.ListN.{length}
use Rattle.word.specs.Word.{bit, of_bits}
use Rattle.word.proofs.Lists.{Words}
use Rattle.state.specs.State.{lanes, zeros}
use Rattle.state.proofs.Lanes.{lanes-length, lanes-words}
use Rattle.xoodoo.specs.Xoodoo.{round, rounds, perm}

pub perm-length : (l : List ℕ) → length (perm l) ≡ 12
unfolding perm rounds round
perm-length l = lanes-length _

pub perm-words : (l : List ℕ) → Words 32 (perm l)
unfolding perm rounds round
perm-words l = lanes-words _

-- the permutation of the zero state
perm-of-zeros : perm zeros
    ≡ 0x28c9cea3 ∷ 0xad204f60 ∷ 0x2ec3d0d6 ∷ 0xf050c7c5 ∷ 0x8dc1225 ∷ 0x61992304 ∷ 0x9e0d402d ∷ 0x42d59b9b ∷ 0x1e6114fc ∷ 0x186eb697 ∷ 0x35dbbc7f ∷ 0xa1f9104e ∷ []
unfolding perm rounds round lanes of_bits bit
perm-of-zeros = refl
