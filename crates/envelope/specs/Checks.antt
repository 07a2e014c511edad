-- The checks that reading an envelope meets, each number with its condition: document 01, "What stops a call" (1, 2) and "Envelope"; number 2
-- goes by the letter's tag (document 02, request 2). Number 0 stands for a call that nothing stops. proofs/Reading.antt shows that a call gets a
-- number exactly where its condition holds. Assumes nothing.
use Rattle.std.specs.Prelude.{ℕ, ◌+◌, ◌<◌, ◌≤◌, List, length}
use Rattle.envelope.specs.Layout.{tag_length, Begins}

-- Reading the bytes s: 1, no header stands there, however it is continued; 2, one does, and fewer bytes follow it than metadata, message and tag
-- have together; 0, one does, and enough bytes follow it.
pub data ReadStop (s : List ℕ) : ℕ → Type 0 where
  bad-header : ((letter group alen mlen : ℕ) (rest : List ℕ) → Begins s letter group alen mlen rest → ⊥) → ReadStop s 1
  too_few : (letter group alen mlen : ℕ) (rest : List ℕ) → Begins s letter group alen mlen rest
      → length rest < alen + mlen + tag_length letter → ReadStop s 2
  readable : (letter group alen mlen : ℕ) (rest : List ℕ) → Begins s letter group alen mlen rest
      → alen + mlen + tag_length letter ≤ length rest → ReadStop s 0
