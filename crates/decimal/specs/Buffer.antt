-- A buffer after a run of bytes was written to it, as the contracts of writers say it. Assumes nothing.
use Rattle.std.specs.Prelude.{ℕ, ◌+◌, List, ◌++◌, length, take, drop}

-- the buffer with `bytes` from the place `at` on; every other byte is kept
unfoldable pub written_at : List ℕ → ℕ → List ℕ → List ℕ
written_at buffer at bytes = take at buffer ++ (bytes ++ drop (at + length bytes) buffer)
