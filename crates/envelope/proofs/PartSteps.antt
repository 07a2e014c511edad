-- What bounds the sums of the code that finds the parts: h is the header that was read. Assumes nothing.
use Rattle.std.specs.Prelude.{Some}
use Prim.Native.Nat.{ℕ, ◌≤◌}
use mathlib.Core.Path.{◌≡◌, ap}
use mathlib.Core.List.{List}
use native.Mathlib.Omega.{arith}
use lib.ListN.{length, drop, length-append}
use Rattle.envelope.specs.Layout.{max_length, tag_length, header}
use Rattle.envelope.specs.Read.{read_header}
use Rattle.envelope.specs.declared.Header.{Header}
use Rattle.envelope.proofs.Layouts.{tag-bound}
use Rattle.envelope.proofs.Headers.{header-sound}

-- a header that was found is small, and ends within the bytes
pub record Small (s : List ℕ) (h : Header) : Type 0 where
  pub metadata_small : h.alen ≤ max_length
  pub message_small : h.mlen ≤ max_length
  pub tag_small : tag_length h.letter ≤ 32
  pub ends_inside : h.place ≤ length s

pub small : (s : List ℕ) (h : Header) → read_header s ≡ Some h → Small s h
small s h e =
    let st = header-sound s h e in
    omega (
      arith,
      tag-bound h.letter,
      st.0.in_range.metadata_fits,
      st.0.in_range.message_fits,
      ap length st.0.bytes,
      length-append (header h.letter h.group h.alen h.mlen) (drop h.place s),
      st.1,
    )
