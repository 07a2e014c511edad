-- How the first of the checks 1 and 3 comes out, over plain values. Assumes nothing.
use mathlib.Core.Path.{◌≡◌, refl}
use mathlib.Core.Bool.{Bool, true, false}
use mathlib.Core.List.{List}
use Prim.Native.Nat.{ℕ, ◌<◌, ◌≤◌}
use native.Mathlib.Omega.{arith}
use lib.ListN.{length}
use Rattle.envelope.specs.Layout.{letter_s}
use Rattle.headers.specs.Fits.{fits_group}
use Rattle.headers.proofs.Exactly.{fits-of-group, fits-short}
use Rattle.office.specs.Table.{no_group_outcome, table_check}
use Rattle.office.proofs.Laws.{inside}

-- where neither of them is met, the header passes and the table has the group
neither : (passes none : Bool) → ◌≡◌ {A = ℕ} 0 (table_check passes none) → (passes ≡ true) × (none ≡ false)
neither true false e = (refl, refl)
neither true true e = absurd (omega arith)
neither false none e = absurd (omega arith)

-- of a call for group g of a table of k records, with this header and the lengths a of the metadata and m of the text, neither is met
module _ (header : List ℕ) (a m k g : ℕ) (goes_on : 0 ≡ table_check (fits_group letter_s g a m header) (no_group_outcome k g)) where
  has-group : no_group_outcome k g ≡ false
  has-group = (neither (fits_group letter_s g a m header) (no_group_outcome k g) goes_on).1

  -- the group's record is one of the table's
  pub goes-inside : g < k
  goes-inside = inside k g has-group

  -- the header has at most 17 bytes
  pub goes-short : length header ≤ 17
  goes-short =
      fits-short letter_s a m header
      (fits-of-group letter_s g a m header (neither (fits_group letter_s g a m header) (no_group_outcome k g) goes_on).0)
