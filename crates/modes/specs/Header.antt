-- Headers of calls (document 02, request 7; the layout: document 01, "Envelope"): what it is that a header is the call's own, as a plain
-- statement, and the rules' test of it, which reads the header. Assumes nothing.
use Rattle.std.specs.Prelude.{Bool, true, ◌≡◌, ℕ, length}
use Rattle.envelope.specs.Layout.{InRange, header}
use Rattle.headers.specs.Fits.{fits, fits_group}
use Rattle.modes.specs.Call.{CallHeader, bare, under, CallInput}

-- the call's header is the layout's, under a mode's letter, of this group and with the call's own lengths, all within their ranges
pub record HeaderOf (letter group : ℕ) (i : CallInput) : Type 0 where
  pub in_range : InRange letter group (length i.metadata) (length i.text)
  pub bytes : i.header ≡ under (header letter group (length i.metadata) (length i.text))

-- the call is handed no header, or that of any group
pub data FollowsLayout (letter : ℕ) (i : CallInput) : Type 0 where
  without : i.header ≡ bare → FollowsLayout letter i
  of-group : (group : ℕ) → HeaderOf letter group i → FollowsLayout letter i

-- the call is handed no header, or that of this group
pub data ForGroup (letter group : ℕ) (i : CallInput) : Type 0 where
  without : i.header ≡ bare → ForGroup letter group i
  its_own : HeaderOf letter group i → ForGroup letter group i

-- the tests of both: by the header, and the lengths a of the metadata and n of the text
abbrev pub header_fits : (letter : ℕ) → CallHeader → (a n : ℕ) → Bool
header_fits letter bare a n = true
header_fits letter (under x) a n = fits letter a n x

abbrev pub group_fits : (letter group : ℕ) → CallHeader → (a n : ℕ) → Bool
group_fits letter group bare a n = true
group_fits letter group (under x) a n = fits_group letter group a n x
