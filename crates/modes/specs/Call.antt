-- What a call is handed beside the session, and the calls of a list at the two ends (document 01, "The two ends of demand 3"; the header:
-- document 02, request 7). Assumes nothing.
use Rattle.std.specs.Prelude.{List, [], ℕ}

-- the header that a call is handed: none, where it is for no envelope, or the bytes of the header of the envelope that it is for
pub data CallHeader : Type 0 where
  bare : CallHeader
  under : List ℕ → CallHeader

-- its bytes
abbrev pub header_bytes : CallHeader → List ℕ
header_bytes bare = []
header_bytes (under x) = x

-- what wrap or unwrap is handed: the header; the metadata; the text, which is the message M for wrap and the cryptogram for unwrap; the output
-- buffer; and the tag buffer for wrap, the tag that arrived for unwrap
pub record CallInput : Type 0 where
  pub header : CallHeader
  pub metadata : List ℕ
  pub text : List ℕ
  pub out : List ℕ
  pub tag : List ℕ

-- the same under another header, or none
abbrev pub with_header : CallHeader → CallInput → CallInput
with_header h i = record { header = h; metadata = i.metadata; text = i.text; out = i.out; tag = i.tag }

-- the two ends
pub data Side : Type 0 where
  office group : Side

-- the end across from one
abbrev pub other : Side → Side
other office = group
other group = office

-- a call at one end
pub data Call : Type 0 where
  wrap unwrap : Side → CallInput → Call

-- the end at which a call is made
abbrev pub side_of : Call → Side
side_of (wrap x i) = x
side_of (unwrap x i) = x
