-- SAE as a session mode (document 02, request 9; 001, section 4.1): the steps of SANE with frame bits that carry no e; and what the calls of its
-- sessions are handed and give. The start is that of every mode with a nonce (`nonce_start_at`), the unwrap that of every mode (`unwrap_at`). Assumes
-- nothing.
use Rattle.std.specs.Prelude.{true, false, List, [], ◌∷◌, ℕ}
use Rattle.envelope.specs.Layout.{letter_f}
use Rattle.modes.specs.Call.{bare, CallInput}
use Rattle.modes.specs.Mode.{HistoryRep, Parameters, Mode, stream, sane_count}
use Rattle.modes.specs.Rules.{SessionState, Outcome, refused, unwrap_at}

-- frame bits: A, 0; cryptogram, 1; no tag enters the history. Tags have 16 bytes, keystream is taken from byte 16 on, the counts are SANE's, and e
-- stays as it is
abbrev pub sae_parameters : Parameters
sae_parameters =
    record {
      letter = letter_f;
      frame_a = λ e. false ∷ [];
      frame_m = λ e. true ∷ [];
      frame_t = λ e. [];
      tag_length = 16;
      offset = 16;
      count = sane_count;
      next_toggle = λ e. e;
    }

-- Farfalle-SAE over Xoofff
abbrev pub sae : Mode
sae = stream sae_parameters

-- what a call is handed beside the session: the metadata; the text, which is the cryptogram for unwrap; the output buffer; and the tag. No header
-- (request 7 has no bearing on these letters)
pub record Handed : Type 0 where
  pub metadata : List ℕ
  pub text : List ℕ
  pub out : List ℕ
  pub tag : List ℕ

-- the same as a call without an envelope, in the words of the modes
abbrev pub input_of : Handed → CallInput
input_of i = record { header = bare; metadata = i.metadata; text = i.text; out = i.out; tag = i.tag }

module _ {S : Type 0} where
  -- a wrap: 18 before every other check, count 0, and nothing is altered
  abbrev pub sae_wrap_at : SessionState S → Handed → Outcome S
  sae_wrap_at s i = refused 18 s (input_of i)

  -- an unwrap: checks 5 to 9 and 11, as in every mode
  abbrev pub sae_unwrap_at : HistoryRep S → SessionState S → Handed → Outcome S
  sae_unwrap_at d s i = unwrap_at sae d s (input_of i)
