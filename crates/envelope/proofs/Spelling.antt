-- An envelope that is read has one spelling only, and the place is where it ends. Assumes nothing.
use Rattle.std.specs.Prelude.{Ok}
use Prim.Native.Nat.{ℕ}
use mathlib.Core.Path.{◌≡◌, sym, ap, ◌∙◌}
use mathlib.Core.List.{List, ◌++◌}
use lib.ListN.{length, take, drop}
use lib.Seq.{take_at}
use Rattle.envelope.specs.Layout.{header, envelope}
use Rattle.envelope.specs.Read.{an_envelope, read_envelope, header_part, metadata_part, cryptogram_part, tag_part}
use Rattle.envelope.specs.declared.Envelope.{Envelope}
use Rattle.envelope.proofs.Reading.{envelope-complete, envelope-sound}

-- the envelope of what reading the bytes s gives, e among it
abbrev pub spelled : List ℕ → Envelope → List ℕ
spelled s e = envelope e.letter e.group (metadata_part s) (cryptogram_part s) (tag_part s)

module _ (s : List ℕ) (e : Envelope) (read : read_envelope s ≡ Ok e) where
  -- the place is where the envelope ends, and the bytes up to it are the envelope
  pub place_is : e.place ≡ length (spelled s e)
  place_is =
      let c = (envelope-complete s _ _ _ _ _ _ (envelope-sound s e read)).0 in
      let is : an_envelope e.letter e.group (length (spelled s e)) ≡ e = cc in
      ap (λ (r : Envelope). r.place) (sym is)

  pub front-is : take e.place s ≡ spelled s e
  front-is = ap (take e.place) (envelope-sound s e read).bytes ∙ take_at (spelled s e) (drop e.place s) e.place (sym place_is)

  -- The header's bytes are the layout's, and with the three parts behind them they are the envelope's bytes.
  pub header-part-is : header_part s ≡ header e.letter e.group (length (metadata_part s)) (length (cryptogram_part s))
  header-part-is = (envelope-complete s _ _ _ _ _ _ (envelope-sound s e read)).4

  pub parts_join : header_part s ++ (metadata_part s ++ (cryptogram_part s ++ tag_part s)) ≡ take e.place s
  unfolding envelope
  parts_join = ap (λ (l : List ℕ). l ++ (metadata_part s ++ (cryptogram_part s ++ tag_part s))) header-part-is ∙ sym front-is

-- An envelope has one spelling only: bytes that read as the same letter, group and parts are the same up to the place.
pub one-spelling : (s t : List ℕ) (e f : Envelope) → read_envelope s ≡ Ok e → read_envelope t ≡ Ok f → e.letter ≡ f.letter → e.group ≡ f.group
    → metadata_part s ≡ metadata_part t → cryptogram_part s ≡ cryptogram_part t → tag_part s ≡ tag_part t
    → take e.place s ≡ take f.place t
one-spelling s t e f es et l g a c x =
    let same : spelled s e ≡ spelled t f = simp (l, g, a, c, x) in
    front-is s e es ∙ same ∙ sym (front-is t f et)
