-- A start of SAE is a start of SANE, and 001's Initialization. Assumes nothing.
use mathlib.Core.List.{List}
use mathlib.Core.Path.{◌≡◌, refl, sym, subst}
use Prim.Native.Nat.{ℕ}
use Rattle.modes.specs.Mode.{sane_parameters}
use Rattle.modes.specs.PaperSane.{sane_opens, sane_opening_tag}
use Rattle.modes.specs.Rules.{NonceOpening, nonce_start_at}
use Rattle.modes.specs.NonceStart.{NonceExactly}
use Rattle.modes.proofs.NonceStart.{nonce-exactly, nonce-decided}
use Rattle.sae_mode.specs.Sae.{sae_parameters}
use Rattle.sae_mode.specs.PaperSae.{sae_opens, sae_opening_tag}
use Rattle.sae_mode.specs.Promises.{SaeStart}

-- the two papers open with one history, and give one tag
pub opens-same : (key nonce : List ℕ) → (sae_opens nonce ≡ sane_opens nonce) × (sae_opening_tag key nonce ≡ sane_opening_tag key nonce)
opens-same key nonce = (refl, refl)

-- the frame bits play no part in a start
pub as-sane : (key nonce tag : List ℕ) → nonce_start_at sae_parameters key nonce tag ≡ nonce_start_at sane_parameters key nonce tag
unfolding nonce_start_at
as-sane key nonce tag = refl

module _ (key nonce tag : List ℕ) where
  of-exactly : (o : NonceOpening) → NonceExactly key nonce tag o → SaeStart key nonce tag o
  of-exactly o x = record { exactly = x; tag_001 = λ h. (x.opens h).tag; session_001 = λ h. (x.opens h).session }

  pub sae-start : SaeStart key nonce tag (nonce_start_at sae_parameters key nonce tag)
  sae-start = subst (SaeStart key nonce tag) (sym (as-sane key nonce tag)) (of-exactly _ (nonce-exactly key nonce tag))

  -- the claim leaves nothing open
  pub start-decided : (o : NonceOpening) → SaeStart key nonce tag o → o ≡ nonce_start_at sae_parameters key nonce tag
  start-decided o c = subst (λ (z : NonceOpening). o ≡ z) (sym (as-sane key nonce tag)) (nonce-decided key nonce tag o c.exactly)
