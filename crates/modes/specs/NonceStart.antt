-- Start of SANE, of the opening o that it gives for a key, a nonce and a tag buffer (document 02, request 2: 4, then 6 for the nonce, then 7;
-- document 01's rules for refusals). Assumes nothing.
use Rattle.std.specs.Prelude.{false, List, ◌↔◌, ◌≢◌, ◌⊎◌, ◌≡◌, ℕ, ◌+◌, ◌/◌, ◌<◌, ◌≤◌, length, replicate}
use Rattle.modes.specs.PaperSane.{sane_opens, sane_opening_tag}
use Rattle.modes.specs.Rules.{NonceOpening}
use Rattle.modes.specs.OneCall.{session_of}

-- accepted: it counts b(N) + 3 permutations, gives the tag of Algorithm 2's initialization, and its session is that of the history whose one
-- string is the nonce; its index is b(N) + 1
pub record NonceAccepted (key nonce : List ℕ) (o : NonceOpening) : Type 0 where
  pub number : o.number ≡ 0
  pub count : o.count ≡ (length nonce / 48 + 1) + 3
  pub tag : o.tag ≡ sane_opening_tag key nonce
  pub session : o.session ≡ session_of key (sane_opens nonce) false
  pub index : o.session.history.index ≡ (length nonce / 48 + 1) + 1

-- refused by the number n: count 0, a closed session, zero in all its numbers, and the tag buffer as it was
abbrev pub nonce_refused : (tag : List ℕ) (n : ℕ) → NonceOpening
nonce_refused tag n =
    record {
      number = n;
      count = 0;
      session = record {
        history = record { acc = replicate 12 0; mask = replicate 12 0; index = 0 };
        toggle = false;
        opened = false;
      };
      tag = tag;
    }

-- the conditions as plain statements
module _ (key nonce tag : List ℕ) where
  -- 4: the key's length is outside its limits
  abbrev pub Nonce4 : Type 0
  Nonce4 = (length key < 16) ⊎ (47 < length key)

  -- 6: the nonce is too long
  abbrev pub Nonce6 : Type 0
  Nonce6 = 16384 < length nonce

  -- 7: the tag buffer is not 16 bytes
  abbrev pub Nonce7 : Type 0
  Nonce7 = length tag ≢ 16

  -- none of them is met; the nonce may be empty
  pub record NonceFits : Type 0 where
    pub key-long : 16 ≤ length key
    pub key-short : length key ≤ 47
    pub nonce-short : length nonce ≤ 16384
    pub tag_fits : length tag ≡ 16

  -- a start is refused by each number if and only if its condition holds and no earlier one does, and is accepted otherwise
  pub record NonceExactly (o : NonceOpening) : Type 0 where
    pub accepted : (o.number ≡ 0) ↔ NonceFits
    pub four : (o.number ≡ 4) ↔ Nonce4
    pub six : (o.number ≡ 6) ↔ ((Nonce4 → ⊥) × Nonce6)
    pub seven : (o.number ≡ 7) ↔ ((Nonce4 → ⊥) × (Nonce6 → ⊥) × Nonce7)
    pub opens : o.number ≡ 0 → NonceAccepted key nonce o
    pub refused : o.number ≢ 0 → o ≡ nonce_refused tag o.number
