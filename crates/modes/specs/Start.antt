-- Start of SANSE, of the opening o that it gives for a key (document 01, "What stops a call", number 4, and "SANSE"). Assumes nothing.
use Rattle.std.specs.Prelude.{false, List, ◌↔◌, ◌⊎◌, ◌≡◌, ℕ, ◌<◌, ◌≤◌, length, replicate}
use Rattle.modes.specs.Paper.{sanse_opens}
use Rattle.modes.specs.Rules.{Opening}
use Rattle.modes.specs.OneCall.{session_of}

-- accepted: it counts 1 permutation, and its session is that of the history with no string
pub record StartAccepted (key : List ℕ) (o : Opening) : Type 0 where
  pub number : o.number ≡ 0
  pub count : o.count ≡ 1
  pub session : o.session ≡ session_of key sanse_opens false

-- refused: by 4, with count 0 and a closed session, zero in all its numbers
abbrev pub StartRefused : Opening → Type 0
StartRefused o =
    o
    ≡ record {
      number = 4;
      count = 0;
      session = record {
        history = record { acc = replicate 12 0; mask = replicate 12 0; index = 0 };
        toggle = false;
        opened = false;
      };
    }

-- a start is refused by 4 exactly when the key's length is outside its limits, and is accepted otherwise
pub record StartExactly (key : List ℕ) (o : Opening) : Type 0 where
  pub accepted : (o.number ≡ 0) ↔ ((16 ≤ length key) × (length key ≤ 47))
  pub four : (o.number ≡ 4) ↔ ((length key < 16) ⊎ (47 < length key))
  pub opens : 16 ≤ length key → length key ≤ 47 → StartAccepted key o
  pub refused : (length key < 16) ⊎ (47 < length key) → StartRefused o
