-- The example of a header, `S,7,20,48,` (document 01, "Envelope"), with each letter (document 02, requests 2 and 9). Assumes nothing.
use Rattle.std.specs.Prelude.{Ok, Err}
use Rattle.refusals.specs.declared.Refusal.TheVariants.{TooFewBytes}
use Prim.Native.Nat.{ℕ, ◌+◌, ◌<◌, ◌≤◌}
use mathlib.Core.Path.{◌≡◌, refl, sym, ap, ◌∙◌}
use mathlib.Core.List.{List, [], ◌∷◌, ◌++◌}
use native.Mathlib.Omega.{arith}
use lib.ListN.{length}
use Rattle.decimal.specs.Decimal.{decimal, decimal_within}
use Rattle.envelope.specs.Layout.{letter_s, letter_n, letter_f, tag_length, field, header, Begins}
use Rattle.envelope.specs.Read.{an_envelope, answer_of, read_envelope}
use Rattle.envelope.proofs.Layouts.{tag-of-S, tag-of-N, tag-of-F}
use Rattle.envelope.proofs.Reading.{parts-few, parts_whole}

-- a letter and `,7,20,48,`
unfoldable pub example : ℕ → List ℕ
example letter = letter ∷ 44 ∷ 55 ∷ 44 ∷ 50 ∷ 48 ∷ 44 ∷ 52 ∷ 56 ∷ 44 ∷ []

-- it needs n bytes after it: with fewer, number 2; with as many, or more, it is read, and ends n bytes behind its header of 10
abbrev pub ExampleNeeds : (letter n : ℕ) → Type 0
ExampleNeeds letter n =
    (body : List ℕ) → (length body < n → read_envelope (example letter ++ body) ≡ Err TooFewBytes)
    × (n ≤ length body → read_envelope (example letter ++ body) ≡ Ok (an_envelope letter 7 (10 + n)))

example-header : (letter : ℕ) → example letter ≡ header letter 7 20 48
unfolding example header field decimal decimal_within
example-header letter = refl

-- so many bytes as metadata, message and tag have, whose length t is not 0
example-needs : (letter t : ℕ) → tag_length letter ≡ t → (t ≡ 0 → ⊥) → ExampleNeeds letter (20 + 48 + t)
unfolding read_envelope example
example-needs letter t is known body =
    let begins : Begins (example letter ++ body) letter 7 20 48 body =
    record {
      in_range = record { known = λ z. known (sym is ∙ z); group_in_range = omega arith; metadata_fits = omega arith; message_fits = omega arith };
      bytes = ap (λ (l : List ℕ). l ++ body) (example-header letter);
    } in (
      (λ less. ap answer_of (parts-few (example letter ++ body) letter 7 20 48 body begins (omega arith))),
      (λ enough.
          ap answer_of (parts_whole (example letter ++ body) letter 7 20 48 body begins (omega arith))
          ∙ ap (λ (l : List ℕ). Ok (an_envelope letter 7 (length l + (20 + 48 + tag_length letter)))) (sym (example-header letter))
          ∙ ap (λ (k : ℕ). Ok (an_envelope letter 7 (10 + (20 + 48 + k)))) is),
    )

-- `S,7,20,48,` needs 100 bytes after it, `N,7,20,48,` and `F,7,20,48,` 84.
pub example-S : ExampleNeeds letter_s 100
example-S = example-needs letter_s 32 tag-of-S (λ z. omega arith)

pub example-N : ExampleNeeds letter_n 84
example-N = example-needs letter_n 16 tag-of-N (λ z. omega arith)

pub example-F : ExampleNeeds letter_f 84
example-F = example-needs letter_f 16 tag-of-F (λ z. omega arith)
