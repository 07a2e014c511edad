-- The same calls from the same table give the same and leave the same records (`NobodyCanTell` of `specs/Isolation.antt`). Assumes nothing.
use mathlib.Core.Path.{◌≡◌, refl, sym, ap, ◌∙◌}
use mathlib.Core.List.{List, [], ◌∷◌}
use Prim.Native.Nat.{ℕ}
use Rattle.groups.specs.declared.Record.{Record}
use Rattle.office.specs.Table.{TableOutcome, TableOpening, wrap_group_at, unwrap_group_at, open_group_at, table_of}
use Rattle.isolation.specs.Calls.{GroupCall, Given, Run, none, opened, wrapped, unwrapped}
use Rattle.isolation.specs.Isolation.{NobodyCanTell}
use Rattle.isolation.proofs.Exist.{records}

-- a table is its records
back : (l : List Record) → records (table_of l) ≡ l
back [] = refl
back (r ∷ l) = ap (λ (u : List Record). r ∷ u) (back l)

same-table : (l m : List Record) → table_of l ≡ table_of m → l ≡ m
same-table l m e = sym (back l) ∙ ap records e ∙ back m

decided : {allowance : ℕ} {cs : List GroupCall} {from from' to to' : List Record} {gs gs' : List Given} → from ≡ from' → Run allowance cs from gs to
    → Run allowance cs from' gs' to' → (gs ≡ gs') × (to ≡ to')
decided e none none = (refl, e)
decided {allowance} e (opened {next = next} {group = group} {key = key} w rest) (opened {next = next'} w' rest') =
    let q = w ∙ ap (λ (l : List Record). open_group_at allowance (table_of l) group key) e ∙ sym w' in
    let z = decided (same-table next next' (ap (λ (o : TableOpening). o.table) q)) rest rest' in
    (λ j. record { answer = record { number = (q j).number; count = (q j).count }; out = []; tag = [] } ∷ z.0 j, z.1)
decided {allowance} e (wrapped {next = next} {group = group} {i = i} w rest) (wrapped {next = next'} w' rest') =
    let q = w ∙ ap (λ (l : List Record). wrap_group_at allowance (table_of l) group i) e ∙ sym w' in
    let z = decided (same-table next next' (ap (λ (o : TableOutcome). o.table) q)) rest rest' in
    (λ j. record { answer = record { number = (q j).number; count = (q j).count }; out = (q j).out; tag = (q j).tag } ∷ z.0 j, z.1)
decided {allowance} e (unwrapped {next = next} {group = group} {i = i} w rest) (unwrapped {next = next'} w' rest') =
    let q = w ∙ ap (λ (l : List Record). unwrap_group_at allowance (table_of l) group i) e ∙ sym w' in
    let z = decided (same-table next next' (ap (λ (o : TableOutcome). o.table) q)) rest rest' in
    (λ j. record { answer = record { number = (q j).number; count = (q j).count }; out = (q j).out; tag = (q j).tag } ∷ z.0 j, z.1)

pub nobody-can-tell : NobodyCanTell
nobody-can-tell allowance cs from to to' gs gs' a b = decided refl a b
