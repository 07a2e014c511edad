-- The first permitted day: document 02, request 8. Assumes nothing.
use Rattle.std.specs.Prelude.{ℕ, ◌<◌, ◌≤◌, ◌≡◌, true, false, ◌↔◌, Option, Some, None, Result, Ok, Err}
use Rattle.refusals.specs.declared.Refusal.{Refusal}
use Rattle.refusals.specs.Numbers.{number_of}
use Rattle.days.specs.Days.{Exists}
use Rattle.windows.specs.declared.Window.{Window}
use Rattle.windows.specs.Windows.{Open}
use Rattle.seasons.specs.declared.First.{First}
use Rattle.seasons.specs.Seasons.{Meets16}

-- d is the first permitted day from `day` on: it exists, is not before it, the window is open on it, and there is no earlier such day
pub record IsFirst (w : Window) (day d : ℕ) : Type 0 where
  pub exists : Exists d
  pub is_open : Open w d
  pub not_before : day ≤ d
  pub no_earlier : (other : ℕ) → Exists other → Open w other → day ≤ other → other < d → ⊥

-- no day from `day` on, up to the last of the calendar, is permitted
abbrev pub NoneFrom : Window → (day : ℕ) → Type 0
NoneFrom w day = (d : ℕ) → Exists d → Open w d → day ≤ d → ⊥

-- the three answers: a number that refuses, a day, and none
abbrev pub refused_by : ℕ → First
refused_by number = record { number = number; found = false; day = 0 }

abbrev pub found_day : ℕ → First
found_day d = record { number = 0; found = true; day = d }

abbrev pub no_day : First
no_day = record { number = 0; found = false; day = 0 }

-- which of them, by what the question gave
abbrev pub first_of : Result (Option ℕ) Refusal → First
first_of (Ok (Some d)) = found_day d
first_of (Ok None) = no_day
first_of (Err e) = refused_by (number_of e)

-- The answer to the question for the first permitted day from `day` on.
pub data FirstDay (w : Window) (day : ℕ) : First → Type 0 where
  refused : Meets16 w day → FirstDay w day (refused_by 16)
  found : (d : ℕ) → (Meets16 w day → ⊥) → IsFirst w day d → FirstDay w day (found_day d)
  none : (Meets16 w day → ⊥) → NoneFrom w day → FirstDay w day no_day

-- What is claimed of such an answer: each is given exactly where it is right, so there is no other.
pub record FirstExactly (w : Window) (day : ℕ) (r : First) : Type 0 where
  pub sixteen : (r ≡ refused_by 16) ↔ Meets16 w day
  pub a_day : (d : ℕ) → (r ≡ found_day d) ↔ ((Meets16 w day → ⊥) × IsFirst w day d)
  pub no_such_day : (r ≡ no_day) ↔ ((Meets16 w day → ⊥) × NoneFrom w day)
  pub only : (s : First) → FirstDay w day s → r ≡ s
