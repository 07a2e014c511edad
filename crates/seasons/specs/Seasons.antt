-- The window of a size, and which number a day gets by it: document 02, request 8, 16 and 17. Assumes nothing.
use Rattle.std.specs.Prelude.{ℕ, ◌-◌, ◌≡◌, Bool, cond, ◌&&◌, ◌↔◌, ◌⊎◌, get_or}
use Rattle.days.specs.Days.{Exists, is_day}
use Rattle.windows.specs.declared.Window.{Window}
use Rattle.windows.specs.Windows.{Open, NoSuchDate}
use Rattle.windows.specs.Computed.{a_window, open_on, good_window}
use Rattle.seasons.specs.declared.Windows.{Windows}

-- the letter `A`, which is the first size
abbrev pub letter_a : ℕ
letter_a = 65

-- the window of a size, A to H
abbrev pub window_of : Windows → (size : ℕ) → Window
window_of ws size = get_or ws.sizes (size - letter_a) (a_window 0 0 0 0)

-- the condition of 16: the day does not exist, or a date of the window is one that no leap year has
abbrev pub Meets16 : Window → (day : ℕ) → Type 0
Meets16 w day = (Exists day → ⊥) ⊎ NoSuchDate w

-- The number that a day gets: 16; else 17, where the window is not open on it; else 0.
pub data SeasonStop (w : Window) (day : ℕ) : ℕ → Type 0 where
  no_such : Meets16 w day → SeasonStop w day 16
  outside : (Meets16 w day → ⊥) → (Open w day → ⊥) → SeasonStop w day 17
  inside : (Meets16 w day → ⊥) → Open w day → SeasonStop w day 0

-- whether 16 is not met, and the number, computed
unfoldable pub passes16 : Window → (day : ℕ) → Bool
passes16 w day = is_day day && good_window w

unfoldable pub season_number : Window → (day : ℕ) → ℕ
season_number w day = cond (passes16 w day) (cond (open_on w day) 0 17) 16

-- What is claimed of the number: each is given exactly where its condition holds.
abbrev pub SeasonExactly : Window → (day : ℕ) → Type 0
SeasonExactly w day = (n : ℕ) → (season_number w day ≡ n) ↔ SeasonStop w day n
