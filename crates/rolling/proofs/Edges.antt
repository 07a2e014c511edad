-- Document 01's rows of the rollings hold. Assumes nothing.
use mathlib.Core.Path.{refl}
use Rattle.word.specs.Word.{bit, of_bits}
use Rattle.state.specs.State.{lanes}
use Rattle.rolling.specs.Rolling.{roll_in, roll_out}
use Rattle.rolling.specs.Edges.{Hold, rolling_rows}

pub rolling-rows-hold : Hold rolling_rows
unfolding roll_in roll_out lanes of_bits bit
rolling-rows-hold = refl
