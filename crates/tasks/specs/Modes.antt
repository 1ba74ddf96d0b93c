-- Modes by number: 0 everyday, 1 critical.
use Rattle.std.specs.Prelude.{ℕ, List, [], ◌∷◌, slice_index}
use Rattle.tasks.specs.declared.mode.Mode.{Mode}
use Rattle.tasks.specs.declared.mode.Mode.TheVariants.{Everyday, Critical}
use Rattle.tasks.specs.declared.mode.PerMode.{PerMode}

-- the number of a mode
abbrev pub number : Mode → ℕ
number Everyday = 0
number Critical = 1

-- what is held for each mode, in the order of the modes
abbrev pub by_mode : PerMode → List ℕ
by_mode p = p.everyday ∷ p.critical ∷ []

-- what is held for a mode, and 0 where there is no such mode
abbrev pub in_mode : PerMode → ℕ → ℕ
in_mode p mode = slice_index (by_mode p) mode
