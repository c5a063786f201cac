-- Tables that are not shown.
use Rattle.std.specs.Prelude.{ℕ, ◌^◌, ◌<◌, ◌≤◌, List, length, ℤ}
use Rattle.showing.specs.declared.fault.ShowFault.{ShowFault}
use Rattle.showing.specs.declared.fault.ShowFault.TheVariants.{Short, NoMemory}

-- Why a table of 2 ^ k rows is not shown: its numbers are counted first.
abbrev pub NotShown : ℕ → List ℤ → ShowFault → Type 0
NotShown k numbers Short = length numbers < 4 ^ k
NotShown k numbers NoMemory = 4 ^ k ≤ length numbers
