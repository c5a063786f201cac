-- Surface entries and their rows, which are plain numbers.
use Rattle.std.specs.Prelude.{ℤ}
use Rattle.entries.specs.declared.surface.Surface.{Surface}
use Rattle.entries.specs.Range.{kept, kept_within}

-- The entry that a row stands for: that of its number, or that of 0 where the number is out of range.
abbrev pub surface_entry : ℤ → Surface
surface_entry row = record { number = kept row; within = kept_within row }
