-- Sides of tables.
use Rattle.std.specs.Prelude.{ℕ, ◌≤◌}

-- The exponent k of a side: a table has 2 ^ k rows of 2 ^ k places, 4 ^ k places in all.
abbrev pub SideExponent : (k : ℕ) → Type 0
SideExponent k = (1 ≤ k) × (k ≤ 6)

-- The places of the largest table.
abbrev pub places_most : ℕ
places_most = 4096
