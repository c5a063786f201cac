-- Which numbers an entry can stand for.
use Rattle.std.specs.Prelude.{Bool, true, false, cond, ◌&&◌, T, ℤ, pos, negsuc, ◌≤ℤ◌, Some, None, Option, int_le}
use Rattle.std.specs.Int.Signed.{le_z_yes}

-- From −32,767 to 32,767.
abbrev pub InRange : ℤ → Type 0
InRange z = (negsuc 32766 ≤ℤ z) × (z ≤ℤ pos 32767)

-- A value is made of a number exactly if the number is in range, and P holds of the value.
abbrev pub Made : {X : Type 0} → ℤ → (X → Type 0) → Option X → Type 0
Made z P (Some x) = InRange z × P x
Made z P None = InRange z → ⊥

-- A number in range itself, and 0 in place of any other.
abbrev pub kept : ℤ → ℤ
kept z = cond (int_le (negsuc 32766) z && int_le z (pos 32767)) z (pos 0)

in_range_or_zero : (z : ℤ) (low high : Bool) → (T low → negsuc 32766 ≤ℤ z) → (T high → z ≤ℤ pos 32767) → InRange (cond (low && high) z (pos 0))
in_range_or_zero z true true l h = (l tt, h tt)
in_range_or_zero z true false l h = (le_z_yes tt, le_z_yes tt)
in_range_or_zero z false high l h = (le_z_yes tt, le_z_yes tt)

pub kept_within : (z : ℤ) → InRange (kept z)
kept_within z = in_range_or_zero z (int_le (negsuc 32766) z) (int_le z (pos 32767)) le_z_yes le_z_yes
