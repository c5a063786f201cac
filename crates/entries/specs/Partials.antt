-- Partial entries and their rows.
use Rattle.std.specs.Prelude.{◌≡◌, ℕ, ◌≤◌, Bool, true, false, cond, ◌&&◌, T, ltb, ℤ, pos, neg_ℤ, nat_le, nat_lt, refl}
use Rattle.std.proofs.Common.{leb→le, ap, zero-le}
use Rattle.entries.specs.declared.partial.Partial.{Partial}
use Rattle.entries.specs.declared.partial.PartialRow.{PartialRow}

-- The number of an entry: its level, negated if it is inverted.
abbrev pub partial_number : Partial → ℤ
partial_number x = cond x.inverted (neg_ℤ (pos x.level)) (pos x.level)

-- A level up to 32,767 itself, and 0 in place of a higher one.
abbrev pub kept_level : ℕ → ℕ
kept_level level = cond (nat_le level 32767) level 0

bounded_or_zero : (level : ℕ) (low : Bool) → (T low → level ≤ 32767) → cond low level 0 ≤ 32767
bounded_or_zero level true h = h tt
bounded_or_zero level false h = zero-le

pub kept_bound : (level : ℕ) → kept_level level ≤ 32767
kept_bound level = bounded_or_zero level (nat_le level 32767) (leb→le level 32767)

-- A polarity itself, and upright in place of inverted at level 0.
abbrev pub kept_polarity : Bool → ℕ → Bool
kept_polarity inverted level = inverted && nat_lt 0 level

pub kept_upright : (inverted : Bool) (level : ℕ) → level ≡ 0 → kept_polarity inverted level ≡ false
kept_upright true level e = ap (ltb 0) e
kept_upright false level e = refl

-- The entry that a row stands for: that of its polarity and level, or that of 0 where no entry has them.
abbrev pub partial_entry : PartialRow → Partial
partial_entry row = record {
  inverted = kept_polarity row.inverted (kept_level row.level);
  level = kept_level row.level;
  bound = kept_bound row.level;
  upright = kept_upright row.inverted (kept_level row.level);
}
