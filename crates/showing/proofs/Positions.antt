-- The places of a table's rows and columns lie in the table.
use Rattle.std.proofs.Common.{◌≡◌, ℕ, zero, suc, ◌/◌, ◌^◌, ◌<◌, ◌≤◌, refl, arith}
use native.Mathlib.Nat.{pow-succ', pow-le-pow_right}
use Rattle.scan.proofs.Digits.{spread_lt}
use Rattle.scan.specs.Places.{spread, place_at}

-- A number of k bits has no others to move apart.
spread_low : (k n m : ℕ) → k ≤ n → m < 2 ^ k → spread n m ≡ spread k m
unfolding spread
spread_low zero zero m l h = refl
spread_low zero (suc n) m l h = omega (arith, spread_low zero n (m / 2) (omega arith) (omega arith))
spread_low (suc k) zero m l h = absurd (omega arith)
spread_low (suc k) (suc n) m l h = omega (arith, spread_low k n (m / 2) (omega arith) (omega (arith, pow-succ' 2 k)))

pub place_inside : (k row column : ℕ) → k ≤ 6 → row < 2 ^ k → column < 2 ^ k → place_at row column < 4 ^ k
unfolding place_at
place_inside k row column l r c = omega (arith, spread_low k 6 row l r, spread_low k 6 column l c, spread_lt k row column)

-- A table has at most 64 rows.
pub rows_most : (k : ℕ) → k ≤ 6 → 2 ^ k ≤ 64
rows_most k l = pow-le-pow_right {n = 2} (omega arith) l
