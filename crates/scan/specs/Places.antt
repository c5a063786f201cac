-- Places of a square table in scan order (Morton order), and their rows and columns.
use Rattle.std.specs.Prelude.{◌≡◌, ℕ, zero, suc, ◌+◌, ◌*◌, ◌/◌, ◌%◌, ◌^◌, ◌<◌}

-- Bit i of n; bit 0 is the lowest.
unfoldable pub bit_of : ℕ → ℕ → ℕ
bit_of i n = n / 2 ^ i % 2

-- The bit rule: the odd-numbered bits of a place make its row, the even-numbered bits its column.
abbrev pub Interleaves : ℕ → ℕ → ℕ → Type 0
Interleaves place row column = (i : ℕ) → (bit_of i row ≡ bit_of (2 * i + 1) place) × (bit_of i column ≡ bit_of (2 * i) place)

-- The even-numbered bits of m, moved together: one from each of its lowest n base-4 digits.
unfoldable pub gathered : ℕ → ℕ → ℕ
gathered zero m = 0
gathered (suc n) m = 2 * gathered n (m / 4) + m % 2

-- The lowest n bits of m, moved apart to the even-numbered bits.
unfoldable pub spread : ℕ → ℕ → ℕ
spread zero m = 0
spread (suc n) m = 4 * spread n (m / 2) + m % 2

-- The row of a place below 4,096, which has six base-4 digits.
unfoldable pub row_of : ℕ → ℕ
row_of place = gathered 6 (place / 2)

-- The column of a place below 4,096.
unfoldable pub column_of : ℕ → ℕ
column_of place = gathered 6 place

-- The place of a row and a column below 64, which have six bits each.
unfoldable pub place_at : ℕ → ℕ → ℕ
place_at row column = 2 * spread 6 row + spread 6 column

-- A place of the largest table, 64 rows of 64, stands in this row and this column.
pub record Stands (place row column : ℕ) : Type 0 where
  pub place_low : place < 4096
  pub row_low : row < 64
  pub column_low : column < 64
  pub interleaves : Interleaves place row column
  pub row_is : row ≡ row_of place
  pub column_is : column ≡ column_of place
  pub place_is : place ≡ place_at row column
