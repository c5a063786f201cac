-- Where a place stands: its row and column by the digits, and back.
use Rattle.std.proofs.Common.{◌≡◌, ℕ, ◌+◌, ◌*◌, ◌/◌, ◌<◌, sym, refl, ap, ◌∙◌, subst₂, arith}
use Rattle.scan.specs.Places.{bit_of, row_of, column_of, place_at, Stands}
use Rattle.scan.proofs.Digits.{bit_of_suc, gathered_bits, gathered_lt, spread_lt, gathered_even, gathered_odd, spread_gathered}

-- The bit rule for the row.
row_bits : (place i : ℕ) → place < 4096 → bit_of i (row_of place) ≡ bit_of (2 * i + 1) place
unfolding row_of
row_bits place i h =
    gathered_bits 6 (place / 2) i (omega arith) ∙ sym (bit_of_suc (2 * i) place)
    ∙ ap (λ (j : ℕ). bit_of j place) (omega arith)

-- A column has six bits.
pub column_of_lt : (place : ℕ) → column_of place < 64
unfolding column_of
column_of_lt place = gathered_lt 6 place

-- A place below 4,096 stands in its row and its column,
placed : (place : ℕ) → place < 4096 → Stands place (row_of place) (column_of place)
unfolding row_of column_of place_at
placed place h = record {
  place_low = h;
  row_low = gathered_lt 6 (place / 2);
  column_low = column_of_lt place;
  interleaves = λ i. (row_bits place i h, gathered_bits 6 place i h);
  row_is = refl;
  column_is = refl;
  place_is = sym (spread_gathered 6 place h);
}

-- by whatever terms they are given.
pub stands_from_place : (place row column : ℕ) → place < 4096 → row ≡ row_of place → column ≡ column_of place → Stands place row column
stands_from_place place row column h r c = subst₂ (Stands place) (sym r) (sym c) (placed place h)

-- In a row and a column below 64 stands the place that `place_at` gives.
pub stands_from_position : (place row column : ℕ) → row < 64 → column < 64 → place ≡ place_at row column → Stands place row column
unfolding row_of column_of place_at
stands_from_position place row column r c e =
    rw e
    (stands_from_place (place_at row column) row column (spread_lt 6 row column) (sym (gathered_odd 6 row column r)) (sym (gathered_even 6 row column c)))
