-- A square table of numbers as text, row by row.
use Rattle.std.specs.Prelude.{ℕ, ◌^◌, List, [], ◌∷◌, ◌++◌, map, ℤ, pos, slice_index_or}
use Rattle.scan.specs.Places.{place_at}
use Rattle.std.specs.List.{range_with_len, flat_map}
use Rattle.std.specs.Fmt.{signed_decimal}

-- A number in decimal digits, with '-' before a negative one.
abbrev pub shown_number : ℤ → List ℕ
shown_number n = signed_decimal n

-- A number that follows another: a space (32) before it.
abbrev pub shown_next : ℤ → List ℕ
shown_next n = 32 ∷ shown_number n

-- A row of numbers, with a line feed (10) at the end.
abbrev pub shown_row : List ℤ → List ℕ
shown_row [] = 10 ∷ []
shown_row (n ∷ ns) = shown_number n ++ flat_map shown_next ns ++ 10 ∷ []

-- The number in a row and a column of a table whose numbers are given in scan order.
abbrev pub number_in : List ℤ → ℕ → ℕ → ℤ
number_in numbers row column = slice_index_or numbers (place_at row column) (pos 0)

-- The numbers of a row of a table of 2 ^ k rows.
abbrev pub row_numbers : ℕ → List ℤ → ℕ → List ℤ
row_numbers k numbers row = map (number_in numbers row) (range_with_len 0 (2 ^ k))

-- The table's rows, one after the other.
unfoldable pub shown_table : ℕ → List ℤ → List ℕ
shown_table k numbers = flat_map shown_row (map (row_numbers k numbers) (range_with_len 0 (2 ^ k)))
