-- The worked examples, computed.
use Rattle.std.proofs.Common.{◌≡◌, List, [], ◌∷◌, length, take, ℤ, pos, Ok, codes, sym, refl, ap, ◌∙◌, subst}
use Rattle.lent.specs.Layouts.{first, packed_at}
use Rattle.scan.specs.Places.{gathered, row_of, column_of}
use Rattle.scan.specs.Tree.{among_quarters, descends}
use Rattle.stream.specs.Numbers.{middle, largest, bit_length, level, thresholds}
use Rattle.stream.specs.Passes.{some, is_found, under_root, due, reached_below, label_of, marks_to, findings, halved, upper}
use Rattle.stream.specs.Reading.{next_place, read_to, has_missed_root, refine_all, read_pass, read_passes, spells, reading, heard_at, numbers_heard, previewed, loaded}
use Rattle.stream.specs.Streams.{spelled, labels, refinements, refined, found_in, pass_symbols, pass_found, passes, symbols, binary, header, level_told, stream}
use Rattle.stream.specs.declared.fault.StreamFault.TheVariants.{RootAtLeaf, NothingFound, MissedRoot, BitsAfterEnd}
use Rattle.worked.specs.Examples.{bits, minus, scanned, sparse, table, heard_at_four, FirstTable, Cuts, Resaves, SmallTables, Refusals, Ancestors}

-- The table and its reconstruction at 4 in scan order, so that the numbers are computed once.
listed : List ℤ
listed = pos 26 ∷ pos 6 ∷ minus 7 ∷ pos 7 ∷ pos 13 ∷ pos 10 ∷ pos 6 ∷ pos 4 ∷ pos 4 ∷ minus 4 ∷ pos 2 ∷ minus 2 ∷ pos 4 ∷ minus 3 ∷ minus 2 ∷ pos 0 ∷ []

table_is : table ≡ listed
unfolding listed scanned gathered row_of column_of
table_is = refl

at_table : (P : List ℤ → Type 0) → P listed → P table
at_table P h = subst P (sym table_is) h

heard_listed : List ℤ
heard_listed = pos 27 ∷ pos 7 ∷ minus 7 ∷ pos 7 ∷ pos 13 ∷ pos 11 ∷ pos 7 ∷ pos 5 ∷ pos 5 ∷ minus 5 ∷ pos 0 ∷ pos 0 ∷ pos 5 ∷ pos 0 ∷ pos 0 ∷ pos 0 ∷ []

heard_is : heard_at_four ≡ heard_listed
unfolding heard_listed scanned gathered row_of column_of
heard_is = refl

at_four : loaded middle 2 (stream 2 2 listed) ≡ Ok heard_listed
unfolding listed heard_listed descends among_quarters gathered row_of column_of first bits scanned largest bit_length level thresholds some is_found under_root due reached_below label_of marks_to findings halved upper spelled labels refinements refined found_in pass_symbols pass_found passes symbols binary header level_told stream next_place read_to has_missed_root refine_all read_pass read_passes spells reading heard_at numbers_heard previewed loaded
at_four = refl

pub first_table : FirstTable
unfolding listed descends among_quarters gathered row_of column_of first bits scanned largest bit_length level thresholds some is_found under_root due reached_below label_of marks_to findings halved upper spelled labels refinements refined found_in pass_symbols pass_found passes symbols binary header level_told stream next_place read_to has_missed_root refine_all read_pass read_passes spells reading heard_at numbers_heard previewed loaded
first_table = (
  at_table (λ t. stream 2 4 t ≡ bits (codes "0100101 10010101 1")) refl,
  at_table (λ t. first (packed_at (0x4B ∷ 0x2B ∷ [])) 16 ≡ stream 2 4 t) refl,
  at_table (λ t. loaded middle 2 (stream 2 4 t) ≡ Ok (sparse 28 0 0)) refl,
  at_table (λ t. length (stream 2 3 t) ≡ 33) refl,
  at_table (λ t. loaded middle 2 (stream 2 3 t) ≡ Ok (sparse 26 14 10)) refl,
  at_table (λ t. length (stream 2 2 t) ≡ 70) refl,
  at_table (λ t. loaded middle 2 (stream 2 2 t) ≡ Ok heard_at_four) (at_four ∙ ap (λ v. Ok v) (sym heard_is)),
  at_table (λ t. stream 2 5 t ≡ bits (codes "0100000")) refl,
)

pub cuts : Cuts
unfolding listed descends among_quarters gathered row_of column_of first bits scanned largest bit_length level thresholds some is_found under_root due reached_below label_of marks_to findings halved upper spelled labels refinements refined found_in pass_symbols pass_found passes symbols binary header level_told stream next_place read_to has_missed_root refine_all read_pass read_passes spells reading heard_at numbers_heard previewed loaded
cuts = (
  at_table (λ t. previewed middle 2 (take 15 (stream 2 4 t)) ≡ Ok (sparse 24 0 0)) refl,
  at_table (λ t. previewed middle 2 (take 8 (stream 2 4 t)) ≡ Ok (sparse 0 0 0)) refl,
)

pub resaves : Resaves
unfolding listed descends among_quarters gathered row_of column_of first bits scanned largest bit_length level thresholds some is_found under_root due reached_below label_of marks_to findings halved upper spelled labels refinements refined found_in pass_symbols pass_found passes symbols binary header level_told stream next_place read_to has_missed_root refine_all read_pass read_passes spells reading heard_at numbers_heard previewed loaded
resaves = (at_table (λ t. loaded middle 2 (stream 2 4 t) ≡ Ok (sparse 28 0 0)) refl, refl, refl)

pub small_tables : SmallTables
unfolding descends among_quarters gathered row_of column_of first bits scanned largest bit_length level thresholds some is_found under_root due reached_below label_of marks_to findings halved upper spelled labels refinements refined found_in pass_symbols pass_found passes symbols binary header level_told stream next_place read_to has_missed_root refine_all read_pass read_passes spells reading heard_at numbers_heard previewed loaded
small_tables = (refl, refl, refl, refl)

pub refusals : Refusals
unfolding descends among_quarters gathered row_of column_of first bits scanned largest bit_length level thresholds some is_found under_root due reached_below label_of marks_to findings halved upper spelled labels refinements refined found_in pass_symbols pass_found passes symbols binary header level_told stream next_place read_to has_missed_root refine_all read_pass read_passes spells reading heard_at numbers_heard previewed loaded
refusals = (
  record { fault = RootAtLeaf 11; previewing = refl; loading = refl; told = refl },
  record { fault = NothingFound 9; previewing = refl; loading = refl; told = refl },
  record { fault = BitsAfterEnd 7; previewing = refl; loading = refl; told = refl },
  record { fault = MissedRoot 23; previewing = refl; loading = refl; told = refl },
)

pub ancestors : Ancestors
unfolding descends among_quarters gathered row_of column_of first bits scanned largest bit_length level thresholds some is_found under_root due reached_below label_of marks_to findings halved upper spelled labels refinements refined found_in pass_symbols pass_found passes symbols binary header level_told stream next_place read_to has_missed_root refine_all read_pass read_passes spells reading heard_at numbers_heard previewed loaded
ancestors = refl
