-- Worked examples. Tables are written row by row, streams in digits; spaces in a stream only help the eye.
use Rattle.std.specs.Prelude.{◌≡◌, ℕ, ◌+◌, ◌*◌, ◌^◌, Bool, true, false, cond, List, [], ◌∷◌, map, length, take, ℤ, pos, neg_ℤ, Ok, Err, codes, ◌==◌, slice_index_or}
use Rattle.lent.specs.Layouts.{first, packed_at}
use Rattle.refusal.specs.declared.Layer.TheVariants.{Stream}
use Rattle.scan.specs.Places.{row_of, column_of}
use Rattle.std.specs.List.{range_with_len}
use Rattle.stream.specs.Faults.{stream_refusal}
use Rattle.stream.specs.Numbers.{middle}
use Rattle.stream.specs.Reading.{loaded, previewed}
use Rattle.stream.specs.Streams.{stream}
use Rattle.stream.specs.declared.fault.StreamFault.{StreamFault}

-- The bits of a text in digits; any other character is passed over.
unfoldable pub bits : List ℕ → List Bool
bits [] = []
bits (c ∷ cs) = cond (c == 48) (false ∷ bits cs) (cond (c == 49) (true ∷ bits cs) (bits cs))

-- A negative number.
abbrev pub minus : ℕ → ℤ
minus n = neg_ℤ (pos n)

-- A table that is written row by row, in scan order.
unfoldable pub scanned : ℕ → List ℤ → List ℤ
scanned k rows = map (λ p. slice_index_or rows (2 ^ k * row_of p + column_of p) (pos 0)) (range_with_len 0 (4 ^ k))

abbrev pub table : List ℤ
table = scanned 2 (
    pos 26 ∷ pos 6 ∷ pos 13 ∷ pos 10
    ∷ minus 7 ∷ pos 7 ∷ pos 6 ∷ pos 4
    ∷ pos 4 ∷ minus 4 ∷ pos 4 ∷ minus 3
    ∷ pos 2 ∷ minus 2 ∷ minus 2 ∷ pos 0 ∷ [])

-- What is heard of it at the floor 4.
abbrev pub heard_at_four : List ℤ
heard_at_four = scanned 2 (
    pos 27 ∷ pos 7 ∷ pos 13 ∷ pos 11
    ∷ minus 7 ∷ pos 7 ∷ pos 7 ∷ pos 5
    ∷ pos 5 ∷ minus 5 ∷ pos 5 ∷ pos 0
    ∷ pos 0 ∷ pos 0 ∷ pos 0 ∷ pos 0 ∷ [])

-- A table of side 4 with these three numbers at the places 0, 4 and 5, and zeros elsewhere.
abbrev pub sparse : ℕ → ℕ → ℕ → List ℤ
sparse a b c =
    pos a ∷ pos 0 ∷ pos 0 ∷ pos 0 ∷ pos b ∷ pos c ∷ pos 0 ∷ pos 0 ∷ pos 0 ∷ pos 0 ∷ pos 0 ∷ pos 0 ∷ pos 0 ∷ pos 0 ∷ pos 0 ∷ pos 0 ∷ []

-- The stream at 16, packed in the bytes 4B 2B, and what a load holds of it; at 8 and at 4; and at 32, which is above the top.
abbrev pub FirstTable : Type 0
FirstTable =
    (stream 2 4 table ≡ bits (codes "0100101 10010101 1"))
    × (first (packed_at (0x4B ∷ 0x2B ∷ [])) 16 ≡ stream 2 4 table)
    × (loaded middle 2 (stream 2 4 table) ≡ Ok (sparse 28 0 0))
    × (length (stream 2 3 table) ≡ 33)
    × (loaded middle 2 (stream 2 3 table) ≡ Ok (sparse 26 14 10))
    × (length (stream 2 2 table) ≡ 70)
    × (loaded middle 2 (stream 2 2 table) ≡ Ok heard_at_four)
    × (stream 2 5 table ≡ bits (codes "0100000"))

-- Previews of the stream at 16, cut to 15 bits and to 8.
abbrev pub Cuts : Type 0
Cuts = (previewed middle 2 (take 15 (stream 2 4 table)) ≡ Ok (sparse 24 0 0))
    × (previewed middle 2 (take 8 (stream 2 4 table)) ≡ Ok (sparse 0 0 0))

-- The table resaved at 16, then at 4, then at 16: place 0 is 28, 29, 28.
abbrev pub Resaves : Type 0
Resaves = (loaded middle 2 (stream 2 4 table) ≡ Ok (sparse 28 0 0))
    × (loaded middle 2 (stream 2 2 (sparse 28 0 0)) ≡ Ok (sparse 29 0 0))
    × (loaded middle 2 (stream 2 4 (sparse 29 0 0)) ≡ Ok (sparse 28 0 0))

-- Four ones at 1 and at 2; and the largest number at the coarsest floor.
abbrev pub SmallTables : Type 0
SmallTables =
    (stream 1 0 (pos 1 ∷ pos 1 ∷ pos 1 ∷ pos 1 ∷ []) ≡ bits (codes "0010001 10101010"))
    × (stream 1 1 (pos 1 ∷ pos 1 ∷ pos 1 ∷ pos 1 ∷ []) ≡ bits (codes "0010000"))
    × (stream 1 14 (pos 32767 ∷ pos 0 ∷ pos 0 ∷ pos 0 ∷ []) ≡ bits (codes "0011111 10000000 1"))
    × (loaded middle 1 (bits (codes "0011111 10000000 1")) ≡ Ok (pos 28672 ∷ pos 0 ∷ pos 0 ∷ pos 0 ∷ []))

-- A preview and a load of these bits are refused by this number at this place.
pub record Refused (k : ℕ) (source : List Bool) (number place : ℕ) : Type 0 where
  pub fault : StreamFault
  pub previewing : previewed middle k source ≡ Err fault
  pub loading : loaded middle k source ≡ Err fault
  pub told : stream_refusal fault ≡ record { number = number; layer = Stream; place = place }

-- A zerotree root at a childless place; a first pass that finds nothing; a bit after the last; an isolated zero that had to be a zerotree root.
abbrev pub Refusals : Type 0
Refusals = Refused 1 (bits (codes "0010001 1001")) 10 11
    × Refused 1 (bits (codes "0010001 01")) 11 9
    × Refused 1 (bits (codes "0010000 1")) 13 7
    × Refused 2 (bits (codes "0100001 10 00 01 01 00000000")) 12 23

-- An ancestor labelled zerotree root, and not the parent alone, makes a place be passed over: in the second pass place 0 is a root, and the places
-- below place 1, which was found before, are passed over too.
abbrev pub Ancestors : Type 0
Ancestors =
    stream 2 0 (pos 0 ∷ pos 2 ∷ pos 0 ∷ pos 0 ∷ pos 0 ∷ pos 0 ∷ pos 0 ∷ pos 0 ∷ pos 0 ∷ pos 0 ∷ pos 0 ∷ pos 0 ∷ pos 0 ∷ pos 0 ∷ pos 0 ∷ pos 0 ∷ [])
    ≡ bits (codes "0100010 00 10 01 01 00 00 00 00 0 01")
