-- What the calls on a slot come to.
--
-- With each call the host lends three slices: the table's rows, the cells and the found places. A slot of side exponent k uses the first 4 ^ k items of
-- each. In the relations below `enough` is the fact that there are so many, which every call looks at first.
use Rattle.std.specs.Prelude.{◌≡◌, ℕ, ◌^◌, ◌<◌, ◌≤◌, List, map, length, take, ℤ, pos, Ok, Err, Result, slice_index_or}
use Rattle.decoder.specs.Cells.{Decodes}
use Rattle.decoder.specs.declared.cell.Cell.{Cell}
use Rattle.decoder.specs.declared.decode.Decoded.{Decoded}
use Rattle.entries.specs.Range.{InRange}
use Rattle.slots.specs.declared.fault.Refused.{Refused}
use Rattle.slots.specs.declared.fault.SlotFault.{SlotFault}
use Rattle.slots.specs.declared.fault.SlotFault.TheVariants.{NoSide, ShortMemory, NoPlace, Stream}
use Rattle.stream.specs.Reading.{Outcome}
use Rattle.stream.specs.declared.fault.StreamFault.{StreamFault}

-- Each slice has an item for every place.
abbrev pub Suffices : {Row : Type 0} → ℕ → List Row → List Cell → List ℕ → Type 0
Suffices k table cells found = (4 ^ k ≤ length table) × (4 ^ k ≤ length cells) × (4 ^ k ≤ length found)

-- The numbers that the rows of a table of 4 ^ k places stand for: each row stands for an entry, and each entry for a number.
unfoldable pub row_numbers : {Row Entry : Type 0} → (Entry → ℤ) → (Row → Entry) → ℕ → List Row → List ℤ
row_numbers number entry k table = map (λ row. number (entry row)) (take (4 ^ k) table)

-- A call that asks for nothing but memory: it is done, or refused as short of memory.
abbrev pub Passes : {Next Slot : Type 0} → Type 0 → Type 0 → Result Next (Refused Slot) → Type 0
Passes enough done (Ok next) = enough × done
Passes enough done (Err refused) = (enough → ⊥) × (refused.fault ≡ ShortMemory)

-- Why a stream is turned away: short memory, or else a fault of the stream's own.
abbrev pub TurnedAway : Type 0 → (StreamFault → Type 0) → SlotFault → Type 0
TurnedAway enough faulty NoSide = ⊥
TurnedAway enough faulty ShortMemory = enough → ⊥
TurnedAway enough faulty NoPlace = ⊥
TurnedAway enough faulty (Stream fault) = enough × faulty fault

-- A source of this outcome is heard to its end, and the cells then tell its numbers; or it is turned away.
abbrev pub Hears : Type 0 → ℕ → Outcome → List Cell → Result Decoded SlotFault → Type 0
Hears enough k outcome cells (Ok decoded) = enough × Decodes k outcome cells (Ok decoded)
Hears enough k outcome cells (Err fault) = TurnedAway enough (λ f. Decodes k outcome cells (Err f)) fault

-- A source that is to be a whole stream, of this outcome, is heard, and these are then its numbers; or it is turned away.
abbrev pub HearsWhole : Type 0 → Result (List ℤ) StreamFault → List ℤ → Result (Unit {0}) SlotFault → Type 0
HearsWhole enough outcome numbers (Ok u) = enough × (outcome ≡ Ok numbers)
HearsWhole enough outcome numbers (Err fault) = TurnedAway enough (λ f. outcome ≡ Err f) fault

-- A stream of this outcome is taken, and the slot's numbers are then those of the stream; or it is turned away.
abbrev pub Takes : {Next Slot : Type 0} → Type 0 → Result (List ℤ) StreamFault → List ℤ → Result Next (Refused Slot) → Type 0
Takes enough outcome numbers (Ok next) = enough × (outcome ≡ Ok numbers)
Takes enough outcome numbers (Err refused) = TurnedAway enough (λ fault. outcome ≡ Err fault) refused.fault

-- Why no number is read at a place of a table of side exponent k: short memory, or else there is no such place.
abbrev pub Unread : Type 0 → ℕ → ℕ → SlotFault → Type 0
Unread enough k place NoSide = ⊥
Unread enough k place ShortMemory = enough → ⊥
Unread enough k place NoPlace = enough × (4 ^ k ≤ place)
Unread enough k place (Stream fault) = ⊥

-- Of a slot's numbers the one at a place is read, and it is in range; or it is not read.
abbrev pub Reads : Type 0 → ℕ → List ℤ → ℕ → Result ℤ SlotFault → Type 0
Reads enough k numbers place (Ok number) = enough × (place < 4 ^ k) × (number ≡ slice_index_or numbers place (pos 0)) × InRange number
Reads enough k numbers place (Err fault) = Unread enough k place fault
