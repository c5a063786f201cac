-- The faults of previewing.
use Rattle.std.specs.Prelude.{◌≡◌, ℕ, ◌^◌, ◌<◌, ◌≤◌, Bool, List, length, take, ℤ, Ok, Err, Result}
use Rattle.packing.specs.Faults.{text_refusal}
use Rattle.previewing.specs.Previews.{line_of_refusal}
use Rattle.previewing.specs.declared.fault.PreviewFault.{PreviewFault}
use Rattle.previewing.specs.declared.fault.PreviewFault.TheVariants.{Text, Slot, NoMemory}
use Rattle.slots.specs.Faults.{slot_refusal}
use Rattle.slots.specs.declared.fault.SlotFault.TheVariants.{NoSide, ShortMemory, NoPlace, Stream}
use Rattle.stream.specs.Numbers.{middle}
use Rattle.stream.specs.Reading.{spells, previewed}
use Rattle.stream.specs.declared.fault.StreamFault.{StreamFault}
use Rattle.stream.specs.declared.fault.StreamFault.TheVariants.{HeaderCut}

-- The side exponent that the header of these bits names, or that they end in it.
abbrev pub Headed : List Bool → Result ℕ StreamFault → Type 0
Headed bits (Ok k) = (7 ≤ length bits) × (k ≡ spells (take 3 bits))
Headed bits (Err fault) = (length bits < 7) × (fault ≡ HeaderCut (length bits))

-- Why a preview of this outcome gives no numbers: the stream's own fault, or no memory.
abbrev pub Unheard : Result (List ℤ) StreamFault → PreviewFault → Type 0
Unheard outcome (Text fault) = ⊥
Unheard outcome (Slot NoSide) = ⊥
Unheard outcome (Slot ShortMemory) = ⊥
Unheard outcome (Slot NoPlace) = ⊥
Unheard outcome (Slot (Stream fault)) = outcome ≡ Err fault
Unheard outcome NoMemory = Unit {0}

-- These are all the numbers that a preview of these bits hears in a table of 4 ^ k places.
abbrev pub HeardAll : ℕ → List Bool → List ℤ → Type 0
HeardAll k bits numbers = (previewed middle k bits ≡ Ok numbers) × (length numbers ≡ 4 ^ k)

-- These lines are what a fault is told by; of no memory nothing is told.
abbrev pub ToldBy : List ℕ → PreviewFault → Type 0
ToldBy lines (Text fault) = lines ≡ line_of_refusal (text_refusal fault)
ToldBy lines (Slot fault) = lines ≡ line_of_refusal (slot_refusal fault)
ToldBy lines NoMemory = Unit {0}
