-- The number, layer and place of each slot fault. A stream's fault keeps its own.
use Rattle.refusal.specs.declared.Layer.TheVariants.{Slot}
use Rattle.refusal.specs.declared.Refusal.{Refusal}
use Rattle.slots.specs.declared.fault.SlotFault.{SlotFault}
use Rattle.slots.specs.declared.fault.SlotFault.TheVariants.{NoSide, ShortMemory, NoPlace, Stream}
use Rattle.stream.specs.Faults.{stream_refusal}

abbrev pub slot_refusal : SlotFault → Refusal
slot_refusal NoSide = record { number = 1; layer = Slot; place = 0 }
slot_refusal ShortMemory = record { number = 2; layer = Slot; place = 0 }
slot_refusal NoPlace = record { number = 4; layer = Slot; place = 0 }
slot_refusal (Stream fault) = stream_refusal fault
