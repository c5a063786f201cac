-- The number, layer and place of each stream fault.
use Rattle.refusal.specs.declared.Layer.TheVariants.{Stream}
use Rattle.refusal.specs.declared.Refusal.{Refusal}
use Rattle.stream.specs.declared.fault.StreamFault.{StreamFault}
use Rattle.stream.specs.declared.fault.StreamFault.TheVariants.{HeaderCut, OtherSide, RootAtLeaf, NothingFound, MissedRoot, BitsAfterEnd, PassCut}

abbrev pub stream_refusal : StreamFault → Refusal
stream_refusal (HeaderCut count) = record { number = 8; layer = Stream; place = count }
stream_refusal OtherSide = record { number = 9; layer = Stream; place = 7 }
stream_refusal (RootAtLeaf taken) = record { number = 10; layer = Stream; place = taken }
stream_refusal (NothingFound taken) = record { number = 11; layer = Stream; place = taken }
stream_refusal (MissedRoot taken) = record { number = 12; layer = Stream; place = taken }
stream_refusal (BitsAfterEnd taken) = record { number = 13; layer = Stream; place = taken }
stream_refusal (PassCut count) = record { number = 14; layer = Stream; place = count }
