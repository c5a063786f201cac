use Rattle.packing.specs.declared.fault.TextFault.{TextFault}
use Rattle.packing.specs.declared.fault.TextFault.TheVariants.{TooLong, NoDigit}
use Rattle.refusal.specs.declared.Refusal.{Refusal}
use Rattle.refusal.specs.declared.Layer.TheVariants.{Text}

-- The number, layer and place of each text fault.
abbrev pub text_refusal : TextFault → Refusal
text_refusal TooLong = record { number = 21; layer = Text; place = 0 }
text_refusal NoDigit = record { number = 21; layer = Text; place = 0 }
