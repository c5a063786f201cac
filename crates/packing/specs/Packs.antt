-- What packing a text comes to.
use Rattle.std.specs.Prelude.{◌≡◌, ℕ, ◌-◌, ◌<◌, ◌≤◌, Bool, List, ◌++◌, length, Ok, Err, Result}
use Rattle.lent.specs.Layouts.{first, packed_space, packed_at, packed_past}
use Rattle.packing.specs.Texts.{IsText, TextRefused, bits_of}
use Rattle.packing.specs.declared.fault.PackFault.{PackFault}
use Rattle.packing.specs.declared.fault.PackFault.TheVariants.{Text, Shelf}

-- A text's bits are put on a shelf of this room behind the bits before, and counted; or the text is refused; or its bits do not fit.
abbrev pub PackedBy : List ℕ → ℕ → List Bool → List Bool → Result ℕ PackFault → Type 0
PackedBy text room before after (Ok n) = IsText text × (n ≡ length (bits_of text)) × (n ≤ room - length before) × (after ≡ before ++ bits_of text)
PackedBy text room before after (Err (Text fault)) = TextRefused text fault × (after ≡ before)
PackedBy text room before after (Err (Shelf full)) = IsText text × (room - length before < length (bits_of text)) × (after ≡ before)

-- A text is packed into bytes: their first bits are the text's, and the bytes past the largest room stand; what lies between is free. Or it is refused, and
-- all bytes stand.
abbrev pub PackedInto : List ℕ → List ℕ → List ℕ → Result ℕ PackFault → Type 0
PackedInto text before after (Ok n) =
    IsText text × (n ≡ length (bits_of text)) × (n ≤ packed_space (length before)) × (first (packed_at after) n ≡ bits_of text) × (packed_past after ≡ packed_past before)
PackedInto text before after (Err (Text fault)) = TextRefused text fault × (after ≡ before)
PackedInto text before after (Err (Shelf full)) = IsText text × (packed_space (length before) < length (bits_of text)) × (after ≡ before)
