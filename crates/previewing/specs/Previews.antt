-- What the previewing program prints of a text. Checks run in this order: the text, the header's length, the side, and then those of a preview.
use Rattle.std.specs.Prelude.{ℕ, Bool, cond, ◌&&◌, List, [], ◌∷◌, ◌++◌, length, take, ℤ, Ok, Err, Result, nat_le, nat_lt}
use Rattle.packing.specs.Faults.{text_refusal}
use Rattle.packing.specs.Texts.{only_digits, digits_in, bits_of}
use Rattle.packing.specs.declared.fault.TextFault.TheVariants.{TooLong, NoDigit}
use Rattle.refusal.specs.Refusals.{refusal_text}
use Rattle.refusal.specs.declared.Refusal.{Refusal}
use Rattle.showing.specs.Shown.{shown_table}
use Rattle.slots.specs.Faults.{slot_refusal}
use Rattle.slots.specs.declared.fault.SlotFault.TheVariants.{NoSide}
use Rattle.stream.specs.Faults.{stream_refusal}
use Rattle.stream.specs.Numbers.{middle}
use Rattle.stream.specs.Reading.{spells, previewed}
use Rattle.stream.specs.declared.fault.StreamFault.{StreamFault}
use Rattle.stream.specs.declared.fault.StreamFault.TheVariants.{HeaderCut}

-- The line that tells a refusal.
unfoldable pub line_of_refusal : Refusal → List ℕ
line_of_refusal r = refusal_text r ++ 10 ∷ []

-- What a preview came to: a table of 2 ^ k rows, or the stream's fault.
abbrev pub shown_outcome : ℕ → Result (List ℤ) StreamFault → List ℕ
shown_outcome k (Ok numbers) = shown_table k numbers
shown_outcome k (Err fault) = line_of_refusal (stream_refusal fault)

-- Bits whose header tells the side exponent k: previewed if there is such a side.
unfoldable pub shown_side : ℕ → List Bool → List ℕ
shown_side k bits = cond (nat_le 1 k && nat_le k 6) (shown_outcome k (previewed middle k bits)) (line_of_refusal (slot_refusal NoSide))

-- Bits: the first three of the header's seven spell the side exponent.
unfoldable pub shown_bits : List Bool → List ℕ
shown_bits bits = cond (nat_lt (length bits) 7) (line_of_refusal (stream_refusal (HeaderCut (length bits)))) (shown_side (spells (take 3 bits)) bits)

-- A text: of at most 65,536 bytes, and all digits.
unfoldable pub shown_text : List ℕ → List ℕ
shown_text text =
    cond (nat_lt 65536 (length text)) (line_of_refusal (text_refusal TooLong))
    (cond (only_digits (digits_in text)) (shown_bits (bits_of text)) (line_of_refusal (text_refusal NoDigit)))
