-- Texts of digits, and the bits that they stand for.
use Rattle.std.specs.Prelude.{◌≡◌, ℕ, ◌-◌, ◌<◌, ◌≤◌, Bool, true, false, cond, ◌||◌, List, map, length, take, Ok, Err, Result, ◌==◌, nat_eq, slice_index}
use Rattle.std.specs.List.{list_all}
use Rattle.lent.specs.Layouts.{lent_bits, digit_space, digit_at}
use Rattle.lent.specs.declared.lent_bits.LentBits.{LentBits}
use Rattle.std.specs.Borrow.{Bor}
use Rattle.lent.specs.declared.layout.Digits.{Digits}
use Rattle.packing.specs.declared.fault.TextFault.{TextFault}
use Rattle.packing.specs.declared.fault.TextFault.TheVariants.{TooLong, NoDigit}

-- A text without the one line feed (10) that may stand at its end.
abbrev pub digits_in : List ℕ → List ℕ
digits_in text = cond (slice_index text (length text - 1) == 10) (take (length text - 1) text) text

-- A byte is '0' (48) or '1' (49).
abbrev pub is_digit_byte : ℕ → Bool
is_digit_byte b = b == 48 || b == 49

-- Every byte is a digit.
abbrev pub only_digits : List ℕ → Bool
only_digits bytes = list_all is_digit_byte bytes

-- A text that is a stream in digits: of at most 65,536 bytes, each a digit but for one line feed at the end.
pub record IsText (text : List ℕ) : Type 0 where
  pub short : length text ≤ 65536
  pub digits : only_digits (digits_in text) ≡ true

-- The bits of such a text.
unfoldable pub bits_of : List ℕ → List Bool
bits_of text = map (λ b. nat_eq b 49) (digits_in text)

-- Why a text is refused: its length is looked at first.
abbrev pub TextRefused : List ℕ → TextFault → Type 0
TextRefused text TooLong = 65536 < length text
TextRefused text NoDigit = (length text ≤ 65536) × (only_digits (digits_in text) ≡ false)

-- The bits of a source of digits over lent bytes.
abbrev pub source_bits : LentBits (Bor (List ℕ)) Digits → List Bool
source_bits s = lent_bits digit_space digit_at s.bytes.now s.count

-- A text is read as a source of its bits, or refused.
abbrev pub TextRead : List ℕ → Result (LentBits (Bor (List ℕ)) Digits) TextFault → Type 0
TextRead text (Ok source) = IsText text × (source_bits source ≡ bits_of text)
TextRead text (Err fault) = TextRefused text fault
