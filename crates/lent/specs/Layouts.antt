-- How bits lie in bytes.
use Rattle.std.specs.Prelude.{◌≡◌, ℕ, ◌+◌, ◌-◌, ◌*◌, ◌/◌, ◌%◌, ◌^◌, ◌<◌, ◌≤◌, min, Bool, true, false, cond, List, map, length, drop, ◌==◌, ◌≢◌, slice_index}
use Rattle.std.specs.List.{range_with_len}

-- The first n values of a rule, as a list.
unfoldable pub first : (ℕ → Bool) → ℕ → List Bool
first rule n = map rule (range_with_len 0 n)

-- The bits of lent bytes: the first ones that lie in them, as many as are counted, at most as many as there is room for.
unfoldable pub lent_bits : (ℕ → ℕ) → (List ℕ → ℕ → Bool) → List ℕ → ℕ → List Bool
lent_bits space at bytes count = first (at bytes) (min count (space (length bytes)))

-- The bit of a byte that is worth 2 ^ weight.
abbrev pub bit_in : ℕ → ℕ → Bool
bit_in byte weight = byte / 2 ^ weight % 2 == 1

-- The byte with that bit set to b: the higher bits, b, the lower bits.
abbrev pub byte_with_bit : ℕ → ℕ → Bool → ℕ
byte_with_bit byte weight b = byte / 2 ^ (weight + 1) * 2 ^ (weight + 1) + cond b (2 ^ weight) 0 + byte % 2 ^ weight

-- Packed: eight bits to a byte, the highest first.
abbrev pub packed_space : ℕ → ℕ
packed_space bytes = min (8 * bytes) 131072

abbrev pub packed_at : List ℕ → ℕ → Bool
packed_at bytes i = bit_in (slice_index bytes (i / 8)) (7 - i % 8)

abbrev pub packed_past : List ℕ → List ℕ
packed_past bytes = drop 16384 bytes

-- Digits: one bit to a byte, 49 ('1') for a one; any other byte reads as zero.
abbrev pub digit_space : ℕ → ℕ
digit_space bytes = min bytes 131072

abbrev pub digit_at : List ℕ → ℕ → Bool
digit_at bytes i = slice_index bytes i == 49

abbrev pub digit_of_bit : Bool → ℕ
digit_of_bit true = 49
digit_of_bit false = 48

abbrev pub digit_past : List ℕ → List ℕ
digit_past bytes = drop 131072 bytes

-- One bit is written: within the room it is b at index i, and every other bit and the bytes past the largest room stand;
-- at or past the room nothing is altered.
pub record Written (space : ℕ → ℕ) (at : List ℕ → ℕ → Bool) (past : List ℕ → List ℕ) (before : List ℕ) (i : ℕ) (b : Bool) (after : List ℕ) : Type 0 where
  pub here : i < space (length before) → at after i ≡ b
  pub elsewhere : (j : ℕ) → (j ≢ i) → at after j ≡ at before j
  pub beyond : past after ≡ past before
  pub outside : space (length before) ≤ i → after ≡ before
