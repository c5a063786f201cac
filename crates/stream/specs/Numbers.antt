-- Numbers of a table: their magnitude and sign, thresholds, cells, and what is heard of a cell.
--
-- Thresholds, floors and widths are powers of two, and are named by their exponents: the threshold j is 2 ^ j.
use Rattle.std.specs.Prelude.{◌≡◌, ℕ, zero, suc, ◌+◌, ◌-◌, ◌*◌, ◌/◌, ◌^◌, ◌<◌, ◌≤◌, max, Bool, true, false, cond, ◌⊎◌, List, [], ◌∷◌, length, ℤ, pos, negsuc, neg_ℤ, nat_le, slice_index_or, unsigned_abs}

-- Whether a number is below 0.
abbrev pub negative : ℤ → Bool
negative (pos n) = false
negative (negsuc n) = true

-- The number of this sign and magnitude.
abbrev pub signed : Bool → ℕ → ℤ
signed true n = neg_ℤ (pos n)
signed false n = pos n

-- A table of side exponent k: 4 ^ k numbers from -32,767 to 32,767, in scan order.
pub record Table (k : ℕ) (t : List ℤ) : Type 0 where
  pub places : length t ≡ 4 ^ k
  pub range : (p : ℕ) → unsigned_abs (slice_index_or t p (pos 0)) < 2 ^ 15

-- The magnitude at a place.
abbrev pub magnitude_at : List ℤ → ℕ → ℕ
magnitude_at t p = unsigned_abs (slice_index_or t p (pos 0))

-- The largest magnitude of a table.
unfoldable pub largest : List ℤ → ℕ
largest [] = 0
largest (c ∷ cs) = max (unsigned_abs c) (largest cs)

-- The number of binary digits of n, as far as the lowest m digits: 0 for 0, and otherwise 1 + the largest j with 2 ^ j not above n.
unfoldable pub bit_length : ℕ → ℕ → ℕ
bit_length zero n = 0
bit_length (suc j) n = cond (nat_le (2 ^ j) n) (suc j) (bit_length j n)

-- The level of a table: 0 for a table of zeros, and otherwise 1 + log2 of the top, the largest power of two not above its largest magnitude.
unfoldable pub level : List ℤ → ℕ
level t = bit_length 15 (largest t)

-- The exponents of n thresholds, falling, down to f: f + n - 1, .., f + 1, f.
unfoldable pub thresholds : ℕ → ℕ → List ℕ
thresholds f zero = []
thresholds f (suc n) = (f + n) ∷ thresholds f n

-- Where in a quantization cell the number heard lies. The cell has a low end L and a width W and holds the magnitudes L to L + W - 1.
abbrev pub Placement : Type 0
Placement = ℕ → ℕ → ℕ

-- It lies in the cell.
abbrev pub InCell : Placement → Type 0
InCell place = (low width : ℕ) → 1 ≤ width → (low ≤ place low width) × (place low width < low + width)

-- The middle: L + W / 2, and L where W is 1.
abbrev pub middle : Placement
middle low width = low + width / 2

-- The exponent of the width of every cell after a full stream at the floor 2 ^ f: the width is half the floor, and 1 at the floor 1.
abbrev pub width_after : ℕ → ℕ
width_after f = f - 1

-- The low end of the cell of width 2 ^ w that holds the magnitude n: cells of one width begin at the multiples of that width.
abbrev pub low_end : ℕ → ℕ → ℕ
low_end w n = 2 ^ w * (n / 2 ^ w)

-- What is heard of a number after a full stream at the floor 2 ^ f: 0 below the floor, and otherwise the number heard of its cell.
unfoldable pub quantized : Placement → ℕ → ℤ → ℤ
quantized place f c =
    cond (nat_le (2 ^ f) (unsigned_abs c)) (signed (negative c) (place (low_end (width_after f) (unsigned_abs c)) (2 ^ width_after f))) (pos 0)

-- Two numbers are alike at the floor F = 2 ^ f: both magnitudes are below F, or both are at least F, with equal signs and with equal
-- quotients 2 * |c| / F, rounded down.
abbrev pub Alike : ℕ → ℤ → ℤ → Type 0
Alike f a b =
    ((unsigned_abs a < 2 ^ f) × (unsigned_abs b < 2 ^ f))
    ⊎ ((2 ^ f ≤ unsigned_abs a) × (2 ^ f ≤ unsigned_abs b) × (negative a ≡ negative b) × (2 * unsigned_abs a / 2 ^ f ≡ 2 * unsigned_abs b / 2 ^ f))
