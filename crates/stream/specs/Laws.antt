-- The laws of streams, for every table, floor, placement and list of bits. Each is named by the contract of a public function.
use Rattle.std.specs.Prelude.{◌≡◌, ℕ, suc, ◌+◌, ◌-◌, ◌*◌, ◌^◌, ◌<◌, ◌≤◌, max, Bool, true, ◌⊎◌, ◌↔◌, List, [], ◌∷◌, ◌++◌, map, length, take, ℤ, pos, ◌-ℤ◌, is_ok, Ok, slice_index_or, unsigned_abs}
use Rattle.scan.specs.Tree.{HasChildren, Descendant, descends}
use Rattle.stream.specs.Numbers.{Table, Placement, InCell, Alike, middle, negative, largest, level, quantized}
use Rattle.stream.specs.Passes.{has_children}
use Rattle.stream.specs.Reading.{previewed, loaded}
use Rattle.stream.specs.Streams.{Symbol, threshold_of, symbol_bits, spelled, symbols, stream, longest_run}

-- A side exponent; the exponent of a floor.
abbrev pub SideExponent : ℕ → Type 0
SideExponent k = (1 ≤ k) × (k ≤ 6)

abbrev pub FloorExponent : ℕ → Type 0
FloorExponent f = f ≤ 14

-- ---- Loading

-- Some table gives these bits at some floor.
pub record IsStream (k : ℕ) (bits : List Bool) : Type 0 where
  pub table : List ℤ
  pub floor : ℕ
  pub lawful : Table k table
  pub in_range : FloorExponent floor
  pub gives : stream k floor table ≡ bits

-- The stream of a table at a floor is accepted, and what is held at each place is 0 where the magnitude is below the floor, and otherwise the number
-- heard of the cell, of half the floor's width or of width 1 at the floor 1, that holds the number.
abbrev pub ReadsBack : Type 0
ReadsBack = (place : Placement) (k f : ℕ) (t : List ℤ) → SideExponent k → FloorExponent f → Table k t
    → loaded place k (stream k f t) ≡ Ok (map (quantized place f) t)

-- What is accepted is the stream of the table that is then held.
abbrev pub AcceptsStreamsOnly : Type 0
AcceptsStreamsOnly = (place : Placement) → InCell place → (k : ℕ) (bits : List Bool) (v : List ℤ) → SideExponent k
    → loaded place k bits ≡ Ok v → Table k v × ((f : ℕ) × FloorExponent f × (stream k f v ≡ bits))

-- So a load accepts exactly the streams that tables give.
abbrev pub AcceptsExactly : Type 0
AcceptsExactly = (place : Placement) → InCell place → (k : ℕ) (bits : List Bool) → SideExponent k → (is_ok (loaded place k bits) ≡ true) ↔ IsStream k bits

-- ---- Previewing

-- The exponent of the threshold of the last symbol, or another one if there is none.
unfoldable pub last_threshold : ℕ → List Symbol → ℕ
last_threshold j [] = j
last_threshold j (s ∷ ss) = last_threshold (threshold_of s) ss

-- Both are not 0, and of one sign.
abbrev pub SameSign : ℤ → ℤ → Type 0
SameSign v c = (1 ≤ unsigned_abs v) × (1 ≤ unsigned_abs c) × (negative v ≡ negative c)

-- At the threshold T = 2 ^ j, v is heard of c: it is 0 and |c| < 2 T, or it has the sign of c and 2 * |v - c| is at most T.
abbrev pub Near : ℕ → ℤ → ℤ → Type 0
Near j c v = ((v ≡ pos 0) × (unsigned_abs c < 2 ^ suc j)) ⊎ (SameSign v c × (2 * unsigned_abs (v -ℤ c) ≤ 2 ^ j))

-- A preview of the first n bits of a stream, n at least 7, is granted, and near the table at the threshold of the last whole symbol among them,
-- or at the top if there is none.
abbrev pub PreviewBound : Type 0
PreviewBound = (k f n : ℕ) (t : List ℤ) → SideExponent k → FloorExponent f → Table k t → f < level t → 7 ≤ n
    → (v : List ℤ) × (previewed middle k (take n (stream k f t)) ≡ Ok v)
    × ((p : ℕ) → p < 4 ^ k → Near (last_threshold (level t - 1) (longest_run (n - 7) (symbols k f t))) (slice_index_or t p (pos 0)) (slice_index_or v p (pos 0)))

-- ---- Likeness

-- The stream sees no more of a number than its likeness at the floor.
abbrev pub Locality : Type 0
Locality = (k f : ℕ) (t u : List ℤ) → SideExponent k → FloorExponent f → Table k t → Table k u
    → ((p : ℕ) → p < 4 ^ k → Alike f (slice_index_or t p (pos 0)) (slice_index_or u p (pos 0))) → stream k f t ≡ stream k f u

-- Numbers alike at a floor are alike at every coarser one.
abbrev pub Nesting : Type 0
Nesting = (f g : ℕ) (a b : ℤ) → f ≤ g → Alike f a b → Alike g a b

-- ---- Resaving, again and again

-- A resave: the exponent of its floor, and where in the cell the number heard lies.
pub record Resave : Type 0 where
  pub floor : ℕ
  pub place : Placement
  pub stays : InCell place

-- The number at a place after these resaves, the first one first.
unfoldable pub resaved : List Resave → ℤ → ℤ
resaved [] c = c
resaved (r ∷ rs) c = resaved rs (quantized r.place r.floor c)

-- The exponent of the coarsest floor.
unfoldable pub coarsest : Resave → List Resave → ℕ
coarsest r [] = r.floor
coarsest r (s ∷ rs) = max r.floor (coarsest s rs)

-- However often a number is resaved, coarse and fine in turn: below the coarsest floor F it is 0, and otherwise it keeps its sign and stays less than
-- F / 2 from what was put in. And it stays like that at every floor that is not finer than F.
abbrev pub CreepBound : Type 0
CreepBound = (r : Resave) (rs : List Resave) (c : ℤ)
    → (unsigned_abs c < 2 ^ coarsest r rs → resaved (r ∷ rs) c ≡ pos 0)
    × (2 ^ coarsest r rs ≤ unsigned_abs c → SameSign (resaved (r ∷ rs) c) c × (2 * unsigned_abs (resaved (r ∷ rs) c -ℤ c) < 2 ^ coarsest r rs))
    × ((g : ℕ) → coarsest r rs ≤ g → Alike g c (resaved (r ∷ rs) c))

-- ---- Lengths

-- A finer floor only appends bits, if the coarser one is not above the top.
abbrev pub Appends : Type 0
Appends = (k f g : ℕ) (t : List ℤ) → f ≤ g → g < level t → (rest : List Bool) × (stream k f t ≡ stream k g t ++ rest)

abbrev pub Longest : Type 0
Longest = (k f : ℕ) (t : List ℤ) → k ≤ 6 → Table k t → length (stream k f t) ≤ 122887

-- The longest run of whole symbols that fits: the symbols begin with it, it fits, and with the next symbol it would not.
abbrev pub LongestRun : Type 0
LongestRun = (room : ℕ) (ss : List Symbol) → (rest : List Symbol) × (ss ≡ longest_run room ss ++ rest) × (length (spelled (longest_run room ss)) ≤ room)
    × ((s : Symbol) (more : List Symbol) → rest ≡ s ∷ more → room < length (spelled (longest_run room ss)) + length (symbol_bits s))

-- ---- Words: what the definitions compute, in the terms of the subject

-- A threshold is at most the largest magnitude exactly if it is below the level: so 2 ^ (level - 1) is the largest power of two not above it.
abbrev pub Levels : Type 0
Levels = (k : ℕ) (t : List ℤ) → Table k t → (level t ≤ 15) × ((j : ℕ) → (2 ^ j ≤ largest t) ↔ (j < level t))

abbrev pub Family : Type 0
Family = (k p : ℕ) → SideExponent k → ((has_children k p ≡ true) ↔ HasChildren k p) × ((d : ℕ) → d < 4 ^ k → (descends p d ≡ true) ↔ Descendant k p d)
