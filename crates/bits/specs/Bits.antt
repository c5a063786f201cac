-- What the calls on sources and shelves do, over the list of bits that each stands for. Each relation has a case for each answer.
use Rattle.std.specs.Prelude.{◌≡◌, ℕ, ◌-◌, ◌<◌, ◌≤◌, Bool, false, List, [], ◌∷◌, ◌++◌, length, take, Ok, Err, Result, Some, None, Option, slice_index_or}

-- The bit at index i is told, or that there is none.
abbrev pub Told : List Bool → ℕ → Option Bool → Type 0
Told bits i (Some b) = (i < length bits) × (b ≡ slice_index_or bits i false)
Told bits i None = length bits ≤ i

-- A bit is put last; or it is refused, exactly if the count has reached the room.
abbrev pub PutTo : {E : Type 0} → List Bool → ℕ → Bool → List Bool → Result (Unit {0}) E → Type 0
PutTo bits room b after (Ok u) = (length bits < room) × (after ≡ bits ++ b ∷ [])
PutTo bits room b after (Err e) = (room ≤ length bits) × (after ≡ bits)

-- The first n bits are left; or it is refused, exactly if n is above the count.
abbrev pub CutTo : {E : Type 0} → List Bool → ℕ → List Bool → Result (Unit {0}) E → Type 0
CutTo bits n after (Ok u) = (n ≤ length bits) × (after ≡ take n bits)
CutTo bits n after (Err e) = (length bits < n) × (after ≡ bits)

-- Bits are put behind those before; or they are refused, exactly if they do not all fit what is left of the room (none where the count is above it).
abbrev pub Appended : {E : Type 0} → List Bool → ℕ → List Bool → List Bool → Result (Unit {0}) E → Type 0
Appended bits room before after (Ok u) = (length bits ≤ room - length before) × (after ≡ before ++ bits)
Appended bits room before after (Err e) = (room - length before < length bits) × (after ≡ before)
