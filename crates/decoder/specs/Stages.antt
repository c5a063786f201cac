-- The stages of reading, and what is still to come at each: the outcome of reading as a function of the bits that are left.
use Rattle.std.specs.Prelude.{ℕ, zero, suc, ◌-◌, ◌^◌, Bool, true, false, List, [], ◌∷◌, ◌++◌, length}
use Rattle.stream.specs.Numbers.{thresholds}
use Rattle.stream.specs.Passes.{Mark, Finding, findings}
use Rattle.stream.specs.Reading.{Dominant, going, ended, leaf_root, next_place, Subordinate, refine_all, after_dominant, after_subordinate, Outcome, heard, go_on, read_passes}

-- A stage of reading at the threshold 2 ^ j. `whole` says that no bit was taken at this threshold, which is not the first one.
pub data Stage : Type 0 where
  -- a dominant pass behind these marks
  walking : ℕ → Bool → List Finding → List Mark → Stage
  -- the same, with the first bit of the next label taken
  halfway : ℕ → List Finding → List Mark → Bool → Stage
  -- a subordinate pass: the found places that are refined, and those that are not
  refining : ℕ → Bool → List Finding → List Finding → Stage
  -- every pass is over
  finished : List Finding → Stage

-- A dominant pass goes on for n more places.
unfoldable pub read_on : ℕ → List Finding → ℕ → Dominant → Dominant
read_on k earlier zero d = d
read_on k earlier (suc n) d = read_on k earlier n (next_place k earlier (place_of d) d)
  where
    place_of : Dominant → ℕ
    place_of (going marks bits) = length marks
    place_of (ended marks) = 0
    place_of (leaf_root rest) = 0

-- What comes of a dominant pass behind these marks, with these bits left.
unfoldable pub from_marks : ℕ → ℕ → ℕ → List Finding → List Mark → List Bool → Outcome
from_marks k count j earlier marks bits =
    go_on (read_passes k count (thresholds 0 j)) (after_dominant k count j earlier (read_on k earlier (4 ^ k - length marks) (going marks bits)))

-- What comes of a subordinate pass.
unfoldable pub from_refined : ℕ → ℕ → ℕ → List Finding → List Finding → List Bool → Outcome
from_refined k count j done left bits = go_on (read_passes k count (thresholds 0 j)) (after_subordinate (behind (refine_all left bits)))
  where
    behind : Subordinate → Subordinate
    behind s = record { found = done ++ s.found; whole = s.whole; rest = s.rest }

-- What reading comes to from a stage on, for a source of `count` bits of which these are left.
unfoldable pub meaning : ℕ → ℕ → Stage → List Bool → Outcome
meaning k count (walking j true earlier marks) [] = heard true (earlier ++ findings j 0 marks)
meaning k count (walking j false earlier marks) [] = from_marks k count j earlier marks []
meaning k count (walking j whole earlier marks) (b ∷ bits) = from_marks k count j earlier marks (b ∷ bits)
meaning k count (halfway j earlier marks first) bits = from_marks k count j earlier marks (first ∷ bits)
meaning k count (refining j true done left) [] = heard true (done ++ left)
meaning k count (refining j false done left) [] = from_refined k count j done left []
meaning k count (refining j whole done left) (b ∷ bits) = from_refined k count j done left (b ∷ bits)
meaning k count (finished found) bits = read_passes k count [] found bits
