-- Reading any list of bits: what is heard of its whole symbols, or which fault comes instead.
use Rattle.std.specs.Prelude.{ℕ, zero, suc, ◌+◌, ◌-◌, ◌^◌, Bool, true, false, cond, not, ◌&&◌, List, [], ◌∷◌, ◌++◌, map, length, take, drop, ℤ, pos, Ok, Err, Result, ◌==◌, nat_lt, slice_index_or}
use Rattle.scan.specs.Tree.{descends}
use Rattle.std.specs.List.{range_with_len}
use Rattle.stream.specs.declared.fault.StreamFault.{StreamFault}
use Rattle.stream.specs.declared.fault.StreamFault.TheVariants.{HeaderCut, OtherSide, RootAtLeaf, NothingFound, MissedRoot, BitsAfterEnd, PassCut}
use Rattle.stream.specs.Numbers.{Placement, signed, thresholds}
use Rattle.stream.specs.Passes.{Label, significant, zerotree_root, isolated_zero, Mark, skipped, labelled, Finding, has_children, is_fresh, some, due, findings, halved}

-- The label that two bits spell.
abbrev pub label_read : Bool → Bool → Label
label_read true s = significant s
label_read false true = zerotree_root
label_read false false = isolated_zero

-- A dominant pass being read, after some places: their marks and the bits left; or the bits ended; or a zerotree root stood at a childless place.
pub data Dominant : Type 0 where
  going : List Mark → List Bool → Dominant
  ended : List Mark → Dominant
  leaf_root : List Bool → Dominant

-- A label read at place p.
abbrev pub with_label : ℕ → ℕ → List Mark → Label → List Bool → Dominant
with_label k p marks (significant s) rest = going (marks ++ labelled (significant s) ∷ []) rest
with_label k p marks zerotree_root rest = cond (has_children k p) (going (marks ++ labelled zerotree_root ∷ []) rest) (leaf_root rest)
with_label k p marks isolated_zero rest = going (marks ++ labelled isolated_zero ∷ []) rest

-- Two bits are read for a label; half a label is not used.
abbrev pub label_at : ℕ → ℕ → List Mark → List Bool → Dominant
label_at k p marks [] = ended marks
label_at k p marks (a ∷ []) = ended marks
label_at k p marks (a ∷ b ∷ rest) = with_label k p marks (label_read a b) rest

-- The next place: passed over, or a label is read.
unfoldable pub next_place : ℕ → List Finding → ℕ → Dominant → Dominant
next_place k earlier p (going marks bits) = cond (due earlier marks p) (label_at k p marks bits) (going (marks ++ skipped ∷ []) bits)
next_place k earlier p (ended marks) = ended marks
next_place k earlier p (leaf_root rest) = leaf_root rest

-- The dominant pass after the first n places.
unfoldable pub read_to : ℕ → List Finding → List Bool → ℕ → Dominant
read_to k earlier bits zero = going [] bits
read_to k earlier bits (suc n) = next_place k earlier n (read_to k earlier bits n)

-- An isolated zero with children has no descendant found in this pass.
unfoldable pub has_missed_root : ℕ → List Mark → Bool
has_missed_root k marks = some (4 ^ k) (λ p. is_zero (slice_index_or marks p skipped) && (has_children k p && not (some (4 ^ k) (λ d. descends p d && is_fresh (slice_index_or marks d skipped)))))
  where
    is_zero : Mark → Bool
    is_zero skipped = false
    is_zero (labelled (significant s)) = false
    is_zero (labelled zerotree_root) = false
    is_zero (labelled isolated_zero) = true

-- A subordinate pass being read: the found places refined so far with all others as they were, and whether all were refined; the bits left.
pub record Subordinate : Type 0 where
  pub found : List Finding
  pub whole : Bool
  pub rest : List Bool

unfoldable pub refine_all : List Finding → List Bool → Subordinate
refine_all [] bits = record { found = []; whole = true; rest = bits }
refine_all (x ∷ xs) [] = record { found = x ∷ xs; whole = false; rest = [] }
refine_all (x ∷ xs) (b ∷ bits) = behind (halved x b) (refine_all xs bits)
  where
    behind : Finding → Subordinate → Subordinate
    behind y s = record { found = y ∷ s.found; whole = s.whole; rest = s.rest }

-- The passes at one threshold, read: over, with the found places and the bits left; or the bits ended in them; or a fault.
pub data Pass : Type 0 where
  over : List Finding → List Bool → Pass
  cut : List Finding → Pass
  faulty : StreamFault → Pass

abbrev pub is_none : List Finding → Bool
is_none [] = true
is_none (x ∷ xs) = false

abbrev pub after_subordinate : Subordinate → Pass
after_subordinate s = cond s.whole (over s.found s.rest) (cut s.found)

-- After the last label: there is no subordinate pass at the threshold 1.
abbrev pub after_labels : ℕ → List Finding → List Bool → Pass
after_labels zero found bits = over found bits
after_labels (suc j) found bits = after_subordinate (refine_all found bits)

-- After the dominant pass. `count` is the count of the source's bits, so the bits taken are those that are not left. Only in the first pass can
-- nothing be found at its end.
abbrev pub after_dominant : ℕ → ℕ → ℕ → List Finding → Dominant → Pass
after_dominant k count j earlier (ended marks) = cut (earlier ++ findings j 0 marks)
after_dominant k count j earlier (leaf_root rest) = faulty (RootAtLeaf (count - length rest))
after_dominant k count j earlier (going marks rest) =
    cond (is_none (earlier ++ findings j 0 marks)) (faulty (NothingFound (count - length rest)))
    (cond (has_missed_root k marks) (faulty (MissedRoot (count - length rest)))
    (after_labels j (earlier ++ findings j 0 marks) rest))

unfoldable pub read_pass : ℕ → ℕ → ℕ → List Finding → List Bool → Pass
read_pass k count j earlier bits = after_dominant k count j earlier (read_to k earlier bits (4 ^ k))

-- What reading comes to: a fault; or the found places at the source's end, and whether it ends where a full stream can end.
pub data Outcome : Type 0 where
  refused : StreamFault → Outcome
  heard : Bool → List Finding → Outcome

-- Reading goes on behind the passes at one threshold.
abbrev pub go_on : (List Finding → List Bool → Outcome) → Pass → Outcome
go_on next (over found rest) = next found rest
go_on next (cut found) = heard false found
go_on next (faulty fault) = refused fault

-- The passes at these thresholds are read, from these found places on. A full stream can end before each threshold but the first.
unfoldable pub read_passes : ℕ → ℕ → List ℕ → List Finding → List Bool → Outcome
read_passes k count [] earlier [] = heard true earlier
read_passes k count [] earlier (b ∷ bits) = refused (BitsAfterEnd (count - length (b ∷ bits)))
read_passes k count (j ∷ js) earlier [] = heard (not (is_none earlier)) earlier
read_passes k count (j ∷ js) earlier (b ∷ bits) = go_on (read_passes k count js) (read_pass k count j earlier (b ∷ bits))

-- The number that a list of binary digits spells, highest first.
unfoldable pub spells : List Bool → ℕ
spells [] = 0
spells (b ∷ bs) = cond b (2 ^ length bs) 0 + spells bs

-- A source of these bits is read into a table of side exponent k.
unfoldable pub reading : ℕ → List Bool → Outcome
reading k bits =
    cond (nat_lt (length bits) 7) (refused (HeaderCut (length bits)))
    (cond (spells (take 3 bits) == k)
    (read_passes k (length bits) (thresholds 0 (spells (take 4 (drop 3 bits)))) [] (drop 7 bits))
    (refused OtherSide))

-- The number heard at a place: 0 where nothing is found.
unfoldable pub heard_at : Placement → List Finding → ℕ → ℤ
heard_at place [] p = pos 0
heard_at place (x ∷ xs) p = cond (x.place == p) (signed x.negated (place x.low x.width)) (heard_at place xs p)

-- The numbers heard, for each place of the table.
unfoldable pub numbers_heard : Placement → ℕ → List Finding → List ℤ
numbers_heard place k found = map (heard_at place found) (range_with_len 0 (4 ^ k))

-- What a preview hears of these bits.
unfoldable pub previewed : Placement → ℕ → List Bool → Result (List ℤ) StreamFault
previewed place k bits = told (reading k bits)
  where
    told : Outcome → Result (List ℤ) StreamFault
    told (refused fault) = Err fault
    told (heard whole found) = Ok (numbers_heard place k found)

-- What a load holds of these bits: it also refuses a source that ends where no full stream can.
unfoldable pub loaded : Placement → ℕ → List Bool → Result (List ℤ) StreamFault
loaded place k bits = told (reading k bits)
  where
    told : Outcome → Result (List ℤ) StreamFault
    told (refused fault) = Err fault
    told (heard true found) = Ok (numbers_heard place k found)
    told (heard false found) = Err (PassCut (length bits))
