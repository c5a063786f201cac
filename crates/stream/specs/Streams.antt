-- The stream of a table at a floor: a header, and the symbols of its passes spelled in bits.
use Rattle.std.specs.Prelude.{ℕ, zero, suc, ◌-◌, ◌/◌, ◌%◌, ◌^◌, Bool, true, false, cond, List, [], ◌∷◌, ◌++◌, length, ℤ, ◌==◌, nat_le}
use Rattle.stream.specs.Numbers.{level, thresholds}
use Rattle.stream.specs.Passes.{Label, significant, zerotree_root, isolated_zero, Mark, skipped, labelled, Finding, marks_to, findings, halved, upper}

-- A symbol of a pass at the threshold 2 ^ j: the label of a place, or the subordinate bit of a found place.
pub data Symbol : Type 0 where
  label : ℕ → ℕ → Label → Symbol
  refinement : ℕ → ℕ → Bool → Symbol

-- The exponent of the threshold in whose passes a symbol stands.
abbrev pub threshold_of : Symbol → ℕ
threshold_of (label j p l) = j
threshold_of (refinement j p b) = j

-- How a label is spelled: isolated zero 00, zerotree root 01, significant positive 10, significant negative 11.
abbrev pub label_bits : Label → List Bool
label_bits isolated_zero = false ∷ false ∷ []
label_bits zerotree_root = false ∷ true ∷ []
label_bits (significant s) = true ∷ s ∷ []

abbrev pub symbol_bits : Symbol → List Bool
symbol_bits (label j p l) = label_bits l
symbol_bits (refinement j p b) = b ∷ []

-- The bits of a list of symbols.
unfoldable pub spelled : List Symbol → List Bool
spelled [] = []
spelled (s ∷ ss) = symbol_bits s ++ spelled ss

-- The labels of a dominant pass, from place p on.
unfoldable pub labels : ℕ → ℕ → List Mark → List Symbol
labels j p [] = []
labels j p (skipped ∷ marks) = labels j (suc p) marks
labels j p (labelled l ∷ marks) = label j p l ∷ labels j (suc p) marks

-- The subordinate bits of the found places, in the order of finding.
unfoldable pub refinements : List ℤ → ℕ → List Finding → List Symbol
refinements t j [] = []
refinements t j (x ∷ xs) = refinement j x.place (upper t x) ∷ refinements t j xs

-- The found places after the subordinate pass.
unfoldable pub refined : List ℤ → List Finding → List Finding
refined t [] = []
refined t (x ∷ xs) = halved x (upper t x) ∷ refined t xs

-- The found places after the dominant pass at the threshold 2 ^ j.
unfoldable pub found_in : ℕ → List ℤ → ℕ → List Finding → List Finding
found_in k t j earlier = earlier ++ findings j 0 (marks_to k t j earlier (4 ^ k))

-- The symbols of the passes at one threshold, and the found places after them. There is no subordinate pass at the threshold 1.
unfoldable pub pass_symbols : ℕ → List ℤ → ℕ → List Finding → List Symbol
pass_symbols k t zero earlier = labels 0 0 (marks_to k t 0 earlier (4 ^ k))
pass_symbols k t (suc j) earlier =
    labels (suc j) 0 (marks_to k t (suc j) earlier (4 ^ k)) ++ refinements t (suc j) (found_in k t (suc j) earlier)

unfoldable pub pass_found : ℕ → List ℤ → ℕ → List Finding → List Finding
pass_found k t zero earlier = found_in k t 0 earlier
pass_found k t (suc j) earlier = refined t (found_in k t (suc j) earlier)

-- The symbols of the passes at these thresholds, from these found places on.
unfoldable pub passes : ℕ → List ℤ → List ℕ → List Finding → List Symbol
passes k t [] earlier = []
passes k t (j ∷ js) earlier = pass_symbols k t j earlier ++ passes k t js (pass_found k t j earlier)

-- The symbols of a table at the floor 2 ^ f: of the passes at the thresholds from the top down to the floor, none if the floor is above the top.
unfoldable pub symbols : ℕ → ℕ → List ℤ → List Symbol
symbols k f t = passes k t (thresholds f (level t - f)) []

-- The lowest w binary digits of n, highest first.
unfoldable pub binary : ℕ → ℕ → List Bool
binary zero n = []
binary (suc w) n = (n / 2 ^ w % 2 == 1) ∷ binary w n

-- The header: three bits for the side exponent and four for the level, highest first.
unfoldable pub header : ℕ → ℕ → List Bool
header k l = binary 3 k ++ binary 4 l

-- The level that the header tells: 0 if the floor is above the top.
unfoldable pub level_told : ℕ → List ℤ → ℕ
level_told f t = cond (nat_le (level t) f) 0 (level t)

-- The stream of a table at the floor 2 ^ f.
unfoldable pub stream : ℕ → ℕ → List ℤ → List Bool
stream k f t = header k (level_told f t) ++ spelled (symbols k f t)

-- The longest run of whole symbols, from the first on, that fits so many bits.
unfoldable pub longest_run : ℕ → List Symbol → List Symbol
longest_run room [] = []
longest_run room (s ∷ ss) =
    cond (nat_le (length (symbol_bits s)) room) (s ∷ longest_run (room - length (symbol_bits s)) ss) []
