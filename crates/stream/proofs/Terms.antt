-- Terms that the proofs share: the cell of a place in closed form, which places are found, and what reading makes of a dominant pass.
use Rattle.std.proofs.Common.{◌≡◌, ℕ, zero, suc, ◌^◌, ◌<◌, Bool, true, false, cond, not, ◌&&◌, leb, List, [], ◌∷◌, ◌++◌, length, get_or, take, ℤ, pos}
use Rattle.stream.specs.Numbers.{negative, magnitude_at, low_end}
use Rattle.stream.specs.Passes.{significant, zerotree_root, isolated_zero, Mark, skipped, labelled, Finding, has_children, is_found, is_fresh, due}

-- The finding of a place in the cell of width 2 ^ w that holds its magnitude.
unfoldable pub cell_at : List ℤ → ℕ → ℕ → Finding
cell_at t w p = record { place = p; negated = negative (get_or t p (pos 0)); low = low_end w (magnitude_at t p); width = 2 ^ w }

-- Found are exactly the places of magnitude 2 ^ l and more.
abbrev pub Early : ℕ → List ℤ → ℕ → List Finding → Type 0
Early k t l found = (p : ℕ) → p < 4 ^ k → is_found found p ≡ leb (2 ^ l) (magnitude_at t p)

-- The places below n whose magnitude is at least 2 ^ j and below 2 ^ (j + 1), rising.
unfoldable pub fresh_to : List ℤ → ℕ → ℕ → List ℕ
fresh_to t j zero = []
fresh_to t j (suc n) = fresh_to t j n ++ cond (leb (2 ^ j) (magnitude_at t n) && not (leb (2 ^ suc j) (magnitude_at t n))) (n ∷ []) []

-- A mark obeys the rule of the walk: labelled exactly if a label is due, and a zerotree root has children.
abbrev pub MarkOk : ℕ → ℕ → Bool → Mark → Type 0
MarkOk k p true skipped = ⊥
MarkOk k p true (labelled (significant s)) = Unit {0}
MarkOk k p true (labelled zerotree_root) = has_children k p ≡ true
MarkOk k p true (labelled isolated_zero) = Unit {0}
MarkOk k p false skipped = Unit {0}
MarkOk k p false (labelled l) = ⊥

abbrev pub Coherent : ℕ → List Finding → List Mark → Type 0
Coherent k earlier marks = (p : ℕ) → p < length marks → MarkOk k p (due earlier (take p marks) p) (get_or marks p skipped)

-- A mark says whether its place is significant, and with which sign.
abbrev pub Says : Mark → Bool → Bool → Type 0
Says m true s = m ≡ labelled (significant s)
Says m false s = is_fresh m ≡ false
