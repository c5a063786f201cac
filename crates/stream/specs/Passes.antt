-- The passes of the coder at one threshold T = 2 ^ j: which label stands at which place, which places are found, and how cells are halved.
use Rattle.std.specs.Prelude.{ℕ, zero, suc, ◌+◌, ◌*◌, ◌/◌, ◌^◌, Bool, true, false, cond, not, ◌&&◌, ◌||◌, List, [], ◌∷◌, ◌++◌, length, ℤ, pos, ◌==◌, nat_le, nat_lt, slice_index_or}
use Rattle.scan.specs.Tree.{descends}
use Rattle.stream.specs.Numbers.{negative, magnitude_at}

-- What a dominant pass says of a place: significant, with its sign (true: negative); a zerotree root; an isolated zero.
pub data Label : Type 0 where
  significant : Bool → Label
  zerotree_root : Label
  isolated_zero : Label

-- A place in a dominant pass: passed over, or labelled.
pub data Mark : Type 0 where
  skipped : Mark
  labelled : Label → Mark

-- A found place: its sign, and the low end and the width of its quantization cell.
pub record Finding : Type 0 where
  pub place : ℕ
  pub negated : Bool
  pub low : ℕ
  pub width : ℕ

-- Some number below n passes the test.
unfoldable pub some : ℕ → (ℕ → Bool) → Bool
some zero test = false
some (suc n) test = test n || some n test

-- A place is among those found.
unfoldable pub is_found : List Finding → ℕ → Bool
is_found [] p = false
is_found (x ∷ xs) p = x.place == p || is_found xs p

-- A place has children: place 0 always, and a later place p where 4 * p is a place.
abbrev pub has_children : ℕ → ℕ → Bool
has_children k p = nat_lt (4 * p) (4 ^ k)

abbrev pub is_root : Mark → Bool
is_root skipped = false
is_root (labelled (significant s)) = false
is_root (labelled zerotree_root) = true
is_root (labelled isolated_zero) = false

abbrev pub is_fresh : Mark → Bool
is_fresh skipped = false
is_fresh (labelled (significant s)) = true
is_fresh (labelled zerotree_root) = false
is_fresh (labelled isolated_zero) = false

-- Some ancestor of the place is labelled zerotree root in this pass, by the marks of the places before it.
unfoldable pub under_root : List Mark → ℕ → Bool
under_root marks p = some (length marks) (λ a. descends a p && is_root (slice_index_or marks a skipped))

-- A label is due at the place: it is not among those found in earlier passes, and no ancestor is labelled zerotree root in this pass.
unfoldable pub due : List Finding → List Mark → ℕ → Bool
due earlier marks p = not (is_found earlier p) && not (under_root marks p)

-- A descendant of p that was not found in earlier passes reaches the threshold.
unfoldable pub reached_below : ℕ → List ℤ → ℕ → List Finding → ℕ → Bool
reached_below k t j earlier p = some (4 ^ k) (λ d. descends p d && (nat_le (2 ^ j) (magnitude_at t d) && not (is_found earlier d)))

-- The label that the coder gives a place.
unfoldable pub label_of : ℕ → List ℤ → ℕ → List Finding → ℕ → Label
label_of k t j earlier p =
    cond (nat_le (2 ^ j) (magnitude_at t p)) (significant (negative (slice_index_or t p (pos 0))))
    (cond (has_children k p && not (reached_below k t j earlier p)) zerotree_root isolated_zero)

-- The coder's dominant pass: the marks of the first n places, in scan order.
unfoldable pub marks_to : ℕ → List ℤ → ℕ → List Finding → ℕ → List Mark
marks_to k t j earlier zero = []
marks_to k t j earlier (suc n) = with_next (marks_to k t j earlier n)
  where
    with_next : List Mark → List Mark
    with_next marks = marks ++ cond (due earlier marks n) (labelled (label_of k t j earlier n)) skipped ∷ []

-- The places that a dominant pass finds, in scan order from place p on: each with a cell of low end and width T.
unfoldable pub findings : ℕ → ℕ → List Mark → List Finding
findings j p [] = []
findings j p (skipped ∷ marks) = findings j (suc p) marks
findings j p (labelled (significant s) ∷ marks) = record { place = p; negated = s; low = 2 ^ j; width = 2 ^ j } ∷ findings j (suc p) marks
findings j p (labelled zerotree_root ∷ marks) = findings j (suc p) marks
findings j p (labelled isolated_zero ∷ marks) = findings j (suc p) marks

-- A cell is halved by a subordinate bit: the upper half for 1, the lower half for 0.
unfoldable pub halved : Finding → Bool → Finding
halved x b = record { place = x.place; negated = x.negated; low = x.low + cond b (x.width / 2) 0; width = x.width / 2 }

-- The coder's subordinate bit of a found place: whether the magnitude lies in the upper half of its cell.
unfoldable pub upper : List ℤ → Finding → Bool
upper t x = nat_le (x.low + x.width / 2) (magnitude_at t x.place)
