-- The tree over the places of a table with 4 ^ k places.
use Rattle.std.specs.Prelude.{◌≡◌, ℕ, zero, suc, ◌+◌, ◌*◌, ◌/◌, ◌^◌, ◌<◌, ◌≤◌, Bool, true, false, ◌&&◌, ◌||◌, ◌⊎◌, ◌↔◌, ◌==◌, nat_lt}

-- c is a child of p. Place 0 has the children 1, 2 and 3; a later place p has 4 * p to 4 * p + 3 if they lie in the
-- table, else none.
abbrev pub Child : ℕ → ℕ → ℕ → Type 0
Child k p c =
    ((p ≡ 0) × (1 ≤ c) × (c ≤ 3)) ⊎ ((1 ≤ p) × (4 * p < 4 ^ k) × (4 * p ≤ c) × (c ≤ 4 * p + 3))

-- Some place is a child of p.
abbrev pub HasChildren : ℕ → ℕ → Type 0
HasChildren k p = (c : ℕ) × Child k p c

-- d is a descendant of a: a child, or a child of a descendant.
pub data Descendant (k a : ℕ) : ℕ → Type 0 where
  direct : {d : ℕ} → Child k a d → Descendant k a d
  deeper : {p d : ℕ} → Descendant k a p → Child k p d → Descendant k a d

-- a is among the first n of d / 4, d / 16, d / 64, ..
unfoldable pub among_quarters : ℕ → ℕ → ℕ → Bool
among_quarters zero a d = false
among_quarters (suc n) a d = d / 4 == a || among_quarters n a (d / 4)

-- d is not the root, and a is among d / 4, d / 16, d / 64, .. ; at a place below 4,096 the sixth of them is 0.
unfoldable pub descends : ℕ → ℕ → Bool
descends a d = nat_lt 0 d && among_quarters 6 a d

-- The children of p are the later places of the table whose quarter, rounded down, is p.
abbrev pub ChildByDivision : Type 0
ChildByDivision = (k p c : ℕ) → 1 ≤ k → Child k p c ↔ ((1 ≤ c) × (c < 4 ^ k) × (c / 4 ≡ p))

-- The places that have children are the first quarter of the table.
abbrev pub HasChildrenByDivision : Type 0
HasChildrenByDivision = (k p : ℕ) → 1 ≤ k → HasChildren k p ↔ (p < 4 ^ k / 4)

-- In a table of at most 4,096 places, `descends` tells the descendants.
abbrev pub DescendsByDivision : Type 0
DescendsByDivision = (k a d : ℕ) → 1 ≤ k → k ≤ 6 → d < 4 ^ k → Descendant k a d ↔ (descends a d ≡ true)
