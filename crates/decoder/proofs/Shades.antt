-- Which places lie under a zerotree root of the pass: the parent tells, and later marks change nothing.
use Rattle.std.proofs.Common.{◌≡◌, ℕ, zero, suc, ◌/◌, ◌^◌, ◌<◌, ◌≤◌, Bool, true, false, ◌||◌, eqb, List, [], ◌∷◌, ◌++◌, length, get_or, sym, refl, ap, ◌∙◌, inl, inr, arith}
use Rattle.scan.proofs.Division.{descends_by_division, descendant_up, descendant_down}
use Rattle.scan.specs.Tree.{among_quarters, descends}
use Rattle.std.proofs.lemmas.List.{length_push, get_or_append_left, get_or_past}
use Rattle.std.proofs.lemmas.Bool.{or_cases, or_left, or_right, and_parts, and_from, eqb-true, ltb-true, false≢true, cases_lt}
use Rattle.std.proofs.lemmas.Bool.Decides.{same_from_decides}
use Rattle.stream.proofs.Somes.{some_true, some_at, some_none}
use Rattle.stream.specs.Laws.{SideExponent}
use Rattle.stream.specs.Passes.{Mark, skipped, is_root, under_root}

-- Two tests that imply each other are the same.
pub same_test : (x y : Bool) → (x ≡ true → y ≡ true) → (y ≡ true → x ≡ true) → x ≡ y
same_test x y f g = same_from_decides x y (f, g) (λ t. t, λ t. t)

-- An ancestor is an earlier place.
quarters_le : (n a d : ℕ) → among_quarters n a d ≡ true → a ≤ d / 4
unfolding among_quarters
quarters_le zero a d t = absurd (false≢true t)
quarters_le (suc n) a d t = elim (or_cases (eqb (d / 4) a) (among_quarters n a (d / 4)) t) [ inl e ↦ omega (arith, eqb-true (d / 4) a e) | inr r ↦ omega (arith, quarters_le n a (d / 4) r) ]

descends_later : (a d : ℕ) → descends a d ≡ true → a < d
unfolding descends
descends_later a d t = omega (arith, ltb-true 0 d (and_parts _ _ t).0, quarters_le 6 a d (and_parts _ _ t).1)

-- A root above a place, as a place.
pub root_above : (marks : List Mark) (p : ℕ) → under_root marks p ≡ true
    → (a : ℕ) × (a < length marks) × (descends a p ≡ true) × (is_root (get_or marks a skipped) ≡ true)
unfolding under_root
root_above marks p t = let s = some_true (length marks) _ t in (s.0, s.1, (and_parts _ _ s.2).0, (and_parts _ _ s.2).1)

pub under_root_lem : (marks : List Mark) (p a : ℕ) → descends a p ≡ true → is_root (get_or marks a skipped) ≡ true → under_root marks p ≡ true
unfolding under_root
under_root_lem marks p a d r = some_at (length marks) _ a inside (and_from _ _ d r)
  where
    inside : a < length marks
    inside = elim (cases_lt a (length marks)) [ inl h ↦ h | inr h ↦ absurd (false≢true (sym (ap is_root (get_or_past marks a skipped h)) ∙ r)) ]

-- Another mark behind the others changes none of them.
pub mark_before : (marks : List Mark) (m : Mark) (p : ℕ) → (p ≡ length marks → ⊥) → get_or (marks ++ m ∷ []) p skipped ≡ get_or marks p skipped
mark_before marks m p d = elim (cases_lt p (length marks)) [
  | inl h ↦ get_or_append_left marks (m ∷ []) skipped p h
  | inr h ↦ get_or_past (marks ++ m ∷ []) p skipped (omega (arith, length_push marks m)) ∙ sym (get_or_past marks p skipped h)
]

-- It shades no place up to its own.
pub under_more : (marks : List Mark) (m : Mark) (p : ℕ) → p ≤ length marks → under_root (marks ++ m ∷ []) p ≡ under_root marks p
under_more marks m p h = same_test (under_root (marks ++ m ∷ []) p) (under_root marks p)
    (λ t. let s = root_above (marks ++ m ∷ []) p t in let l = descends_later s.0 p s.2 in
    under_root_lem marks p s.0 s.2 (sym (ap is_root (mark_before marks m s.0 (omega arith))) ∙ s.3))
    (λ t. let s = root_above marks p t in
    under_root_lem (marks ++ m ∷ []) p s.0 s.2 (ap is_root (mark_before marks m s.0 (omega (arith, s.1))) ∙ s.3))

-- The first place has no ancestor.
pub under_first : (marks : List Mark) → under_root marks 0 ≡ false
unfolding under_root descends
under_first marks = some_none (length marks) _ (λ a _. refl)

-- A later place lies under a root if its parent is one or lies under one.
pub under_parent : (k : ℕ) (marks : List Mark) (p : ℕ) → SideExponent k → 0 < p → p < 4 ^ k
    → under_root marks p ≡ (under_root marks (p / 4) || is_root (get_or marks (p / 4) skipped))
under_parent k marks p side h l = same_test (under_root marks p) (under_root marks (p / 4) || is_root (get_or marks (p / 4) skipped)) up down
  where
    tree : (a d : ℕ) → d < 4 ^ k → descends a d ≡ true → Rattle.scan.specs.Tree.Descendant k a d
    tree a d u = (descends_by_division k a d side.0 side.1 u).1

    test : (a d : ℕ) → d < 4 ^ k → Rattle.scan.specs.Tree.Descendant k a d → descends a d ≡ true
    test a d u = (descends_by_division k a d side.0 side.1 u).0

    up : under_root marks p ≡ true → (under_root marks (p / 4) || is_root (get_or marks (p / 4) skipped)) ≡ true
    up t = let s = root_above marks p t in elim (descendant_up k s.0 p side.0 (tree s.0 p l s.2)) [
      | inl e ↦ or_right _ _ (ap (λ (q : ℕ). is_root (get_or marks q skipped)) e ∙ s.3)
      | inr d ↦ or_left _ _ (under_root_lem marks (p / 4) s.0 (test s.0 (p / 4) (omega arith) d) s.3)
    ]

    down : (under_root marks (p / 4) || is_root (get_or marks (p / 4) skipped)) ≡ true → under_root marks p ≡ true
    down t = elim (or_cases _ _ t) [
      | inl u ↦ let s = root_above marks (p / 4) u in
          under_root_lem marks p s.0 (test s.0 p l (descendant_down k s.0 p side.0 h l (inr (tree s.0 (p / 4) (omega arith) s.2)))) s.3
      | inr r ↦ under_root_lem marks p (p / 4) (test (p / 4) p l (descendant_down k (p / 4) p side.0 h l (inl refl))) r
    ]
