-- What is heard of cells is near the numbers: the middle of a cell lies at most half the width from what the cell holds.
use Rattle.std.proofs.Common.{◌≡◌, ℕ, suc, ◌^◌, ◌<◌, ◌≤◌, true, false, eqb, List, [], ◌∷◌, get_or, ℤ, pos, nat_abs, sym, refl, ap, ◌∙◌, inl, inr, arith}
use native.Mathlib.Nat.{pow-le-pow_right, pow-succ'}
use Rattle.std.proofs.lemmas.Bool.{cases_Bool, cond-true, cond-false, eqb-true, or_parts, both_ways}
use Rattle.std.specs.List.{AllByRecursion as All}
use Rattle.stream.specs.Laws.{Near}
use Rattle.stream.specs.Numbers.{Placement, middle, negative, signed, magnitude_at, low_end}
use Rattle.stream.specs.Passes.{Finding, is_found}
use Rattle.stream.specs.Reading.{heard_at}
use Rattle.stream.proofs.Cells.{cell_holds}
use Rattle.stream.proofs.Likeness.{unsigned_abs_signed, negative_signed, distance}
use Rattle.stream.proofs.Terms.{cell_at}

-- Nearness is kept at a coarser threshold.
pub near_coarser : (j i : ℕ) (c v : ℤ) → j ≤ i → Near j c v → Near i c v
near_coarser j i c v h n = by (pow-le-pow_right {n = 2} (omega arith) h) n
  where
    by : 2 ^ j ≤ 2 ^ i → Near j c v → Near i c v
    by h (inl l) = inl (l.0, omega (arith, pow-succ' 2 j, pow-succ' 2 i))
    by h (inr s) = inr (s.0, omega arith)

-- A cell that holds a number of its width or more does not begin at 0.
low_positive : (w n : ℕ) → 2 ^ w ≤ n → 1 ≤ low_end w n
low_positive w n h = omega (arith, cell_holds w n)

-- The middle of the cell of a number.
pub near_middle : (w j : ℕ) (c : ℤ) → w ≤ j → 2 ^ w ≤ nat_abs c → Near j c (signed (negative c) (middle (low_end w (nat_abs c)) (2 ^ w)))
near_middle w j c h l =
    let m = middle (low_end w (nat_abs c)) (2 ^ w) in
    let one : 1 ≤ m = omega (arith, cell_holds w (nat_abs c)) in
    let a = unsigned_abs_signed (negative c) m in
    let s = negative_signed (negative c) m one in
    inr (
      (omega arith, omega arith, s),
      omega (arith, a, distance c (signed (negative c) m) (sym s), cell_holds w (nat_abs c), pow-le-pow_right {n = 2} (omega arith) h),
    )

-- A finding in closed form, of a width of at most 2 ^ j.
abbrev pub Cell : List ℤ → ℕ → Finding → Type 0
Cell t j x = (w : ℕ) × (w ≤ j) × (x ≡ cell_at t w x.place)

pub heard_none : (place : Placement) (found : List Finding) (p : ℕ) → is_found found p ≡ false → heard_at place found p ≡ pos 0
unfolding is_found heard_at
heard_none place [] p h = refl
heard_none place (x ∷ xs) p h = let s = or_parts _ _ h in cond-false _ _ _ s.0 ∙ heard_none place xs p s.1

heard_cell : (t : List ℤ) (j : ℕ) (found : List Finding) (p : ℕ) → All (Cell t j) found → is_found found p ≡ true
    → (w : ℕ) × (w ≤ j) × (heard_at middle found p ≡ signed (negative (get_or t p (pos 0))) (middle (low_end w (magnitude_at t p)) (2 ^ w)))
unfolding is_found heard_at cell_at
heard_cell t j [] p a h = absurd (both_ways false refl h)
heard_cell t j (x ∷ xs) p a h =
    elim (cases_Bool (eqb x.place p)) [
      | inl e ↦ (
        a.0.0,
        a.0.1,
        cond-true _ _ _ e
            ∙ ap (λ (y : Finding). signed y.negated (middle y.low y.width)) a.0.2
            ∙ ap (λ q. signed (negative (get_or t q (pos 0))) (middle (low_end a.0.0 (magnitude_at t q)) (2 ^ a.0.0))) (eqb-true x.place p e),
      )
      | inr e ↦ let r = heard_cell t j xs p a.1 (rw e at h) in (r.0, r.1, cond-false _ _ _ e ∙ r.2)
    ]

-- All that is heard is near, if the found places have cells of at most the threshold's width and reach the threshold, and the others lie below twice
-- the threshold.
pub cells_near : (k j : ℕ) (t : List ℤ) (found : List Finding) → All (Cell t j) found
    → ((p : ℕ) → p < 4 ^ k → is_found found p ≡ true → 2 ^ j ≤ magnitude_at t p)
    → ((p : ℕ) → p < 4 ^ k → is_found found p ≡ false → magnitude_at t p < 2 ^ suc j)
    → (p : ℕ) → p < 4 ^ k → Near j (get_or t p (pos 0)) (heard_at middle found p)
cells_near k j t found a high low p h =
    elim (cases_Bool (is_found found p)) [
      | inl e ↦ let r = heard_cell t j found p a e in
          rw r.2 (near_middle r.0 j (get_or t p (pos 0)) r.1 (omega (arith, high p h e, pow-le-pow_right {n = 2} (omega arith) r.1)))
      | inr e ↦ inl (heard_none middle found p e, low p h e)
    ]
