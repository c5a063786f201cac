-- Levels, thresholds, and the family of a place.
use Rattle.std.proofs.Common.{◌≡◌, ℕ, zero, suc, ◌+◌, ◌*◌, ◌/◌, ◌^◌, ◌<◌, ◌≤◌, leb, ◌↔◌, List, [], ◌∷◌, ◌++◌, length, ℤ, nat_abs, refl, inl, inr, arith}
use native.Mathlib.Nat.{pow-le-pow_right, one-le-pow}
use Rattle.std.proofs.lemmas.Bool.{cases_lt, leb-true, leb-false, lt-ltb, ltb-true, cond_both}
use Rattle.scan.proofs.Division.{fourfold, has_children_by_division, descends_by_division}
use Rattle.stream.specs.Numbers.{Table, magnitude_at, largest, bit_length, level, thresholds}
use Rattle.stream.specs.Laws.{Levels, Family}

-- No magnitude is above the largest.
pub largest_bound : (t : List ℤ) (p : ℕ) → magnitude_at t p ≤ largest t
unfolding largest
largest_bound [] p = omega arith
largest_bound (c ∷ cs) zero = omega arith
largest_bound (c ∷ cs) (suc p) = omega (arith, largest_bound cs p)

-- The largest is the magnitude at some place, unless it is 0.
pub largest_at : (t : List ℤ) → 1 ≤ largest t → (p : ℕ) × (p < length t) × (magnitude_at t p ≡ largest t)
unfolding largest
largest_at [] h = absurd (omega arith)
largest_at (c ∷ cs) h =
    elim (cases_lt (nat_abs c) (largest cs)) [
      | inl l ↦ let r = largest_at cs (omega arith) in (suc r.0, omega arith, omega arith)
      | inr l ↦ (0, omega arith, omega arith)
    ]

-- A run of thresholds is one run after another.
pub thresholds_append : (f n m : ℕ) → thresholds f (m + n) ≡ thresholds (f + n) m ++ thresholds f n
unfolding thresholds
thresholds_append f n zero = let e : 0 + n ≡ n = omega arith in rw e refl
thresholds_append f n (suc m) =
    let e : suc m + n ≡ suc (m + n) = omega arith in
    let g : f + (m + n) ≡ f + n + m = omega arith in
    rw (e, thresholds, g, thresholds_append f n m) refl

bit_length_most : (m n : ℕ) → bit_length m n ≤ m
unfolding bit_length
bit_length_most zero n = omega arith
bit_length_most (suc j) n = cond_both (leb (2 ^ j) n) (suc j) (bit_length j n) (λ x. x ≤ suc j) (λ e. omega arith) (λ e. omega (arith, bit_length_most j n))

-- A power of two is at most n exactly if its exponent is below the bit length.
bit_length_tells : (m n j : ℕ) → n < 2 ^ m → (2 ^ j ≤ n) ↔ (j < bit_length m n)
unfolding bit_length
bit_length_tells zero n j h = (λ l. absurd (omega (arith, one-le-pow j 2 (omega arith))), λ l. absurd (omega arith))
bit_length_tells (suc m) n j h =
    cond_both (leb (2 ^ m) n) (suc m) (bit_length m n) (λ x. (2 ^ j ≤ n) ↔ (j < x))
    (λ e. (λ l. below (omega arith), λ l. omega (arith, leb-true _ _ e, pow-le-pow_right {n = 2} (omega arith) (le j m (omega arith)))))
    (λ e. bit_length_tells m n j (leb-false _ _ e))
  where
    le : (a b : ℕ) → a < suc b → a ≤ b
    le a b l = omega arith

    below : 2 ^ j < 2 ^ suc m → j < suc m
    below l = elim (cases_lt j (suc m)) [ inl s ↦ s | inr s ↦ absurd (omega (arith, pow-le-pow_right {n = 2} (omega arith) s)) ]

-- The largest magnitude of a table is in range.
pub largest_range : (k : ℕ) (t : List ℤ) → Table k t → largest t < 2 ^ 15
largest_range k t h =
    elim (cases_lt 0 (largest t)) [ inl l ↦ let r = largest_at t l in omega (arith, h.range r.0, r.2) | inr l ↦ omega arith ]

pub levels : Levels
unfolding level
levels k t h = (bit_length_most 15 (largest t), λ j. bit_length_tells 15 (largest t) j (largest_range k t h))

pub family : Family
family k p h = (
  (λ e. (has_children_by_division k p h.0).1 (quarter (ltb-true _ _ e)), λ s. lt-ltb _ _ (fourth ((has_children_by_division k p h.0).0 s))),
  λ d l. ((descends_by_division k p d h.0 h.1 l).1, (descends_by_division k p d h.0 h.1 l).0),
)
  where
    quarter : 4 * p < 4 ^ k → p < 4 ^ k / 4
    quarter l = let q = fourfold k h.0 in omega arith

    fourth : p < 4 ^ k / 4 → 4 * p < 4 ^ k
    fourth l = let q = fourfold k h.0 in omega arith
