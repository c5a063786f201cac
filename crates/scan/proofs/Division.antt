-- Children and descendants by division.
use Rattle.std.proofs.Common.{◌≡◌, ℕ, zero, suc, ◌+◌, ◌*◌, ◌/◌, ◌^◌, ◌<◌, ◌≤◌, true, ◌⊎◌, sym, inl, inr, arith}
use native.Mathlib.Nat.{one-le-pow, pow-succ', pow-le-pow_right}
use Rattle.std.proofs.lemmas.Bool.{cases_lt, eq-eqb, eqb-true, lt-ltb, ltb-true, and_from, and_parts, or_cases, or_left, or_right, false≢true}
use Rattle.std.proofs.lemmas.Nat.{mul-pow}
use Rattle.scan.specs.Tree.{Child, Descendant, among_quarters, descends, ChildByDivision, HasChildrenByDivision, DescendsByDivision}
use Rattle.scan.specs.Tree.Descendant.{direct, deeper}

-- A table has its places by fours.
pub fourfold : (k : ℕ) → 1 ≤ k → (q : ℕ) × (1 ≤ q) × (4 ^ k ≡ 4 * q)
fourfold zero h = absurd (omega arith)
fourfold (suc k) h = (4 ^ k, one-le-pow k 4 (omega arith), pow-succ' 4 k)

-- A table has at most 4,096 places.
pub places_most_lem : (k : ℕ) → k ≤ 6 → 4 ^ k ≤ 4096
places_most_lem k h = pow-le-pow_right {n = 4} (omega arith) h

-- The places of a table are its rows times their places.
pub places_by_rows : (k : ℕ) → 2 ^ k * 2 ^ k ≡ 4 ^ k
places_by_rows k = sym (mul-pow 2 2 k)

-- Child by quarter, and back.
pub child_by_division : ChildByDivision
child_by_division k p c h = let q = fourfold k h in (λ s. omega arith, from)
  where
    from : (1 ≤ c) × (c < 4 ^ k) × (c / 4 ≡ p) → Child k p c
    from s = elim (cases_lt 0 p) [ inl later ↦ inr (omega arith) | inr first ↦ inl (omega arith) ]

-- The last of the children is 4 * p + 3, also where p is 0.
pub has_children_by_division : HasChildrenByDivision
has_children_by_division k p h =
    let q = fourfold k h in
    (λ s. omega (arith, (child_by_division k p s.0 h).0 s.1), λ l. (4 * p + 3, (child_by_division k p (4 * p + 3) h).1 (omega arith)))

-- The descendants of a place are later places of the table.
pub descendant_later : (k a d : ℕ) → 1 ≤ k → Descendant k a d → (a < d) × (d < 4 ^ k)
descendant_later k a d h (direct s) = omega (arith, (child_by_division k a d h).0 s)
descendant_later k a d h (deeper {p} t s) =
    omega (arith, (child_by_division k p d h).0 s, descendant_later k a p h t)

-- The parent of a descendant is the place itself or a descendant too.
pub descendant_up : (k a d : ℕ) → 1 ≤ k → Descendant k a d → (d / 4 ≡ a) ⊎ Descendant k a (d / 4)
descendant_up k a d h (direct s) = inl ((child_by_division k a d h).0 s).2
descendant_up k a d h (deeper {p} t s) = inr (rw ((child_by_division k p d h).0 s).2 t)

-- And the other way round.
pub descendant_down : (k a d : ℕ) → 1 ≤ k → 1 ≤ d → d < 4 ^ k → (d / 4 ≡ a) ⊎ Descendant k a (d / 4) → Descendant k a d
descendant_down k a d h l u (inl e) = direct ((child_by_division k a d h).1 (l, u, e))
descendant_down k a d h l u (inr t) = deeper t ((child_by_division k (d / 4) d h).1 (l, u, omega arith))

-- A descendant of a descendant is one.
pub descendant_trans : (k a b d : ℕ) → Descendant k a b → Descendant k b d → Descendant k a d
descendant_trans k a b d s (direct t) = deeper s t
descendant_trans k a b d s (deeper {p} t u) = deeper (descendant_trans k a b p s t) u

-- A descendant is found among as many quarters as it has base-4 digits.
found : (k a d n : ℕ) → 1 ≤ k → d < 4 ^ n → Descendant k a d → among_quarters n a d ≡ true
unfolding among_quarters
found k a d zero h u s = absurd (omega (arith, descendant_later k a d h s))
found k a d (suc n) h u s =
    elim (descendant_up k a d h s) [
      | inl e ↦ or_left _ _ (eq-eqb (d / 4) a e)
      | inr t ↦ or_right _ _ (found k a (d / 4) n h (omega (arith, pow-succ' 4 n)) t)
    ]

-- All quarters of 0 are 0.
quarters_zero : (n a : ℕ) → among_quarters n a 0 ≡ true → a ≡ 0
unfolding among_quarters
quarters_zero zero a t = absurd (false≢true t)
quarters_zero (suc n) a t =
    elim (or_cases _ _ t) [ inl e ↦ sym (eqb-true 0 a e) | inr u ↦ quarters_zero n a u ]

-- What is found among the quarters is a descendant.
from_found : (k a d n : ℕ) → 1 ≤ k → 1 ≤ d → d < 4 ^ k → among_quarters n a d ≡ true → Descendant k a d
unfolding among_quarters
from_found k a d zero h l u t = absurd (false≢true t)
from_found k a d (suc n) h l u t =
    descendant_down k a d h l u (
    elim (or_cases _ _ t) [
      | inl e ↦ inl (eqb-true (d / 4) a e)
      | inr s ↦ elim (cases_lt 0 (d / 4)) [
        | inl later ↦ inr (from_found k a (d / 4) n h later (omega arith) s)
        | inr first ↦ let e : d / 4 ≡ 0 = omega arith in inl (omega (arith, quarters_zero n a (rw e at s)))
      ]
    ])

-- The two together, at six quarters.
pub descends_by_division : DescendsByDivision
unfolding descends
descends_by_division k a d h six u = (
  λ s. and_from _ _ (lt-ltb 0 d (omega (arith, descendant_later k a d h s))) (found k a d 6 h (omega (arith, places_most_lem k six)) s),
  λ t. from_found k a d 6 h (ltb-true 0 d (and_parts _ _ t).0) u (and_parts _ _ t).1,
)
