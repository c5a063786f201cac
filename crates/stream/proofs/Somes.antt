-- What `some` says of a test: true is a witness, false is a rule for all.
use Rattle.std.proofs.Common.{◌≡◌, ℕ, zero, suc, ◌<◌, Bool, true, false, inl, inr, arith}
use Rattle.std.proofs.lemmas.Bool.{cases_Bool, cases_eq, or_cases, or_parts, or_left, or_right, both_ways, false≢true}
use Rattle.stream.specs.Passes.{some}

-- Where some number passes the test, there is one.
pub some_true : (n : ℕ) (f : ℕ → Bool) → some n f ≡ true → (i : ℕ) × (i < n) × (f i ≡ true)
unfolding some
some_true zero f h = absurd (false≢true h)
some_true (suc n) f h =
    elim (or_cases _ _ h) [
      | inl e ↦ (n, omega arith, e)
      | inr r ↦ let s = some_true n f r in (s.0, omega arith, s.2)
    ]

-- One that passes is enough.
pub some_at : (n : ℕ) (f : ℕ → Bool) (i : ℕ) → i < n → f i ≡ true → some n f ≡ true
unfolding some
some_at zero f i h t = absurd (omega arith)
some_at (suc n) f i h t =
    elim (cases_eq i n) [
      | inl e ↦ or_left _ _ (rw e at t)
      | inr d ↦ or_right _ _ (some_at n f i (omega arith) t)
    ]

-- Where none passes, each fails.
pub some_false : (n : ℕ) (f : ℕ → Bool) → some n f ≡ false → (i : ℕ) → i < n → f i ≡ false
unfolding some
some_false zero f h i l = absurd (omega arith)
some_false (suc n) f h i l =
    elim (cases_eq i n) [
      | inl e ↦ rw e (or_parts _ _ h).0
      | inr d ↦ some_false n f (or_parts _ _ h).1 i (omega arith)
    ]

-- And the other way round.
pub some_none : (n : ℕ) (f : ℕ → Bool) → ((i : ℕ) → i < n → f i ≡ false) → some n f ≡ false
some_none n f h = elim (cases_Bool (some n f)) [
  | inl t ↦ let s = some_true n f t in absurd (both_ways _ (h s.0 s.1) s.2)
  | inr e ↦ e
]
