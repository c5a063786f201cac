-- A rule of a table, proved at all of its entries by one test that antt computes.
use Rattle.std.proofs.Common.{◌≡◌, ℕ, zero, suc, ◌+◌, ◌<◌, Bool, true, ◌&&◌, eqb, List, [], ◌∷◌, length, get_or, ap, ◌∙◌, arith}
use Rattle.std.proofs.lemmas.Bool.{and_parts, eqb-true}

-- The entries are the rule's numbers, counted from i.
unfoldable pub follows : (ℕ → ℕ) → ℕ → List ℕ → Bool
follows rule i [] = true
follows rule i (x ∷ xs) = eqb x (rule i) && follows rule (suc i) xs

-- What such a test says of an entry, counted from i,
entry_from : (rule : ℕ → ℕ) (xs : List ℕ) (i : ℕ) → follows rule i xs ≡ true → (k : ℕ) → k < length xs → get_or xs k 0 ≡ rule (i + k)
unfolding follows
entry_from rule [] i t k h = absurd (omega arith)
entry_from rule (x ∷ xs) i t zero h = eqb-true x (rule i) (and_parts _ _ t).0 ∙ ap rule (omega arith)
entry_from rule (x ∷ xs) i t (suc k) h = entry_from rule xs (suc i) (and_parts _ _ t).1 k (omega arith) ∙ ap rule (omega arith)

-- and from 0.
pub entry : (rule : ℕ → ℕ) (xs : List ℕ) → follows rule 0 xs ≡ true → (k : ℕ) → k < length xs → get_or xs k 0 ≡ rule k
entry rule xs t k h = entry_from rule xs 0 t k h ∙ ap rule (omega arith)
