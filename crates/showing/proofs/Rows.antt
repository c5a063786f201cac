-- Writing a table number by number, row by row.
use Rattle.std.proofs.Common.{◌≡◌, ℕ, zero, suc, ◌+◌, ◌-◌, ◌≤◌, List, [], ◌∷◌, ◌++◌, map, ℤ, sym, ap, ◌∙◌, arith}
use Rattle.showing.specs.Shown.{shown_number, shown_next, shown_row}
use Rattle.std.proofs.lemmas.List.FromFn.{map-range_with_len_more}
use Rattle.std.proofs.lemmas.List.{flat_map_more, append_assoc}
use Rattle.std.specs.List.{range_with_len, flat_map}

-- One more is written, the one counted last.
pub written_more : {X : Type 0} (g : X → List ℕ) (f : ℕ → X) (a n m j : ℕ) → a + n ≡ j → n + 1 ≡ m
    → flat_map g (map f (range_with_len a n)) ++ g (f j) ≡ flat_map g (map f (range_with_len a m))
written_more g f a n m j e s =
    flat_map_more g [] (map f (range_with_len a n)) (f j)
    ∙ ap (flat_map g) (sym (map-range_with_len_more f a n j e) ∙ ap (λ (i : ℕ). map f (range_with_len a i)) s)

-- The first number, the others and the line feed make a row.
pub row_written : (f : ℕ → ℤ) (n j : ℕ) → 1 ≤ n → j ≡ n
    → shown_number (f 0) ++ flat_map shown_next (map f (range_with_len 1 (j - 1))) ++ 10 ∷ [] ≡ shown_row (map f (range_with_len 0 n))
row_written f zero j l e = absurd (omega arith)
row_written f (suc n) j l e = let m : j - 1 ≡ n = omega arith in rw m (simp append_assoc)
