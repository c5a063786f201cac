-- Cells in closed form: a subordinate pass takes each cell to the cell of half the width that holds the magnitude.
use Rattle.std.proofs.Common.{◌≡◌, ℕ, zero, suc, ◌+◌, ◌*◌, ◌/◌, ◌%◌, ◌^◌, ◌<◌, ◌≤◌, Bool, true, cond, leb, ◌⊎◌, List, [], ◌∷◌, ◌++◌, map, length, get_or, ℤ, pos, sym, refl, ap, ◌∙◌, inl, inr, mul_assoc, mul-add, mul_left_comm, add-one, arith}
use native.Mathlib.Nat.{pow-succ', div-add-mod}
use Rattle.std.proofs.lemmas.Nat.{pow_pos, shr-shr, mod_below}
use Rattle.std.proofs.lemmas.Bool.{le-leb, lt-leb}
use Rattle.stream.specs.Numbers.{negative, magnitude_at, low_end}
use Rattle.stream.specs.Passes.{Finding, is_found, halved, upper}
use Rattle.stream.specs.Streams.{refinements, refined, spelled}
use Rattle.stream.specs.Reading.{refine_all}
use Rattle.stream.proofs.Terms.{cell_at}

-- Half the width, and twice the parts.
pub half : (j : ℕ) → 2 ^ suc j / 2 ≡ 2 ^ j
half j = omega (arith, pow-succ' 2 j)

pub twice : (j q : ℕ) → 2 ^ suc j * q ≡ 2 ^ j * (2 * q)
twice j q = ap (λ x. x * q) (pow-succ' 2 j) ∙ mul_assoc 2 (2 ^ j) q ∙ mul_left_comm 2 (2 ^ j) q

-- The cell of a number holds it.
pub cell_holds : (w n : ℕ) → (low_end w n ≤ n) × (n < low_end w n + 2 ^ w)
cell_holds w n = omega (arith, div-add-mod n (2 ^ w), mod_below n (2 ^ w) (pow_pos w))

-- A cell is the lower or the upper half of the cell of twice the width.
pub low_halves : (j n : ℕ) → (low_end j n ≡ low_end (suc j) n) ⊎ (low_end j n ≡ low_end (suc j) n + 2 ^ j)
low_halves j n = which (n / 2 ^ j % 2) refl
  where
    q : ℕ
    q = n / 2 ^ suc j

    quarter : n / 2 ^ j / 2 ≡ q
    quarter = shr-shr n j 1 ∙ ap (λ x. n / 2 ^ x) (add-one j)

    which : (b : ℕ) → n / 2 ^ j % 2 ≡ b → (low_end j n ≡ low_end (suc j) n) ⊎ (low_end j n ≡ low_end (suc j) n + 2 ^ j)
    which zero e =
        let s : n / 2 ^ j ≡ 2 * q = omega (arith, quarter) in
        inl (ap (λ x. 2 ^ j * x) s ∙ sym (twice j q))
    which (suc zero) e =
        let s : n / 2 ^ j ≡ 2 * q + 1 = omega (arith, quarter) in
        inr (omega (arith, ap (λ x. 2 ^ j * x) s, mul-add (2 ^ j) (2 * q) 1, twice j q))
    which (suc (suc b)) e = absurd (omega arith)

-- The half that the subordinate bit names.
half_low : (j n : ℕ) → low_end (suc j) n + cond (leb (low_end (suc j) n + 2 ^ j) n) (2 ^ j) 0 ≡ low_end j n
half_low j n = elim (low_halves j n) [ inl e ↦ lower e | inr e ↦ higher e ]
  where
    lower : low_end j n ≡ low_end (suc j) n → low_end (suc j) n + cond (leb (low_end (suc j) n + 2 ^ j) n) (2 ^ j) 0 ≡ low_end j n
    lower e = rw (lt-leb (low_end (suc j) n + 2 ^ j) n (omega (arith, cell_holds j n))) (omega arith)

    higher : low_end j n ≡ low_end (suc j) n + 2 ^ j → low_end (suc j) n + cond (leb (low_end (suc j) n + 2 ^ j) n) (2 ^ j) 0 ≡ low_end j n
    higher e = rw (le-leb (low_end (suc j) n + 2 ^ j) n (omega (arith, cell_holds j n))) (omega arith)

pub halved_cell_lem : (t : List ℤ) (j p : ℕ) → halved (cell_at t (suc j) p) (upper t (cell_at t (suc j) p)) ≡ cell_at t j p
unfolding cell_at halved upper
halved_cell_lem t j p = rw (half j) (ap (λ x. record { place = p; negated = negative (get_or t p (pos 0)); low = x; width = 2 ^ j }) (half_low j (magnitude_at t p)))

pub refined_cells : (t : List ℤ) (j : ℕ) (ps : List ℕ) → refined t (map (cell_at t (suc j)) ps) ≡ map (cell_at t j) ps
unfolding refined
refined_cells t j [] = refl
refined_cells t j (p ∷ ps) = rw (halved_cell_lem t j p, refined_cells t j ps)

-- Each found place has one subordinate bit.
pub length_refinements : (t : List ℤ) (j : ℕ) (xs : List Finding) → length (spelled (refinements t j xs)) ≡ length xs
unfolding refinements spelled
length_refinements t j [] = refl
length_refinements t j (x ∷ xs) = ap suc (length_refinements t j xs)

pub refine_all_lem : (t : List ℤ) (j : ℕ) (xs : List Finding) (rest : List Bool)
    → refine_all xs (spelled (refinements t j xs) ++ rest) ≡ record { found = refined t xs; whole = true; rest = rest }
unfolding refine_all refinements refined spelled
refine_all_lem t j [] rest = refl
refine_all_lem t j (x ∷ xs) rest = rw (refine_all_lem t j xs rest)

-- Which places are found does not depend on the width of the cells.
pub cells_found : (t : List ℤ) (w v : ℕ) (ps : List ℕ) (p : ℕ) → is_found (map (cell_at t w) ps) p ≡ is_found (map (cell_at t v) ps) p
unfolding is_found cell_at
cells_found t w v [] p = refl
cells_found t w v (q ∷ ps) p = rw (cells_found t w v ps p)
