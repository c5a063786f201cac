-- The found places between passes, in terms of the table alone.
use Rattle.std.proofs.Common.{◌≡◌, ℕ, zero, suc, ◌-◌, ◌^◌, ◌<◌, ◌≤◌, Bool, true, false, not, ◌&&◌, ◌||◌, leb, List, [], ◌∷◌, ◌++◌, map, ℤ, sym, refl, ap, ◌∙◌, arith}
use native.Mathlib.Nat.{pow-succ'}
use Rattle.std.proofs.ByRecursion.{All-append, All-weaker}
use Rattle.std.proofs.lemmas.List.{map-append}
use Rattle.std.proofs.lemmas.Bool.{cond_both, and_parts, leb-true, le-leb}
use Rattle.std.specs.List.{AllByRecursion as All}
use Rattle.stream.specs.Laws.{SideExponent}
use Rattle.stream.specs.Numbers.{magnitude_at, width_after}
use Rattle.stream.specs.Passes.{Finding, is_found, marks_to, findings, halved, upper}
use Rattle.stream.specs.Streams.{refined, found_in, pass_found}
use Rattle.stream.proofs.Cells.{halved_cell_lem}
use Rattle.stream.proofs.Dominant.{findings_fresh, marks_fresh, is_found_append, is_found_findings}
use Rattle.stream.proofs.Terms.{cell_at, Early, fresh_to}

-- A finding of t, in the cell of width 2 ^ w that holds its magnitude, which is at least 2 ^ l.
pub record CellOf (k : ℕ) (t : List ℤ) (w l : ℕ) (x : Finding) : Type 0 where
  pub is : x ≡ cell_at t w x.place
  pub within : x.place < 4 ^ k
  pub reached : 2 ^ l ≤ magnitude_at t x.place

-- Found are exactly the places of magnitude 2 ^ l and more, each in its cell of width 2 ^ w.
pub record State (k : ℕ) (t : List ℤ) (w l : ℕ) (found : List Finding) : Type 0 where
  pub cells : All (CellOf k t w l) found
  pub early : Early k t l found

pub place_cell : (k : ℕ) (t : List ℤ) (w l p : ℕ) → p < 4 ^ k → 2 ^ l ≤ magnitude_at t p → CellOf k t w l (cell_at t w p)
unfolding cell_at
place_cell k t w l p h r = record { is = refl; within = h; reached = r }

fresh_cells : (k : ℕ) (t : List ℤ) (j n : ℕ) → n ≤ 4 ^ k → All (CellOf k t j j) (map (cell_at t j) (fresh_to t j n))
unfolding fresh_to
fresh_cells k t j zero h = tt
fresh_cells k t j (suc n) h =
    rw map-append (All-append (CellOf k t j j) (map (cell_at t j) (fresh_to t j n)) _ (fresh_cells k t j n (omega arith))
    (cond_both _ (n ∷ []) [] (λ ps. All (CellOf k t j j) (map (cell_at t j) ps))
    (λ e. (place_cell k t j j n (omega arith) (leb-true _ _ (and_parts _ _ e).0), tt)) (λ e. tt)))

-- Either found before or fresh.
found_or_fresh : (a b : Bool) → (a ≡ true → b ≡ true) → (a || (b && not a)) ≡ b
found_or_fresh true b h = sym (h refl)
found_or_fresh false true h = refl
found_or_fresh false false h = refl

pub found_in_state : (k : ℕ) (t : List ℤ) (j : ℕ) (earlier : List Finding) → SideExponent k → State k t j (suc j) earlier
    → State k t j j (found_in k t j earlier)
unfolding found_in
found_in_state k t j earlier s st = record { cells = cells; early = early }
  where
    cells : All (CellOf k t j j) (earlier ++ findings j 0 (marks_to k t j earlier (4 ^ k)))
    cells = All-append (CellOf k t j j) earlier _
        (All-weaker (CellOf k t j (suc j)) (CellOf k t j j) (λ x c. record { is = c.is; within = c.within; reached = omega (arith, c.reached, pow-succ' 2 j) }) earlier st.cells)
        (rw (findings_fresh k j t earlier s st.early) (fresh_cells k t j (4 ^ k) (omega arith)))

    early : Early k t j (earlier ++ findings j 0 (marks_to k t j earlier (4 ^ k)))
    early p l =
        rw (is_found_append earlier _ p, is_found_findings j (marks_to k t j earlier (4 ^ k)) p, marks_fresh k j t earlier p s l, st.early p l)
        (found_or_fresh (leb (2 ^ suc j) (magnitude_at t p)) (leb (2 ^ j) (magnitude_at t p)) (λ e. le-leb _ _ (omega (arith, leb-true _ _ e, pow-succ' 2 j))))

pub refined_found : (t : List ℤ) (xs : List Finding) (p : ℕ) → is_found (refined t xs) p ≡ is_found xs p
unfolding is_found refined halved
refined_found t [] p = refl
refined_found t (x ∷ xs) p = rw (refined_found t xs p)

pub refined_state : (k : ℕ) (t : List ℤ) (i l : ℕ) (xs : List Finding) → State k t (suc i) l xs → State k t i l (refined t xs)
unfolding halved refined
refined_state k t i l xs st = record { cells = go xs st.cells; early = λ p h. refined_found t xs p ∙ st.early p h }
  where
    halves : (x : Finding) → CellOf k t (suc i) l x → CellOf k t i l (halved x (upper t x))
    halves x c = record { is = ap (λ y. halved y (upper t y)) c.is ∙ halved_cell_lem t i x.place; within = c.within; reached = c.reached }

    go : (xs : List Finding) → All (CellOf k t (suc i) l) xs → All (CellOf k t i l) (refined t xs)
    go [] h = tt
    go (x ∷ xs) h = (halves x h.0, go xs h.1)

-- From before the passes at a threshold to behind them.
pub pass_state : (k : ℕ) (t : List ℤ) (j : ℕ) (earlier : List Finding) → SideExponent k → State k t j (suc j) earlier
    → State k t (width_after j) j (pass_found k t j earlier)
unfolding pass_found
pass_state k t zero earlier s st = found_in_state k t 0 earlier s st
pass_state k t (suc i) earlier s st =
    let e : suc i - 1 ≡ i = omega arith in
    rw e (refined_state k t i (suc i) _ (found_in_state k t (suc i) earlier s st))
