-- What a write to one cell leaves: the marks so far, and what the cells tell of each place.
use Rattle.std.proofs.Common.{◌≡◌, ℕ, suc, ◌+◌, ◌<◌, ◌≤◌, Bool, true, ◌||◌, eqb, List, [], ◌∷◌, ◌++◌, map, length, get_or, take, drop, set, sym, refl, ap, ◌∙◌, inl, inr, arith}
use mathlib.Core.Path.{fun_ext}
use Rattle.decoder.specs.Machines.{clear, mark_of, marks_of, finding_of, findings_of, plain}
use Rattle.decoder.specs.declared.cell.Cell.{Cell}
use Rattle.std.proofs.Math.ListN.{get_or-map}
use Rattle.std.proofs.lemmas.List.{get_or-set_same, get_or-set_other, get_or-take, get_or_past, length-map, length-take-le, length-take, length-drop, get_or-drop, map_push, take_more_set, take-set, set_past, map-append, take-take, take-append-drop}
use Rattle.std.proofs.lemmas.Bool.{cases_eq, cases_lt, eqb-true, or_cases, false≢true}
use Rattle.stream.specs.Passes.{Finding, skipped, is_found}

-- The mark of a place that is passed, and of one that is not.
pub mark_at : (n : ℕ) (cells : List Cell) (p : ℕ) → p < n → get_or (marks_of n cells) p skipped ≡ mark_of (get_or cells p clear)
unfolding marks_of
mark_at n cells p h = get_or-map mark_of (take n cells) p clear ∙ ap mark_of (get_or-take n cells p clear h)

pub length_marks : (n : ℕ) (cells : List Cell) → n ≤ length cells → length (marks_of n cells) ≡ n
unfolding marks_of
length_marks n cells h = length-map (take n cells) mark_of ∙ length-take-le n cells h

pub mark_past : (n : ℕ) (cells : List Cell) (p : ℕ) → n ≤ length cells → n ≤ p → get_or (marks_of n cells) p skipped ≡ skipped
mark_past n cells p h past = get_or_past (marks_of n cells) p skipped (omega (arith, length_marks n cells h))

-- One place more is marked.
pub marks_more : (n : ℕ) (cells : List Cell) (c : Cell) → n < length cells → marks_of (n + 1) (set cells n c) ≡ marks_of n cells ++ mark_of c ∷ []
unfolding marks_of
marks_more n cells c h = ap (map mark_of) (take_more_set cells n c h) ∙ map_push mark_of (take n cells) c

-- What a cell tells of its place.
abbrev pub tells : ℕ → Cell → Finding
tells p c = record { place = p; negated = c.negated; low = c.low; width = c.width }

pub told_other : (cells : List Cell) (p : ℕ) (c : Cell) (q : ℕ) → (q ≡ p → ⊥) → finding_of (set cells p c) q ≡ finding_of cells q
told_other cells p c q d = ap (tells q) (get_or-set_other cells p q c clear d)

pub told_there : (cells : List Cell) (p : ℕ) (c : Cell) → p < length cells → finding_of (set cells p c) p ≡ tells p c
told_there cells p c h = ap (tells p) (get_or-set_same cells p c clear h)

-- A write that keeps the quantization cell keeps all that is told.
pub told_kept : (cells : List Cell) (p : ℕ) (c : Cell) → tells p c ≡ finding_of cells p → finding_of (set cells p c) ≡ finding_of cells
told_kept cells p c e = fun_ext (λ q. elim (cases_eq q p) [
  | inl s ↦ rw s (elim (cases_lt p (length cells)) [
    | inl h ↦ told_there cells p c h ∙ e
    | inr h ↦ ap (λ (cs : List Cell). finding_of cs p) (set_past cells p c h)
  ])
  | inr d ↦ told_other cells p c q d
])

-- Heir flags tell nothing of a place.
pub told_plain : (cells after : List Cell) → map plain after ≡ map plain cells → finding_of after ≡ finding_of cells
told_plain cells after e = fun_ext (λ q.
    ap (tells q) (sym (get_or-map plain after q clear) ∙ ap (λ (cs : List Cell). get_or cs q clear) e ∙ get_or-map plain cells q clear))

-- The findings of a list of places depend on these places only.
pub findings_kept : (cells after : List Cell) (places : List ℕ)
    → ((i : ℕ) → i < length places → finding_of after (get_or places i 0) ≡ finding_of cells (get_or places i 0)) → findings_of after places ≡ findings_of cells places
unfolding findings_of
findings_kept cells after [] h = refl
findings_kept cells after (p ∷ places) h = cc (h 0 (omega arith), findings_kept cells after places (λ i l. h (suc i) (omega arith)))

pub findings_told : (cells after : List Cell) (places : List ℕ) → finding_of after ≡ finding_of cells → findings_of after places ≡ findings_of cells places
unfolding findings_of
findings_told cells after places e = ap (λ (f : ℕ → Finding). map f places) e

pub findings_push : (cells : List Cell) (places more : List ℕ) → findings_of cells (places ++ more) ≡ findings_of cells places ++ findings_of cells more
unfolding findings_of
findings_push cells places more = map-append (finding_of cells) places more

-- Which places are listed does not depend on the cells.
pub listed_kept : (cells after : List Cell) (places : List ℕ) (p : ℕ) → is_found (findings_of after places) p ≡ is_found (findings_of cells places) p
unfolding findings_of is_found
listed_kept cells after [] p = refl
listed_kept cells after (q ∷ places) p = ap (λ (b : Bool). eqb q p || b) (listed_kept cells after places p)

-- A listed place is one of the list.
pub listed_where : (cells : List Cell) (places : List ℕ) (p : ℕ) → is_found (findings_of cells places) p ≡ true → (i : ℕ) × (i < length places) × (get_or places i 0 ≡ p)
unfolding findings_of is_found
listed_where cells [] p t = absurd (false≢true t)
listed_where cells (q ∷ places) p t = elim (or_cases _ _ t) [
  | inl e ↦ (0, omega arith, eqb-true q p e)
  | inr r ↦ let s = listed_where cells places p r in (suc s.0, omega arith, s.2)
]

-- An item of a part of a list.
pub item_part : (found : List ℕ) (n m i : ℕ) → i < length (drop n (take m found)) → (get_or (drop n (take m found)) i 0 ≡ get_or found (n + i) 0) × (n + i < m)
item_part found n m i h =
    let l : n + i < m = omega (arith, length-drop n (take m found), length-take m found) in
    (get_or-drop n (take m found) i 0 ∙ get_or-take m found (n + i) 0 l, l)

-- The findings of a part of the list stand where those of each of its places do.
pub findings_part : (cells after : List Cell) (found : List ℕ) (n m : ℕ)
    → ((i : ℕ) → n ≤ i → i < m → finding_of after (get_or found i 0) ≡ finding_of cells (get_or found i 0))
    → findings_of after (drop n (take m found)) ≡ findings_of cells (drop n (take m found))
findings_part cells after found n m h = findings_kept cells after (drop n (take m found)) (λ i l.
    let s = item_part found n m i l in rw s.0 (h (n + i) (omega arith) s.1))

-- A write behind the marks.
pub marks_kept : (n : ℕ) (cells : List Cell) (c : Cell) → marks_of n (set cells n c) ≡ marks_of n cells
unfolding marks_of
marks_kept n cells c = ap (map mark_of) (take-set cells n c)

-- The first n of a front and the others make the front.
pub split_front : (found : List ℕ) (n m : ℕ) → n ≤ m → take n found ++ drop n (take m found) ≡ take m found
split_front found n m h =
    ap (λ (ps : List ℕ). ps ++ drop n (take m found)) (sym (take-take n m found h)) ∙ take-append-drop n (take m found)
