-- Cutting a list of symbols: what is taken of their bits, the run of whole ones, the threshold of the last.
use Rattle.std.proofs.Common.{◌≡◌, ℕ, zero, suc, ◌-◌, ◌^◌, ◌<◌, ◌≤◌, Bool, true, false, cond, leb, List, [], ◌∷◌, ◌++◌, length, take, drop, ℤ, sym, refl, ap, ◌∙◌, inl, inr, arith, length-append}
use Rattle.std.proofs.Math.Seq.{take-append-add}
use Rattle.std.proofs.ByRecursion.{All-append}
use Rattle.std.proofs.lemmas.List.{append-nil, length-take, take-append-le}
use Rattle.std.proofs.lemmas.Bool.{cases_Bool, cases_lt, le-leb, lt-leb, leb-true, cond-true, cond-false, cond_both}
use Rattle.std.specs.List.{AllByRecursion as All}
use Rattle.stream.specs.Laws.{last_threshold}
use Rattle.stream.specs.Passes.{Label, significant, zerotree_root, isolated_zero, Mark, skipped, labelled, Finding, due, label_of, marks_to}
use Rattle.stream.specs.Reading.{refine_all, going, ended, label_at, next_place, read_to}
use Rattle.stream.specs.Streams.{Symbol, label, refinement, threshold_of, label_bits, symbol_bits, spelled, labels, refinements, refined, found_in, pass_symbols, longest_run}
use Rattle.stream.proofs.Dominant.{read_marks, spelled_append, labels_append}

-- What is taken of two lists, one behind the other, reaches into the second one.
pub take_over {ℓ} : {A : Type ℓ} (n : ℕ) (xs ys : List A) → length xs ≤ n → take n (xs ++ ys) ≡ xs ++ take (n - length xs) ys
take_over n xs ys h = ap (λ m. take m (xs ++ ys)) (omega arith) ∙ take-append-add xs ys (n - length xs)

-- Every symbol has a bit.
some_bit : (s : Symbol) → 1 ≤ length (symbol_bits s)
some_bit (label j p (significant s)) = omega arith
some_bit (label j p zerotree_root) = omega arith
some_bit (label j p isolated_zero) = omega arith
some_bit (refinement j p b) = omega arith

-- Of no bits there is no symbol.
pub run_empty : (room : ℕ) (ss : List Symbol) → length (take room (spelled ss)) ≤ 0 → longest_run room ss ≡ []
unfolding longest_run spelled
run_empty room [] h = refl
run_empty room (s ∷ ss) h =
    cond-false _ _ _ (lt-leb (length (symbol_bits s)) room
    (omega (arith, some_bit s, length-take room (symbol_bits s ++ spelled ss), length-append (symbol_bits s) (spelled ss))))

-- The longest run of symbols that all fit, and of ones that do not.
pub run_over : (room : ℕ) (ss more : List Symbol) → length (spelled ss) ≤ room → longest_run room (ss ++ more) ≡ ss ++ longest_run (room - length (spelled ss)) more
unfolding longest_run spelled
run_over room [] more h = ap (λ m. longest_run m more) (omega arith)
run_over room (s ∷ ss) more h =
    let n = length-append (symbol_bits s) (spelled ss) in
    cond-true _ _ _ (le-leb (length (symbol_bits s)) room (omega arith))
    ∙ ap (s ∷◌) (run_over (room - length (symbol_bits s)) ss more (omega arith) ∙ ap (λ m. ss ++ longest_run m more) (omega arith))

pub run_within : (room : ℕ) (ss more : List Symbol) → room < length (spelled ss) → longest_run room (ss ++ more) ≡ longest_run room ss
unfolding longest_run spelled
run_within room [] more h = absurd (omega arith)
run_within room (s ∷ ss) more h =
    elim (cases_Bool (leb (length (symbol_bits s)) room)) [
      | inl e ↦
          let n = length-append (symbol_bits s) (spelled ss) in
          let l = leb-true (length (symbol_bits s)) room e in
          ap (λ r. cond (leb (length (symbol_bits s)) room) (s ∷ r) []) (run_within (room - length (symbol_bits s)) ss more (omega arith))
      | inr e ↦ cond-false _ _ _ e ∙ sym (cond-false _ _ _ e)
    ]

-- The last threshold of two lists of symbols, one behind the other.
pub last_append : (j : ℕ) (xs ys : List Symbol) → last_threshold j (xs ++ ys) ≡ last_threshold (last_threshold j xs) ys
unfolding last_threshold
last_append j [] ys = refl
last_append j (s ∷ xs) ys = last_append (threshold_of s) xs ys

-- All symbols stand at thresholds not below 2 ^ j, so the last one does.
abbrev pub From : ℕ → List Symbol → Type 0
From j ss = All (λ s. j ≤ threshold_of s) ss

pub last_from : (j i : ℕ) (ss : List Symbol) → From j ss → j ≤ i → j ≤ last_threshold i ss
unfolding last_threshold
last_from j i [] a h = h
last_from j i (s ∷ ss) a h = last_from j (threshold_of s) ss a.1 a.0

pub from_run : (j room : ℕ) (ss : List Symbol) → From j ss → From j (longest_run room ss)
unfolding longest_run
from_run j room [] a = tt
from_run j room (s ∷ ss) a =
    cond_both (leb (length (symbol_bits s)) room) (s ∷ longest_run (room - length (symbol_bits s)) ss) [] (From j)
    (λ e. (a.0, from_run j (room - length (symbol_bits s)) ss a.1)) (λ e. tt)

from_labels : (j p : ℕ) (ms : List Mark) → From j (labels j p ms)
unfolding labels
from_labels j p [] = tt
from_labels j p (skipped ∷ ms) = from_labels j (suc p) ms
from_labels j p (labelled l ∷ ms) = (omega arith, from_labels j (suc p) ms)

from_refinements : (t : List ℤ) (j : ℕ) (xs : List Finding) → From j (refinements t j xs)
unfolding refinements
from_refinements t j [] = tt
from_refinements t j (x ∷ xs) = (omega arith, from_refinements t j xs)

-- All symbols of the passes at one threshold stand at it.
pub from_pass : (k : ℕ) (t : List ℤ) (j : ℕ) (earlier : List Finding) → From j (pass_symbols k t j earlier)
unfolding pass_symbols
from_pass k t zero earlier = from_labels 0 0 (marks_to k t 0 earlier (4 ^ k))
from_pass k t (suc j) earlier =
    All-append (λ s. suc j ≤ threshold_of s) _ _ (from_labels (suc j) 0 (marks_to k t (suc j) earlier (4 ^ k))) (from_refinements t (suc j) (found_in k t (suc j) earlier))

-- A cut subordinate pass refines as many found places as there are bits.
pub refine_some : (t : List ℤ) (j m : ℕ) (xs : List Finding) → m < length xs
    → refine_all xs (take m (spelled (refinements t j xs))) ≡ record { found = refined t (take m xs) ++ drop m xs; whole = false; rest = [] }
unfolding refinements spelled refine_all refined
refine_some t j m [] h = absurd (omega arith)
refine_some t j zero (x ∷ xs) h = refl
refine_some t j (suc m) (x ∷ xs) h = let r = refine_some t j m xs (omega arith) in rw r

-- The bits of a mark: none where no label stands.
abbrev mark_bits : Mark → List Bool
mark_bits skipped = []
mark_bits (labelled l) = label_bits l

next_bits : (j : ℕ) (ms : List Mark) (x : Mark) → spelled (labels j 0 (ms ++ x ∷ [])) ≡ spelled (labels j 0 ms) ++ mark_bits x
unfolding labels spelled
next_bits j ms skipped = rw (labels_append, spelled_append)
next_bits j ms (labelled l) = rw (labels_append, spelled_append) (ap (λ bs. spelled (labels j 0 ms) ++ bs) (append-nil (label_bits l)))

two_bits_lem : (l : Label) → length (label_bits l) ≡ 2
two_bits_lem (significant s) = refl
two_bits_lem zerotree_root = refl
two_bits_lem isolated_zero = refl

-- Half a label is not used.
half_label : (k p r : ℕ) (ms : List Mark) (l : Label) → r < 2 → label_at k p ms (take r (label_bits l)) ≡ ended ms
half_label k p zero ms l h = refl
half_label k p (suc zero) ms (significant s) h = refl
half_label k p (suc zero) ms zerotree_root h = refl
half_label k p (suc zero) ms isolated_zero h = refl
half_label k p (suc (suc r)) ms l h = absurd (omega arith)

next_cut : (k n r : ℕ) (earlier : List Finding) (ms : List Mark) (l : Label) → r < length (mark_bits (cond (due earlier ms n) (labelled l) skipped))
    → next_place k earlier n (going ms (take r (mark_bits (cond (due earlier ms n) (labelled l) skipped)))) ≡ ended ms
unfolding next_place
next_cut k n r earlier ms l h = by (due earlier ms n) h
  where
    by : (b : Bool) → r < length (mark_bits (cond b (labelled l) skipped))
        → cond b (label_at k n ms (take r (mark_bits (cond b (labelled l) skipped)))) (going (ms ++ skipped ∷ []) (take r (mark_bits (cond b (labelled l) skipped)))) ≡ ended ms
    by true h = half_label k n r ms l (omega (arith, two_bits_lem l))
    by false h = absurd (omega arith)

-- A dominant pass whose bits end before its last label does is read as far as some place.
pub cut_marks : (k j : ℕ) (t : List ℤ) (earlier : List Finding) (m n : ℕ) → m < length (spelled (labels j 0 (marks_to k t j earlier n)))
    → (i : ℕ) × (i ≤ n) × (read_to k earlier (take m (spelled (labels j 0 (marks_to k t j earlier n)))) n ≡ ended (marks_to k t j earlier i))
unfolding marks_to read_to next_place labels spelled
cut_marks k j t earlier m zero h = absurd (omega arith)
cut_marks k j t earlier m (suc n) h =
    let ms = marks_to k t j earlier n in
    let bits = spelled (labels j 0 ms) in
    let x = cond (due earlier ms n) (labelled (label_of k t j earlier n)) skipped in
    let e = next_bits j ms x in
    let a = length-append bits (mark_bits x) in
    let step = λ (b : List Bool). next_place k earlier n (read_to k earlier b n) in
    elim (cases_lt m (length bits)) [
      | inl l ↦
          let r = cut_marks k j t earlier m n l in
          (r.0, omega (arith, r.1), ap step (ap (take m) e ∙ take-append-le m bits (mark_bits x) (omega arith)) ∙ ap (next_place k earlier n) r.2)
      | inr l ↦ (
        n,
        omega arith,
        ap step (ap (take m) e ∙ take_over m bits (mark_bits x) l)
            ∙ ap (next_place k earlier n) (read_marks k j t earlier (take (m - length bits) (mark_bits x)) n)
            ∙ next_cut k n (m - length bits) earlier ms (label_of k t j earlier n) (omega (arith, a, ap length e)),
      )
    ]
