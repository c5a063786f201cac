-- A preview of the first bits of a stream is near the table: which places are found at each cut, and in which cells.
use Rattle.std.proofs.Common.{◌≡◌, ℕ, zero, suc, ◌+◌, ◌-◌, ◌^◌, ◌<◌, ◌≤◌, Bool, true, false, not, ◌||◌, leb, List, [], ◌∷◌, ◌++◌, length, get_or, take, drop, ℤ, pos, sym, refl, ap, ◌∙◌, inl, inr, arith, length-append}
use native.Mathlib.Nat.{pow-succ'}
use Rattle.std.proofs.lemmas.List.FromFn.{get_or-map-range_with_len}
use Rattle.std.proofs.ByRecursion.{All-weaker}
use Rattle.std.proofs.lemmas.List.{append_assoc, length-take, nil_from_length, take-append-drop, take-append-le}
use Rattle.std.proofs.lemmas.Bool.{cases_lt, cond-false, lt-leb, leb-true, leb-false, or_left, or_parts}
use Rattle.std.specs.List.{AllByRecursion as All}
use Rattle.stream.specs.Laws.{SideExponent, Near, last_threshold, PreviewBound}
use Rattle.stream.specs.Numbers.{Table, middle, magnitude_at, level, thresholds}
use Rattle.stream.specs.Passes.{Finding, is_found, marks_to, findings, halved, upper}
use Rattle.stream.specs.Reading.{cut, Outcome, heard, is_none, after_subordinate, after_labels, after_dominant, go_on, read_pass, read_passes, heard_at, numbers_heard, previewed}
use Rattle.stream.specs.Streams.{Symbol, spelled, labels, refinements, refined, found_in, pass_symbols, pass_found, passes, symbols, header, level_told, stream, longest_run}
use Rattle.stream.proofs.Cells.{halved_cell_lem, length_refinements}
use Rattle.stream.proofs.Cuts.{take_over, run_over, run_within, run_empty, last_append, last_from, from_run, from_pass, refine_some, cut_marks}
use Rattle.stream.proofs.Dominant.{read_marks, no_missed, spelled_append, findings_append, is_found_append}
use Rattle.stream.proofs.Header.{length_header, reading_header}
use Rattle.stream.proofs.Levels.{thresholds_append, levels}
use Rattle.stream.proofs.Likeness.{half_of}
use Rattle.stream.proofs.Marks.{take_marks}
use Rattle.stream.proofs.Nearness.{near_coarser, Cell, cells_near}
use Rattle.stream.proofs.RoundTrip.{Reached, reached_found, pass_over, level_reached, start_state}
use Rattle.stream.proofs.Shapes.{all_parts}
use Rattle.stream.proofs.States.{CellOf, State, found_in_state, refined_found, pass_state}
use Rattle.stream.proofs.Terms.{cell_at, Early}

-- All that is heard is near at the threshold 2 ^ j.
abbrev AllNear : ℕ → List ℤ → ℕ → List Finding → Type 0
AllNear k t j found = (p : ℕ) → p < 4 ^ k → Near j (get_or t p (pos 0)) (heard_at middle found p)

-- ---- What is found, near

cells_within : (k : ℕ) (t : List ℤ) (w l j : ℕ) (xs : List Finding) → w ≤ j → All (CellOf k t w l) xs → All (Cell t j) xs
cells_within k t w l j xs h a = All-weaker (CellOf k t w l) (Cell t j) (λ x c. (w, h, c.is)) xs a

-- Found are the places that reach the threshold.
early_near : (k j : ℕ) (t : List ℤ) (found : List Finding) → All (Cell t j) found → Early k t j found → AllNear k t j found
early_near k j t found a e =
    cells_near k j t found a
    (λ p h f. leb-true _ _ (sym (e p h) ∙ f))
    (λ p h f. omega (arith, leb-false _ _ (sym (e p h) ∙ f), pow-succ' 2 j))

-- Between passes.
state_near : (k l : ℕ) (t : List ℤ) (found : List Finding) → State k t (l - 1) l found → AllNear k t (l - 1) found
state_near k zero t found s = early_near k 0 t found (cells_within k t 0 0 0 found (omega arith) s.cells) s.early
state_near k (suc j) t found s =
    rw (half_of j) (cells_near k j t found (cells_within k t (suc j - 1) (suc j) j found (omega arith) s.cells)
    (λ p h f. omega (arith, leb-true (2 ^ suc j) (magnitude_at t p) (sym (s.early p h) ∙ f), pow-succ' 2 j))
    (λ p h f. leb-false _ _ (sym (s.early p h) ∙ f)))

-- The places found up to one place are the first of those found up to a later one.
findings_front : (k j : ℕ) (t : List ℤ) (earlier : List Finding) (i n : ℕ) → i ≤ n
    → (more : List Finding) × (findings j 0 (marks_to k t j earlier n) ≡ findings j 0 (marks_to k t j earlier i) ++ more)
findings_front k j t earlier i n h =
    let ms = marks_to k t j earlier n in
    let last = drop i ms in (
      findings j (0 + length (marks_to k t j earlier i)) last,
      ap (findings j 0) (sym (take-append-drop i ms) ∙ ap (λ xs. xs ++ last) (take_marks k j t earlier i n h)) ∙ findings_append j 0 (marks_to k t j earlier i) last,
    )

-- A dominant pass that is cut.
dominant_near : (k j : ℕ) (t : List ℤ) (earlier : List Finding) (i : ℕ) → SideExponent k → State k t j (suc j) earlier → i ≤ 4 ^ k
    → AllNear k t j (earlier ++ findings j 0 (marks_to k t j earlier i))
unfolding found_in
dominant_near k j t earlier i side s h =
    let r = found_in_state k t j earlier side s in
    let f = findings_front k j t earlier i (4 ^ k) h in
    let found = earlier ++ findings j 0 (marks_to k t j earlier i) in
    let whole : found_in k t j earlier ≡ found ++ f.0 =
    ap (λ ys. earlier ++ ys) f.1 ∙ sym (append_assoc earlier (findings j 0 (marks_to k t j earlier i)) f.0) in
    cells_near k j t found
    (all_parts (Cell t j) found f.0 (rw whole at (cells_within k t j j j (found_in k t j earlier) (omega arith) r.cells))).0
    (λ p l g. leb-true _ _ (sym (r.early p l) ∙ ap (λ xs. is_found xs p) whole ∙ is_found_append found f.0 p ∙ or_left _ _ g))
    (λ p l g. leb-false _ _ (sym (s.early p l) ∙ (or_parts _ _ (sym (is_found_append earlier _ p) ∙ g)).0))

-- A subordinate pass that is cut: the first cells are halved.
some_halved : (t : List ℤ) (j m : ℕ) (xs : List Finding) → All (λ x. x ≡ cell_at t (suc j) x.place) xs → All (Cell t (suc j)) (refined t (take m xs) ++ drop m xs)
unfolding refined halved
some_halved t j zero [] a = tt
some_halved t j zero (x ∷ xs) a = ((suc j, omega arith, a.0), some_halved t j zero xs a.1)
some_halved t j (suc m) [] a = tt
some_halved t j (suc m) (x ∷ xs) a = ((j, omega arith, ap (λ y. halved y (upper t y)) a.0 ∙ halved_cell_lem t j x.place), some_halved t j m xs a.1)

subordinate_near : (k j m : ℕ) (t : List ℤ) (xs : List Finding) → State k t (suc j) (suc j) xs → AllNear k t (suc j) (refined t (take m xs) ++ drop m xs)
subordinate_near k j m t xs s =
    early_near k (suc j) t (refined t (take m xs) ++ drop m xs)
    (some_halved t j m xs (All-weaker (CellOf k t (suc j) (suc j)) (λ x. x ≡ cell_at t (suc j) x.place) (λ x c. c.is) xs s.cells))
    (λ p h. is_found_append (refined t (take m xs)) (drop m xs) p
    ∙ ap (λ b. b || is_found (drop m xs) p) (refined_found t (take m xs) p)
    ∙ sym (is_found_append (take m xs) (drop m xs) p)
    ∙ ap (λ ys. is_found ys p) (take-append-drop m xs)
    ∙ s.early p h)

-- ---- Reading the passes at one threshold

-- Behind the labels of a whole dominant pass.
labels_over : (k count j : ℕ) (t : List ℤ) (earlier : List Finding) (bits : List Bool) → SideExponent k → is_none (found_in k t j earlier) ≡ false
    → read_pass k count j earlier (spelled (labels j 0 (marks_to k t j earlier (4 ^ k))) ++ bits) ≡ after_labels j (found_in k t j earlier) bits
unfolding read_pass found_in
labels_over k count j t earlier bits side some =
    ap (after_dominant k count j earlier) (read_marks k j t earlier bits (4 ^ k)) ∙ cond-false _ _ _ some ∙ cond-false _ _ _ (no_missed k j t earlier side)

-- Bits that end in a dominant pass, or in the subordinate one, are heard near at the threshold.
labels_cut : (k count j m : ℕ) (t : List ℤ) (earlier : List Finding) → SideExponent k → State k t j (suc j) earlier
    → m < length (spelled (labels j 0 (marks_to k t j earlier (4 ^ k))))
    → (found : List Finding) × (read_pass k count j earlier (take m (spelled (labels j 0 (marks_to k t j earlier (4 ^ k))))) ≡ cut found) × AllNear k t j found
unfolding read_pass
labels_cut k count j m t earlier side s h =
    let r = cut_marks k j t earlier m (4 ^ k) h in
    (earlier ++ findings j 0 (marks_to k t j earlier r.0), ap (after_dominant k count j earlier) r.2, dominant_near k j t earlier r.0 side s r.1)

pass_cut : (k count j m : ℕ) (t : List ℤ) (earlier : List Finding) → SideExponent k → State k t j (suc j) earlier → Reached k t j
    → m < length (spelled (pass_symbols k t j earlier))
    → (found : List Finding) × (read_pass k count j earlier (take m (spelled (pass_symbols k t j earlier))) ≡ cut found) × AllNear k t j found
unfolding pass_symbols
pass_cut k count zero m t earlier side s reached h = labels_cut k count 0 m t earlier side s h
pass_cut k count (suc j) m t earlier side s reached h =
    let xs = found_in k t (suc j) earlier in
    let r = found_in_state k t (suc j) earlier side s in
    let dominant = labels (suc j) 0 (marks_to k t (suc j) earlier (4 ^ k)) in
    let subordinate = refinements t (suc j) xs in
    let e = spelled_append dominant subordinate in
    elim (cases_lt m (length (spelled dominant))) [
      | inl l ↦
          let c = labels_cut k count (suc j) m t earlier side s l in
          (c.0, ap (read_pass k count (suc j) earlier) (ap (take m) e ∙ take-append-le m (spelled dominant) (spelled subordinate) (omega arith)) ∙ c.1, c.2)
      | inr l ↦
          let n = m - length (spelled dominant) in (
            refined t (take n xs) ++ drop n xs,
            ap (read_pass k count (suc j) earlier) (ap (take m) e ∙ take_over m (spelled dominant) (spelled subordinate) l)
                ∙ labels_over k count (suc j) t earlier (take n (spelled subordinate)) side (reached_found k t (suc j) (suc j) xs r reached)
                ∙ ap after_subordinate (refine_some t (suc j) n xs (omega (arith, ap length e, length-append (spelled dominant) (spelled subordinate), length_refinements t (suc j) xs))),
            subordinate_near k j n t xs r,
          )
    ]

-- ---- Reading on from threshold to threshold

read_none : (k count : ℕ) (js : List ℕ) (earlier : List Finding) → (w : Bool) × (read_passes k count js earlier [] ≡ heard w earlier)
unfolding read_passes
read_none k count [] earlier = (true, refl)
read_none k count (j ∷ js) earlier = (not (is_none earlier), refl)

read_next : (k count j : ℕ) (js : List ℕ) (earlier : List Finding) (bits : List Bool) → 0 < length bits
    → read_passes k count (j ∷ js) earlier bits ≡ go_on (read_passes k count js) (read_pass k count j earlier bits)
unfolding read_passes
read_next k count j js earlier [] h = absurd (omega arith)
read_next k count j js earlier (b ∷ bits) h = refl

-- What reading comes to: near at the threshold of the last whole symbol, or at another one if there is none.
record Heard (k : ℕ) (t : List ℤ) (i : ℕ) (outcome : Outcome) : Type 0 where
  whole : Bool
  found : List Finding
  is : outcome ≡ heard whole found
  near : AllNear k t i found

-- There are no more bits.
heard_nothing : (k count l m i : ℕ) (t : List ℤ) (earlier : List Finding) (js : List ℕ) (ss : List Symbol) → State k t (l - 1) l earlier → l - 1 ≤ i
    → length (take m (spelled ss)) ≤ 0 → Heard k t (last_threshold i (longest_run m ss)) (read_passes k count js earlier (take m (spelled ss)))
unfolding last_threshold
heard_nothing k count l m i t earlier js ss s h e =
    let r = read_none k count js earlier in
    rw (run_empty m ss e, nil_from_length (take m (spelled ss)) (omega arith))
    (record { whole = r.0; found = earlier; is = r.1; near = λ p g. near_coarser (l - 1) i _ _ h (state_near k l t earlier s p g) })

-- The bits end in the passes at one threshold, or later.
pass_heard : (k count j m i : ℕ) (t : List ℤ) (earlier : List Finding) (js : List ℕ) (rest : List Symbol) → SideExponent k
    → State k t j (suc j) earlier → Reached k t j → j ≤ i → 0 < length (take m (spelled (pass_symbols k t j earlier ++ rest)))
    → ((n i : ℕ) → j - 1 ≤ i → Heard k t (last_threshold i (longest_run n rest)) (read_passes k count js (pass_found k t j earlier) (take n (spelled rest))))
    → Heard k t (last_threshold i (longest_run m (pass_symbols k t j earlier ++ rest))) (read_passes k count (j ∷ js) earlier (take m (spelled (pass_symbols k t j earlier ++ rest))))
pass_heard k count j m i t earlier js rest side s reached h bit later =
    let ss = pass_symbols k t j earlier in
    let on = go_on (read_passes k count js) in
    let step = λ (bits : List Bool). on (read_pass k count j earlier bits) in
    let e = spelled_append ss rest in
    let first = read_next k count j js earlier (take m (spelled (ss ++ rest))) bit in
    elim (cases_lt m (length (spelled ss))) [
      | inl l ↦
          let c = pass_cut k count j m t earlier side s reached l in
          let last : j ≤ last_threshold i (longest_run m (ss ++ rest)) =
          rw (run_within m ss rest l) (last_from j i (longest_run m ss) (from_run j m ss (from_pass k t j earlier)) h) in
          record {
            whole = false;
            found = c.0;
            is = first ∙ ap step (ap (take m) e ∙ take-append-le m (spelled ss) (spelled rest) (omega arith)) ∙ ap on c.1;
            near = λ p g. near_coarser j _ _ _ last (c.2 p g);
          }
      | inr l ↦
          let n = m - length (spelled ss) in
          let some = reached_found k t j j (found_in k t j earlier) (found_in_state k t j earlier side s) reached in
          let r = later n (last_threshold i ss) (omega (arith, last_from j i ss (from_pass k t j earlier) h)) in
          record {
            whole = r.whole;
            found = r.found;
            is = first ∙ ap step (ap (take m) e ∙ take_over m (spelled ss) (spelled rest) l) ∙ ap on (pass_over k count j t earlier (take n (spelled rest)) side some) ∙ r.is;
            near = λ p g. rw (run_over m ss rest l, last_append i ss (longest_run n rest)) (r.near p g);
          }
    ]

-- The first m bits of the passes at the n thresholds down to f are read, with more thresholds below.
passes_heard : (k count f n m i : ℕ) (t : List ℤ) (earlier : List Finding) (more : List ℕ) → SideExponent k
    → State k t (f + n - 1) (f + n) earlier → ((j : ℕ) → j < f + n → Reached k t j) → f + n - 1 ≤ i
    → Heard k t (last_threshold i (longest_run m (passes k t (thresholds f n) earlier)))
    (read_passes k count (thresholds f n ++ more) earlier (take m (spelled (passes k t (thresholds f n) earlier))))
unfolding passes thresholds spelled
passes_heard k count f zero m i t earlier more side s reached h = heard_nothing k count (f + 0) m i t earlier more [] s h (omega (arith, length-take m (spelled [])))
passes_heard k count f (suc n) m i t earlier more side s reached h =
    let e : f + suc n ≡ suc (f + n) = omega arith in
    let st : State k t (f + n) (suc (f + n)) earlier = rw (e, half_of (f + n)) at s in
    let rest = passes k t (thresholds f n) (pass_found k t (f + n) earlier) in
    elim (cases_lt 0 (length (take m (spelled (pass_symbols k t (f + n) earlier ++ rest))))) [
      | inl l ↦ pass_heard k count (f + n) m i t earlier (thresholds f n ++ more) rest side st (reached (f + n) (omega arith)) (omega arith) l
          (λ q i g. passes_heard k count f n q i t (pass_found k t (f + n) earlier) more side (pass_state k t (f + n) earlier side st) (λ j l. reached j (omega arith)) g)
      | inr l ↦ heard_nothing k count (f + suc n) m i t earlier ((f + n) ∷ (thresholds f n ++ more)) (pass_symbols k t (f + n) earlier ++ rest) s h l
    ]

-- ---- Whole streams

-- The header and the bits behind it.
stream_cut : (k f n : ℕ) (t : List ℤ) → f < level t → 7 ≤ n → take n (stream k f t) ≡ header k (level t) ++ take (n - 7) (spelled (symbols k f t))
unfolding stream level_told
stream_cut k f n t h seven =
    let told = cond-false (leb (level t) f) 0 (level t) (lt-leb _ _ h) in
    let w = length_header k (level t) in
    ap (λ l. take n (header k l ++ spelled (symbols k f t))) told
    ∙ take_over n (header k (level t)) (spelled (symbols k f t)) (omega arith)
    ∙ ap (λ m. header k (level t) ++ take (n - m) (spelled (symbols k f t))) w

-- What is read of them.
stream_heard : (k f m count : ℕ) (t : List ℤ) → SideExponent k → Table k t → f < level t
    → Heard k t (last_threshold (level t - 1) (longest_run m (symbols k f t))) (read_passes k count (thresholds 0 (level t)) [] (take m (spelled (symbols k f t))))
unfolding symbols
stream_heard k f m count t side table h =
    let n = level t - f in
    let e : f + n ≡ level t = omega arith in
    let whole : level t ≡ n + f = omega arith in
    let none : 0 + f ≡ f = omega arith in
    rw (ap (thresholds 0) whole ∙ thresholds_append 0 f n ∙ ap (λ g. thresholds g n ++ thresholds 0 f) none)
    (passes_heard k count f n m (level t - 1) t [] (thresholds 0 f) side
    (start_state k t (f + n - 1) (f + n) table (omega arith)) (λ j l. level_reached k t j table (omega arith)) (omega arith))

pub preview_bound : PreviewBound
unfolding previewed numbers_heard
preview_bound k f n t side floor table h seven =
    let bits = take (n - 7) (spelled (symbols k f t)) in
    let r = stream_heard k f (n - 7) (length (header k (level t) ++ bits)) t side table h in (
      numbers_heard middle k r.found,
      rw (stream_cut k f n t h seven, reading_header k (level t) bits (omega arith) (omega (arith, (levels k t table).0)), r.is),
      λ p l. rw (get_or-map-range_with_len (heard_at middle r.found) 0 (4 ^ k) p p (pos 0) l (omega arith)) (r.near p l),
    )
