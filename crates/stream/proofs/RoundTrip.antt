-- What a coder writes is read back, pass by pass.
use Rattle.std.proofs.Common.{◌≡◌, ℕ, zero, suc, ◌+◌, ◌-◌, ◌^◌, ◌<◌, ◌≤◌, Bool, true, false, cond, eqb, leb, List, [], ◌∷◌, ◌++◌, map, length, get_or, ℤ, pos, Ok, sym, refl, ap, ◌∙◌, subst, inl, inr, arith}
use Rattle.std.proofs.lemmas.Nat.{pow_pos}
use Rattle.std.proofs.lemmas.List.FromFn.{length-map-range_with_len, get_or-map-range_with_len}
use Rattle.std.proofs.lemmas.List.{append_assoc, append-nil, length-append, nil_from_length, same_lists, length-map, get_or-map}
use Rattle.std.proofs.lemmas.Bool.{cases_Bool, cases_lt, leb-true, leb-false, le-leb, lt-leb, eqb-true, both_ways, false≢true}
use Rattle.std.specs.List.{range_with_len, AllByRecursion as All}
use Rattle.stream.specs.Laws.{SideExponent, ReadsBack}
use Rattle.stream.specs.Numbers.{Table, Placement, negative, signed, magnitude_at, largest, level, thresholds, low_end, width_after, quantized}
use Rattle.stream.specs.Passes.{significant, zerotree_root, isolated_zero, Mark, skipped, labelled, Finding, is_found, marks_to, findings}
use Rattle.stream.specs.Reading.{heard, over, is_none, go_on, read_pass, read_passes, reading, heard_at, numbers_heard, loaded}
use Rattle.stream.specs.Streams.{spelled, labels, refinements, found_in, pass_symbols, pass_found, passes, symbols, header, level_told, stream}
use Rattle.stream.proofs.Cells.{refine_all_lem}
use Rattle.stream.proofs.Dominant.{read_marks, no_missed, spelled_append}
use Rattle.stream.proofs.Header.{reading_header}
use Rattle.stream.proofs.Levels.{largest_bound, largest_at, thresholds_append, levels}
use Rattle.stream.proofs.States.{CellOf, State, found_in_state, pass_state}
use Rattle.stream.proofs.Terms.{cell_at}

-- ---- One threshold

-- The passes of a coder, read.
pub pass_over : (k count j : ℕ) (t : List ℤ) (earlier : List Finding) (rest : List Bool) → SideExponent k → is_none (found_in k t j earlier) ≡ false
    → read_pass k count j earlier (spelled (pass_symbols k t j earlier) ++ rest) ≡ over (pass_found k t j earlier) rest
unfolding read_pass pass_symbols pass_found found_in
pass_over k count zero t earlier rest s n = rw (read_marks k 0 t earlier rest (4 ^ k), n, no_missed k 0 t earlier s)
pass_over k count (suc i) t earlier rest s n =
    let later = refinements t (suc i) (found_in k t (suc i) earlier) in
    rw (
      spelled_append (labels (suc i) 0 (marks_to k t (suc i) earlier (4 ^ k))) later,
      append_assoc,
      read_marks k (suc i) t earlier (spelled later ++ rest) (4 ^ k),
      n,
      no_missed k (suc i) t earlier s,
      refine_all_lem t (suc i) (found_in k t (suc i) earlier) rest,
    )

-- Where no label is spelled nothing is found.
no_labels : (j p : ℕ) (ms : List Mark) → spelled (labels j p ms) ≡ [] → findings j p ms ≡ []
unfolding spelled labels findings
no_labels j p [] e = refl
no_labels j p (skipped ∷ ms) e = no_labels j (suc p) ms e
no_labels j p (labelled (significant s) ∷ ms) e = absurd (omega (arith, ap length e))
no_labels j p (labelled zerotree_root ∷ ms) e = absurd (omega (arith, ap length e))
no_labels j p (labelled isolated_zero ∷ ms) e = absurd (omega (arith, ap length e))

-- Both parts of nothing are nothing.
nil_parts : {A : Type 0} (xs ys : List A) → xs ++ ys ≡ [] → (xs ≡ []) × (ys ≡ [])
nil_parts xs ys e =
    let l : length xs + length ys ≡ 0 = sym (length-append xs ys) ∙ ap length e in
    (nil_from_length xs (omega arith), nil_from_length ys (omega arith))

no_refinements : (t : List ℤ) (j : ℕ) (xs : List Finding) → spelled (refinements t j xs) ≡ [] → is_none xs ≡ true
unfolding spelled refinements
no_refinements t j [] e = refl
no_refinements t j (x ∷ xs) e = absurd (omega (arith, ap length e))

-- Where the passes at a threshold have no bits, they find nothing: every place was found before, and there is no subordinate pass.
no_symbols : (k j : ℕ) (t : List ℤ) (earlier : List Finding) → is_none (found_in k t j earlier) ≡ false → spelled (pass_symbols k t j earlier) ≡ []
    → (pass_found k t j earlier ≡ earlier) × (is_none earlier ≡ false)
unfolding pass_symbols pass_found found_in
no_symbols k zero t earlier n e =
    let same : found_in k t 0 earlier ≡ earlier = rw (no_labels 0 0 _ e) (append-nil earlier) in
    (same, ap is_none (sym same) ∙ n)
no_symbols k (suc i) t earlier n e =
    let later = refinements t (suc i) (found_in k t (suc i) earlier) in
    let parts = nil_parts _ (spelled later) (rw (spelled_append (labels (suc i) 0 (marks_to k t (suc i) earlier (4 ^ k))) later) at e) in
    absurd (both_ways _ n (no_refinements t (suc i) _ parts.1))

-- A source may end where something is found.
ends : (k count : ℕ) (js : List ℕ) (found : List Finding) → is_none found ≡ false → read_passes k count js found [] ≡ heard true found
unfolding read_passes
ends k count [] found n = refl
ends k count (j ∷ js) found n = rw n

-- Reading goes on behind the passes at one threshold, also where they have no bits.
read_step : (k count j : ℕ) (js : List ℕ) (t : List ℤ) (earlier : List Finding) (rest : List Bool) → SideExponent k → is_none (found_in k t j earlier) ≡ false
    → read_passes k count (j ∷ js) earlier (spelled (pass_symbols k t j earlier) ++ rest) ≡ read_passes k count js (pass_found k t j earlier) rest
unfolding read_passes
read_step k count j js t earlier rest s n = go (spelled (pass_symbols k t j earlier) ++ rest) refl
  where
    go : (bits : List Bool) → spelled (pass_symbols k t j earlier) ++ rest ≡ bits → read_passes k count (j ∷ js) earlier bits ≡ read_passes k count js (pass_found k t j earlier) rest
    go [] e =
        let parts = nil_parts (spelled (pass_symbols k t j earlier)) rest e in
        let same = no_symbols k j t earlier n parts.0 in
        rw (same.0, parts.1, ends k count js earlier same.1, same.1)
    go (b ∷ bits) e = ap (go_on (read_passes k count js)) (subst (λ x. read_pass k count j earlier x ≡ over (pass_found k t j earlier) rest) e (pass_over k count j t earlier rest s n))

-- ---- All thresholds

-- The found places behind the passes at these thresholds.
unfoldable pub found_after : ℕ → List ℤ → List ℕ → List Finding → List Finding
found_after k t [] earlier = earlier
found_after k t (j ∷ js) earlier = found_after k t js (pass_found k t j earlier)

-- Some place reaches the threshold.
abbrev pub Reached : ℕ → List ℤ → ℕ → Type 0
Reached k t j = (p : ℕ) × (p < 4 ^ k) × (2 ^ j ≤ magnitude_at t p)

found_some : (xs : List Finding) (p : ℕ) → is_found xs p ≡ true → is_none xs ≡ false
unfolding is_found
found_some [] p e = absurd (false≢true e)
found_some (x ∷ xs) p e = refl

-- Where some place reaches the threshold something is found.
pub reached_found : (k : ℕ) (t : List ℤ) (w j : ℕ) (found : List Finding) → State k t w j found → Reached k t j → is_none found ≡ false
reached_found k t w j found st r = found_some found r.0 (st.early r.0 r.1 ∙ le-leb _ _ r.2)

pub passes_state : (k : ℕ) (t : List ℤ) (f n : ℕ) (earlier : List Finding) → SideExponent k → State k t (f + n - 1) (f + n) earlier
    → State k t (width_after f) f (found_after k t (thresholds f n) earlier)
unfolding found_after thresholds
passes_state k t f zero earlier s st = let e : f + 0 ≡ f = omega arith in rw e at st
passes_state k t f (suc n) earlier s st =
    let w : f + suc n - 1 ≡ f + n = omega arith in
    let l : f + suc n ≡ suc (f + n) = omega arith in
    passes_state k t f n (pass_found k t (f + n) earlier) s (pass_state k t (f + n) earlier s (rw (w, l) at st))

-- The passes of a coder at falling thresholds, read.
pub passes_read : (k count : ℕ) (t : List ℤ) (f n : ℕ) (js : List ℕ) (earlier : List Finding) (rest : List Bool) → SideExponent k
    → State k t (f + n - 1) (f + n) earlier → ((i : ℕ) → i < n → Reached k t (f + i))
    → read_passes k count (thresholds f n ++ js) earlier (spelled (passes k t (thresholds f n) earlier) ++ rest)
    ≡ read_passes k count js (found_after k t (thresholds f n) earlier) rest
unfolding found_after thresholds passes spelled
passes_read k count t f zero js earlier rest s st r = refl
passes_read k count t f (suc n) js earlier rest s st r =
    let w : f + suc n - 1 ≡ f + n = omega arith in
    let l : f + suc n ≡ suc (f + n) = omega arith in
    let st' : State k t (f + n) (suc (f + n)) earlier = rw (w, l) at st in
    let j = f + n in
    let later = passes k t (thresholds f n) (pass_found k t j earlier) in
    rw (spelled_append (pass_symbols k t j earlier) later, append_assoc (spelled (pass_symbols k t j earlier)) (spelled later) rest)
    (read_step k count j (thresholds f n ++ js) t earlier (spelled later ++ rest) s
    (reached_found k t j j _ (found_in_state k t j earlier s st') (r n (omega arith)))
    ∙ passes_read k count t f n js (pass_found k t j earlier) rest s (pass_state k t j earlier s st') (λ i h. r i (omega arith)))

-- ---- What is heard

heard_cells : (place : Placement) (k : ℕ) (t : List ℤ) (w l : ℕ) (found : List Finding) (p : ℕ) → All (CellOf k t w l) found
    → heard_at place found p ≡ cond (is_found found p) (signed (negative (get_or t p (pos 0))) (place (low_end w (magnitude_at t p)) (2 ^ w))) (pos 0)
unfolding heard_at is_found cell_at
heard_cells place k t w l [] p h = refl
heard_cells place k t w l (x ∷ xs) p h = elim (cases_Bool (eqb x.place p)) [
  | inl e ↦ rw e (ap (λ y. signed y.negated (place y.low y.width)) h.0.is
      ∙ ap (λ q. signed (negative (get_or t q (pos 0))) (place (low_end w (magnitude_at t q)) (2 ^ w))) (eqb-true _ _ e))
  | inr e ↦ rw e (heard_cells place k t w l xs p h.1)
]

-- The numbers heard in a state whose cells are those behind a full stream.
pub numbers_heard_lem : (place : Placement) (k : ℕ) (t : List ℤ) (f : ℕ) (found : List Finding) → Table k t → State k t (width_after f) f found
    → numbers_heard place k found ≡ map (quantized place f) t
unfolding numbers_heard quantized
numbers_heard_lem place k t f found h st =
    same_lists _ _ (length-map-range_with_len (heard_at place found) 0 (4 ^ k) ∙ sym (length-map t (quantized place f) ∙ h.places)) at_place
  where
    at_place : (p : ℕ) (d : ℤ) → p < length (map (heard_at place found) (range_with_len 0 (4 ^ k))) → get_or (map (heard_at place found) (range_with_len 0 (4 ^ k))) p d ≡ get_or (map (quantized place f) t) p d
    at_place p d l =
        let i : p < 4 ^ k = omega (arith, length-map-range_with_len (heard_at place found) 0 (4 ^ k)) in
        get_or-map-range_with_len (heard_at place found) 0 (4 ^ k) p p d i (omega arith) ∙ heard_cells place k t (width_after f) f found p st.cells
        ∙ ap (λ b. cond b (signed (negative (get_or t p (pos 0))) (place (low_end (width_after f) (magnitude_at t p)) (2 ^ width_after f))) (pos 0)) (st.early p i)
        ∙ sym (get_or-map (quantized place f) t p (pos 0) d (omega (arith, h.places)))

-- ---- The stream

-- Every magnitude is below the threshold at the level.
pub below_level : (k : ℕ) (t : List ℤ) (l p : ℕ) → Table k t → level t ≤ l → magnitude_at t p < 2 ^ l
below_level k t l p h e = elim (cases_lt (magnitude_at t p) (2 ^ l)) [
  | inl s ↦ s
  | inr s ↦ absurd (omega (arith, ((levels k t h).1 l).0 (omega (arith, largest_bound t p))))
]

-- Each threshold below the level is reached.
pub level_reached : (k : ℕ) (t : List ℤ) (j : ℕ) → Table k t → j < level t → Reached k t j
level_reached k t j h e =
    let top : 2 ^ j ≤ largest t = ((levels k t h).1 j).1 e in
    let m = largest_at t (omega (arith, pow_pos j)) in
    (m.0, omega (arith, h.places, m.1), omega (arith, m.2))

-- Before the first pass.
pub start_state : (k : ℕ) (t : List ℤ) (w l : ℕ) → Table k t → level t ≤ l → State k t w l []
unfolding is_found
start_state k t w l h e = record { cells = tt; early = λ p i. sym (lt-leb _ _ (below_level k t l p h e)) }

-- The found places behind a stream.
abbrev pub found_behind : ℕ → ℕ → List ℤ → List Finding
found_behind k f t = found_after k t (thresholds f (level t - f)) []

pub stream_state : (k f : ℕ) (t : List ℤ) → SideExponent k → Table k t → State k t (width_after f) f (found_behind k f t)
stream_state k f t s h = passes_state k t f (level t - f) [] s (start_state k t (f + (level t - f) - 1) (f + (level t - f)) h (omega arith))

no_passes : (k count f : ℕ) (t : List ℤ) → read_passes k count (thresholds 0 0) [] (spelled (passes k t (thresholds f 0) [])) ≡ heard true (found_after k t (thresholds f 0) [])
unfolding read_passes thresholds spelled passes found_after
no_passes k count f t = refl

some_passes : (k count f : ℕ) (t : List ℤ) → SideExponent k → Table k t → f < level t
    → read_passes k count (thresholds 0 (level t)) [] (spelled (passes k t (thresholds f (level t - f)) [])) ≡ heard true (found_behind k f t)
some_passes k count f t s h l =
    let n = level t - f in
    let bits = spelled (passes k t (thresholds f n) []) in
    let whole : level t ≡ n + f = omega arith in
    let left : 0 + f ≡ f = omega arith in
    let split : thresholds 0 (level t) ≡ thresholds f n ++ thresholds 0 f = ap (thresholds 0) whole ∙ thresholds_append 0 f n ∙ ap (λ g. thresholds g n ++ thresholds 0 f) left in
    ap (λ js. read_passes k count js [] bits) split
    ∙ ap (read_passes k count (thresholds f n ++ thresholds 0 f) []) (sym (append-nil bits))
    ∙ passes_read k count t f n (thresholds 0 f) [] [] s (start_state k t (f + n - 1) (f + n) h (omega arith)) (λ i u. level_reached k t (f + i) h (omega arith))
    ∙ ends k count (thresholds 0 f) (found_behind k f t) (reached_found k t (width_after f) f (found_behind k f t) (stream_state k f t s h) (level_reached k t f h l))

-- A stream is read whole.
pub reading_stream : (k f : ℕ) (t : List ℤ) → SideExponent k → Table k t → reading k (stream k f t) ≡ heard true (found_behind k f t)
unfolding stream symbols level_told
reading_stream k f t s h = elim (cases_Bool (leb (level t) f)) [ inl e ↦ above (leb-true _ _ e) e | inr e ↦ below (leb-false _ _ e) e ]
  where
    bits : List Bool
    bits = spelled (passes k t (thresholds f (level t - f)) [])

    above : level t ≤ f → leb (level t) f ≡ true → reading k (header k (cond (leb (level t) f) 0 (level t)) ++ bits) ≡ heard true (found_behind k f t)
    above l e =
        let z : level t - f ≡ 0 = omega arith in
        rw (e, reading_header k 0 bits (omega arith) (omega arith), z) (no_passes k _ f t)

    below : f < level t → leb (level t) f ≡ false → reading k (header k (cond (leb (level t) f) 0 (level t)) ++ bits) ≡ heard true (found_behind k f t)
    below l e = rw (e, reading_header k (level t) bits (omega arith) (omega (arith, (levels k t h).0))) (some_passes k _ f t s h l)

pub reads_back : ReadsBack
unfolding loaded
reads_back place k f t s r h = rw (reading_stream k f t s h) (ap Ok (numbers_heard_lem place k t f (found_behind k f t) h (stream_state k f t s h)))
