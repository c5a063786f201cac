-- Lengths of streams: what a finer floor appends, how long a stream can be, and the longest run of symbols that fits.
use Rattle.std.proofs.Common.{◌≡◌, ℕ, zero, suc, ◌+◌, ◌-◌, ◌*◌, ◌^◌, ◌<◌, ◌≤◌, Bool, true, false, cond, not, ◌&&◌, ◌||◌, leb, List, [], ◌∷◌, ◌++◌, length, get_or, ℤ, sym, refl, ap, ◌∙◌, inl, inr, add-suc, mul-le-mul_right, suc-mul, mul-le-mul, mul-le-mul_left, arith}
use Rattle.scan.proofs.Division.{places_most_lem}
use Rattle.std.proofs.lemmas.List.{append-nil, append_assoc, length-append}
use Rattle.std.proofs.lemmas.Bool.{cases_lt, leb-true, leb-false, lt-leb, cond_both, false≢true, true≢false}
use Rattle.stream.proofs.Cells.{length_refinements}
use Rattle.stream.proofs.Dominant.{spelled_append, labels_append, is_found_append, is_found_findings, mark_of, marks_suc, length_marks, mark_at}
use Rattle.stream.proofs.Header.{length_header}
use Rattle.stream.proofs.RoundTrip.{found_after}
use Rattle.stream.proofs.Levels.{levels, thresholds_append}
use Rattle.stream.proofs.States.{refined_found}
use Rattle.stream.specs.Laws.{Appends, Longest, LongestRun}
use Rattle.stream.specs.Numbers.{Table, level, thresholds}
use Rattle.stream.specs.Passes.{Label, significant, zerotree_root, isolated_zero, Mark, skipped, labelled, Finding, is_found, is_fresh, under_root, due, label_of, marks_to, findings}
use Rattle.stream.specs.Streams.{Symbol, symbol_bits, spelled, labels, refined, found_in, pass_symbols, pass_found, passes, symbols, header, level_told, stream, longest_run}

-- ---- A finer floor

pub passes_append : (k : ℕ) (t : List ℤ) (is js : List ℕ) (earlier : List Finding)
    → passes k t (is ++ js) earlier ≡ passes k t is earlier ++ passes k t js (found_after k t is earlier)
unfolding passes found_after
passes_append k t [] js earlier = refl
passes_append k t (i ∷ is) js earlier =
    ap (λ ss. pass_symbols k t i earlier ++ ss) (passes_append k t is js (pass_found k t i earlier))
    ∙ sym (append_assoc (pass_symbols k t i earlier) (passes k t is (pass_found k t i earlier)) _)

pub level_told_lem : (f : ℕ) (t : List ℤ) → f < level t → level_told f t ≡ level t
unfolding level_told
level_told_lem f t h = rw (lt-leb (level t) f h) refl

-- The symbols of a finer floor are those of a coarser one and more.
pub symbols_append : (k f g : ℕ) (t : List ℤ) → f ≤ g → g < level t
    → symbols k f t ≡ symbols k g t ++ passes k t (thresholds f (g - f)) (found_after k t (thresholds g (level t - g)) [])
unfolding symbols
symbols_append k f g t l h =
    let e : level t - f ≡ (level t - g) + (g - f) = omega arith in
    let b : f + (g - f) ≡ g = omega arith in
    let s : thresholds f (level t - f) ≡ thresholds g (level t - g) ++ thresholds f (g - f) =
    ap (thresholds f) e ∙ thresholds_append f (g - f) (level t - g) ∙ ap (λ x. thresholds x (level t - g) ++ thresholds f (g - f)) b in
    ap (λ js. passes k t js []) s ∙ passes_append k t (thresholds g (level t - g)) (thresholds f (g - f)) []

pub appends : Appends
unfolding stream
appends k f g t l h = (
  spelled (passes k t (thresholds f (g - f)) (found_after k t (thresholds g (level t - g)) [])),
  rw (level_told_lem f t (omega arith), level_told_lem g t h, symbols_append k f g t l h, spelled_append) (sym (append_assoc (header k (level t)) (spelled (symbols k g t)) _)),
)

-- ---- The longest run

-- The symbols begin with this run, it fits, and with the next symbol it would not.
abbrev LongestFit : ℕ → List Symbol → List Symbol → Type 0
LongestFit room ss run = (rest : List Symbol) × (ss ≡ run ++ rest) × (length (spelled run) ≤ room)
    × ((s : Symbol) (more : List Symbol) → rest ≡ s ∷ more → room < length (spelled run) + length (symbol_bits s))

-- The first symbol fits.
fit_more : (room : ℕ) (s : Symbol) (ss run : List Symbol) → length (symbol_bits s) ≤ room → LongestFit (room - length (symbol_bits s)) ss run → LongestFit room (s ∷ ss) (s ∷ run)
unfolding spelled
fit_more room s ss run h r = (
  r.0,
  ap (λ xs. s ∷ xs) r.1,
  simp length-append (omega (arith, r.2)),
  λ x more e. simp length-append (omega (arith, r.3 x more e)),
)

-- It does not.
fit_none : (room : ℕ) (s : Symbol) (ss : List Symbol) → room < length (symbol_bits s) → LongestFit room (s ∷ ss) []
unfolding spelled
fit_none room s ss h = (s ∷ ss, refl, omega arith, λ x more e. let same : s ≡ x = cc in omega (arith, rw same at h))

pub longest_run_lem : LongestRun
unfolding longest_run
longest_run_lem room [] =
    ([], refl, unfold spelled in omega arith, λ s more e. let z : ◌≡◌ {A = ℕ} 0 1 = cc in absurd (omega arith))
longest_run_lem room (s ∷ ss) =
    cond_both (leb (length (symbol_bits s)) room) _ _ (LongestFit room (s ∷ ss))
    (λ e. fit_more room s ss _ (leb-true _ _ e) (longest_run_lem (room - length (symbol_bits s)) ss))
    (λ e. fit_none room s ss (leb-false _ _ e))

-- ---- How long a stream can be

-- How many numbers below n pass the test.
unfoldable tally : ℕ → (ℕ → Bool) → ℕ
tally zero test = 0
tally (suc n) test = tally n test + cond (test n) 1 0

tally_most : (n : ℕ) (test : ℕ → Bool) → tally n test ≤ n
unfolding tally
tally_most zero test = omega arith
tally_most (suc n) test =
    let rest = tally_most n test in
    cond_both (test n) 1 0 (λ x. tally n test + x ≤ suc n) (λ _. omega arith) (λ _. omega arith)

-- Counted from the other end.
tally_front : (n : ℕ) (test : ℕ → Bool) → tally (suc n) test ≡ cond (test 0) 1 0 + tally n (λ i. test (suc i))
unfolding tally
tally_front zero test = omega arith
tally_front (suc n) test = omega (arith, tally_front n test)

tally_same : (n : ℕ) (f g : ℕ → Bool) → ((p : ℕ) → f p ≡ g p) → tally n f ≡ tally n g
unfolding tally
tally_same zero f g e = refl
tally_same (suc n) f g e = ap (λ b. tally n f + cond b 1 0) (e n) ∙ ap (λ m. m + cond (g n) 1 0) (tally_same n f g e)

-- A test that two others share out among them counts at least as many as both.
tally_split : (n : ℕ) (f g h : ℕ → Bool) → ((p : ℕ) → p < n → cond (f p) 1 0 + cond (g p) 1 0 ≤ cond (h p) 1 0) → tally n f + tally n g ≤ tally n h
unfolding tally
tally_split zero f g h s = omega arith
tally_split (suc n) f g h s = omega (arith, s n (omega arith), tally_split n f g h (λ p l. s p (omega arith)))

-- The places below n that are not found.
abbrev unfound : ℕ → List Finding → ℕ
unfound n found = tally n (λ p. not (is_found found p))

-- A label takes two bits, and stands at a place that was not found before.
label_most : (j p : ℕ) (found under : Bool) (l : Label) → length (spelled (labels j p (cond (not found && not under) (labelled l) skipped ∷ []))) ≤ 2 * cond (not found) 1 0
unfolding labels spelled
label_most j p true under l = omega arith
label_most j p false true l = omega arith
label_most j p false false (significant s) = omega arith
label_most j p false false zerotree_root = omega arith
label_most j p false false isolated_zero = omega arith

labels_most : (k j : ℕ) (t : List ℤ) (earlier : List Finding) (n : ℕ)
    → length (spelled (labels j 0 (marks_to k t j earlier n))) ≤ 2 * unfound n earlier
unfolding tally
labels_most k j t earlier zero = unfold marks_to labels spelled in omega arith
labels_most k j t earlier (suc n) =
    let ms = marks_to k t j earlier n in
    let last : length (spelled (labels j (0 + length ms) (mark_of k t j earlier ms n ∷ []))) ≤ 2 * cond (not (is_found earlier n)) 1 0 =
    unfold due in label_most j (0 + length ms) (is_found earlier n) (under_root ms n) (label_of k t j earlier n) in
    rw (marks_suc k j t earlier n, labels_append, spelled_append, length-append) (omega (arith, labels_most k j t earlier n))

-- As many places are found in a pass as there are fresh marks,
length_findings : (j q : ℕ) (ms : List Mark) → length (findings j q ms) ≡ tally (length ms) (λ p. is_fresh (get_or ms p skipped))
unfolding findings
length_findings j q [] = unfold tally in refl
length_findings j q (skipped ∷ ms) = rw tally_front (omega (arith, length_findings j (suc q) ms))
length_findings j q (labelled (significant s) ∷ ms) = rw tally_front (omega (arith, length_findings j (suc q) ms))
length_findings j q (labelled zerotree_root ∷ ms) = rw tally_front (omega (arith, length_findings j (suc q) ms))
length_findings j q (labelled isolated_zero ∷ ms) = rw tally_front (omega (arith, length_findings j (suc q) ms))

-- and each of them was not found before.
fresh_new : (k j : ℕ) (t : List ℤ) (earlier : List Finding) (p n : ℕ) → p < n
    → is_fresh (get_or (marks_to k t j earlier n) p skipped) ≡ true → is_found earlier p ≡ false
unfolding due
fresh_new k j t earlier p n l h =
    new (is_found earlier p) (under_root (marks_to k t j earlier p) p) (label_of k t j earlier p) (rw (mark_at k j t earlier p n l) at h)
  where
    new : (found under : Bool) (l : Label) → is_fresh (cond (not found && not under) (labelled l) skipped) ≡ true → found ≡ false
    new true under l e = absurd (false≢true e)
    new false under l e = refl

-- Each place counts once: as found, or as not found.
abbrev Sparse : ℕ → List Finding → Type 0
Sparse n found = length found + unfound n found ≤ n

-- A place is fresh, or still not found, or was found before.
shared_out : (found fresh : Bool) → (fresh ≡ true → found ≡ false) → cond fresh 1 0 + cond (not (found || fresh)) 1 0 ≤ cond (not found) 1 0
shared_out true true h = absurd (true≢false (h refl))
shared_out true false h = omega arith
shared_out false true h = omega arith
shared_out false false h = omega arith

found_more : (k j : ℕ) (t : List ℤ) (earlier : List Finding) → Sparse (4 ^ k) earlier → Sparse (4 ^ k) (found_in k t j earlier)
unfolding found_in
found_more k j t earlier h =
    let ms = marks_to k t j earlier (4 ^ k) in
    let count : length (findings j 0 ms) ≡ tally (4 ^ k) (λ p. is_fresh (get_or ms p skipped)) =
    rw (length_marks k j t earlier (4 ^ k)) at (length_findings j 0 ms) in
    rw length-append
    (omega (arith, tally_split (4 ^ k) (λ p. is_fresh (get_or ms p skipped)) (λ p. not (is_found (earlier ++ findings j 0 ms) p)) (λ p. not (is_found earlier p)) each))
  where
    each : (p : ℕ) → p < 4 ^ k
        → cond (is_fresh (get_or (marks_to k t j earlier (4 ^ k)) p skipped)) 1 0 + cond (not (is_found (earlier ++ findings j 0 (marks_to k t j earlier (4 ^ k))) p)) 1 0
        ≤ cond (not (is_found earlier p)) 1 0
    each p l = rw (is_found_append, is_found_findings) (shared_out (is_found earlier p) _ (fresh_new k j t earlier p (4 ^ k) l))

-- Refining finds nothing.
length_refined : (t : List ℤ) (xs : List Finding) → length (refined t xs) ≡ length xs
unfolding refined
length_refined t [] = refl
length_refined t (x ∷ xs) = ap suc (length_refined t xs)

sparse_refined : (n : ℕ) (t : List ℤ) (xs : List Finding) → Sparse n xs → Sparse n (refined t xs)
sparse_refined n t xs h =
    omega (arith, length_refined t xs, tally_same n (λ p. not (is_found (refined t xs) p)) (λ p. not (is_found xs p)) (λ p. ap not (refined_found t xs p)))

-- The passes at one threshold keep the count,
pass_sparse : (k j : ℕ) (t : List ℤ) (earlier : List Finding) → Sparse (4 ^ k) earlier → Sparse (4 ^ k) (pass_found k t j earlier)
unfolding pass_found
pass_sparse k zero t earlier h = found_more k 0 t earlier h
pass_sparse k (suc j) t earlier h = sparse_refined (4 ^ k) t _ (found_more k (suc j) t earlier h)

-- and take two bits for each place not found before, and one for each found after the labels, if the threshold is not 1.
last_most : (k : ℕ) (t : List ℤ) (earlier : List Finding) → Sparse (4 ^ k) earlier
    → length (spelled (pass_symbols k t 0 earlier)) + length earlier ≤ 2 * 4 ^ k
unfolding pass_symbols
last_most k t earlier h = omega (arith, labels_most k 0 t earlier (4 ^ k))

pass_most : (k j : ℕ) (t : List ℤ) (earlier : List Finding) → Sparse (4 ^ k) earlier
    → length (spelled (pass_symbols k t j earlier)) + length earlier ≤ 2 * 4 ^ k + length (pass_found k t j earlier)
pass_most k zero t earlier h = omega (arith, last_most k t earlier h)
pass_most k (suc j) t earlier h =
    unfold pass_symbols pass_found in
    rw (spelled_append, length-append)
    (omega (arith, labels_most k (suc j) t earlier (4 ^ k), length_refinements t (suc j) (found_in k t (suc j) earlier), length_refined t (found_in k t (suc j) earlier)))

-- The last passes of all.
passes_last : (k f n : ℕ) (t : List ℤ) (earlier : List Finding) → Sparse (4 ^ k) earlier → f + n ≡ 0
    → length (spelled (passes k t (thresholds f (suc n)) earlier)) + length earlier ≤ 2 * 4 ^ k
unfolding passes thresholds spelled
passes_last k f zero t earlier h e = rw (e, append-nil) (last_most k t earlier h)
passes_last k f (suc n) t earlier h e = absurd (omega arith)

-- n thresholds down to f take two bits for each place and each threshold down to 1, less the places found at the start.
passes_most : (k f n : ℕ) (t : List ℤ) (earlier : List Finding) → Sparse (4 ^ k) earlier → 1 ≤ f + n
    → length (spelled (passes k t (thresholds f n) earlier)) + length earlier ≤ (f + n) * (2 * 4 ^ k)
unfolding passes thresholds
passes_most k f zero t earlier h l =
    let once : 1 * (2 * 4 ^ k) ≤ (f + 0) * (2 * 4 ^ k) = mul-le-mul_right (2 * 4 ^ k) l in
    unfold spelled in omega arith
passes_most k f (suc n) t earlier h l =
    let more : (f + suc n) * (2 * 4 ^ k) ≡ (f + n) * (2 * 4 ^ k) + 2 * 4 ^ k = rw add-suc (suc-mul (f + n) (2 * 4 ^ k)) in
    elim (cases_lt 0 (f + n)) [
      | inl later ↦
          let rest = passes_most k f n t (pass_found k t (f + n) earlier) (pass_sparse k (f + n) t earlier h) later in
          rw (spelled_append, length-append) (omega (arith, pass_most k (f + n) t earlier h))
      | inr none ↦ omega (arith, passes_last k f n t earlier h (omega arith))
    ]

-- At the start nothing is found.
sparse_none : (n : ℕ) → Sparse n []
sparse_none n = omega (arith, tally_most n (λ p. not (is_found [] p)))

symbols_most : (k f : ℕ) (t : List ℤ) → k ≤ 6 → Table k t → length (spelled (symbols k f t)) ≤ 122880
unfolding symbols
symbols_most k f t six h =
    elim (cases_lt f (level t)) [
      | inl l ↦
          let e : f + (level t - f) ≡ level t = omega arith in
          let all : level t * (2 * 4 ^ k) ≤ 15 * (2 * 4096) = mul-le-mul (levels k t h).0 (mul-le-mul_left 2 (places_most_lem k six)) in
          omega (arith, rw e at (passes_most k f (level t - f) t [] (sparse_none (4 ^ k)) (omega arith)))
      | inr l ↦ let e : level t - f ≡ 0 = omega arith in rw e (unfold thresholds passes spelled in omega arith)
    ]

pub longest : Longest
unfolding stream
longest k f t six h = rw length-append (omega (arith, length_header k (level_told f t), symbols_most k f t six h))
