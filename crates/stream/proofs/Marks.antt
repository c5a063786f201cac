-- The marks of the coder's dominant pass: each is decided by those before it, and the places that it finds are those that reach the threshold first.
use Rattle.std.proofs.Common.{◌≡◌, ℕ, zero, suc, ◌+◌, ◌*◌, ◌/◌, ◌^◌, ◌<◌, ◌≤◌, Bool, true, false, cond, not, ◌&&◌, ◌||◌, eqb, leb, List, [], ◌∷◌, ◌++◌, map, length, get_or, take, ℤ, pos, sym, refl, ap, ◌∙◌, ap₂, inl, inr, add-zero, zero-add, arith}
use Rattle.std.proofs.Math.Bool.{or_assoc}
use native.Mathlib.Nat.{div-eq_of_lt-le}
use Rattle.scan.specs.Tree.{descends}
use Rattle.std.proofs.lemmas.List.{append_assoc, length_push, take_all, take-append-le, get_or-take, get_or_push, map-append}
use Rattle.std.proofs.lemmas.Bool.{cases_Bool, cases_eq, or_from, or_left, and_from, and_parts, ne_eqb, eq-eqb, cond_both, not_from_false, not-true, leb-true, leb-false, both_ways, false≢true, true≢false}
use Rattle.stream.proofs.Somes.{some_false, some_none}
use Rattle.stream.proofs.Terms.{MarkOk, Coherent, Early, cell_at, fresh_to}
use Rattle.stream.specs.Laws.{SideExponent}
use Rattle.stream.specs.Numbers.{negative, magnitude_at}
use Rattle.stream.specs.Passes.{Label, significant, zerotree_root, isolated_zero, Mark, skipped, labelled, Finding, has_children, is_root, is_found, is_fresh, under_root, due, reached_below, label_of, marks_to, findings}
use Rattle.stream.specs.Streams.{Symbol, symbol_bits, spelled, labels}

-- ---- Lists, one after the other

pub spelled_append : (xs ys : List Symbol) → spelled (xs ++ ys) ≡ spelled xs ++ spelled ys
unfolding spelled
spelled_append [] ys = refl
spelled_append (x ∷ xs) ys = ap (λ (l : List Bool). symbol_bits x ++ l) (spelled_append xs ys) ∙ sym (append_assoc (symbol_bits x) (spelled xs) (spelled ys))

-- A place further on, and one mark fewer.
shift : (p n : ℕ) → suc p + n ≡ p + suc n
shift p n = omega arith

pub labels_append : (j p : ℕ) (ms ns : List Mark) → labels j p (ms ++ ns) ≡ labels j p ms ++ labels j (p + length ms) ns
unfolding labels
labels_append j p [] ns = rw add-zero
labels_append j p (skipped ∷ ms) ns = rw (← shift p (length ms)) (labels_append j (suc p) ms ns)
labels_append j p (labelled l ∷ ms) ns = rw (← shift p (length ms), labels_append j (suc p) ms ns)

pub findings_append : (j p : ℕ) (ms ns : List Mark) → findings j p (ms ++ ns) ≡ findings j p ms ++ findings j (p + length ms) ns
unfolding findings
findings_append j p [] ns = rw add-zero
findings_append j p (skipped ∷ ms) ns = rw (← shift p (length ms)) (findings_append j (suc p) ms ns)
findings_append j p (labelled (significant s) ∷ ms) ns = rw (← shift p (length ms), findings_append j (suc p) ms ns)
findings_append j p (labelled zerotree_root ∷ ms) ns = rw (← shift p (length ms)) (findings_append j (suc p) ms ns)
findings_append j p (labelled isolated_zero ∷ ms) ns = rw (← shift p (length ms)) (findings_append j (suc p) ms ns)

pub is_found_append : (xs ys : List Finding) (p : ℕ) → is_found (xs ++ ys) p ≡ (is_found xs p || is_found ys p)
unfolding is_found
is_found_append [] ys p = refl
is_found_append (x ∷ xs) ys p = ap (λ (b : Bool). eqb x.place p || b) (is_found_append xs ys p) ∙ sym (or_assoc (eqb x.place p) (is_found xs p) (is_found ys p))

-- Nothing is found before the first place.
pub found_before : (j q : ℕ) (ms : List Mark) (p : ℕ) → p < q → is_found (findings j q ms) p ≡ false
unfolding is_found findings
found_before j q [] p h = refl
found_before j q (skipped ∷ ms) p h = found_before j (suc q) ms p (omega arith)
found_before j q (labelled (significant s) ∷ ms) p h = or_from _ _ (ne_eqb q p (omega arith)) (found_before j (suc q) ms p (omega arith))
found_before j q (labelled zerotree_root ∷ ms) p h = found_before j (suc q) ms p (omega arith)
found_before j q (labelled isolated_zero ∷ ms) p h = found_before j (suc q) ms p (omega arith)

-- The mark of a place decides whether it is found, counted from place q.
found_from : (j q : ℕ) (ms : List Mark) (p : ℕ) → is_found (findings j q ms) (q + p) ≡ is_fresh (get_or ms p skipped)
unfolding is_found findings
found_from j q [] p = refl
found_from j q (skipped ∷ ms) zero = found_before j (suc q) ms (q + 0) (omega arith)
found_from j q (labelled (significant s) ∷ ms) zero = or_left _ _ (eq-eqb q (q + 0) (omega arith))
found_from j q (labelled zerotree_root ∷ ms) zero = found_before j (suc q) ms (q + 0) (omega arith)
found_from j q (labelled isolated_zero ∷ ms) zero = found_before j (suc q) ms (q + 0) (omega arith)
found_from j q (skipped ∷ ms) (suc p) = rw (← shift q p) (found_from j (suc q) ms p)
found_from j q (labelled (significant s) ∷ ms) (suc p) = rw (← shift q p, ne_eqb q (suc q + p) (omega arith)) (found_from j (suc q) ms p)
found_from j q (labelled zerotree_root ∷ ms) (suc p) = rw (← shift q p) (found_from j (suc q) ms p)
found_from j q (labelled isolated_zero ∷ ms) (suc p) = rw (← shift q p) (found_from j (suc q) ms p)

-- From the first place.
pub is_found_findings : (j : ℕ) (ms : List Mark) (p : ℕ) → is_found (findings j 0 ms) p ≡ is_fresh (get_or ms p skipped)
is_found_findings j ms p = rw zero-add at (found_from j 0 ms p)

-- ---- The coder's marks

-- The mark that the coder gives the place behind these marks.
abbrev pub mark_of : ℕ → List ℤ → ℕ → List Finding → List Mark → ℕ → Mark
mark_of k t j earlier ms p = cond (due earlier ms p) (labelled (label_of k t j earlier p)) skipped

pub marks_suc : (k j : ℕ) (t : List ℤ) (earlier : List Finding) (n : ℕ)
    → marks_to k t j earlier (suc n) ≡ marks_to k t j earlier n ++ mark_of k t j earlier (marks_to k t j earlier n) n ∷ []
unfolding marks_to
marks_suc k j t earlier n = refl

pub length_marks : (k j : ℕ) (t : List ℤ) (earlier : List Finding) (n : ℕ) → length (marks_to k t j earlier n) ≡ n
unfolding marks_to
length_marks k j t earlier zero = refl
length_marks k j t earlier (suc n) = rw length_push (omega (arith, length_marks k j t earlier n))

-- A zerotree root that the coder gives has children.
pub label_ok : (k j : ℕ) (t : List ℤ) (earlier : List Finding) (p : ℕ) → MarkOk k p true (labelled (label_of k t j earlier p))
unfolding label_of
label_ok k j t earlier p =
    cond_both (leb (2 ^ j) (magnitude_at t p)) _ _ (λ l. MarkOk k p true (labelled l)) (λ _. tt)
    (λ _. cond_both (has_children k p && not (reached_below k t j earlier p)) _ _ (λ l. MarkOk k p true (labelled l)) (λ e. (and_parts _ _ e).0) (λ _. tt))

-- ---- The mark at a place

-- A pass of more places begins with the marks of fewer,
pub take_marks : (k j : ℕ) (t : List ℤ) (earlier : List Finding) (p n : ℕ) → p ≤ n → take p (marks_to k t j earlier n) ≡ marks_to k t j earlier p
take_marks k j t earlier p zero h = let e : p ≡ 0 = omega arith in rw e (unfold marks_to in refl)
take_marks k j t earlier p (suc n) h =
    elim (cases_eq p (suc n)) [
      | inl e ↦ rw e (take_all (suc n) (marks_to k t j earlier (suc n)) (omega (arith, length_marks k j t earlier (suc n))))
      | inr d ↦
          ap (take p) (marks_suc k j t earlier n)
          ∙ take-append-le p (marks_to k t j earlier n) _ (omega (arith, length_marks k j t earlier n))
          ∙ take_marks k j t earlier p n (omega arith)
    ]

-- so the mark of a place is decided by those before it.
pub mark_at : (k j : ℕ) (t : List ℤ) (earlier : List Finding) (p n : ℕ) → p < n
    → get_or (marks_to k t j earlier n) p skipped ≡ mark_of k t j earlier (marks_to k t j earlier p) p
mark_at k j t earlier p n h =
    sym (get_or-take (suc p) (marks_to k t j earlier n) p skipped (omega arith))
    ∙ ap (λ (ms : List Mark). get_or ms p skipped) (take_marks k j t earlier (suc p) n h ∙ marks_suc k j t earlier p)
    ∙ get_or_push (marks_to k t j earlier p) _ skipped p (length_marks k j t earlier p)

-- Below a root that the coder gives, nothing reaches the threshold.
root_clear : (k j : ℕ) (t : List ℤ) (earlier : List Finding) (ms : List Mark) (p : ℕ)
    → is_root (mark_of k t j earlier ms p) ≡ true → reached_below k t j earlier p ≡ false
unfolding label_of
root_clear k j t earlier ms p =
    by_cases (due earlier ms p) (leb (2 ^ j) (magnitude_at t p)) (has_children k p) (reached_below k t j earlier p)
  where
    by_cases : (b c h r : Bool)
        → is_root (cond b (labelled (cond c (significant (negative (get_or t p (pos 0)))) (cond (h && not r) zerotree_root isolated_zero))) skipped) ≡ true → r ≡ false
    by_cases false c h r e = absurd (false≢true e)
    by_cases true true h r e = absurd (false≢true e)
    by_cases true false false r e = absurd (false≢true e)
    by_cases true false true true e = absurd (false≢true e)
    by_cases true false true false e = refl

-- So a place that reaches it and is not found is under no root.
not_under : (k j : ℕ) (t : List ℤ) (earlier : List Finding) (p : ℕ) → p < 4 ^ k
    → is_found earlier p ≡ false → leb (2 ^ j) (magnitude_at t p) ≡ true → under_root (marks_to k t j earlier p) p ≡ false
unfolding under_root reached_below
not_under k j t earlier p h new high = some_none (length (marks_to k t j earlier p)) _ clear
  where
    clear : (a : ℕ) → a < length (marks_to k t j earlier p) → (descends a p && is_root (get_or (marks_to k t j earlier p) a skipped)) ≡ false
    clear a l =
        elim (cases_Bool (descends a p && is_root (get_or (marks_to k t j earlier p) a skipped))) [
          | inl e ↦
              let below : a < p = omega (arith, length_marks k j t earlier p) in
              let s = and_parts _ _ e in
              let none = root_clear k j t earlier (marks_to k t j earlier a) a (rw (mark_at k j t earlier a p below) at s.1) in
              absurd (both_ways _ (some_false (4 ^ k) _ none p h) (and_from _ _ s.0 (and_from _ _ high (not_from_false _ new))))
          | inr e ↦ e
        ]

-- ---- The places that the coder finds

-- The mark that the coder gives a place, by the tests that decide it: found earlier, under a root, reaching the threshold, and what else it may be.
abbrev chosen : Bool → Bool → Bool → Bool → Label → Mark
chosen found under high s other = cond (not found && not under) (labelled (cond high (significant s) other)) skipped

-- The label of a place that does not reach the threshold.
abbrev low_label : ℕ → List ℤ → ℕ → List Finding → ℕ → Label
low_label k t j earlier p = cond (has_children k p && not (reached_below k t j earlier p)) zerotree_root isolated_zero

low_label_lem : (k j : ℕ) (t : List ℤ) (earlier : List Finding) (p : ℕ) → is_fresh (labelled (low_label k t j earlier p)) ≡ false
low_label_lem k j t earlier p =
    cond_both (has_children k p && not (reached_below k t j earlier p)) _ _ (λ l. is_fresh (labelled l) ≡ false) (λ _. refl) (λ _. refl)

mark_chosen : (k j : ℕ) (t : List ℤ) (earlier : List Finding) (ms : List Mark) (p : ℕ)
    → mark_of k t j earlier ms p ≡ chosen (is_found earlier p) (under_root ms p) (leb (2 ^ j) (magnitude_at t p)) (negative (get_or t p (pos 0))) (low_label k t j earlier p)
unfolding due label_of
mark_chosen k j t earlier ms p = refl

chosen_fresh : (found under high s : Bool) (other : Label) → is_fresh (labelled other) ≡ false → (found ≡ false → high ≡ true → under ≡ false)
    → is_fresh (chosen found under high s other) ≡ (high && not found)
chosen_fresh true under true s other o h = refl
chosen_fresh true under false s other o h = refl
chosen_fresh false true true s other o h = absurd (true≢false (h refl refl))
chosen_fresh false true false s other o h = refl
chosen_fresh false false true s other o h = refl
chosen_fresh false false false s other o h = o

-- A place is found in this pass exactly if it reaches the threshold and was not found in an earlier one.
pub marks_fresh : (k j : ℕ) (t : List ℤ) (earlier : List Finding) (p : ℕ) → SideExponent k → p < 4 ^ k
    → is_fresh (get_or (marks_to k t j earlier (4 ^ k)) p skipped) ≡ (leb (2 ^ j) (magnitude_at t p) && not (is_found earlier p))
marks_fresh k j t earlier p _ h =
    ap is_fresh (mark_at k j t earlier p (4 ^ k) h ∙ mark_chosen k j t earlier (marks_to k t j earlier p) p)
    ∙ chosen_fresh (is_found earlier p) (under_root (marks_to k t j earlier p) p) (leb (2 ^ j) (magnitude_at t p)) _ _ (low_label_lem k j t earlier p) (not_under k j t earlier p h)

-- Its finding.
abbrev new_finding : ℕ → ℕ → Bool → Finding
new_finding j p s = record { place = p; negated = s; low = 2 ^ j; width = 2 ^ j }

chosen_finding : (j p : ℕ) (found under high s : Bool) (other : Label) → is_fresh (labelled other) ≡ false → (found ≡ false → high ≡ true → under ≡ false)
    → findings j p (chosen found under high s other ∷ []) ≡ cond (high && not found) (new_finding j p s ∷ []) []
unfolding findings
chosen_finding j p true under true s other o h = refl
chosen_finding j p true under false s other o h = refl
chosen_finding j p false true true s other o h = absurd (true≢false (h refl refl))
chosen_finding j p false true false s other o h = refl
chosen_finding j p false false true s other o h = refl
chosen_finding j p false false false s (significant r) o h = absurd (true≢false o)
chosen_finding j p false false false s zerotree_root o h = refl
chosen_finding j p false false false s isolated_zero o h = refl

-- Its cell: where a magnitude has j + 1 binary digits, the low end of its cell of width 2 ^ j is 2 ^ j.
first_cell : (j c : ℕ) → 2 ^ j ≤ c → c < 2 ^ suc j → 2 ^ j * (c / 2 ^ j) ≡ 2 ^ j
first_cell j c l h =
    let e : c / 2 ^ j ≡ 1 = div-eq_of_lt-le (2 ^ j) (omega arith) (omega arith) in
    rw e (omega arith)

same_cell : (t : List ℤ) (j p : ℕ) → (leb (2 ^ j) (magnitude_at t p) && not (leb (2 ^ suc j) (magnitude_at t p))) ≡ true
    → new_finding j p (negative (get_or t p (pos 0))) ≡ cell_at t j p
unfolding cell_at
same_cell t j p e =
    let s = and_parts (leb (2 ^ j) (magnitude_at t p)) (not (leb (2 ^ suc j) (magnitude_at t p))) e in
    let low = leb-true (2 ^ j) (magnitude_at t p) s.0 in
    let high = leb-false (2 ^ suc j) (magnitude_at t p) (not-true _ s.1) in
    let same = first_cell j (magnitude_at t p) low high in
    λ i. record { place = p; negated = negative (get_or t p (pos 0)); low = sym same i; width = 2 ^ j }

-- The finding at a place, if it is found in this pass.
next_finding : (k j : ℕ) (t : List ℤ) (earlier : List Finding) (p : ℕ) → p < 4 ^ k → is_found earlier p ≡ leb (2 ^ suc j) (magnitude_at t p)
    → findings j p (mark_of k t j earlier (marks_to k t j earlier p) p ∷ [])
    ≡ map (cell_at t j) (cond (leb (2 ^ j) (magnitude_at t p) && not (leb (2 ^ suc j) (magnitude_at t p))) (p ∷ []) [])
next_finding k j t earlier p h early =
    ap (λ (m : Mark). findings j p (m ∷ [])) (mark_chosen k j t earlier (marks_to k t j earlier p) p)
    ∙ chosen_finding j p (is_found earlier p) (under_root (marks_to k t j earlier p) p) (leb (2 ^ j) (magnitude_at t p)) _ _ (low_label_lem k j t earlier p) (not_under k j t earlier p h)
    ∙ ap (λ (b : Bool). cond (leb (2 ^ j) (magnitude_at t p) && not b) (new_finding j p (negative (get_or t p (pos 0))) ∷ []) []) early
    ∙ as_cell (leb (2 ^ j) (magnitude_at t p) && not (leb (2 ^ suc j) (magnitude_at t p))) (same_cell t j p)
  where
    as_cell : (b : Bool) → (b ≡ true → new_finding j p (negative (get_or t p (pos 0))) ≡ cell_at t j p)
        → cond b (new_finding j p (negative (get_or t p (pos 0))) ∷ []) [] ≡ map (cell_at t j) (cond b (p ∷ []) [])
    as_cell true e = ap (λ (x : Finding). x ∷ []) (e refl)
    as_cell false e = refl

-- In the pass over the first n places.
findings_to : (k j : ℕ) (t : List ℤ) (earlier : List Finding) → Early k t (suc j) earlier → (n : ℕ) → n ≤ 4 ^ k
    → findings j 0 (marks_to k t j earlier n) ≡ map (cell_at t j) (fresh_to t j n)
unfolding fresh_to
findings_to k j t earlier early zero h = unfold marks_to findings in refl
findings_to k j t earlier early (suc n) h =
    ap (findings j 0) (marks_suc k j t earlier n)
    ∙ findings_append j 0 (marks_to k t j earlier n) _
    ∙ ap₂ ◌++◌ (findings_to k j t earlier early n (omega arith)) (rw (zero-add, length_marks k j t earlier n) (next_finding k j t earlier n h (early n h)))
    ∙ sym (map-append (cell_at t j) (fresh_to t j n) _)

-- The findings of this pass are the cells of the places whose magnitude has j + 1 binary digits, if all of more digits were found before.
pub findings_fresh : (k j : ℕ) (t : List ℤ) (earlier : List Finding) → SideExponent k → Early k t (suc j) earlier
    → findings j 0 (marks_to k t j earlier (4 ^ k)) ≡ map (cell_at t j) (fresh_to t j (4 ^ k))
findings_fresh k j t earlier _ early = findings_to k j t earlier early (4 ^ k) (omega arith)

-- The coder's marks obey the rule of the walk.
pub marks_coherent : (k j : ℕ) (t : List ℤ) (earlier : List Finding) (n : ℕ) → Coherent k earlier (marks_to k t j earlier n)
marks_coherent k j t earlier n p h =
    let l : p < n = omega (arith, length_marks k j t earlier n) in
    rw (take_marks k j t earlier p n (omega arith), mark_at k j t earlier p n l)
    (mark_ok (due earlier (marks_to k t j earlier p) p))
  where
    mark_ok : (b : Bool) → MarkOk k p b (cond b (labelled (label_of k t j earlier p)) skipped)
    mark_ok true = label_ok k j t earlier p
    mark_ok false = tt
