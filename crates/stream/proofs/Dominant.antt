-- The dominant pass: the coder's labels are read back and miss no root, and marks that are read are those of every table that they tell the truth of.
use Rattle.std.proofs.Common.{◌≡◌, ℕ, zero, suc, ◌+◌, ◌^◌, ◌<◌, ◌≤◌, Bool, true, false, cond, not, ◌&&◌, leb, ◌⊎◌, List, [], ◌∷◌, ◌++◌, length, get_or, take, ℤ, pos, sym, refl, ap, ◌∙◌, inl, inr, zero-add, arith, take-suc}
use Rattle.scan.proofs.Division.{descends_by_division, descendant_later}
use Rattle.scan.specs.Tree.{descends}
use Rattle.std.proofs.lemmas.List.{append_assoc, length_push, take_all, take-append-le, take_at, get_or_append_left, get_or_past, length-take-le, get_or-take, get_or_push}
use Rattle.std.proofs.lemmas.Bool.{cases_Bool, cases_lt, and_from, and_parts, and_left, and_right, cond-true, cond-false, not_from_true, not_from_false, not-true, not-false, both_ways, false≢true, true≢false}
pub use Rattle.stream.proofs.Marks.{spelled_append, labels_append, findings_append, is_found_append, is_found_findings, mark_of, marks_suc, length_marks, label_ok, take_marks, mark_at, marks_coherent, marks_fresh, findings_fresh}
pub use Rattle.stream.proofs.Somes.{some_true, some_at, some_false, some_none}
use Rattle.stream.proofs.Terms.{MarkOk, Coherent, Says}
use Rattle.stream.specs.Laws.{SideExponent}
use Rattle.stream.specs.Numbers.{negative, magnitude_at}
use Rattle.stream.specs.Passes.{Label, significant, zerotree_root, isolated_zero, Mark, skipped, labelled, Finding, has_children, some, is_root, is_found, is_fresh, under_root, due, reached_below, label_of, marks_to}
use Rattle.stream.specs.Reading.{Dominant, going, ended, leaf_root, label_at, next_place, read_to, has_missed_root}
use Rattle.stream.specs.Streams.{spelled, labels}

-- ---- The coder's labels are read back

-- One mark is read back from its label, or from no bit.
read_mark : (k j p q : ℕ) (ms : List Mark) (rest : List Bool) (b : Bool) (l : Label) → MarkOk k p true (labelled l)
    → cond b (label_at k p ms (spelled (labels j q (cond b (labelled l) skipped ∷ [])) ++ rest))
    (going (ms ++ skipped ∷ []) (spelled (labels j q (cond b (labelled l) skipped ∷ [])) ++ rest))
    ≡ going (ms ++ cond b (labelled l) skipped ∷ []) rest
unfolding spelled labels
read_mark k j p q ms rest false l ok = refl
read_mark k j p q ms rest true (significant s) ok = refl
read_mark k j p q ms rest true zerotree_root ok = cond-true (has_children k p) _ _ ok
read_mark k j p q ms rest true isolated_zero ok = refl

-- And so a whole pass, with anything behind it.
pub read_marks : (k j : ℕ) (t : List ℤ) (earlier : List Finding) (rest : List Bool) (n : ℕ)
    → read_to k earlier (spelled (labels j 0 (marks_to k t j earlier n)) ++ rest) n ≡ going (marks_to k t j earlier n) rest
unfolding read_to next_place
read_marks k j t earlier rest zero = unfold marks_to spelled labels in refl
read_marks k j t earlier rest (suc n) =
    let ms = marks_to k t j earlier n in
    let m = mark_of k t j earlier ms n in
    let last = labels j (0 + length ms) (m ∷ []) in
    let bits : spelled (labels j 0 (marks_to k t j earlier (suc n))) ++ rest ≡ spelled (labels j 0 ms) ++ (spelled last ++ rest) =
    rw (marks_suc k j t earlier n, labels_append j 0 ms (m ∷ []), spelled_append (labels j 0 ms) last) (append_assoc (spelled (labels j 0 ms)) (spelled last) rest) in
    ap (λ (x : List Bool). next_place k earlier n (read_to k earlier x n)) bits
    ∙ ap (next_place k earlier n) (read_marks k j t earlier (spelled last ++ rest) n)
    ∙ read_mark k j n (0 + length ms) ms rest (due earlier ms n) (label_of k t j earlier n) (label_ok k j t earlier n)
    ∙ ap (λ (x : List Mark). going x rest) (sym (marks_suc k j t earlier n))

-- ---- No root is missed

-- The four kinds of marks.
cases_mark : (m : Mark) → (m ≡ labelled isolated_zero) ⊎ ((m ≡ labelled zerotree_root) ⊎ ((m ≡ skipped) ⊎ ((s : Bool) × (m ≡ labelled (significant s)))))
cases_mark skipped = inr (inr (inl refl))
cases_mark (labelled (significant s)) = inr (inr (inr (s, refl)))
cases_mark (labelled zerotree_root) = inr (inl refl)
cases_mark (labelled isolated_zero) = inl refl

-- A descendant of the place is found in this pass.
abbrev fresh_below : ℕ → List Mark → ℕ → Bool
fresh_below k ms p = some (4 ^ k) (λ d. descends p d && is_fresh (get_or ms d skipped))

-- No root is missed exactly if below each isolated zero with children a place is found:
missed_none : (k : ℕ) (ms : List Mark)
    → ((p : ℕ) → p < 4 ^ k → get_or ms p skipped ≡ labelled isolated_zero → has_children k p ≡ true → fresh_below k ms p ≡ true) → has_missed_root k ms ≡ false
unfolding has_missed_root
missed_none k ms h =
    some_none (4 ^ k) _ (λ p l. elim (cases_mark (get_or ms p skipped)) [
      | inl e ↦ rw e (elim (cases_Bool (has_children k p)) [
        | inl c ↦ and_right _ _ (not_from_true _ (h p l e c))
        | inr c ↦ and_left _ _ c
      ])
      | inr (inl e) ↦ rw e
      | inr (inr (inl e)) ↦ rw e
      | inr (inr (inr s)) ↦ rw s.1
    ])

-- and the other way round.
missed_false : (k : ℕ) (ms : List Mark) → has_missed_root k ms ≡ false
    → (p : ℕ) → p < 4 ^ k → get_or ms p skipped ≡ labelled isolated_zero → has_children k p ≡ true → fresh_below k ms p ≡ true
unfolding has_missed_root
missed_false k ms h p l e c = not-false _ (rw (e, c) at (some_false (4 ^ k) _ h p l))

-- An isolated zero with children, given by the coder, has a descendant that reaches the threshold.
zero_reached : (k j : ℕ) (t : List ℤ) (earlier : List Finding) (ms : List Mark) (p : ℕ)
    → mark_of k t j earlier ms p ≡ labelled isolated_zero → has_children k p ≡ true → reached_below k t j earlier p ≡ true
unfolding label_of
zero_reached k j t earlier ms p e =
    by_cases (due earlier ms p) (leb (2 ^ j) (magnitude_at t p)) (has_children k p) (reached_below k t j earlier p) (ap is_isolated e)
  where
    is_isolated : Mark → Bool
    is_isolated skipped = false
    is_isolated (labelled (significant s)) = false
    is_isolated (labelled zerotree_root) = false
    is_isolated (labelled isolated_zero) = true

    by_cases : (b c h r : Bool)
        → is_isolated (cond b (labelled (cond c (significant (negative (get_or t p (pos 0)))) (cond (h && not r) zerotree_root isolated_zero))) skipped) ≡ true
        → h ≡ true → r ≡ true
    by_cases false c h r e l = absurd (false≢true e)
    by_cases true true h r e l = absurd (false≢true e)
    by_cases true false false r e l = absurd (false≢true l)
    by_cases true false true true e l = refl
    by_cases true false true false e l = absurd (false≢true e)

-- The coder misses no root.
pub no_missed : (k j : ℕ) (t : List ℤ) (earlier : List Finding) → SideExponent k → has_missed_root k (marks_to k t j earlier (4 ^ k)) ≡ false
unfolding reached_below
no_missed k j t earlier side = missed_none k (marks_to k t j earlier (4 ^ k)) below
  where
    below : (p : ℕ) → p < 4 ^ k → get_or (marks_to k t j earlier (4 ^ k)) p skipped ≡ labelled isolated_zero → has_children k p ≡ true
        → fresh_below k (marks_to k t j earlier (4 ^ k)) p ≡ true
    below p l e c =
        let reached = zero_reached k j t earlier (marks_to k t j earlier p) p (sym (mark_at k j t earlier p (4 ^ k) l) ∙ e) c in
        let d = some_true (4 ^ k) _ reached in
        let parts = and_parts _ _ d.2 in
        some_at (4 ^ k) _ d.0 d.1 (and_from _ _ parts.0 (marks_fresh k j t earlier d.0 side d.1 ∙ parts.1))

-- ---- What is read is coherent, and spells the bits taken

-- One more mark.
coherent_push : (k p : ℕ) (earlier : List Finding) (ms : List Mark) (m : Mark) → length ms ≡ p → Coherent k earlier ms → MarkOk k p (due earlier ms p) m
    → Coherent k earlier (ms ++ m ∷ [])
coherent_push k p earlier ms m e ok last q h =
    elim (cases_lt q p) [
      | inl l ↦
          rw (take-append-le q ms (m ∷ []) (omega arith), get_or_append_left ms (m ∷ []) skipped q (omega arith)) (ok q (omega arith))
      | inr l ↦
          let same : q ≡ p = omega (arith, length_push ms m) in
          rw (same, take_at ms (m ∷ []) p e, get_or_push ms m skipped p e) last
    ]

-- A pass that has ended, or met a root at a childless place, does not go on.
ended≢going : (ms ns : List Mark) (rest : List Bool) → ended ms ≡ going ns rest → ⊥
ended≢going ms ns rest e = let z : ◌≡◌ {A = ℕ} 0 1 = cc in omega arith

leaf_root≢going : (bits : List Bool) (ns : List Mark) (rest : List Bool) → leaf_root bits ≡ going ns rest → ⊥
leaf_root≢going bits ns rest e = let z : ◌≡◌ {A = ℕ} 0 1 = cc in omega arith

-- The mark that one step of reading appends.
Appended : ℕ → ℕ → ℕ → Bool → List Mark → List Bool → List Mark → List Bool → Type 0
Appended k j p b before bits after rest =
    (m : Mark) × (after ≡ before ++ m ∷ []) × (bits ≡ spelled (labels j p (m ∷ [])) ++ rest) × MarkOk k p b m

-- A label,
read_label : (k j p : ℕ) (before : List Mark) (bits : List Bool) (after : List Mark) (rest : List Bool)
    → label_at k p before bits ≡ going after rest → Appended k j p true before bits after rest
unfolding Appended spelled labels
read_label k j p before [] after rest e = absurd (ended≢going before after rest e)
read_label k j p before (a ∷ []) after rest e = absurd (ended≢going before after rest e)
read_label k j p before (true ∷ s ∷ bits) after rest e = (labelled (significant s), cc, cc, tt)
read_label k j p before (false ∷ false ∷ bits) after rest e = (labelled isolated_zero, cc, cc, tt)
read_label k j p before (false ∷ true ∷ bits) after rest e =
    elim (cases_Bool (has_children k p)) [
      | inl c ↦
          let f : going (before ++ labelled zerotree_root ∷ []) bits ≡ going after rest = sym (cond-true (has_children k p) _ _ c) ∙ e in
          (labelled zerotree_root, cc, cc, c)
      | inr c ↦ absurd (leaf_root≢going bits after rest (sym (cond-false (has_children k p) _ _ c) ∙ e))
    ]

-- or no label.
read_next : (k j p : ℕ) (b : Bool) (before : List Mark) (bits : List Bool) (after : List Mark) (rest : List Bool)
    → cond b (label_at k p before bits) (going (before ++ skipped ∷ []) bits) ≡ going after rest → Appended k j p b before bits after rest
read_next k j p true before bits after rest e = read_label k j p before bits after rest e
read_next k j p false before bits after rest e = unfold Appended spelled labels in (skipped, cc, cc, tt)

-- What is known of a dominant pass after n places.
abbrev Taken : ℕ → ℕ → List Finding → List Bool → ℕ → List Mark → List Bool → Type 0
Taken k j earlier bits n ms rest = (length ms ≡ n) × (bits ≡ spelled (labels j 0 ms) ++ rest) × Coherent k earlier ms

taken_more : (k j : ℕ) (earlier : List Finding) (bits : List Bool) (n : ℕ) (before : List Mark) (left : List Bool) (after : List Mark) (rest : List Bool)
    → Taken k j earlier bits n before left → Appended k j n (due earlier before n) before left after rest → Taken k j earlier bits (suc n) after rest
unfolding Appended
taken_more k j earlier bits n before left after rest h s =
    let m = s.0 in
    let last : spelled (labels j (0 + length before) (m ∷ [])) ++ rest ≡ left = rw (zero-add, h.0) (sym s.2) in
    let spells : bits ≡ spelled (labels j 0 (before ++ m ∷ [])) ++ rest =
    rw (
      labels_append j 0 before (m ∷ []),
      spelled_append (labels j 0 before) (labels j (0 + length before) (m ∷ [])),
      append_assoc (spelled (labels j 0 before)) (spelled (labels j (0 + length before) (m ∷ []))) rest,
      last,
    ) h.1 in
    rw s.1 (rw length_push (omega (arith, h.0)), spells, coherent_push k n earlier before m h.0 h.2 s.3)

-- What is read is coherent, and its labels with what is left are the bits.
pub read_coherent : (k j : ℕ) (earlier : List Finding) (bits : List Bool) (n : ℕ) (ms : List Mark) (rest : List Bool) → read_to k earlier bits n ≡ going ms rest
    → (length ms ≡ n) × (bits ≡ spelled (labels j 0 ms) ++ rest) × Coherent k earlier ms
unfolding read_to next_place
read_coherent k j earlier bits zero ms rest e =
    let none : [] ≡ ms = cc in
    let all : bits ≡ rest = cc in
    rw (← none, ← all) (unfold spelled labels in (refl, refl, λ p h. absurd (omega arith)))
read_coherent k j earlier bits (suc n) ms rest e = go (read_to k earlier bits n) (read_coherent k j earlier bits n) refl e
  where
    go : (d : Dominant) → ((before : List Mark) (left : List Bool) → read_to k earlier bits n ≡ going before left → Taken k j earlier bits n before left)
        → read_to k earlier bits n ≡ d → next_place k earlier n d ≡ going ms rest → Taken k j earlier bits (suc n) ms rest
    go (going before left) ih r e =
        taken_more k j earlier bits n before left ms rest (ih before left r) (read_next k j n (due earlier before n) before left ms rest e)
    go (ended before) ih r e = absurd (ended≢going before ms rest e)
    go (leaf_root left) ih r e = absurd (leaf_root≢going left ms rest e)

-- ---- Coherent marks are the marks of every table that they tell the truth of

-- A significant label was due,
label_due : (k p : ℕ) (b : Bool) (m : Mark) → MarkOk k p b m → is_fresh m ≡ true → b ≡ true
label_due k p true m ok e = refl
label_due k p false skipped ok e = absurd (false≢true e)
label_due k p false (labelled l) ok e = absurd ok

fresh_rule : (k : ℕ) (earlier : List Finding) (ms : List Mark) (p : ℕ) → Coherent k earlier ms → is_fresh (get_or ms p skipped) ≡ true → due earlier (take p ms) p ≡ true
fresh_rule k earlier ms p ok e =
    elim (cases_lt p (length ms)) [
      | inl l ↦ label_due k p (due earlier (take p ms) p) (get_or ms p skipped) (ok p l) e
      | inr l ↦ absurd (false≢true (rw (get_or_past ms p skipped l) at e))
    ]

-- so its place was not found before.
pub fresh_due : (k : ℕ) (earlier : List Finding) (ms : List Mark) (p : ℕ) → Coherent k earlier ms → is_fresh (get_or ms p skipped) ≡ true → is_found earlier p ≡ false
unfolding due
fresh_due k earlier ms p ok e = not-true _ (and_parts _ _ (fresh_rule k earlier ms p ok e)).0

-- A descendant is a later place.
later : (k a d : ℕ) → SideExponent k → d < 4 ^ k → descends a d ≡ true → a < d
later k a d side l t = (descendant_later k a d side.0 ((descends_by_division k a d side.0 side.1 l).1 t)).0

-- Where a mark says that a place is significant, or that it is not.
says_high : (m : Mark) (b s : Bool) → Says m b s → b ≡ true → is_fresh m ≡ true
says_high m true s says e = rw says
says_high m false s says e = absurd (false≢true e)

says_fresh : (m : Mark) (b s : Bool) → Says m b s → is_fresh m ≡ true → b ≡ true
says_fresh m true s says e = refl
says_fresh m false s says e = absurd (both_ways _ says e)

-- The marks of a pass that tell the truth of a table, of each place that is not found yet.
abbrev Truthful : ℕ → ℕ → List ℤ → List Finding → List Mark → Type 0
Truthful k j u earlier ms =
    (p : ℕ) → p < 4 ^ k → is_found earlier p ≡ false → Says (get_or ms p skipped) (leb (2 ^ j) (magnitude_at u p)) (negative (get_or u p (pos 0)))

-- Below a root nothing reaches the threshold: it would have a label.
root_true : (k j : ℕ) (u : List ℤ) (earlier : List Finding) (ms : List Mark) → SideExponent k → Coherent k earlier ms → Truthful k j u earlier ms
    → length ms ≡ 4 ^ k → (p : ℕ) → get_or ms p skipped ≡ labelled zerotree_root → reached_below k u j earlier p ≡ false
unfolding reached_below due under_root
root_true k j u earlier ms side ok true_of long p root = some_none (4 ^ k) _ none
  where
    none : (d : ℕ) → d < 4 ^ k → (descends p d && (leb (2 ^ j) (magnitude_at u d) && not (is_found earlier d))) ≡ false
    none d l =
        elim (cases_Bool (descends p d && (leb (2 ^ j) (magnitude_at u d) && not (is_found earlier d)))) [
          | inl e ↦
              let down = and_parts (descends p d) _ e in
              let reach = and_parts (leb (2 ^ j) (magnitude_at u d)) (not (is_found earlier d)) down.1 in
              let below : p < d = later k p d side l down.0 in
              let in_take : p < length (take d ms) = rw (length-take-le d ms (omega arith)) below in
              let fresh = says_high (get_or ms d skipped) _ _ (true_of d l (not-true _ reach.1)) reach.0 in
              let free : under_root (take d ms) d ≡ false = not-true _ (and_parts _ _ (fresh_rule k earlier ms d ok fresh)).1 in
              let rooted : is_root (get_or (take d ms) p skipped) ≡ true = rw (get_or-take d ms p skipped below, root) in
              absurd (both_ways _ (some_false (length (take d ms)) _ free p in_take) (and_from _ _ down.0 rooted))
          | inr e ↦ e
        ]

-- Below an isolated zero with children something does: no root is missed.
zero_true : (k j : ℕ) (u : List ℤ) (earlier : List Finding) (ms : List Mark) → Coherent k earlier ms → Truthful k j u earlier ms → has_missed_root k ms ≡ false
    → (p : ℕ) → p < 4 ^ k → get_or ms p skipped ≡ labelled isolated_zero → has_children k p ≡ true → reached_below k u j earlier p ≡ true
unfolding reached_below
zero_true k j u earlier ms ok true_of missed p l e c =
    let s = some_true (4 ^ k) _ (missed_false k ms missed p l e c) in
    let d = s.0 in
    let parts = and_parts _ _ s.2 in
    let new = fresh_due k earlier ms d ok parts.1 in
    let high = says_fresh (get_or ms d skipped) _ _ (true_of d s.1 new) parts.1 in
    some_at (4 ^ k) _ d s.1 (and_from _ _ parts.0 (and_from _ _ high (not_from_false _ new)))

-- The label that the coder gives is the mark's, by the tests that decide it.
same_label : (k p : ℕ) (m : Mark) (high s reached : Bool) → MarkOk k p true m → Says m high s
    → (m ≡ labelled zerotree_root → reached ≡ false) → (m ≡ labelled isolated_zero → has_children k p ≡ true → reached ≡ true)
    → labelled (cond high (significant s) (cond (has_children k p && not reached) zerotree_root isolated_zero)) ≡ m
same_label k p m true s reached ok says root lone = sym says
same_label k p skipped false s reached ok says root lone = absurd ok
same_label k p (labelled (significant r)) false s reached ok says root lone = absurd (true≢false says)
same_label k p (labelled zerotree_root) false s reached ok says root lone =
    ap labelled (cond-true (has_children k p && not reached) zerotree_root isolated_zero (and_from _ _ ok (not_from_false _ (root refl))))
same_label k p (labelled isolated_zero) false s reached ok says root lone =
    ap labelled (cond-false (has_children k p && not reached) zerotree_root isolated_zero (elim (cases_Bool (has_children k p)) [
      | inl c ↦ and_right _ _ (not_from_true _ (lone refl c))
      | inr c ↦ and_left _ _ c
    ]))

-- The mark that the coder gives at a place, behind the same marks.
same_mark : (k j : ℕ) (u : List ℤ) (earlier : List Finding) (ms : List Mark) → SideExponent k → Coherent k earlier ms → length ms ≡ 4 ^ k
    → has_missed_root k ms ≡ false → Truthful k j u earlier ms → (p : ℕ) → p < 4 ^ k → mark_of k u j earlier (take p ms) p ≡ get_or ms p skipped
unfolding label_of due
same_mark k j u earlier ms side ok long missed true_of p l =
    go (get_or ms p skipped) (due earlier (take p ms) p) refl refl (ok p (omega arith))
  where
    go : (m : Mark) (b : Bool) → get_or ms p skipped ≡ m → due earlier (take p ms) p ≡ b → MarkOk k p b m
        → cond b (labelled (label_of k u j earlier p)) skipped ≡ m
    go m true e d mark =
        let new = not-true _ (and_parts _ _ d).0 in
        same_label k p m (leb (2 ^ j) (magnitude_at u p)) (negative (get_or u p (pos 0))) (reached_below k u j earlier p) mark (rw e at (true_of p l new))
        (λ r. root_true k j u earlier ms side ok true_of long p (e ∙ r)) (λ z. zero_true k j u earlier ms ok true_of missed p l (e ∙ z))
    go skipped false e d mark = refl
    go (labelled x) false e d mark = absurd mark

-- Place by place, the same marks.
marks_front : (k j : ℕ) (u : List ℤ) (earlier : List Finding) (ms : List Mark) → SideExponent k → Coherent k earlier ms → length ms ≡ 4 ^ k
    → has_missed_root k ms ≡ false → Truthful k j u earlier ms → (n : ℕ) → n ≤ 4 ^ k → marks_to k u j earlier n ≡ take n ms
marks_front k j u earlier ms side ok long missed true_of zero h = unfold marks_to in refl
marks_front k j u earlier ms side ok long missed true_of (suc n) h =
    marks_suc k j u earlier n
    ∙ ap (λ (front : List Mark). front ++ mark_of k u j earlier front n ∷ []) (marks_front k j u earlier ms side ok long missed true_of n (omega arith))
    ∙ ap (λ (m : Mark). take n ms ++ m ∷ []) (same_mark k j u earlier ms side ok long missed true_of n h)
    ∙ sym (take-suc ms n skipped (omega arith))

-- A coherent pass that misses no root is the coder's pass over each table that it tells the truth of.
pub marks_same : (k j : ℕ) (u : List ℤ) (earlier : List Finding) (ms : List Mark) → SideExponent k → Coherent k earlier ms → length ms ≡ 4 ^ k → has_missed_root k ms ≡ false
    → ((p : ℕ) → p < 4 ^ k → is_found earlier p ≡ false → Says (get_or ms p skipped) (leb (2 ^ j) (magnitude_at u p)) (negative (get_or u p (pos 0))))
    → marks_to k u j earlier (4 ^ k) ≡ ms
marks_same k j u earlier ms side ok long missed true_of =
    marks_front k j u earlier ms side ok long missed true_of (4 ^ k) (omega arith) ∙ take_all (4 ^ k) ms (omega arith)
