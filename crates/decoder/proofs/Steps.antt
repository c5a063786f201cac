-- What each step of reading does to the meaning of a stage: what reading comes to stays the same.
use Rattle.std.proofs.Common.{◌≡◌, ℕ, zero, suc, ◌+◌, ◌-◌, ◌^◌, ◌<◌, ◌≤◌, Bool, true, false, not, eqb, ltb, List, [], ◌∷◌, ◌++◌, length, get_or, take, drop, sym, refl, ap, ◌∙◌, zero-add, arith}
use native.Mathlib.Nat.{one-le-pow}
use Rattle.decoder.specs.Stages.{Stage, walking, halfway, refining, finished, read_on, from_marks, from_refined, meaning}
use Rattle.std.proofs.lemmas.List.{append_assoc, append-nil, length_push}
use Rattle.std.proofs.lemmas.Bool.{cond-true, cond-false, eq-eqb, le-ltb}
use Rattle.stream.proofs.Dominant.{findings_append, read_coherent, some_none}
use Rattle.stream.specs.Numbers.{thresholds}
use Rattle.stream.specs.Passes.{Label, significant, zerotree_root, isolated_zero, Mark, skipped, labelled, Finding, has_children, is_found, under_root, some, due, findings, halved}
use Rattle.stream.specs.Reading.{Dominant, going, ended, leaf_root, label_read, with_label, next_place, read_to, has_missed_root, refine_all, is_none, after_subordinate, after_labels, after_dominant, read_pass, Outcome, refused, heard, go_on, read_passes, spells, reading}
use Rattle.stream.specs.declared.fault.StreamFault.TheVariants.{RootAtLeaf, NothingFound, MissedRoot, BitsAfterEnd}

-- ---- A dominant pass, place by place

-- No place more, and one place more.
on_none : (k : ℕ) (earlier : List Finding) (d : Dominant) → read_on k earlier 0 d ≡ d
unfolding read_on
on_none k earlier d = refl

pub on_place : (k n : ℕ) (earlier : List Finding) (marks : List Mark) (bits : List Bool)
    → read_on k earlier (suc n) (going marks bits) ≡ read_on k earlier n (next_place k earlier (length marks) (going marks bits))
unfolding read_on
on_place k n earlier marks bits = refl

-- Behind the last bit, and behind a root at a childless place, nothing is read.
on_ended : (k n : ℕ) (earlier : List Finding) (marks : List Mark) → read_on k earlier n (ended marks) ≡ ended marks
unfolding read_on next_place
on_ended k zero earlier marks = refl
on_ended k (suc n) earlier marks = on_ended k n earlier marks

on_leaf : (k n : ℕ) (earlier : List Finding) (rest : List Bool) → read_on k earlier n (leaf_root rest) ≡ leaf_root rest
unfolding read_on next_place
on_leaf k zero earlier rest = refl
on_leaf k (suc n) earlier rest = on_leaf k n earlier rest

-- Reading on for n places behind the first m.
read_further : (k : ℕ) (earlier : List Finding) (bits : List Bool) (n m : ℕ) → read_on k earlier n (read_to k earlier bits m) ≡ read_to k earlier bits (m + n)
unfolding read_to next_place
read_further k earlier bits zero m = let e : m ≡ m + 0 = omega arith in on_none k earlier (read_to k earlier bits m) ∙ ap (read_to k earlier bits) e
read_further k earlier bits (suc n) m =
    let e : suc m + n ≡ m + suc n = omega arith in
    step (read_to k earlier bits m) refl ∙ read_further k earlier bits n (suc m) ∙ ap (read_to k earlier bits) e
  where
    step : (d : Dominant) → read_to k earlier bits m ≡ d → read_on k earlier (suc n) d ≡ read_on k earlier n (next_place k earlier m (read_to k earlier bits m))
    step (going marks rest) e =
        on_place k n earlier marks rest
        ∙ ap (λ p. read_on k earlier n (next_place k earlier p (going marks rest))) (read_coherent k 0 earlier bits m marks rest e).0
        ∙ ap (λ d. read_on k earlier n (next_place k earlier m d)) (sym e)
    step (ended marks) e = on_ended k (suc n) earlier marks ∙ sym (on_ended k n earlier marks) ∙ ap (λ d. read_on k earlier n (next_place k earlier m d)) (sym e)
    step (leaf_root rest) e = on_leaf k (suc n) earlier rest ∙ sym (on_leaf k n earlier rest) ∙ ap (λ d. read_on k earlier n (next_place k earlier m d)) (sym e)

-- From the first place on it is the whole pass.
pub read_on_lem : (k : ℕ) (earlier : List Finding) (bits : List Bool) (n : ℕ) → read_on k earlier n (going [] bits) ≡ read_to k earlier bits n
unfolding read_to
read_on_lem k earlier bits n = read_further k earlier bits n 0 ∙ ap (read_to k earlier bits) (zero-add n)

-- ---- What comes of a dominant pass

-- What is still to come behind the dominant pass at the threshold 2 ^ j.
abbrev behind : ℕ → ℕ → ℕ → List Finding → Dominant → Outcome
behind k count j earlier d = go_on (read_passes k count (thresholds 0 j)) (after_dominant k count j earlier d)

-- Where places are left, the next one is read first;
from_place : (k count j : ℕ) (earlier : List Finding) (marks : List Mark) (bits : List Bool) → length marks < 4 ^ k
    → from_marks k count j earlier marks bits
    ≡ behind k count j earlier (read_on k earlier (4 ^ k - suc (length marks)) (next_place k earlier (length marks) (going marks bits)))
unfolding from_marks
from_place k count j earlier marks bits h =
    let e : 4 ^ k - length marks ≡ suc (4 ^ k - suc (length marks)) = omega arith in
    ap (λ n. behind k count j earlier (read_on k earlier n (going marks bits))) e
    ∙ ap (behind k count j earlier) (on_place k (4 ^ k - suc (length marks)) earlier marks bits)

-- it gives a mark,
from_mark : (k count j : ℕ) (earlier : List Finding) (marks : List Mark) (m : Mark) (bits rest : List Bool) → length marks < 4 ^ k
    → next_place k earlier (length marks) (going marks bits) ≡ going (marks ++ m ∷ []) rest
    → from_marks k count j earlier marks bits ≡ from_marks k count j earlier (marks ++ m ∷ []) rest
unfolding from_marks
from_mark k count j earlier marks m bits rest h e =
    let l : suc (length marks) ≡ length (marks ++ m ∷ []) = omega (arith, length_push marks m) in
    from_place k count j earlier marks bits h
    ∙ ap (λ d. behind k count j earlier (read_on k earlier (4 ^ k - suc (length marks)) d)) e
    ∙ ap (λ n. behind k count j earlier (read_on k earlier (4 ^ k - n) (going (marks ++ m ∷ []) rest))) l

-- or the bits end there,
from_ended : (k count j : ℕ) (earlier : List Finding) (marks : List Mark) (bits : List Bool) → length marks < 4 ^ k
    → next_place k earlier (length marks) (going marks bits) ≡ ended marks
    → from_marks k count j earlier marks bits ≡ heard false (earlier ++ findings j 0 marks)
from_ended k count j earlier marks bits h e =
    from_place k count j earlier marks bits h
    ∙ ap (λ d. behind k count j earlier (read_on k earlier (4 ^ k - suc (length marks)) d)) e
    ∙ ap (behind k count j earlier) (on_ended k (4 ^ k - suc (length marks)) earlier marks)

-- or a root stands at a childless place.
from_leaf : (k count j : ℕ) (earlier : List Finding) (marks : List Mark) (bits rest : List Bool) → length marks < 4 ^ k
    → next_place k earlier (length marks) (going marks bits) ≡ leaf_root rest
    → from_marks k count j earlier marks bits ≡ refused (RootAtLeaf (count - length rest))
from_leaf k count j earlier marks bits rest h e =
    from_place k count j earlier marks bits h
    ∙ ap (λ d. behind k count j earlier (read_on k earlier (4 ^ k - suc (length marks)) d)) e
    ∙ ap (behind k count j earlier) (on_leaf k (4 ^ k - suc (length marks)) earlier rest)

-- Behind the last place the pass is over.
from_all : (k count j : ℕ) (earlier : List Finding) (marks : List Mark) (bits : List Bool) → length marks ≡ 4 ^ k
    → from_marks k count j earlier marks bits ≡ behind k count j earlier (going marks bits)
unfolding from_marks
from_all k count j earlier marks bits h =
    let e : 4 ^ k - length marks ≡ 0 = omega arith in
    ap (λ n. behind k count j earlier (read_on k earlier n (going marks bits))) e
    ∙ ap (behind k count j earlier) (on_none k earlier (going marks bits))

-- What is said of the passes holds of a stage that took a bit, whether bits are left or not.
walking_reads : (k count j : ℕ) (earlier : List Finding) (marks : List Mark) (bits : List Bool)
    → meaning k count (walking j false earlier marks) bits ≡ from_marks k count j earlier marks bits
unfolding meaning
walking_reads k count j earlier marks [] = refl
walking_reads k count j earlier marks (b ∷ bits) = refl

refining_reads : (k count j : ℕ) (done left : List Finding) (bits : List Bool)
    → meaning k count (refining j false done left) bits ≡ from_refined k count j done left bits
unfolding meaning
refining_reads k count j done left [] = refl
refining_reads k count j done left (b ∷ bits) = refl

-- ---- The steps of a dominant pass

-- A place that is not due is passed over.
pub skip_place : (k count j : ℕ) (whole : Bool) (earlier : List Finding) (marks : List Mark) (bits : List Bool)
    → length marks < 4 ^ k → due earlier marks (length marks) ≡ false
    → meaning k count (walking j whole earlier (marks ++ skipped ∷ [])) bits ≡ meaning k count (walking j whole earlier marks) bits
skip_place k count j whole earlier marks bits h d = go whole bits
  where
    from : (bits : List Bool) → from_marks k count j earlier (marks ++ skipped ∷ []) bits ≡ from_marks k count j earlier marks bits
    from bits = sym (from_mark k count j earlier marks skipped bits bits h (unfold next_place in cond-false (due earlier marks (length marks)) _ _ d))

    none : findings j 0 (marks ++ skipped ∷ []) ≡ findings j 0 marks
    none = findings_append j 0 marks (skipped ∷ []) ∙ (unfold findings in append-nil (findings j 0 marks))

    go : (whole : Bool) (bits : List Bool) → meaning k count (walking j whole earlier (marks ++ skipped ∷ [])) bits ≡ meaning k count (walking j whole earlier marks) bits
    go true [] = unfold meaning in ap (λ fs. heard true (earlier ++ fs)) none
    go false [] = unfold meaning in from []
    go whole (b ∷ bits) = unfold meaning in from (b ∷ bits)

-- The first bit of a label is taken.
pub first_bit : (k count j : ℕ) (whole : Bool) (earlier : List Finding) (marks : List Mark) (b : Bool) (bits : List Bool)
    → meaning k count (halfway j earlier marks b) bits ≡ meaning k count (walking j whole earlier marks) (b ∷ bits)
unfolding meaning
first_bit k count j whole earlier marks b bits = refl

-- The second bit is taken, and the place is labelled.
pub label_bits_lem : (k count j : ℕ) (earlier : List Finding) (marks : List Mark) (first b : Bool) (bits : List Bool)
    → length marks < 4 ^ k → due earlier marks (length marks) ≡ true → (label_read first b ≡ zerotree_root → has_children k (length marks) ≡ true)
    → meaning k count (walking j false earlier (marks ++ labelled (label_read first b) ∷ [])) bits ≡ meaning k count (halfway j earlier marks first) (b ∷ bits)
unfolding meaning next_place
label_bits_lem k count j earlier marks first b bits h d parent =
    walking_reads k count j earlier (marks ++ labelled (label_read first b) ∷ []) bits
    ∙ sym (from_mark k count j earlier marks (labelled (label_read first b)) (first ∷ b ∷ bits) bits h
    (cond-true (due earlier marks (length marks)) _ _ d ∙ with_label_lem (label_read first b) parent))
  where
    with_label_lem : (l : Label) → (l ≡ zerotree_root → has_children k (length marks) ≡ true) → with_label k (length marks) marks l bits ≡ going (marks ++ labelled l ∷ []) bits
    with_label_lem (significant s) parent = refl
    with_label_lem zerotree_root parent = cond-true (has_children k (length marks)) _ _ (parent refl)
    with_label_lem isolated_zero parent = refl

-- A zerotree root at a childless place.
pub leaf_root_lem : (k count j : ℕ) (earlier : List Finding) (marks : List Mark) (bits : List Bool)
    → length marks < 4 ^ k → due earlier marks (length marks) ≡ true → has_children k (length marks) ≡ false
    → meaning k count (halfway j earlier marks false) (true ∷ bits) ≡ refused (RootAtLeaf (count - length bits))
unfolding meaning next_place
leaf_root_lem k count j earlier marks bits h d leaf =
    from_leaf k count j earlier marks (false ∷ true ∷ bits) bits h
    (cond-true (due earlier marks (length marks)) _ _ d ∙ cond-false (has_children k (length marks)) _ _ leaf)

-- ---- The end of a dominant pass

-- Nothing is found,
pub pass_nothing : (k count j : ℕ) (earlier : List Finding) (marks : List Mark) (bits : List Bool)
    → length marks ≡ 4 ^ k → is_none (earlier ++ findings j 0 marks) ≡ true
    → meaning k count (walking j false earlier marks) bits ≡ refused (NothingFound (count - length bits))
pass_nothing k count j earlier marks bits h none =
    walking_reads k count j earlier marks bits ∙ from_all k count j earlier marks bits h
    ∙ ap (go_on (read_passes k count (thresholds 0 j))) (cond-true (is_none (earlier ++ findings j 0 marks)) _ _ none)

-- or a zerotree root is missed,
pub pass_missed : (k count j : ℕ) (earlier : List Finding) (marks : List Mark) (bits : List Bool)
    → length marks ≡ 4 ^ k → is_none (earlier ++ findings j 0 marks) ≡ false → has_missed_root k marks ≡ true
    → meaning k count (walking j false earlier marks) bits ≡ refused (MissedRoot (count - length bits))
pass_missed k count j earlier marks bits h found missed =
    walking_reads k count j earlier marks bits ∙ from_all k count j earlier marks bits h
    ∙ ap (go_on (read_passes k count (thresholds 0 j)))
    (cond-false (is_none (earlier ++ findings j 0 marks)) _ _ found ∙ cond-true (has_missed_root k marks) _ _ missed)

-- or the labels are sound.
from_labels : (k count j : ℕ) (earlier : List Finding) (marks : List Mark) (bits : List Bool)
    → length marks ≡ 4 ^ k → is_none (earlier ++ findings j 0 marks) ≡ false → has_missed_root k marks ≡ false
    → from_marks k count j earlier marks bits ≡ go_on (read_passes k count (thresholds 0 j)) (after_labels j (earlier ++ findings j 0 marks) bits)
from_labels k count j earlier marks bits h found sound =
    from_all k count j earlier marks bits h
    ∙ ap (go_on (read_passes k count (thresholds 0 j)))
    (cond-false (is_none (earlier ++ findings j 0 marks)) _ _ found ∙ cond-false (has_missed_root k marks) _ _ sound)

-- Then the subordinate pass begins,
pub pass_end : (k count j : ℕ) (whole : Bool) (earlier : List Finding) (marks : List Mark) (bits : List Bool)
    → length marks ≡ 4 ^ k → is_none (earlier ++ findings (suc j) 0 marks) ≡ false → has_missed_root k marks ≡ false
    → meaning k count (refining (suc j) whole [] (earlier ++ findings (suc j) 0 marks)) bits ≡ meaning k count (walking (suc j) whole earlier marks) bits
unfolding meaning from_refined
pass_end k count j true earlier marks [] h found sound = refl
pass_end k count j false earlier marks [] h found sound = sym (from_labels k count (suc j) earlier marks [] h found sound)
pass_end k count j whole earlier marks (b ∷ bits) h found sound = sym (from_labels k count (suc j) earlier marks (b ∷ bits) h found sound)

-- but at the threshold 1 every pass is over.
pub last_pass_end : (k count : ℕ) (whole : Bool) (earlier : List Finding) (marks : List Mark) (bits : List Bool)
    → length marks ≡ 4 ^ k → is_none (earlier ++ findings 0 0 marks) ≡ false → has_missed_root k marks ≡ false
    → meaning k count (finished (earlier ++ findings 0 0 marks)) bits ≡ meaning k count (walking 0 whole earlier marks) bits
unfolding meaning read_passes thresholds
last_pass_end k count true earlier marks [] h found sound = refl
last_pass_end k count false earlier marks [] h found sound = sym (from_labels k count 0 earlier marks [] h found sound)
last_pass_end k count whole earlier marks (b ∷ bits) h found sound = sym (from_labels k count 0 earlier marks (b ∷ bits) h found sound)

-- A pass that labels nothing finds nothing and misses no root.
pub blank_findings : (j p : ℕ) (marks : List Mark) → ((i : ℕ) → get_or marks i skipped ≡ skipped) → findings j p marks ≡ []
unfolding findings
blank_findings j p [] h = refl
blank_findings j p (m ∷ marks) h =
    ap (λ n. findings j p (n ∷ marks)) (h 0) ∙ blank_findings j (suc p) marks (λ i. h (suc i))

pub blank_missed : (k : ℕ) (marks : List Mark) → ((i : ℕ) → get_or marks i skipped ≡ skipped) → has_missed_root k marks ≡ false
unfolding has_missed_root
blank_missed k marks h = some_none (4 ^ k) _ (λ p _. rw (h p))

-- ---- A subordinate pass

-- A found place is refined.
pub refine_bit : (k count j : ℕ) (whole : Bool) (done : List Finding) (x : Finding) (left : List Finding) (b : Bool) (bits : List Bool)
    → meaning k count (refining j false (done ++ halved x b ∷ []) left) bits ≡ meaning k count (refining j whole done (x ∷ left)) (b ∷ bits)
unfolding meaning from_refined refine_all
refine_bit k count j whole done x left b bits =
    refining_reads k count j (done ++ halved x b ∷ []) left bits
    ∙ ap (λ fs. go_on (read_passes k count (thresholds 0 j)) (after_subordinate (record { found = fs; whole = (refine_all left bits).whole; rest = (refine_all left bits).rest })))
    (append_assoc done (halved x b ∷ []) (refine_all left bits).found)

-- A dominant pass before its first place.
from_start : (k count j : ℕ) (earlier : List Finding) (bits : List Bool)
    → from_marks k count j earlier [] bits ≡ go_on (read_passes k count (thresholds 0 j)) (read_pass k count j earlier bits)
unfolding from_marks read_pass
from_start k count j earlier bits =
    let e : 4 ^ k - 0 ≡ 4 ^ k = omega arith in
    ap (λ n. behind k count j earlier (read_on k earlier n (going [] bits))) e ∙ ap (behind k count j earlier) (read_on_lem k earlier bits (4 ^ k))

-- Every found place is refined: the dominant pass at the next threshold begins.
pub next_pass : (k count j : ℕ) (done : List Finding) (bits : List Bool) → is_none done ≡ false
    → meaning k count (walking j true done []) bits ≡ meaning k count (refining (suc j) false done []) bits
unfolding meaning from_refined refine_all read_passes thresholds findings
next_pass k count j done [] found = ap (λ b. heard (not b) (done ++ [])) (sym (ap is_none (append-nil done) ∙ found))
next_pass k count j done (b ∷ bits) found =
    from_start k count j done (b ∷ bits)
    ∙ ap (λ i. go_on (read_passes k count (thresholds 0 j)) (read_pass k count i done (b ∷ bits))) (sym (zero-add j))
    ∙ ap (λ fs. go_on (read_passes k count (thresholds 0 j)) (read_pass k count (0 + j) fs (b ∷ bits))) (sym (append-nil done))

-- ---- The start

-- The stage behind the header, by the level that it tells.
abbrev pub start_stage : ℕ → Stage
start_stage zero = finished []
start_stage (suc j) = walking j false [] []

from_level : (k count l : ℕ) (bits : List Bool) → read_passes k count (thresholds 0 l) [] bits ≡ meaning k count (start_stage l) bits
unfolding meaning read_passes thresholds
from_level k count zero bits = refl
from_level k count (suc j) [] =
    sym (from_ended k count j [] [] [] (one-le-pow k 4 (omega arith)) (unfold next_place due is_found under_root some in refl)
    ∙ (unfold findings in refl))
from_level k count (suc j) (b ∷ bits) =
    ap (λ i. go_on (read_passes k count (thresholds 0 j)) (read_pass k count i [] (b ∷ bits))) (zero-add j)
    ∙ sym (from_start k count j [] (b ∷ bits))

-- A source with a header of this side.
pub start_level : (k : ℕ) (bits : List Bool) → 7 ≤ length bits → spells (take 3 bits) ≡ k
    → reading k bits ≡ meaning k (length bits) (start_stage (spells (take 4 (drop 3 bits)))) (drop 7 bits)
unfolding reading
start_level k bits h side =
    cond-false (ltb (length bits) 7) _ _ (le-ltb (length bits) 7 h)
    ∙ cond-true (eqb (spells (take 3 bits)) k) _ _ (eq-eqb _ _ side)
    ∙ from_level k (length bits) (spells (take 4 (drop 3 bits))) (drop 7 bits)

-- ---- The end of the source

-- Where a label is due,
pub at_end_walking : (k count j : ℕ) (whole : Bool) (earlier : List Finding) (marks : List Mark)
    → length marks < 4 ^ k → due earlier marks (length marks) ≡ true
    → meaning k count (walking j whole earlier marks) [] ≡ heard whole (earlier ++ findings j 0 marks)
unfolding meaning next_place
at_end_walking k count j true earlier marks h d = refl
at_end_walking k count j false earlier marks h d = from_ended k count j earlier marks [] h (cond-true (due earlier marks (length marks)) _ _ d)

-- or half of it is taken,
pub at_end_halfway : (k count j : ℕ) (earlier : List Finding) (marks : List Mark) (first : Bool)
    → length marks < 4 ^ k → due earlier marks (length marks) ≡ true
    → meaning k count (halfway j earlier marks first) [] ≡ heard false (earlier ++ findings j 0 marks)
unfolding meaning next_place
at_end_halfway k count j earlier marks first h d = from_ended k count j earlier marks (first ∷ []) h (cond-true (due earlier marks (length marks)) _ _ d)

-- or a subordinate bit is due,
pub at_end_refining : (k count j : ℕ) (whole : Bool) (done : List Finding) (x : Finding) (left : List Finding)
    → meaning k count (refining j whole done (x ∷ left)) [] ≡ heard whole (done ++ x ∷ left)
unfolding meaning from_refined refine_all
at_end_refining k count j true done x left = refl
at_end_refining k count j false done x left = refl

-- or every pass is over.
pub at_end_finished : (k count : ℕ) (found : List Finding) → meaning k count (finished found) [] ≡ heard true found
unfolding meaning read_passes
at_end_finished k count found = refl

-- Behind the last pass no bit may stand.
pub bits_after : (k count : ℕ) (found : List Finding) (b : Bool) (bits : List Bool)
    → meaning k count (finished found) (b ∷ bits) ≡ refused (BitsAfterEnd (count - length (b ∷ bits)))
unfolding meaning read_passes
bits_after k count found b bits = refl
