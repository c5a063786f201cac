-- What is read whole is the stream of the table that is then heard.
use Rattle.std.proofs.Common.{◌≡◌, ℕ, zero, suc, ◌+◌, ◌-◌, ◌*◌, ◌/◌, ◌^◌, ◌<◌, ◌≤◌, Bool, true, false, cond, ◌||◌, eqb, leb, ◌⊎◌, List, [], ◌∷◌, ◌++◌, length, get_or, ℤ, pos, nat_abs, Ok, Err, sym, refl, ap, ◌∙◌, subst, ap₂, subst₂, inl, inr, arith}
use native.Mathlib.Nat.{pow-succ'}
use Rattle.std.proofs.lemmas.Nat.{pow_pos}
use Rattle.std.proofs.lemmas.List.FromFn.{length-map-range_with_len, get_or-map-range_with_len}
use Rattle.std.proofs.ByRecursion.{All-weaker}
use Rattle.std.proofs.lemmas.List.{append_assoc, get_or_past}
use Rattle.std.proofs.lemmas.Bool.{cases_Bool, cases_lt, eq-eqb, ne_eqb, eqb-false, le-leb, lt-leb, leb-false, or_parts, not-true, both_ways, false≢true}
use Rattle.std.specs.List.{AllByRecursion as All}
use Rattle.stream.specs.declared.fault.StreamFault.{StreamFault}
use Rattle.stream.specs.declared.fault.StreamFault.TheVariants.{PassCut}
use Rattle.stream.specs.Laws.{SideExponent, FloorExponent, AcceptsStreamsOnly}
use Rattle.stream.specs.Numbers.{Table, Placement, InCell, negative, signed, magnitude_at, level, thresholds, low_end, width_after}
use Rattle.stream.specs.Passes.{significant, Mark, skipped, labelled, Finding, is_found, marks_to, findings, halved, upper}
use Rattle.stream.specs.Reading.{Dominant, going, ended, leaf_root, Subordinate, refine_all, Outcome, refused, heard, Pass, over, cut, faulty, is_none, go_on, read_to, has_missed_root, after_subordinate, after_labels, read_pass, read_passes, reading, heard_at, numbers_heard, loaded}
use Rattle.stream.specs.Streams.{spelled, labels, refinements, refined, found_in, pass_symbols, pass_found, passes, symbols, header, level_told, stream}
use Rattle.stream.proofs.Cells.{cell_holds}
use Rattle.stream.proofs.Dominant.{read_coherent, marks_same, fresh_due, spelled_append, is_found_append, is_found_findings}
use Rattle.stream.proofs.Header.{refused_heard, reading_headed}
use Rattle.stream.proofs.Levels.{largest_bound, levels}
use Rattle.stream.proofs.Likeness.{block_of, unsigned_abs_signed, negative_signed}
use Rattle.stream.proofs.Nearness.{heard_none}
use Rattle.stream.proofs.RoundTrip.{Reached, level_reached}
use Rattle.stream.proofs.Shapes.{all_both, all_parts, found_at, ShapeOf, Distinct, Shaped, FreshAt, findings_marked, dominant_shaped, subordinate_shaped, refine_all_found}
use Rattle.stream.proofs.States.{CellOf, State}
use Rattle.stream.proofs.Terms.{cell_at, Early, Says}

-- ---- A subordinate pass, back

-- The cell of a number is the aligned cell that holds it.
pub low_of : (w q n : ℕ) → 2 ^ w * q ≤ n → n < 2 ^ w * q + 2 ^ w → low_end w n ≡ 2 ^ w * q
low_of w q n l u = ap (λ x. 2 ^ w * x) (block_of w q n l u)

-- A finding with the sign of its number and the low end and the width of its cell.
cell_of : (k : ℕ) (u : List ℤ) (w l : ℕ) (x : Finding) → x.negated ≡ negative (get_or u x.place (pos 0)) → x.low ≡ low_end w (magnitude_at u x.place) → x.width ≡ 2 ^ w
    → x.place < 4 ^ k → 2 ^ l ≤ magnitude_at u x.place → CellOf k u w l x
unfolding cell_at
cell_of k u w l x sign low wide h r = record { is = λ i. record { place = x.place; negated = sign i; low = low i; width = wide i }; within = h; reached = r }

-- If half of an aligned cell is the number's cell, then the whole is its cell of twice the width, and the bit is the coder's.
unhalved : (k : ℕ) (u : List ℤ) (i l : ℕ) (x : Finding) (b : Bool) → ShapeOf k (suc i) l x → CellOf k u i l (halved x b)
    → CellOf k u (suc i) l x × (upper u x ≡ b)
unfolding halved upper cell_at
unhalved k u i l x b s c = (cell_of k u (suc i) l x (ap (λ y. y.negated) c.is) (whole b low) s.wide c.within c.reached, bit b low)
  where
    n : ℕ
    n = magnitude_at u x.place

    low : x.low + cond b (x.width / 2) 0 ≡ low_end i n
    low = ap (λ y. y.low) c.is

    whole : (b : Bool) → x.low + cond b (x.width / 2) 0 ≡ low_end i n → x.low ≡ low_end (suc i) n
    whole true e = s.aligned ∙ sym (low_of (suc i) s.part n (omega (arith, s.aligned, s.wide, pow-succ' 2 i, cell_holds i n)) (omega (arith, s.aligned, s.wide, pow-succ' 2 i, cell_holds i n)))
    whole false e = s.aligned ∙ sym (low_of (suc i) s.part n (omega (arith, s.aligned, pow-succ' 2 i, cell_holds i n)) (omega (arith, s.aligned, pow-succ' 2 i, cell_holds i n)))

    bit : (b : Bool) → x.low + cond b (x.width / 2) 0 ≡ low_end i n → leb (x.low + x.width / 2) n ≡ b
    bit true e = le-leb _ _ (omega (arith, cell_holds i n))
    bit false e = lt-leb _ _ (omega (arith, s.wide, pow-succ' 2 i, cell_holds i n))

-- The subordinate pass that was read is the coder's.
record Subordinated (k : ℕ) (u : List ℤ) (i l : ℕ) (xs : List Finding) (bits : List Bool) : Type 0 where
  cells : All (CellOf k u (suc i) l) xs
  found : refined u xs ≡ (refine_all xs bits).found
  spells : bits ≡ spelled (refinements u (suc i) xs) ++ (refine_all xs bits).rest

unrefined : (k : ℕ) (u : List ℤ) (i l : ℕ) (xs : List Finding) (bits : List Bool) → All (ShapeOf k (suc i) l) xs → (refine_all xs bits).whole ≡ true
    → All (CellOf k u i l) (refine_all xs bits).found → Subordinated k u i l xs bits
unfolding refine_all refined refinements spelled
unrefined k u i l [] bits s w c = record { cells = tt; found = refl; spells = refl }
unrefined k u i l (x ∷ xs) [] s w c = absurd (false≢true w)
unrefined k u i l (x ∷ xs) (b ∷ bits) s w c =
    let h = unhalved k u i l x b s.0 c.0 in
    let r = unrefined k u i l xs bits s.1 w c.1 in
    record {
      cells = (h.0, r.cells);
      found = ap₂ (λ a ys. halved x a ∷ ys) h.1 r.found;
      spells = ap₂ ◌∷◌ (sym h.1) r.spells;
    }

-- ---- A dominant pass, back

-- A place that is found in its cell reaches the threshold.
found_reached : (k : ℕ) (u : List ℤ) (w l : ℕ) (xs : List Finding) (p : ℕ) → All (CellOf k u w l) xs → is_found xs p ≡ true → 2 ^ l ≤ magnitude_at u p
found_reached k u w l xs p h e = let r = found_at (CellOf k u w l) xs p h e in subst (λ q. 2 ^ l ≤ magnitude_at u q) r.2 r.1.reached

-- A fresh finding in its cell: the mark has its sign, and its magnitude is below twice the threshold.
fresh_cell : (k : ℕ) (u : List ℤ) (j : ℕ) (ms : List Mark) (p : ℕ) → All (CellOf k u j j) (findings j 0 ms) → is_found (findings j 0 ms) p ≡ true
    → (get_or ms p skipped ≡ labelled (significant (negative (get_or u p (pos 0))))) × (magnitude_at u p < 2 ^ suc j)
unfolding cell_at
fresh_cell k u j ms p h e =
    let r = found_at (λ x. CellOf k u j j x × FreshAt j 0 ms x) (findings j 0 ms) p (all_both _ _ _ (λ x a b. (a, b)) (findings j 0 ms) h (findings_marked j 0 ms)) e in
    let x = r.0 in
    let c = r.1.0 in
    let m = r.1.1 in
    let i : m.index ≡ p = omega (arith, m.at_place, r.2) in
    let sign : x.negated ≡ negative (get_or u x.place (pos 0)) = ap (λ y. y.negated) c.is in
    let low : x.low ≡ low_end j (magnitude_at u x.place) = ap (λ y. y.low) c.is in (
      ap (λ q. get_or ms q skipped) (sym i) ∙ m.marked ∙ ap (λ b. labelled (significant b)) (sign ∙ ap (λ q. negative (get_or u q (pos 0))) r.2),
      subst (λ q. magnitude_at u q < 2 ^ suc j) r.2 (omega (arith, low, m.lowest, pow-succ' 2 j, cell_holds j (magnitude_at u x.place))),
    )

-- The state before a dominant pass, from the state after it.
undominated : (k : ℕ) (u : List ℤ) (j : ℕ) (earlier : List Finding) (ms : List Mark) → All (ShapeOf k j (suc j)) earlier
    → State k u j j (earlier ++ findings j 0 ms) → State k u j (suc j) earlier
unfolding cell_at
undominated k u j earlier ms s st = record { cells = cells; early = early }
  where
    fresh : List Finding
    fresh = findings j 0 ms

    parts : All (CellOf k u j j) earlier × All (CellOf k u j j) fresh
    parts = all_parts (CellOf k u j j) earlier fresh st.cells

    cells : All (CellOf k u j (suc j)) earlier
    cells = all_both _ _ _ (λ x a c. record {
      is = c.is;
      within = c.within;
      reached = omega (arith, a.above, ap {B = ℕ} (λ y. y.low) c.is, cell_holds j (magnitude_at u x.place));
    }) earlier s parts.0

    early : Early k u (suc j) earlier
    early p h = elim (cases_Bool (is_found earlier p)) [
      | inl e ↦ e ∙ sym (le-leb _ _ (found_reached k u j (suc j) earlier p cells e))
      | inr e ↦ e ∙ sym (lt-leb _ _ (not_yet e))
    ]
      where
        now : is_found earlier p ≡ false → (is_found earlier p || is_found fresh p) ≡ true → is_found fresh p ≡ true
        now e o = rw e at o

        not_yet : is_found earlier p ≡ false → magnitude_at u p < 2 ^ suc j
        not_yet e = elim (cases_Bool (leb (2 ^ j) (magnitude_at u p))) [
          | inl b ↦ (fresh_cell k u j ms p parts.1 (now e (sym (is_found_append earlier fresh p) ∙ st.early p h ∙ b))).1
          | inr b ↦ omega (arith, leb-false _ _ b, pow-succ' 2 j)
        ]

-- And the marks.
same_marks : (k : ℕ) (u : List ℤ) (j : ℕ) (earlier : List Finding) (ms : List Mark) (p : ℕ) → p < 4 ^ k → is_found earlier p ≡ false
    → State k u j j (earlier ++ findings j 0 ms) → Says (get_or ms p skipped) (leb (2 ^ j) (magnitude_at u p)) (negative (get_or u p (pos 0)))
same_marks k u j earlier ms p h e st = elim (cases_Bool (leb (2 ^ j) (magnitude_at u p))) [
  | inl b ↦ rw b (fresh_cell k u j ms p (all_parts (CellOf k u j j) earlier fresh st.cells).1 (either ∙ b)).0
  | inr b ↦ rw b (sym (is_found_findings j ms p) ∙ either ∙ b)
]
  where
    fresh : List Finding
    fresh = findings j 0 ms

    either : is_found fresh p ≡ leb (2 ^ j) (magnitude_at u p)
    either = rw e at (sym (is_found_append earlier fresh p) ∙ st.early p h)

-- ---- The passes at a threshold, back

-- The passes at a threshold, read whole.
record PassRead (k j : ℕ) (earlier : List Finding) (bits : List Bool) (found : List Finding) (rest : List Bool) : Type 0 where
  marks : List Mark
  left : List Bool
  reads : read_to k earlier bits (4 ^ k) ≡ going marks left
  something : is_none (earlier ++ findings j 0 marks) ≡ false
  sound : has_missed_root k marks ≡ false
  behind : after_labels j (earlier ++ findings j 0 marks) left ≡ over found rest

cut_over : {A : Type 0} (found xs : List Finding) (rest : List Bool) → cut found ≡ over xs rest → A
cut_over found xs rest e = let z : ◌≡◌ {A = ℕ} 0 1 = cc in absurd (omega arith)

faulty_over : {A : Type 0} (fault : StreamFault) (xs : List Finding) (rest : List Bool) → faulty fault ≡ over xs rest → A
faulty_over fault xs rest e = let z : ◌≡◌ {A = ℕ} 0 1 = cc in absurd (omega arith)

pass_read : (k count j : ℕ) (earlier : List Finding) (bits : List Bool) (found : List Finding) (rest : List Bool) → read_pass k count j earlier bits ≡ over found rest
    → PassRead k j earlier bits found rest
unfolding read_pass
pass_read k count j earlier bits found rest e = go (read_to k earlier bits (4 ^ k)) refl
  where
    go : (d : Dominant) → read_to k earlier bits (4 ^ k) ≡ d → PassRead k j earlier bits found rest
    go (ended ms) r = cut_over _ _ _ (rw r at e)
    go (leaf_root left) r = faulty_over _ _ _ (rw r at e)
    go (going ms left) r = elim (cases_Bool (is_none (earlier ++ findings j 0 ms))) [
      | inl n ↦ faulty_over _ _ _ (rw (r, n) at e)
      | inr n ↦ elim (cases_Bool (has_missed_root k ms)) [
        | inl m ↦ faulty_over _ _ _ (rw (r, n, m) at e)
        | inr m ↦ record { marks = ms; left = left; reads = r; something = n; sound = m; behind = rw (r, n, m) at e }
      ]
    ]

some_reached : (k : ℕ) (u : List ℤ) (w l : ℕ) (xs : List Finding) → All (CellOf k u w l) xs → is_none xs ≡ false → Reached k u l
some_reached k u w l [] h n = absurd (false≢true (sym n))
some_reached k u w l (x ∷ xs) h n = (x.place, h.0.within, h.0.reached)

-- The passes at a threshold, told again by the table.
record Retold (k : ℕ) (u : List ℤ) (j : ℕ) (earlier : List Finding) (bits : List Bool) (found : List Finding) (rest : List Bool) : Type 0 where
  before : State k u j (suc j) earlier
  spells : bits ≡ spelled (pass_symbols k u j earlier) ++ rest
  behind : pass_found k u j earlier ≡ found
  reached : Reached k u j

over_parts : (xs ys : List Finding) (cs bs : List Bool) → over xs cs ≡ over ys bs → (xs ≡ ys) × (cs ≡ bs)
over_parts xs ys cs bs e = (cc, cc)

-- A subordinate pass that was read whole.
subordinate_over : (s : Subordinate) (found : List Finding) (rest : List Bool) → after_subordinate s ≡ over found rest
    → (s.whole ≡ true) × (s.found ≡ found) × (s.rest ≡ rest)
subordinate_over s found rest e = elim (cases_Bool s.whole) [
  | inl w ↦ let p = over_parts _ _ _ _ (rw w at e) in (w, p.0, p.1)
  | inr w ↦ cut_over _ _ _ (rw w at e)
]

module _ (k j : ℕ) (earlier : List Finding) (bits : List Bool) (found : List Finding) (rest : List Bool) (s : SideExponent k) (shaped : Shaped k j (suc j) earlier)
    (r : PassRead k j earlier bits found rest) where
  -- The shape after the dominant pass.
  between_shaped : j ≤ 14 → Shaped k j j (earlier ++ findings j 0 r.marks)
  between_shaped h =
      let c = read_coherent k j earlier bits (4 ^ k) r.marks r.left r.reads in
      dominant_shaped k j earlier r.marks h c.0 (λ p f. fresh_due k earlier r.marks p c.2 f) shaped

  -- A table with the state after the dominant pass has its marks.
  between_marks : (u : List ℤ) → State k u j j (earlier ++ findings j 0 r.marks) → marks_to k u j earlier (4 ^ k) ≡ r.marks
  between_marks u st =
      let c = read_coherent k j earlier bits (4 ^ k) r.marks r.left r.reads in
      marks_same k j u earlier r.marks s c.2 c.0 r.sound (λ p h e. same_marks k u j earlier r.marks p h e st)

  between_bits : (u : List ℤ) → State k u j j (earlier ++ findings j 0 r.marks) → bits ≡ spelled (labels j 0 (marks_to k u j earlier (4 ^ k))) ++ r.left
  between_bits u st =
      let c = read_coherent k j earlier bits (4 ^ k) r.marks r.left r.reads in
      rw (between_marks u st) c.1

  between_found : (u : List ℤ) → State k u j j (earlier ++ findings j 0 r.marks) → found_in k u j earlier ≡ earlier ++ findings j 0 r.marks
  unfolding found_in
  between_found u st = ap (λ ms. earlier ++ findings j 0 ms) (between_marks u st)

-- The shape after the passes.
pass_shaped : (k j : ℕ) (earlier : List Finding) (bits : List Bool) (found : List Finding) (rest : List Bool) → SideExponent k → j ≤ 14 → Shaped k j (suc j) earlier
    → PassRead k j earlier bits found rest → Shaped k (width_after j) j found
pass_shaped k zero earlier bits found rest s h sh r =
    let p = over_parts _ _ _ _ r.behind in
    subst (Shaped k 0 0) p.0 (between_shaped k 0 earlier bits found rest s sh r h)
pass_shaped k (suc i) earlier bits found rest s h sh r =
    let w : suc i - 1 ≡ i = omega arith in
    let p = subordinate_over _ _ _ r.behind in
    rw w (subst (Shaped k i (suc i)) p.1 (subordinate_shaped k i (suc i) _ r.left (between_shaped k (suc i) earlier bits found rest s sh r h) p.0))

-- If a table has the state after the passes, then it has the state before them, and they are its passes.
retold : (k : ℕ) (u : List ℤ) (j : ℕ) (earlier : List Finding) (bits : List Bool) (found : List Finding) (rest : List Bool) → SideExponent k → j ≤ 14
    → Shaped k j (suc j) earlier → PassRead k j earlier bits found rest → State k u (width_after j) j found → Retold k u j earlier bits found rest
unfolding pass_symbols pass_found
retold k u zero earlier bits found rest s h sh r st =
    let p = over_parts _ _ _ _ r.behind in
    let between : State k u 0 0 (earlier ++ findings 0 0 r.marks) = subst (State k u 0 0) (sym p.0) st in
    record {
      before = undominated k u 0 earlier r.marks sh.shapes between;
      spells = between_bits k 0 earlier bits found rest s sh r u between ∙ ap (λ x. spelled (labels 0 0 (marks_to k u 0 earlier (4 ^ k))) ++ x) p.1;
      behind = between_found k 0 earlier bits found rest s sh r u between ∙ p.0;
      reached = some_reached k u 0 0 _ between.cells r.something;
    }
retold k u (suc i) earlier bits found rest s h sh r st =
    let w : suc i - 1 ≡ i = omega arith in
    let mid = earlier ++ findings (suc i) 0 r.marks in
    let p = subordinate_over (refine_all mid r.left) found rest r.behind in
    let after : State k u i (suc i) (refine_all mid r.left).found = subst₂ (λ v xs. State k u v (suc i) xs) w (sym p.1) st in
    let back = unrefined k u i (suc i) mid r.left (between_shaped k (suc i) earlier bits found rest s sh r h).shapes p.0 after.cells in
    let between : State k u (suc i) (suc i) mid = record { cells = back.cells; early = λ q l. sym (refine_all_found mid r.left q) ∙ after.early q l } in
    let same = between_found k (suc i) earlier bits found rest s sh r u between in
    let first = spelled (labels (suc i) 0 (marks_to k u (suc i) earlier (4 ^ k))) in
    record {
      before = undominated k u (suc i) earlier r.marks sh.shapes between;
      spells = between_bits k (suc i) earlier bits found rest s sh r u between
          ∙ ap (λ x. first ++ x) (back.spells ∙ ap₂ (λ xs x. spelled (refinements u (suc i) xs) ++ x) (sym same) p.2)
          ∙ sym (append_assoc first (spelled (refinements u (suc i) (found_in k u (suc i) earlier))) rest)
          ∙ ap (λ x. x ++ rest) (sym (spelled_append (labels (suc i) 0 (marks_to k u (suc i) earlier (4 ^ k))) (refinements u (suc i) (found_in k u (suc i) earlier))));
      behind = ap (refined u) same ∙ back.found ∙ p.1;
      reached = some_reached k u (suc i) (suc i) mid between.cells r.something;
    }

-- ---- All thresholds, back

-- What was read from n thresholds on: it ended at a floor, and each table with the state at the end has the state before, and gives the bits.
record Replayed (k n : ℕ) (earlier : List Finding) (bits : List Bool) (last : List Finding) : Type 0 where
  floor : ℕ
  count : ℕ
  down : floor + count ≡ n
  shaped : Shaped k (width_after floor) floor last
  again : (u : List ℤ) → State k u (width_after floor) floor last → State k u (n - 1) n earlier × (spelled (passes k u (thresholds floor count) earlier) ≡ bits)
  first : is_none earlier ≡ true → (n ≡ 0) ⊎ ((floor < n) × ((u : List ℤ) → State k u (width_after floor) floor last → Reached k u (n - 1)))

heard_parts : (a b : Bool) (xs ys : List Finding) → heard a xs ≡ heard b ys → (a ≡ b) × (xs ≡ ys)
heard_parts a b xs ys e = (cc, cc)

-- Reading that ends whole has gone on behind a pass.
went_on : (next : List Finding → List Bool → Outcome) (pass : Pass) (last : List Finding) → go_on next pass ≡ heard true last
    → (found : List Finding) × (rest : List Bool) × (pass ≡ over found rest) × (next found rest ≡ heard true last)
went_on next (over found rest) last e = (found, rest, refl, e)
went_on next (cut found) last e = absurd (false≢true (heard_parts _ _ _ _ e).0)
went_on next (faulty fault) last e = refused_heard _ _ _ e

-- One threshold more.
replayed_more : (k n : ℕ) (earlier : List Finding) (bits : List Bool) (found : List Finding) (rest : List Bool) (last : List Finding) → SideExponent k → n ≤ 14
    → Shaped k n (suc n) earlier → PassRead k n earlier bits found rest → Replayed k n found rest last → Replayed k (suc n) earlier bits last
unfolding thresholds passes
replayed_more k n earlier bits found rest last s h sh pass later = record {
  floor = later.floor;
  count = suc later.count;
  down = omega (arith, later.down);
  shaped = later.shaped;
  again = λ u st. let r = told u st in (rw w r.before, spells u st r);
  first = λ e. inr (omega (arith, later.down), λ u st. rw w (told u st).reached);
}
  where
    w : suc n - 1 ≡ n
    w = omega arith

    told : (u : List ℤ) → State k u (width_after later.floor) later.floor last → Retold k u n earlier bits found rest
    told u st = retold k u n earlier bits found rest s h sh pass (later.again u st).0

    spells : (u : List ℤ) → State k u (width_after later.floor) later.floor last → Retold k u n earlier bits found rest
        → spelled (passes k u (thresholds later.floor (suc later.count)) earlier) ≡ bits
    spells u st r =
        rw (later.down, spelled_append (pass_symbols k u n earlier) (passes k u (thresholds later.floor later.count) (pass_found k u n earlier)), r.behind, (later.again u st).1)
        (sym r.spells)

replayed : (k total n : ℕ) (earlier : List Finding) (bits : List Bool) (last : List Finding) → SideExponent k → n ≤ 15 → Shaped k (n - 1) n earlier
    → read_passes k total (thresholds 0 n) earlier bits ≡ heard true last → Replayed k n earlier bits last
unfolding read_passes thresholds passes spelled
replayed k total zero earlier [] last s h sh e =
    let same = (heard_parts _ _ _ _ e).1 in
    record { floor = 0; count = 0; down = omega arith; shaped = subst (Shaped k 0 0) same sh; again = λ u st. (subst (State k u 0 0) (sym same) st, refl); first = λ z. inl refl }
replayed k total zero earlier (b ∷ bits) last s h sh e = refused_heard _ _ _ e
replayed k total (suc n) earlier [] last s h sh e =
    let same = heard_parts _ _ _ _ e in
    record {
      floor = suc n;
      count = 0;
      down = omega arith;
      shaped = subst (Shaped k (suc n - 1) (suc n)) same.1 sh;
      again = λ u st. (subst (State k u (suc n - 1) (suc n)) (sym same.1) st, refl);
      first = λ z. absurd (both_ways _ (not-true _ same.0) z);
    }
replayed k total (suc n) earlier (b ∷ bits) last s h sh e =
    let small : n ≤ 14 = omega arith in
    let below : n ≤ 15 = omega arith in
    let z : 0 + n ≡ n = omega arith in
    let w : suc n - 1 ≡ n = omega arith in
    let before : Shaped k n (suc n) earlier = subst (λ v. Shaped k v (suc n) earlier) w sh in
    let g = went_on (read_passes k total (thresholds 0 n)) (read_pass k total (0 + n) earlier (b ∷ bits)) last e in
    let pass = pass_read k total n earlier (b ∷ bits) g.0 g.1 (subst (λ j. read_pass k total j earlier (b ∷ bits) ≡ over g.0 g.1) z g.2) in
    replayed_more k n earlier (b ∷ bits) g.0 g.1 last s small before pass
    (replayed k total n g.0 g.1 last s below (pass_shaped k n earlier (b ∷ bits) g.0 g.1 s small before pass) g.3)

-- ---- The table heard

others : (xs : List Finding) (q : ℕ) → is_found xs q ≡ false → All (λ y. eqb q y.place ≡ false) xs
unfolding is_found
others [] q e = tt
others (y ∷ xs) q e = let p = or_parts _ _ e in (ne_eqb _ _ (λ s. eqb-false _ _ p.0 (sym s)), others xs q p.1)

-- At the place of a finding its number is heard, where no place is found twice.
heard_own : (place : Placement) (xs : List Finding) → Distinct xs → All (λ x. heard_at place xs x.place ≡ signed x.negated (place x.low x.width)) xs
unfolding heard_at
heard_own place [] d = tt
heard_own place (x ∷ xs) d =
    (rw (eq-eqb x.place x.place refl), all_both _ _ _ (λ y a b. rw a b) xs (others xs x.place d.0) (heard_own place xs d.1))

heard_at_lem : (place : Placement) (k : ℕ) (found : List Finding) (p : ℕ) → p < 4 ^ k → get_or (numbers_heard place k found) p (pos 0) ≡ heard_at place found p
unfolding numbers_heard
heard_at_lem place k found p h = get_or-map-range_with_len (heard_at place found) 0 (4 ^ k) p p (pos 0) h (omega arith)

heard_length : (place : Placement) (k : ℕ) (found : List Finding) → length (numbers_heard place k found) ≡ 4 ^ k
unfolding numbers_heard
heard_length place k found = length-map-range_with_len (heard_at place found) 0 (4 ^ k)

-- The number heard of a cell lies in it.
heard_cell : (place : Placement) → InCell place → (k w l : ℕ) (found : List Finding) (x : Finding) → ShapeOf k w l x
    → heard_at place found x.place ≡ signed x.negated (place x.low x.width)
    → CellOf k (numbers_heard place k found) w l x × (magnitude_at (numbers_heard place k found) x.place < 2 ^ 15)
heard_cell place ic k w l found x s e =
    let u = numbers_heard place k found in
    let n = place x.low x.width in
    let b = ic x.low x.width (omega (arith, s.wide, pow_pos w)) in
    let number : get_or u x.place (pos 0) ≡ signed x.negated n = heard_at_lem place k found x.place s.within ∙ e in
    let mag : magnitude_at u x.place ≡ n = ap nat_abs number ∙ unsigned_abs_signed x.negated n in
    let sign : negative (get_or u x.place (pos 0)) ≡ x.negated = ap negative number ∙ negative_signed x.negated n (omega (arith, s.above, pow_pos l)) in (
      cell_of k u w l x (sym sign)
          (s.aligned ∙ sym (low_of w s.part (magnitude_at u x.place) (omega (arith, s.aligned)) (omega (arith, s.aligned, s.wide))))
          s.wide s.within (omega (arith, s.above)),
      omega (arith, s.inside, s.wide),
    )

module _ (place : Placement) (ic : InCell place) (k w l : ℕ) (found : List Finding) (sh : Shaped k w l found) where
  found_heard : All (λ x. CellOf k (numbers_heard place k found) w l x × (magnitude_at (numbers_heard place k found) x.place < 2 ^ 15)) found
  found_heard = all_both _ _ _ (heard_cell place ic k w l found) found sh.shapes (heard_own place found sh.distinct)

  heard_state : State k (numbers_heard place k found) w l found
  heard_state = record { cells = cells; early = early }
    where
      u : List ℤ
      u = numbers_heard place k found

      cells : All (CellOf k u w l) found
      cells = All-weaker _ _ (λ x c. c.0) found found_heard

      early : Early k u l found
      early p h = elim (cases_Bool (is_found found p)) [
        | inl e ↦ e ∙ sym (le-leb _ _ (found_reached k u w l found p cells e))
        | inr e ↦ e ∙ sym (lt-leb _ _ (omega (arith, ap nat_abs (heard_at_lem place k found p h ∙ heard_none place found p e), pow_pos l)))
      ]

  heard_table : Table k (numbers_heard place k found)
  heard_table = record { places = heard_length place k found; range = range }
    where
      u : List ℤ
      u = numbers_heard place k found

      among : (p : ℕ) → is_found found p ≡ true → magnitude_at u p < 2 ^ 15
      among p e = let r = found_at _ found p found_heard e in subst (λ q. magnitude_at u q < 2 ^ 15) r.2 r.1.1

      range : (p : ℕ) → nat_abs (get_or u p (pos 0)) < 2 ^ 15
      range p = elim (cases_lt p (4 ^ k)) [
        | inl h ↦ elim (cases_Bool (is_found found p)) [
          | inl e ↦ among p e
          | inr e ↦ omega (arith, ap nat_abs (heard_at_lem place k found p h ∙ heard_none place found p e))
        ]
        | inr h ↦ omega (arith, ap nat_abs (get_or_past u p (pos 0) (omega (arith, heard_length place k found))))
      ]

-- ---- The stream

loaded_heard : (place : Placement) (k : ℕ) (bits : List Bool) (v : List ℤ) → loaded place k bits ≡ Ok v
    → (found : List Finding) × (reading k bits ≡ heard true found) × (numbers_heard place k found ≡ v)
unfolding loaded
loaded_heard place k bits v e = go (reading k bits) refl
  where
    go : (o : Outcome) → reading k bits ≡ o → (found : List Finding) × (reading k bits ≡ heard true found) × (numbers_heard place k found ≡ v)
    go (refused fault) r = let h : Err fault ≡ Ok v = rw r at e in let z : ◌≡◌ {A = ℕ} 0 1 = cc in absurd (omega arith)
    go (heard true found) r = let h : Ok (numbers_heard place k found) ≡ Ok v = rw r at e in (found, r, cc)
    go (heard false found) r = let h : Err (PassCut (length bits)) ≡ Ok v = rw r at e in let z : ◌≡◌ {A = ℕ} 0 1 = cc in absurd (omega arith)

-- The level of a table whose numbers lie below 2 ^ l and reach half of that.
pub level_is : (k : ℕ) (u : List ℤ) (l : ℕ) → Table k u → ((p : ℕ) → p < 4 ^ k → magnitude_at u p < 2 ^ l) → (l ≡ 0) ⊎ Reached k u (l - 1) → level u ≡ l
level_is k u l h b r = elim r [ inl z ↦ omega (arith, most) | inr a ↦ omega (arith, most, ((levels k u h).1 (l - 1)).0 (omega (arith, a.2, largest_bound u a.0))) ]
  where
    most : level u ≤ l
    most = elim (cases_lt l (level u)) [
      | inl s ↦ let a = level_reached k u l h s in absurd (omega (arith, a.2, b a.0 a.1))
      | inr s ↦ s
    ]

-- A stream from its passes.
stream_of : (k : ℕ) (u : List ℤ) (l floor count : ℕ) (rest : List Bool) → level u ≡ l → floor + count ≡ l → (l ≡ 0) ⊎ (floor < l)
    → spelled (passes k u (thresholds floor count) []) ≡ rest → stream k floor u ≡ header k l ++ rest
unfolding stream symbols level_told
stream_of k u l floor count rest e d c p =
    let n : level u - floor ≡ count = omega arith in
    ap₂ (λ a bs. header k a ++ bs) told (ap (λ m. spelled (passes k u (thresholds floor m) [])) n ∙ p)
  where
    told : cond (leb (level u) floor) 0 (level u) ≡ l
    told = elim c [ inl z ↦ rw (le-leb (level u) floor (omega arith)) (sym z) | inr b ↦ rw (lt-leb (level u) floor (omega arith)) e ]

accepted : (place : Placement) → InCell place → (k l : ℕ) (rest : List Bool) (found : List Finding) → l < 16 → Replayed k l [] rest found
    → Table k (numbers_heard place k found) × ((f : ℕ) × FloorExponent f × (stream k f (numbers_heard place k found) ≡ header k l ++ rest))
unfolding is_found
accepted place ic k l rest found h p = (table, (p.floor, low, stream_of k u l p.floor p.count rest is_level p.down floor_below (p.again u state).1))
  where
    u : List ℤ
    u = numbers_heard place k found

    table : Table k u
    table = heard_table place ic k (width_after p.floor) p.floor found p.shaped

    state : State k u (width_after p.floor) p.floor found
    state = heard_state place ic k (width_after p.floor) p.floor found p.shaped

    floor_below : (l ≡ 0) ⊎ (p.floor < l)
    floor_below = elim (p.first refl) [ inl z ↦ inl z | inr b ↦ inr b.0 ]

    low : FloorExponent p.floor
    low = elim floor_below [ inl z ↦ omega (arith, p.down) | inr b ↦ omega arith ]

    top : (l ≡ 0) ⊎ Reached k u (l - 1)
    top = elim (p.first refl) [ inl z ↦ inl z | inr b ↦ inr (b.1 u state) ]

    is_level : level u ≡ l
    is_level = level_is k u l table (λ q i. leb-false _ _ (sym ((p.again u state).0.early q i))) top

pub accepts_streams_only : AcceptsStreamsOnly
accepts_streams_only place ic k bits v s e =
    let r = loaded_heard place k bits v e in
    let h = reading_headed k bits r.0 r.1 in
    let none : Shaped k (h.told - 1) h.told [] = record { shapes = tt; distinct = tt } in
    let most : h.told ≤ 15 = omega (arith, h.small) in
    subst₂ (λ v bits. Table k v × ((f : ℕ) × FloorExponent f × (stream k f v ≡ bits))) r.2 (sym h.begins)
    (accepted place ic k h.told h.rest r.0 h.small (replayed k (length bits) h.told [] h.rest r.0 s most none h.reads))
