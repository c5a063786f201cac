-- A dominant pass goes on by one place: passed over, or labelled.
use Rattle.std.proofs.Common.{◌≡◌, ℕ, ◌+◌, ◌/◌, ◌^◌, ◌<◌, ◌≤◌, Bool, true, false, not, ◌&&◌, ◌||◌, eqb, ltb, List, [], ◌∷◌, ◌++◌, length, get_or, take, drop, set, sym, refl, ap, ◌∙◌, ap₂, inl, inr, zero-add, arith}
use Rattle.decoder.proofs.Holding.{known_fewer, held_find, not_listed}
use Rattle.decoder.proofs.Items.{mark_at, mark_past, length_marks, marks_more, tells, told_other, told_there, told_kept, findings_part, findings_told, findings_push, listed_kept}
use Rattle.decoder.proofs.Shades.{under_more, under_first, under_parent, mark_before}
use Rattle.decoder.specs.Machines.{clear, mark_of, marks_of, finding_of, findings_of, stage_by, passed, finding_one, found_at, shade_at, Walking}
use Rattle.decoder.specs.Stages.{walking}
use Rattle.decoder.specs.declared.cell.Cell.{Cell}
use Rattle.decoder.specs.declared.machine.Machine.{Machine}
use Rattle.decoder.specs.declared.machine.Waiting.TheVariants.{First}
use Rattle.std.proofs.lemmas.List.{get_or-set_same, get_or-set_other, get_or_push, append-nil, length-set, length-take-le, take_more_set, take-set-le, drop-append-le}
use Rattle.std.proofs.lemmas.Bool.{cases_eq, cases_lt, lt-ltb, le-ltb, ne_eqb, eq-eqb, and_left, and_right, both_ways}
use Rattle.stream.proofs.Marks.{findings_append}
use Rattle.stream.specs.Laws.{SideExponent}
use Rattle.stream.specs.Passes.{significant, zerotree_root, isolated_zero, Mark, skipped, labelled, Finding, is_found, is_fresh, is_root, under_root, due, findings}

-- A mark that finds nothing.
finds_nothing : (j p : ℕ) (x : Mark) → is_fresh x ≡ false → findings j p (x ∷ []) ≡ []
unfolding findings
finds_nothing j p skipped e = refl
finds_nothing j p (labelled (significant s)) e = absurd (both_ways true e refl)
finds_nothing j p (labelled zerotree_root) e = refl
finds_nothing j p (labelled isolated_zero) e = refl

-- What the walk tests at a place, in two ways.
test_due : (w : ℕ) (s : Bool) → (not (ltb 0 w && true) && not s) ≡ (not s && eqb w 0)
test_due w s = elim (cases_lt 0 w) [
  | inl h ↦ rw (lt-ltb 0 w h, ne_eqb w 0 (omega arith)) (elim s as (λ b. false ≡ (not b && false)) [ true ↦ refl | false ↦ refl ])
  | inr h ↦ rw (le-ltb 0 w h, eq-eqb w 0 (omega arith)) (elim s as (λ b. not b ≡ (not b && true)) [ true ↦ refl | false ↦ refl ])
]

module _ (k : ℕ) (m : Machine) (cells : List Cell) (found : List ℕ) (w : Walking k m cells found) (inside : m.place < 4 ^ k) where
  length_is : length (marks_of m.place cells) ≡ m.place
  length_is = length_marks m.place cells (omega (arith, w.memory))

  -- The place is shaded by what stands above it.
  pub shade_under : SideExponent k → shade_at cells m.place ≡ under_root (marks_of m.place cells) m.place
  shade_under side = elim (cases_lt 0 m.place) [
    | inl h ↦
        rw (
          lt-ltb 0 m.place h,
          under_parent k (marks_of m.place cells) m.place side h inside,
          mark_at m.place cells (m.place / 4) (omega arith),
          w.shades (m.place / 4) (omega arith),
        )
    | inr h ↦ let z : m.place ≡ 0 = omega arith in
        ap (λ (b : Bool). b && ((get_or cells (m.place / 4) clear).shaded || is_root (mark_of (get_or cells (m.place / 4) clear)))) (le-ltb 0 m.place h)
        ∙ sym (ap (λ (p : ℕ). under_root (marks_of m.place cells) p) z ∙ under_first (marks_of m.place cells))
  ]

  -- A label is due if the walk's test says so.
  pub due_test : SideExponent k
      → due (findings_of cells (take m.before found)) (marks_of m.place cells) (length (marks_of m.place cells))
      ≡ (not (shade_at cells m.place) && eqb (get_or cells m.place clear).width 0)
  unfolding due
  due_test side =
      ap (due (findings_of cells (take m.before found)) (marks_of m.place cells)) length_is
      ∙ ap₂ (λ (a b : Bool). not a && not b)
      (w.olds m.place inside ∙ ap (λ (x : Mark). ltb 0 (get_or cells m.place clear).width && not (is_fresh x)) (mark_past m.place cells m.place (omega (arith, w.memory)) (omega arith)))
      (sym (shade_under side))
      ∙ test_due (get_or cells m.place clear).width (shade_at cells m.place)

  -- ---- One mark more

  module _ (c : Cell) where
    more : marks_of (m.place + 1) (set cells m.place c) ≡ marks_of m.place cells ++ mark_of c ∷ []
    more = marks_more m.place cells c (omega (arith, w.memory))

    marked : (q : ℕ) → (q ≡ m.place → ⊥) → get_or (marks_of (m.place + 1) (set cells m.place c)) q skipped ≡ get_or (marks_of m.place cells) q skipped
    marked q d = ap (λ (ms : List Mark). get_or ms q skipped) more ∙ mark_before (marks_of m.place cells) (mark_of c) q (λ e. d (e ∙ length_is))

    marked_here : get_or (marks_of (m.place + 1) (set cells m.place c)) m.place skipped ≡ mark_of c
    marked_here = ap (λ (ms : List Mark). get_or ms m.place skipped) more ∙ get_or_push (marks_of m.place cells) (mark_of c) skipped m.place length_is

    shades_more : c.shaded ≡ under_root (marks_of m.place cells) m.place → (q : ℕ) → q < m.place + 1
        → (get_or (set cells m.place c) q clear).shaded ≡ under_root (marks_of (m.place + 1) (set cells m.place c)) q
    shades_more shade q h =
        elim (cases_eq q m.place) [
          | inl e ↦ rw (e, get_or-set_same cells m.place c clear (omega (arith, w.memory))) shade
          | inr d ↦ rw (get_or-set_other cells m.place q c clear d) (w.shades q (omega arith))
        ]
        ∙ sym (ap (λ (ms : List Mark). under_root ms q) more ∙ under_more (marks_of m.place cells) (mark_of c) q (omega (arith, length_is)))

    news_more : (fs : List Finding) → findings m.exponent m.place (mark_of c ∷ []) ≡ fs
        → findings m.exponent 0 (marks_of (m.place + 1) (set cells m.place c)) ≡ findings_of cells (drop m.before (take m.count found)) ++ fs
    news_more fs e =
        ap (findings m.exponent 0) more ∙ findings_append m.exponent 0 (marks_of m.place cells) (mark_of c ∷ [])
        ∙ ap₂ (λ (xs ys : List Finding). xs ++ ys) w.news
        (ap (λ (n : ℕ). findings m.exponent n (mark_of c ∷ [])) (zero-add (length (marks_of m.place cells)) ∙ length_is) ∙ e)

  -- ---- A mark that finds nothing

  module _ (c : Cell) (kept : tells m.place c ≡ finding_of cells m.place) (plain : is_fresh (mark_of c) ≡ false)
      (shade : c.shaded ≡ under_root (marks_of m.place cells) m.place) (quiet : m.whole ≡ true → mark_of c ≡ skipped) where
    told : finding_of (set cells m.place c) ≡ finding_of cells
    told = told_kept cells m.place c kept

    fresh_kept : (q : ℕ) → is_fresh (get_or (marks_of (m.place + 1) (set cells m.place c)) q skipped) ≡ is_fresh (get_or (marks_of m.place cells) q skipped)
    fresh_kept q = elim (cases_eq q m.place) [
      | inl e ↦ rw e (ap is_fresh (marked_here c) ∙ plain ∙ sym (ap is_fresh (mark_past m.place cells m.place (omega (arith, w.memory)) (omega arith))))
      | inr d ↦ ap is_fresh (marked c q d)
    ]

    pub plain_walk : Walking k (passed m) (set cells m.place c) found
    plain_walk = record {
      held = rw told w.held;
      memory = rw length-set w.memory;
      small = w.small;
      inside = omega arith;
      order = w.order;
      news = news_more c [] (finds_nothing m.exponent m.place (mark_of c) plain) ∙ append-nil (findings_of cells (drop m.before (take m.count found)))
          ∙ sym (findings_told cells (set cells m.place c) (drop m.before (take m.count found)) told);
      olds = λ q h. listed_kept cells (set cells m.place c) (take m.before found) q ∙ w.olds q h
          ∙ ap₂ (λ (f : ℕ → Finding) (b : Bool). ltb 0 (f q).width && not b) (sym told) (sym (fresh_kept q));
      shades = shades_more c shade;
      untouched = λ t. (
        (w.untouched t).0,
        λ q. elim (cases_eq q m.place) [
          | inl e ↦ rw e (marked_here c ∙ quiet t)
          | inr d ↦ marked c q d ∙ (w.untouched t).1 q
        ],
      );
    }

    pub plain_stage : stage_by First (passed m) (set cells m.place c) found
        ≡ walking m.exponent m.whole (findings_of cells (take m.before found)) (marks_of m.place cells ++ mark_of c ∷ [])
    plain_stage = ap₂ (λ (es : List Finding) (ms : List Mark). walking m.exponent m.whole es ms)
        (findings_told cells (set cells m.place c) (take m.before found) told) (more c)

  -- ---- A mark that finds the place

  module _ (s : Bool) (unknown : (get_or cells m.place clear).width ≡ 0)
      (shade : (get_or cells m.place clear).shaded ≡ under_root (marks_of m.place cells) m.place) (begun : m.whole ≡ false) where
    abbrev c : Cell
    c = found_at m.exponent s (get_or cells m.place clear)

    others : (q : ℕ) → (q ≡ m.place → ⊥) → finding_of (set cells m.place c) q ≡ finding_of cells q
    others = told_other cells m.place c

    here : finding_of (set cells m.place c) m.place ≡ tells m.place c
    here = told_there cells m.place c (omega (arith, w.memory))

    listed_other : (i : ℕ) → i < m.count → finding_of (set cells m.place c) (get_or found i 0) ≡ finding_of cells (get_or found i 0)
    listed_other i h = others (get_or found i 0) (not_listed k m.exponent m.count (finding_of cells) found m.place w.held unknown i h)

    kept_part : (n l : ℕ) → l ≤ m.count → findings_of (set cells m.place c) (drop n (take l found)) ≡ findings_of cells (drop n (take l found))
    kept_part n l h = findings_part cells (set cells m.place c) found n l (λ i _ u. listed_other i (omega arith))

    -- one place more is listed, at the end
    list_more : drop m.before (take (m.count + 1) (set found m.count m.place)) ≡ drop m.before (take m.count found) ++ m.place ∷ []
    list_more =
        let room : m.count < length found = omega (arith, w.held.counted, known_fewer (finding_of cells) (4 ^ k) m.place inside unknown, w.held.memory) in
        ap (drop m.before) (take_more_set found m.count m.place room)
        ∙ drop-append-le m.before (take m.count found) (m.place ∷ []) (omega (arith, w.order, length-take-le m.count found (omega arith)))

    pub found_walk : Walking k (finding_one m) (set cells m.place (found_at m.exponent s (get_or cells m.place clear))) (set found m.count m.place)
    unfolding findings findings_of
    found_walk = record {
      held = held_find k m.exponent m.count (finding_of cells) (finding_of (set cells m.place c)) found m.place w.held w.small inside unknown
          (ap (λ (x : Finding). x.width) here) (ap (λ (x : Finding). x.low) here) others;
      memory = rw length-set w.memory;
      small = w.small;
      inside = omega arith;
      order = omega (arith, w.order);
      news =
          news_more c (finding_of (set cells m.place c) m.place ∷ []) (ap (λ (x : Finding). x ∷ []) (sym here))
          ∙ sym (ap (findings_of (set cells m.place c)) list_more
          ∙ findings_push (set cells m.place c) (drop m.before (take m.count found)) (m.place ∷ [])
          ∙ ap (λ (xs : List Finding). xs ++ finding_of (set cells m.place c) m.place ∷ []) (kept_part m.before m.count (omega arith)));
      olds = λ q h.
          ap (λ (ps : List ℕ). is_found (findings_of (set cells m.place c) ps) q) (take-set-le m.before found m.count m.place w.order)
          ∙ listed_kept cells (set cells m.place c) (take m.before found) q ∙ w.olds q h
          ∙ elim (cases_eq q m.place) [
            | inl e ↦
                rw e (and_left _ _ (le-ltb 0 (get_or cells m.place clear).width (omega (arith, unknown))) ∙ sym (and_right _ _ (ap (λ (x : Mark). not (is_fresh x)) (marked_here c))))
            | inr d ↦ ap₂ (λ (x : Finding) (y : Mark). ltb 0 x.width && not (is_fresh y)) (sym (others q d)) (sym (marked c q d))
          ];
      shades = shades_more c shade;
      untouched = λ t. absurd (both_ways m.whole begun t);
    }

    pub found_stage : stage_by First (finding_one m) (set cells m.place (found_at m.exponent s (get_or cells m.place clear))) (set found m.count m.place)
        ≡ walking m.exponent m.whole (findings_of cells (take m.before found)) (marks_of m.place cells ++ labelled (significant s) ∷ [])
    found_stage = ap₂ (λ (es : List Finding) (ms : List Mark). walking m.exponent m.whole es ms)
        (ap (findings_of (set cells m.place c)) (take-set-le m.before found m.count m.place w.order) ∙ kept_part 0 m.before w.order) (more c)
