-- A subordinate pass goes on by one found place, and ends.
use Rattle.std.proofs.Common.{◌≡◌, ℕ, zero, suc, ◌+◌, ◌-◌, ◌/◌, ◌^◌, ◌<◌, ◌≤◌, Bool, true, false, cond, ◌&&◌, ltb, List, [], ◌∷◌, ◌++◌, length, get_or, take, drop, set, Ok, Result, sym, refl, ap, ◌∙◌, ap₂, inl, inr, add-one, arith}
use native.Mathlib.Nat.{pow-succ'}
use Rattle.decoder.proofs.Comings.{comes_from, sound_by, stage_by_lem}
use Rattle.decoder.proofs.Ends.{some_listed}
use Rattle.decoder.proofs.Holding.{held_halve, known_most}
use Rattle.decoder.proofs.Items.{told_other, told_there, findings_part, findings_push, listed_kept}
use Rattle.decoder.proofs.Steps.{refine_bit, next_pass}
use Rattle.decoder.specs.Machines.{clear, marks_of, finding_of, findings_of, stage_by, halved_cell, Walking, Refining, GoesOn, Walks, Refines}
use Rattle.decoder.specs.Stages.{Stage, walking, refining, meaning}
use Rattle.decoder.specs.declared.cell.Cell.{Cell}
use Rattle.decoder.specs.declared.machine.Machine.{Machine}
use Rattle.decoder.specs.declared.machine.Waiting.TheVariants.{First, Subordinate}
use Rattle.stream.specs.declared.fault.StreamFault.{StreamFault}
use Rattle.std.proofs.lemmas.Nat.{pow_pos}
use Rattle.std.proofs.lemmas.List.{length-set, length-take-le, drop_all, drop_more, take_more, get_or-take}
use Rattle.std.proofs.lemmas.Bool.{cases_eq, cases_order, lt-ltb}
use Rattle.stream.specs.Passes.{Finding, findings, halved}
use Rattle.stream.specs.Reading.{is_none}

-- ---- The next threshold

abbrev pub next_threshold : Machine → Machine
next_threshold m = record { waiting = m.waiting; exponent = m.exponent - 1; place = 0; index = m.index; count = m.count; before = m.count; whole = true }

-- The machine with one bit of the pass taken.
abbrev pub refined_by : Machine → Machine
refined_by m = record { waiting = m.waiting; exponent = m.exponent; place = m.place; index = m.index + 1; count = m.count; before = m.before; whole = false }

next_pass_at : (k count e : ℕ) (done : List Finding) (bits : List Bool) → 1 ≤ e → is_none done ≡ false
    → meaning k count (walking (e - 1) true done []) bits ≡ meaning k count (refining e false done []) bits
next_pass_at k count zero done bits h some = absurd (omega arith)
next_pass_at k count (suc j) done bits h some =
    ap (λ (i : ℕ). meaning k count (walking i true done []) bits) (let e : suc j - 1 ≡ j = omega arith in e) ∙ next_pass k count j done bits some

module _ (k : ℕ) (m : Machine) (cells : List Cell) (found : List ℕ) (r : Refining k m cells found) where
  count_most : m.count ≤ length found
  count_most = omega (arith, r.held.counted, known_most (finding_of cells) (4 ^ k), r.held.memory)

  module _ (last : m.count ≤ m.index) where
    index_is : m.index ≡ m.count
    index_is = omega (arith, r.inside)

    none_left : drop m.index (take m.count found) ≡ []
    none_left = drop_all m.index (take m.count found) (omega (arith, length-take-le m.count found count_most))

    next_walk : Walking k (next_threshold m) cells found
    unfolding marks_of findings findings_of
    next_walk = record {
      held = r.held;
      memory = r.memory;
      small = omega (arith, r.small);
      inside = omega arith;
      order = omega arith;
      news = sym (ap (findings_of cells) (ap (λ (n : ℕ). drop n (take m.count found)) (sym index_is) ∙ none_left));
      olds = λ p h. r.listed p h ∙ always (ltb 0 (finding_of cells p).width);
      shades = λ p h. absurd (omega arith);
      untouched = λ _. (r.some, λ p. refl);
    }
      where
        always : (b : Bool) → b ≡ (b && true)
        always true = refl
        always false = refl

    next_meaning : m.whole ≡ false → (taken : ℕ) → GoesOn k taken (stage_by Subordinate m cells found) (stage_by First (next_threshold m) cells found)
    unfolding marks_of findings_of
    next_meaning begun taken count rest _ =
        next_pass_at k count m.exponent (findings_of cells (take m.count found)) rest r.low
        (some_listed cells (take m.count found) (omega (arith, length-take-le m.count found count_most, r.some)))
        ∙ sym (
        ap (λ (b : Bool). meaning k count (refining m.exponent b (findings_of cells (take m.index found)) (findings_of cells (drop m.index (take m.count found)))) rest) begun
        ∙ ap₂ (λ (n : ℕ) (ps : List ℕ). meaning k count (refining m.exponent false (findings_of cells (take n found)) (findings_of cells ps)) rest) index_is none_left)

  -- The next place that is not refined.
  pub left_is : m.index < m.count → findings_of cells (drop m.index (take m.count found))
      ≡ finding_of cells (get_or found m.index 0) ∷ findings_of cells (drop (m.index + 1) (take m.count found))
  unfolding findings_of
  left_is more =
      ap (findings_of cells) (drop_more (take m.count found) m.index 0 (omega (arith, length-take-le m.count found count_most)))
      ∙ ap (λ (q : ℕ). finding_of cells q ∷ findings_of cells (drop (m.index + 1) (take m.count found))) (get_or-take m.count found m.index 0 more)

  -- ---- One bit

  module _ (b : Bool) (more : m.index < m.count) where
    abbrev p : ℕ
    p = get_or found m.index 0

    abbrev c : Cell
    c = get_or cells (get_or found m.index 0) clear

    abbrev after : List Cell
    after = set cells (get_or found m.index 0) (halved_cell b (get_or cells (get_or found m.index 0) clear))

    inside : get_or found m.index 0 < 4 ^ k
    inside = r.held.within m.index more

    here : finding_of after p ≡ halved (finding_of cells p) b
    unfolding halved
    here = told_there cells p (halved_cell b c) (omega (arith, inside, r.memory))

    others : (q : ℕ) → (q ≡ p → ⊥) → finding_of after q ≡ finding_of cells q
    others = told_other cells p (halved_cell b c)

    item_other : (i : ℕ) → i < m.count → (i ≡ m.index → ⊥) → finding_of after (get_or found i 0) ≡ finding_of cells (get_or found i 0)
    item_other i h d = others (get_or found i 0) (λ e. elim (cases_order i m.index) [
      | inl s ↦ d s
      | inr o ↦ elim o [ inl l ↦ r.held.distinct i m.index l more e | inr l ↦ r.held.distinct m.index i l h (sym e) ]
    ])

    -- The cell is at least the threshold wide, so each half has a width.
    exponent_is : 2 ^ m.exponent ≡ 2 ^ (m.exponent - 1 + 1)
    exponent_is = ap (λ (n : ℕ). 2 ^ n) (let e : m.exponent ≡ m.exponent - 1 + 1 = omega (arith, r.low) in e)

    wide : 2 ^ (m.exponent - 1 + 1) ≤ (finding_of cells p).width
    wide = omega (arith, r.unrefined m.index (omega arith) more, exponent_is)

    lower : (w l : ℕ) → l + cond b (w / 2) 0 + w / 2 ≤ l + w
    lower w l = elim b as (λ v. l + cond v (w / 2) 0 + w / 2 ≤ l + w) [ true ↦ omega arith | false ↦ omega arith ]

    half_known : ltb 0 (finding_of cells p).width ≡ ltb 0 (finding_of after p).width
    unfolding halved
    half_known =
        let small = pow-succ' 2 (m.exponent - 1) in let one = ap (λ (n : ℕ). 2 ^ n) (add-one (m.exponent - 1)) in
        lt-ltb 0 (finding_of cells p).width (omega (arith, wide, pow_pos (m.exponent - 1 + 1)))
        ∙ sym (lt-ltb 0 (finding_of after p).width (omega (arith, wide, pow_pos (m.exponent - 1), ap (λ (x : Finding). x.width) here)))

    pub refine_step : Refining k (refined_by m) (set cells (get_or found m.index 0) (halved_cell b (get_or cells (get_or found m.index 0) clear))) found
    unfolding halved
    refine_step = record {
      held = held_halve k (m.exponent - 1) m.count (finding_of cells) (finding_of after) found p r.held inside
          wide (ap (λ (x : Finding). x.width) here) (omega (arith, lower (finding_of cells p).width (finding_of cells p).low, ap (λ (x : Finding). x.width) here, ap (λ (x : Finding). x.low) here)) others;
      listed = λ q h. listed_kept cells after (take m.count found) q ∙ r.listed q h ∙ elim (cases_eq q p) [
        | inl e ↦ rw e half_known
        | inr d ↦ ap (λ (x : Finding). ltb 0 x.width) (sym (others q d))
      ];
      memory = rw length-set r.memory;
      low = r.low;
      small = r.small;
      some = r.some;
      inside = omega arith;
      unrefined = λ i h l. omega (arith, r.unrefined i (omega arith) l, ap (λ (x : Finding). x.width) (item_other i l (λ e. omega arith)));
    }

    done_more : findings_of after (take (m.index + 1) found) ≡ findings_of cells (take m.index found) ++ halved (finding_of cells p) b ∷ []
    unfolding findings_of
    done_more =
        ap (findings_of after) (take_more found m.index 0 (omega (arith, count_most)))
        ∙ findings_push after (take m.index found) (p ∷ [])
        ∙ ap₂ (λ (xs ys : List Finding). xs ++ ys)
        (findings_part cells after found 0 m.index (λ i _ l. item_other i (omega arith) (λ e. omega arith)))
        (ap (λ (x : Finding). x ∷ []) here)

    pub refine_meaning : (count : ℕ) (rest : List Bool)
        → meaning k count (stage_by Subordinate (refined_by m) (set cells (get_or found m.index 0) (halved_cell b (get_or cells (get_or found m.index 0) clear))) found) rest
        ≡ meaning k count (stage_by Subordinate m cells found) (b ∷ rest)
    refine_meaning count rest =
        ap₂ (λ (done left : List Finding). meaning k count (refining m.exponent false done left) rest) done_more
        (findings_part cells after found (m.index + 1) m.count (λ i h l. item_other i l (λ e. omega arith)))
        ∙ refine_bit k count m.exponent m.whole (findings_of cells (take m.index found)) (finding_of cells p)
        (findings_of cells (drop (m.index + 1) (take m.count found))) b rest
        ∙ ap (λ (left : List Finding). meaning k count (refining m.exponent m.whole (findings_of cells (take m.index found)) left) (b ∷ rest)) (sym (left_is more))

-- What a step of the pass needs.
pub refine_fits : (k : ℕ) (m : Machine) (cells : List Cell) (found : List ℕ) → Refining k m cells found → m.index < m.count
    → (m.index < length found) × (get_or found m.index 0 < 4 ^ k)
    × ((get_or cells (get_or found m.index 0) clear).low + (get_or cells (get_or found m.index 0) clear).width ≤ 2 ^ 15)
refine_fits k m cells found r more = (
  omega (arith, r.held.counted, known_most (finding_of cells) (4 ^ k), r.held.memory),
  r.held.within m.index more,
  r.held.range (get_or found m.index 0) (r.held.within m.index more),
)

-- ---- Behind a subordinate bit

module _ (taken : ℕ) (m : Machine) (cells : List Cell) where
  -- A place is left: its bit is due.
  pub refines_on : m.waiting ≡ Subordinate → m.index < m.count → Refines taken m cells m cells (Ok tt)
  unfolding Refines
  refines_on e more = λ k found table r begun. (
    sound_by k m cells found Subordinate e (r, more),
    λ count rest _. ap (λ (s : Stage). meaning k count s rest) (stage_by_lem m cells found Subordinate e),
  )

  -- Or none is left: the next threshold's dominant pass begins.
  pub refines_all : (next last : Machine) (left : List Cell) (r : Result (Unit {0}) StreamFault) → m.count ≤ m.index → next ≡ next_threshold m
      → Walks taken next cells last left r → Refines taken m cells last left r
  unfolding Walks Refines
  refines_all next last left r end e walks = λ k found table s begun.
      comes_from k taken (stage_by Subordinate m cells found) (stage_by First (next_threshold m) cells found) last left found r
      (next_meaning k m cells found s end begun taken) (rw e at walks k found table (next_walk k m cells found s end))

-- What comes behind a subordinate bit.
pub ruleset behind_bit = (refines_on, refines_all)
