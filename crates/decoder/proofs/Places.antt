-- The walk comes to a place: passed over, or a label is due.
use Rattle.std.proofs.Common.{◌≡◌, ℕ, ◌+◌, ◌^◌, ◌<◌, ◌≤◌, Bool, true, false, not, ◌&&◌, eqb, ltb, List, length, get_or, take, drop, set, Ok, Result, sym, refl, ap, ◌∙◌, ap₂, arith}
use Rattle.decoder.proofs.Comings.{comes_from}
use Rattle.decoder.proofs.Items.{length_marks, marks_kept, told_kept, findings_told, listed_kept}
use Rattle.decoder.proofs.Steps.{skip_place}
use Rattle.decoder.proofs.Walks.{shade_under, due_test, plain_walk, plain_stage}
use Rattle.decoder.specs.Machines.{clear, marks_of, finding_of, findings_of, stage_by, stage_of, passed, shade_at, reached, IsTable, Walking, Due, GoesOn, Walks, EndsDominant}
use Rattle.decoder.specs.Stages.{Stage, walking, meaning}
use Rattle.decoder.specs.declared.cell.Cell.{Cell}
use Rattle.decoder.specs.declared.machine.Machine.{Machine}
use Rattle.decoder.specs.declared.machine.Waiting.{Waiting}
use Rattle.decoder.specs.declared.machine.Waiting.TheVariants.{First}
use Rattle.std.proofs.lemmas.List.{length-set, get_or-set_same, get_or-set_other}
use Rattle.std.proofs.lemmas.Bool.{eqb-true, and_parts, not-true}
use Rattle.stream.specs.Laws.{SideExponent}
use Rattle.stream.specs.declared.fault.StreamFault.{StreamFault}
use Rattle.stream.specs.Passes.{Mark, Finding, skipped, is_fresh, under_root, findings}

-- The machine at a place that the walk comes to.
abbrev pub at_place : ℕ → Machine → Machine
at_place p m =
    record { waiting = m.waiting; exponent = m.exponent; place = p; index = m.index; count = m.count; before = m.before; whole = m.whole }

-- The cells after the walk came to a place.
abbrev pub cells_at : List Cell → ℕ → List Cell
cells_at cells p = set cells p (reached (shade_at cells p) (get_or cells p clear))

-- It is passed over.
pub skip_walk : (k : ℕ) (m : Machine) (cells : List Cell) (found : List ℕ) → SideExponent k → Walking k m cells found → m.place < 4 ^ k
    → Walking k (passed m) (cells_at cells m.place) found
skip_walk k m cells found side w inside =
    plain_walk k m cells found w inside (reached (shade_at cells m.place) (get_or cells m.place clear)) refl refl (shade_under k m cells found w inside side) (λ _. refl)

pub skip_meaning : (k : ℕ) (m : Machine) (cells : List Cell) (found : List ℕ) → SideExponent k → Walking k m cells found → m.place < 4 ^ k
    → (not (shade_at cells m.place) && eqb (get_or cells m.place clear).width 0) ≡ false → (count : ℕ) (bits : List Bool)
    → meaning k count (stage_by First (passed m) (cells_at cells m.place) found) bits ≡ meaning k count (stage_by First m cells found) bits
skip_meaning k m cells found side w inside test count bits =
    ap (λ (s : Stage). meaning k count s bits)
    (plain_stage k m cells found w inside (reached (shade_at cells m.place) (get_or cells m.place clear)) refl refl (shade_under k m cells found w inside side) (λ _. refl))
    ∙ skip_place k count m.exponent m.whole (findings_of cells (take m.before found)) (marks_of m.place cells) bits
    (omega (arith, length_marks m.place cells (omega (arith, w.memory)))) (due_test k m cells found w inside side ∙ test)

-- Its label is due.
abbrev pub waiting_for : Waiting → Machine → Machine
waiting_for waiting m =
    record { waiting = waiting; exponent = m.exponent; place = m.place; index = m.index; count = m.count; before = m.before; whole = m.whole }

module _ (k : ℕ) (m : Machine) (cells : List Cell) (found : List ℕ) (side : SideExponent k) (w : Walking k m cells found) (inside : m.place < 4 ^ k) where
  told : finding_of (cells_at cells m.place) ≡ finding_of cells
  told = told_kept cells m.place (reached (shade_at cells m.place) (get_or cells m.place clear)) refl

  marks : marks_of m.place (cells_at cells m.place) ≡ marks_of m.place cells
  marks = marks_kept m.place cells (reached (shade_at cells m.place) (get_or cells m.place clear))

  here : get_or (cells_at cells m.place) m.place clear ≡ reached (shade_at cells m.place) (get_or cells m.place clear)
  here = get_or-set_same cells m.place (reached (shade_at cells m.place) (get_or cells m.place clear)) clear (omega (arith, w.memory))

  reach_walk : Walking k (waiting_for First m) (cells_at cells m.place) found
  reach_walk = record {
    held = rw told w.held;
    memory = rw length-set w.memory;
    small = w.small;
    inside = w.inside;
    order = w.order;
    news = ap (findings m.exponent 0) marks ∙ w.news ∙ sym (findings_told cells (cells_at cells m.place) (drop m.before (take m.count found)) told);
    olds = λ q h. listed_kept cells (cells_at cells m.place) (take m.before found) q ∙ w.olds q h
        ∙ ap₂ (λ (f : ℕ → Finding) (ms : List Mark). ltb 0 (f q).width && not (is_fresh (get_or ms q skipped))) (sym told) (sym marks);
    shades = λ q h.
        ap (λ (c : Cell). c.shaded) (get_or-set_other cells m.place q (reached (shade_at cells m.place) (get_or cells m.place clear)) clear (λ e. omega arith))
        ∙ w.shades q h ∙ ap (λ (ms : List Mark). under_root ms q) (sym marks);
    untouched = λ t. ((w.untouched t).0, λ q. ap (λ (ms : List Mark). get_or ms q skipped) marks ∙ (w.untouched t).1 q);
  }

  pub reach_due : (not (shade_at cells m.place) && eqb (get_or cells m.place clear).width 0) ≡ true → Due k (waiting_for First m) (cells_at cells m.place) found
  reach_due test =
      let light : shade_at cells m.place ≡ false = not-true _ (and_parts _ _ test).0 in
      record {
        walk = reach_walk;
        place_in = inside;
        unknown = ap (λ (c : Cell). c.width) here ∙ eqb-true _ 0 (and_parts _ _ test).1;
        unshaded = ap (λ (c : Cell). c.shaded) here ∙ light;
        clear_above = ap (λ (ms : List Mark). under_root ms m.place) marks ∙ sym (shade_under k m cells found w inside side) ∙ light;
      }

  pub reach_stage : stage_by First (waiting_for First m) (cells_at cells m.place) found ≡ stage_by First m cells found
  reach_stage = ap₂ (λ (es : List Finding) (ms : List Mark). walking m.exponent m.whole es ms)
      (findings_told cells (cells_at cells m.place) (take m.before found) told) marks

-- ---- The walk

-- The walk from one machine on has come to place p: the places before are passed over, and reading goes on from there as it would have from the first of them.
unfoldable pub Walked : ℕ → Machine → List Cell → ℕ → Machine → List Cell → Type 0
Walked taken start before p m cells = (k : ℕ) (found : List ℕ) → IsTable k before → Walking k start before found
    → Walking k (at_place p m) cells found × GoesOn k taken (stage_by First start before found) (stage_by First (at_place p m) cells found)

-- It begins,
pub walk_begins : (taken : ℕ) (m : Machine) (cells : List Cell) → Walked taken m cells m.place m cells
unfolding Walked
walk_begins taken m cells = λ k found table w. (w, λ count rest _. refl)

module _ (taken : ℕ) (start : Machine) (before : List Cell) (p : ℕ) (m : Machine) (cells : List Cell) (walked : Walked taken start before p m cells) where
  module _ (after : List Cell) (written : after ≡ cells_at cells p) (inside : p < length before) where
    -- passes over a place,
    pub walk_skips : false ≡ (not (shade_at cells p) && eqb (get_or cells p clear).width 0) → Walked taken start before (p + 1) m after
    unfolding Walked
    walk_skips test = λ k found table w.
        let here = walked k found table w in
        let low : p < 4 ^ k = omega (arith, table.size) in
        rw written (
          skip_walk k (at_place p m) cells found table.side here.0 low,
          λ count rest e. skip_meaning k (at_place p m) cells found table.side here.0 low (sym test) count rest ∙ here.1 count rest e,
        )

    -- comes to one whose label is due,
    pub walk_due : (due : Machine) → true ≡ (not (shade_at cells p) && eqb (get_or cells p clear).width 0) → due ≡ waiting_for First (at_place p m)
        → Walks taken start before due after (Ok tt)
    unfolding Walked Walks stage_of
    walk_due due test e = λ k found table w.
        let here = walked k found table w in
        let low : p < 4 ^ k = omega (arith, table.size) in
        rw (written, e) (
          reach_due k (at_place p m) cells found table.side here.0 low (sym test),
          λ count rest t. ap (λ (s : Stage). meaning k count s rest) (reach_stage k (at_place p m) cells found table.side here.0 low) ∙ here.1 count rest t,
        )

  -- or to the end of the pass.
  pub walk_ends : (all last : Machine) (left : List Cell) (r : Result (Unit {0}) StreamFault) → length cells ≡ length before → length before ≤ p → all ≡ at_place (length before) m
      → EndsDominant taken all cells last left r → Walks taken start before last left r
  unfolding Walked Walks EndsDominant
  walk_ends all last left r size end e ends = λ k found table w.
      let here = walked k found table w in
      let place : p ≡ length before = omega (arith, here.0.inside, table.size) in
      let at : at_place p m ≡ all = ap (λ (q : ℕ). at_place q m) place ∙ sym e in
      comes_from k taken (stage_by First start before found) (stage_by First all cells found) last left found r
      (rw (sym at) here.1)
      (ends k found (record { side = table.side; size = size ∙ table.size }) (rw (sym at) here.0) (omega (arith, ap (λ (a : Machine). a.place) e, table.size)))

-- What the walk comes to.
pub ruleset walks = (walk_begins, walk_skips, walk_due, walk_ends)
