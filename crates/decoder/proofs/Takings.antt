-- A bit is taken at the place where a label is due.
use Rattle.std.proofs.Common.{◌≡◌, ℕ, ◌-◌, ◌*◌, ◌^◌, ◌<◌, Bool, true, false, not, ◌&&◌, List, [], ◌∷◌, ◌++◌, length, get_or, take, set, Decides, sym, refl, ap, ◌∙◌, ap₂, inl, inr, arith}
use Rattle.decoder.proofs.Holding.{known_fewer}
use Rattle.decoder.proofs.Items.{length_marks}
use Rattle.decoder.proofs.Steps.{label_bits_lem, leaf_root_lem}
use Rattle.decoder.proofs.Walks.{plain_walk, plain_stage, found_walk, found_stage}
use Rattle.decoder.specs.Machines.{clear, mark_of, marks_of, finding_of, findings_of, stage_by, passed, with_mark, finding_one, found_at, Walking, Due}
use Rattle.decoder.specs.Stages.{Stage, walking, meaning}
use Rattle.decoder.specs.declared.cell.Cell.{Cell}
use Rattle.decoder.specs.declared.cell.Mark.{Mark as CellMark}
use Rattle.decoder.specs.declared.machine.Machine.{Machine}
use Rattle.decoder.specs.declared.machine.Waiting.TheVariants.{First, Second}
use Rattle.scan.proofs.Division.{has_children_by_division, fourfold, places_most_lem}
use Rattle.scan.specs.Tree.{HasChildren}
use Rattle.std.proofs.lemmas.Bool.{cases_lt, and_left, le-ltb, lt-ltb, both_ways}
use Rattle.stream.specs.Laws.{SideExponent}
use Rattle.stream.specs.Passes.{Mark, Label, significant, zerotree_root, labelled, has_children, is_fresh, under_root, due}
use Rattle.stream.specs.Reading.{label_read, refused}
use Rattle.stream.specs.declared.fault.StreamFault.TheVariants.{RootAtLeaf}

-- What the tree's own test says.
pub children_test : (k p : ℕ) (r : Bool) → SideExponent k → Decides r (HasChildren k p) → has_children k p ≡ r
children_test k p true side d =
    let h = (has_children_by_division k p side.0).0 (d.0 refl) in let q = fourfold k side.0 in
    lt-ltb (4 * p) (4 ^ k) (omega (arith, h, q.2))
children_test k p false side d = elim (cases_lt (4 * p) (4 ^ k)) [
  | inl h ↦ let q = fourfold k side.0 in
      absurd (both_ways false refl (d.1 ((has_children_by_division k p side.0).1 (omega (arith, q.2)))))
  | inr h ↦ le-ltb (4 * p) (4 ^ k) h
]

-- The machine with the first bit of a label taken.
abbrev pub begun : Bool → Machine → Machine
begun first m =
    record { waiting = Second first; exponent = m.exponent; place = m.place; index = m.index; count = m.count; before = m.before; whole = false }

module _ (k : ℕ) (m : Machine) (cells : List Cell) (found : List ℕ) (d : Due k m cells found) where
  length_is : length (marks_of m.place cells) ≡ m.place
  length_is = length_marks m.place cells (omega (arith, d.walk.memory, d.place_in))

  shade : (get_or cells m.place clear).shaded ≡ under_root (marks_of m.place cells) m.place
  shade = d.unshaded ∙ sym d.clear_above

  -- The label is due.
  pub due_now : due (findings_of cells (take m.before found)) (marks_of m.place cells) (length (marks_of m.place cells)) ≡ true
  unfolding due
  due_now =
      ap (due (findings_of cells (take m.before found)) (marks_of m.place cells)) length_is
      ∙ ap₂ (λ (a b : Bool). not a && not b)
      (d.walk.olds m.place d.place_in ∙ and_left _ _ (le-ltb 0 (get_or cells m.place clear).width (omega (arith, d.unknown))))
      d.clear_above

  -- What finding the place needs.
  pub find_fits : SideExponent k → (m.exponent < 15) × (m.place < 4096) × (m.place < length cells) × (m.count < 4 ^ k) × (m.count < length found)
  find_fits side =
      let room : m.count < 4 ^ k = omega (arith, d.walk.held.counted, known_fewer (finding_of cells) (4 ^ k) m.place d.place_in d.unknown) in (
        omega (arith, d.walk.small),
        omega (arith, d.place_in, places_most_lem k side.1),
        omega (arith, d.place_in, d.walk.memory),
        room,
        omega (arith, room, d.walk.held.memory),
      )

  -- Its first bit.
  pub begun_due : (first : Bool) → Due k (begun first m) cells found
  begun_due first = record {
    walk = record {
      held = d.walk.held;
      memory = d.walk.memory;
      small = d.walk.small;
      inside = d.walk.inside;
      order = d.walk.order;
      news = d.walk.news;
      olds = d.walk.olds;
      shades = d.walk.shades;
      untouched = λ t. absurd (both_ways false refl t);
    };
    place_in = d.place_in;
    unknown = d.unknown;
    unshaded = d.unshaded;
    clear_above = d.clear_above;
  }

  -- A label that finds nothing.
  module _ (mark : CellMark) (l : Label) (is : mark_of (with_mark mark (get_or cells m.place clear)) ≡ labelled l) (plain : is_fresh (labelled l) ≡ false) (taken : m.whole ≡ false) where
    abbrev c : Cell
    c = with_mark mark (get_or cells m.place clear)

    pub label_walk : Walking k (passed m) (set cells m.place (with_mark mark (get_or cells m.place clear))) found
    label_walk = plain_walk k m cells found d.walk d.place_in c refl (ap is_fresh is ∙ plain) shade (λ t. absurd (both_ways m.whole taken t))

    pub label_meaning : (first b : Bool) → label_read first b ≡ l → (l ≡ zerotree_root → has_children k m.place ≡ true) → (count : ℕ) (rest : List Bool)
        → meaning k count (stage_by First (passed m) (set cells m.place (with_mark mark (get_or cells m.place clear))) found) rest
        ≡ meaning k count (stage_by (Second first) m cells found) (b ∷ rest)
    label_meaning first b spelt parent count rest =
        ap (λ (s : Stage). meaning k count s rest)
        (plain_stage k m cells found d.walk d.place_in c refl (ap is_fresh is ∙ plain) shade (λ t. absurd (both_ways m.whole taken t))
        ∙ ap₂ (λ (w : Bool) (x : Mark). walking m.exponent w (findings_of cells (take m.before found)) (marks_of m.place cells ++ x ∷ [])) taken (is ∙ ap labelled (sym spelt)))
        ∙ label_bits_lem k count m.exponent (findings_of cells (take m.before found)) (marks_of m.place cells) first b rest
        (omega (arith, length_is, d.place_in)) due_now (λ e. ap (has_children k) length_is ∙ parent (sym spelt ∙ e))

  -- A label that finds the place.
  module _ (s : Bool) (taken : m.whole ≡ false) where
    pub find_walk : Walking k (finding_one m) (set cells m.place (found_at m.exponent s (get_or cells m.place clear))) (set found m.count m.place)
    find_walk = found_walk k m cells found d.walk d.place_in s d.unknown shade taken

    pub find_meaning : (count : ℕ) (rest : List Bool)
        → meaning k count (stage_by First (finding_one m) (set cells m.place (found_at m.exponent s (get_or cells m.place clear))) (set found m.count m.place)) rest
        ≡ meaning k count (stage_by (Second true) m cells found) (s ∷ rest)
    find_meaning count rest =
        ap (λ (t : Stage). meaning k count t rest)
        (found_stage k m cells found d.walk d.place_in s d.unknown shade taken
        ∙ ap (λ (w : Bool). walking m.exponent w (findings_of cells (take m.before found)) (marks_of m.place cells ++ labelled (significant s) ∷ [])) taken)
        ∙ label_bits_lem k count m.exponent (findings_of cells (take m.before found)) (marks_of m.place cells) true s rest
        (omega (arith, length_is, d.place_in)) due_now (λ e. let z : ◌≡◌ {A = ℕ} 0 1 = cc in absurd (omega arith))

  -- A root where there are no children.
  pub leaf_fails : has_children k m.place ≡ false → (index count : ℕ) (rest : List Bool) → count - length rest ≡ index
      → meaning k count (stage_by (Second false) m cells found) (true ∷ rest) ≡ refused (RootAtLeaf index)
  leaf_fails leaf index count rest e =
      leaf_root_lem k count m.exponent (findings_of cells (take m.before found)) (marks_of m.place cells) rest
      (omega (arith, length_is, d.place_in)) due_now (ap (has_children k) length_is ∙ leaf)
      ∙ ap (λ (n : ℕ). refused (RootAtLeaf n)) e
