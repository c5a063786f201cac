-- What is heard where the source ends.
use Rattle.std.proofs.Common.{◌≡◌, ℕ, ◌+◌, ◌-◌, ◌/◌, ◌^◌, ◌<◌, ◌≤◌, min, Bool, false, cond, eqb, ltb, List, [], ◌∷◌, ◌++◌, map, length, get_or, take, drop, pos, sym, refl, ap, ◌∙◌, ap₂, inl, inr, arith}
use Rattle.decoder.proofs.Ends.{all_found, walk_listed}
use Rattle.decoder.proofs.Items.{length_marks, findings_push, split_front}
use Rattle.decoder.proofs.Refinements.{left_is}
use Rattle.decoder.proofs.Steps.{at_end_walking, at_end_halfway, at_end_refining, at_end_finished}
use Rattle.decoder.proofs.Takings.{due_now}
use Rattle.decoder.specs.Cells.{cell_number, cell_numbers}
use Rattle.decoder.specs.Machines.{clear, marks_of, finding_of, findings_of, stage_by, stage_of, Held, Listed, Due, Refining, Over, SoundBy, Sound}
use Rattle.decoder.specs.Stages.{Stage, refining, meaning}
use Rattle.decoder.specs.declared.cell.Cell.{Cell}
use Rattle.decoder.specs.declared.machine.Machine.{Machine}
use Rattle.decoder.specs.declared.machine.Waiting.{Waiting}
use Rattle.decoder.specs.declared.machine.Waiting.TheVariants.{First, Second, Subordinate, Nothing}
use Rattle.std.proofs.lemmas.List.FromFn.{fill_by_all}
use Rattle.std.proofs.lemmas.List.{get_or-map, get_or-take, length-map, length-take-le}
use Rattle.std.proofs.lemmas.Bool.{cases_Bool, cases_lt, eqb-true, lt-ltb, le-ltb, ne_eqb, eq-eqb}
use Rattle.stream.specs.Numbers.{signed, middle}
use Rattle.stream.specs.Passes.{Finding, is_found}
use Rattle.stream.specs.Reading.{heard, heard_at, numbers_heard}

-- A listed place is heard by its cell, also where it would stand twice in the list.
heard_listed_lem : (cells : List Cell) (places : List ℕ) (p : ℕ) → heard_at middle (findings_of cells places) p
    ≡ cond (is_found (findings_of cells places) p) (signed (get_or cells p clear).negated ((get_or cells p clear).low + (get_or cells p clear).width / 2)) (pos 0)
unfolding heard_at findings_of is_found
heard_listed_lem cells [] p = refl
heard_listed_lem cells (q ∷ places) p = elim (cases_Bool (eqb q p)) [
  | inl t ↦ rw t (ap (λ (n : ℕ). signed (get_or cells n clear).negated ((get_or cells n clear).low + (get_or cells n clear).width / 2)) (eqb-true q p t))
  | inr f ↦ rw f (heard_listed_lem cells places p)
]

-- The number of a cell within the range.
cell_heard : (c : Cell) → c.low + c.width ≤ 2 ^ 15 → cell_number c ≡ cond (ltb 0 c.width) (signed c.negated (c.low + c.width / 2)) (pos 0)
cell_heard c range = elim (cases_lt 0 c.width) [
  | inl h ↦
      let most : min (c.low + c.width / 2) 32767 ≡ c.low + c.width / 2 = omega arith in
      rw (lt-ltb 0 c.width h, ne_eqb c.width 0 (omega arith), most)
  | inr h ↦ rw (le-ltb 0 c.width h, eq-eqb c.width 0 (omega arith))
]

pub numbers_heard_lem : (k e count : ℕ) (cells : List Cell) (found : List ℕ) → 4 ^ k ≤ length cells → Held k e count (finding_of cells) found → Listed k count cells found
    → cell_numbers k cells ≡ numbers_heard middle k (findings_of cells (take count found))
unfolding cell_numbers numbers_heard
numbers_heard_lem k e count cells found memory held listed =
    fill_by_all (heard_at middle (findings_of cells (take count found))) (map cell_number (take (4 ^ k) cells)) (4 ^ k) (pos 0)
    (length-map (take (4 ^ k) cells) cell_number ∙ length-take-le (4 ^ k) cells memory)
    (λ p h.
    get_or-map cell_number (take (4 ^ k) cells) p clear (pos 0) (omega (arith, length-take-le (4 ^ k) cells memory))
    ∙ ap cell_number (get_or-take (4 ^ k) cells p clear h)
    ∙ cell_heard (get_or cells p clear) (held.range p h)
    ∙ sym (heard_listed_lem cells (take count found) p
    ∙ ap (λ (b : Bool). cond b (signed (get_or cells p clear).negated ((get_or cells p clear).low + (get_or cells p clear).width / 2)) (pos 0)) (listed p h)))

-- At the end of the source all listed places are heard.
abbrev Heard : ℕ → ℕ → Machine → List Cell → List ℕ → Stage → Type 0
Heard k count m cells found stage = (fs : List Finding) × (meaning k count stage [] ≡ heard m.whole fs) × (cell_numbers k cells ≡ numbers_heard middle k fs)

due_heard : (k count : ℕ) (m : Machine) (cells : List Cell) (found : List ℕ) → Due k m cells found → Heard k count m cells found (stage_by First m cells found)
due_heard k count m cells found d = (
  findings_of cells (take m.count found),
  at_end_walking k count m.exponent m.whole (findings_of cells (take m.before found)) (marks_of m.place cells)
      (omega (arith, length_marks m.place cells (omega (arith, d.walk.memory, d.place_in)), d.place_in)) (due_now k m cells found d)
      ∙ ap (heard m.whole) (all_found k m cells found d.walk),
  numbers_heard_lem k m.exponent m.count cells found d.walk.memory d.walk.held (walk_listed k m cells found d.walk),
)

half_heard : (k count : ℕ) (m : Machine) (cells : List Cell) (found : List ℕ) (first : Bool) → Due k m cells found → m.whole ≡ false
    → Heard k count m cells found (stage_by (Second first) m cells found)
half_heard k count m cells found first d begun = (
  findings_of cells (take m.count found),
  at_end_halfway k count m.exponent (findings_of cells (take m.before found)) (marks_of m.place cells) first
      (omega (arith, length_marks m.place cells (omega (arith, d.walk.memory, d.place_in)), d.place_in)) (due_now k m cells found d)
      ∙ ap₂ heard (sym begun) (all_found k m cells found d.walk),
  numbers_heard_lem k m.exponent m.count cells found d.walk.memory d.walk.held (walk_listed k m cells found d.walk),
)

refining_heard : (k count : ℕ) (m : Machine) (cells : List Cell) (found : List ℕ) → Refining k m cells found → m.index < m.count
    → Heard k count m cells found (stage_by Subordinate m cells found)
refining_heard k count m cells found r more = (
  findings_of cells (take m.count found),
  ap (λ (left : List Finding). meaning k count (refining m.exponent m.whole (findings_of cells (take m.index found)) left) []) (left_is k m cells found r more)
      ∙ at_end_refining k count m.exponent m.whole (findings_of cells (take m.index found)) (finding_of cells (get_or found m.index 0))
      (findings_of cells (drop (m.index + 1) (take m.count found)))
      ∙ ap (heard m.whole)
      (ap (λ (left : List Finding). findings_of cells (take m.index found) ++ left) (sym (left_is k m cells found r more))
      ∙ sym (findings_push cells (take m.index found) (drop m.index (take m.count found)))
      ∙ ap (findings_of cells) (split_front found m.index m.count r.inside)),
  numbers_heard_lem k (m.exponent - 1) m.count cells found r.memory r.held r.listed,
)

over_heard : (k count : ℕ) (m : Machine) (cells : List Cell) (found : List ℕ) → Over k m cells found → Heard k count m cells found (stage_by Nothing m cells found)
over_heard k count m cells found o = (
  findings_of cells (take m.count found),
  at_end_finished k count (findings_of cells (take m.count found)) ∙ ap (λ (b : Bool). heard b (findings_of cells (take m.count found))) (sym o.ended),
  numbers_heard_lem k 0 m.count cells found o.memory o.held o.listed,
)

pub sound_heard : (k count : ℕ) (m : Machine) (cells : List Cell) (found : List ℕ) → Sound k m cells found → Heard k count m cells found (stage_of m cells found)
unfolding stage_of
sound_heard k count m cells found sound = by m.waiting sound
  where
    by : (w : Waiting) → SoundBy w k m cells found → Heard k count m cells found (stage_by w m cells found)
    by First s = due_heard k count m cells found s
    by (Second first) s = half_heard k count m cells found first s.0 s.1
    by Subordinate s = refining_heard k count m cells found s.0 s.1
    by Nothing s = over_heard k count m cells found s
