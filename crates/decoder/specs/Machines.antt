-- The stage of reading that a machine and the lent memory stand for.
use Rattle.std.specs.Prelude.{◌≡◌, ℕ, zero, suc, ◌+◌, ◌-◌, ◌/◌, ◌^◌, ◌<◌, ◌≤◌, Bool, true, false, cond, not, ◌&&◌, ◌||◌, List, ◌∷◌, map, length, get_or, take, drop, Ok, Err, Result, ◌==◌, ◌≢◌, nat_lt, slice_index, slice_index_or}
use Rattle.decoder.specs.Stages.{Stage, walking, halfway, refining, finished, meaning}
use Rattle.decoder.specs.declared.cell.Cell.{Cell}
use Rattle.decoder.specs.declared.cell.Mark.{Mark as CellMark}
use Rattle.decoder.specs.declared.cell.Mark.TheVariants.{Skipped, Significant, Root, Zero}
use Rattle.decoder.specs.declared.machine.Machine.{Machine}
use Rattle.decoder.specs.declared.machine.Waiting.{Waiting}
use Rattle.decoder.specs.declared.machine.Waiting.TheVariants.{First, Second, Subordinate, Nothing}
use Rattle.stream.specs.Laws.{SideExponent}
use Rattle.stream.specs.Passes.{Finding, Mark, skipped, labelled, significant, zerotree_root, isolated_zero, is_found, is_fresh, is_root, under_root, findings}
use Rattle.stream.specs.Reading.{refused}
use Rattle.stream.specs.declared.fault.StreamFault.{StreamFault}

-- A place that is not found.
abbrev pub clear : Cell
clear = record { low = 0; width = 0; negated = false; mark = Skipped; shaded = false; heir = false }

-- What the present dominant pass says of a cell's place.
abbrev pub mark_of : Cell → Mark
mark_of c = elim c.mark [
  | Skipped ↦ skipped
  | Significant ↦ labelled (significant c.negated)
  | Root ↦ labelled zerotree_root
  | Zero ↦ labelled isolated_zero
]

-- The marks of the first n places.
unfoldable pub marks_of : ℕ → List Cell → List Mark
marks_of n cells = map mark_of (take n cells)

-- These are the cells of a table with 4 ^ k places.
pub record IsTable (k : ℕ) (cells : List Cell) : Type 0 where
  pub side : SideExponent k
  pub size : length cells ≡ 4 ^ k

-- A cell but for its heir flag, which only the end of a dominant pass uses.
abbrev pub plain : Cell → Cell
plain c = record { low = c.low; width = c.width; negated = c.negated; mark = c.mark; shaded = c.shaded; heir = false }

-- The finding of a place, and those of a list of places.
abbrev pub finding_of : List Cell → ℕ → Finding
finding_of cells p =
    record { place = p; negated = (get_or cells p clear).negated; low = (get_or cells p clear).low; width = (get_or cells p clear).width }

unfoldable pub findings_of : List Cell → List ℕ → List Finding
findings_of cells places = map (finding_of cells) places

-- The stage, by what the machine waits for.
abbrev pub stage_by : Waiting → Machine → List Cell → List ℕ → Stage
stage_by First m cells found = walking m.exponent m.whole (findings_of cells (take m.before found)) (marks_of m.place cells)
stage_by (Second first) m cells found = halfway m.exponent (findings_of cells (take m.before found)) (marks_of m.place cells) first
stage_by Subordinate m cells found =
    refining m.exponent m.whole (findings_of cells (take m.index found)) (findings_of cells (drop m.index (take m.count found)))
stage_by Nothing m cells found = finished (findings_of cells (take m.count found))

unfoldable pub stage_of : Machine → List Cell → List ℕ → Stage
stage_of m cells found = stage_by m.waiting m cells found

-- The machine before the first bit behind the header, which told this level.
abbrev pub started : ℕ → Machine
started level =
    record { waiting = cond (level == 0) Nothing First; exponent = level - 1; place = 0; index = 0; count = 0; before = 0; whole = (level == 0) }

-- ---- What the steps write

-- The machine and the cell of its place behind a label.
abbrev pub passed : Machine → Machine
passed m =
    record { waiting = m.waiting; exponent = m.exponent; place = m.place + 1; index = m.index; count = m.count; before = m.before; whole = m.whole }

abbrev pub with_mark : CellMark → Cell → Cell
with_mark mark c = record { low = c.low; width = c.width; negated = c.negated; mark = mark; shaded = c.shaded; heir = c.heir }

-- The same where the label finds the place.
abbrev pub finding_one : Machine → Machine
finding_one m =
    record { waiting = m.waiting; exponent = m.exponent; place = m.place + 1; index = m.index; count = m.count + 1; before = m.before; whole = m.whole }

abbrev pub found_at : ℕ → Bool → Cell → Cell
found_at j negated c = record { low = 2 ^ j; width = 2 ^ j; negated = negated; mark = Significant; shaded = c.shaded; heir = c.heir }

-- A place that the walk comes to is shaded if its parent is shaded or labelled zerotree root.
abbrev pub shade_at : List Cell → ℕ → Bool
shade_at cells p = nat_lt 0 p && ((get_or cells (p / 4) clear).shaded || is_root (mark_of (slice_index_or cells (p / 4) clear)))

abbrev pub reached : Bool → Cell → Cell
reached shaded c = record { low = c.low; width = c.width; negated = c.negated; mark = Skipped; shaded = shaded; heir = c.heir }

-- The machine and the cell behind a subordinate bit.
abbrev pub refined_one : Machine → Machine
refined_one m =
    record { waiting = m.waiting; exponent = m.exponent; place = m.place; index = m.index + 1; count = m.count; before = m.before; whole = m.whole }

abbrev pub halved_cell : Bool → Cell → Cell
halved_cell upper c =
    record { low = c.low + cond upper (c.width / 2) 0; width = c.width / 2; negated = c.negated; mark = c.mark; shaded = c.shaded; heir = c.heir }

-- ---- What a machine keeps

-- How many places below n are found: those that have a width.
unfoldable pub known_to : (ℕ → Finding) → ℕ → ℕ
known_to told zero = 0
known_to told (suc n) = cond (nat_lt 0 (told n).width) 1 0 + known_to told n

-- The list of the found places. `told` tells the finding of each place; every width is at least 2 ^ e.
pub record Held (k e count : ℕ) (told : ℕ → Finding) (found : List ℕ) : Type 0 where
  -- there is memory for every place of the table
  pub memory : 4 ^ k ≤ length found
  -- as many are listed as have a width
  pub counted : count ≡ known_to told (4 ^ k)
  -- they lie in the table
  pub within : (i : ℕ) → i < count → slice_index found i < 4 ^ k
  -- none is listed twice
  pub distinct : (i j : ℕ) → i < j → j < count → slice_index found i ≢ slice_index found j
  -- each has a cell of such a width
  pub wide : (i : ℕ) → i < count → 2 ^ e ≤ (told (slice_index found i)).width
  -- no cell reaches above the largest magnitude
  pub range : (p : ℕ) → p < 4 ^ k → (told p).low + (told p).width ≤ 2 ^ 15

-- Exactly the places that have a width are listed.
abbrev pub Listed : ℕ → ℕ → List Cell → List ℕ → Type 0
Listed k count cells found = (p : ℕ) → p < 4 ^ k → is_found (findings_of cells (take count found)) p ≡ nat_lt 0 (finding_of cells p).width

-- A dominant pass behind the first `place` places.
pub record Walking (k : ℕ) (m : Machine) (cells : List Cell) (found : List ℕ) : Type 0 where
  -- the found places, in cells of at least the threshold's width
  pub held : Held k m.exponent m.count (finding_of cells) found
  -- there is memory for every place of the table
  pub memory : 4 ^ k ≤ length cells
  -- the threshold is at most 2 ^ 14
  pub small : m.exponent ≤ 14
  -- no place past the table is come to
  pub inside : m.place ≤ 4 ^ k
  -- found before this pass, and found by now
  pub order : m.before ≤ m.count
  -- the places listed since the pass began are those that its marks find
  pub news : findings m.exponent 0 (marks_of m.place cells) ≡ findings_of cells (drop m.before (take m.count found))
  -- those listed before are the others that have a width
  pub olds : (p : ℕ) → p < 4 ^ k
      → is_found (findings_of cells (take m.before found)) p ≡ (nat_lt 0 (finding_of cells p).width && not (is_fresh (slice_index_or (marks_of m.place cells) p skipped)))
  -- shaded are the places under a root
  pub shades : (p : ℕ) → p < m.place → (get_or cells p clear).shaded ≡ under_root (marks_of m.place cells) p
  -- where no bit was taken at this threshold, something was found before, and every place so far is passed over
  pub untouched : m.whole ≡ true → (0 < m.before) × ((p : ℕ) → slice_index_or (marks_of m.place cells) p skipped ≡ skipped)

-- A dominant pass that waits for a label, or the rest of it, at a place that is not found and not shaded.
pub record Due (k : ℕ) (m : Machine) (cells : List Cell) (found : List ℕ) : Type 0 where
  pub walk : Walking k m cells found
  -- it is a place of the table
  pub place_in : m.place < 4 ^ k
  -- it is not found
  pub unknown : (get_or cells m.place clear).width ≡ 0
  -- its flag says that it is not shaded
  pub unshaded : (get_or cells m.place clear).shaded ≡ false
  -- and no ancestor is labelled zerotree root
  pub clear_above : under_root (marks_of m.place cells) m.place ≡ false

-- A subordinate pass behind the first `index` found places.
pub record Refining (k : ℕ) (m : Machine) (cells : List Cell) (found : List ℕ) : Type 0 where
  -- the found places, in cells of at least half the threshold's width
  pub held : Held k (m.exponent - 1) m.count (finding_of cells) found
  -- they are all that have a width
  pub listed : Listed k m.count cells found
  -- there is memory for every place of the table
  pub memory : 4 ^ k ≤ length cells
  -- the threshold is at least 2 and at most 2 ^ 14
  pub low : 1 ≤ m.exponent
  pub small : m.exponent ≤ 14
  -- something is found
  pub some : 0 < m.count
  -- no more are refined than are found
  pub inside : m.index ≤ m.count
  -- the cells that are not refined yet have at least the threshold's width
  pub unrefined : (i : ℕ) → m.index ≤ i → i < m.count → 2 ^ m.exponent ≤ (finding_of cells (slice_index found i)).width

-- Every pass is over.
pub record Over (k : ℕ) (m : Machine) (cells : List Cell) (found : List ℕ) : Type 0 where
  -- the found places
  pub held : Held k 0 m.count (finding_of cells) found
  -- they are all that have a width
  pub listed : Listed k m.count cells found
  -- there is memory for every place of the table
  pub memory : 4 ^ k ≤ length cells
  -- a full stream can end here
  pub ended : m.whole ≡ true

-- What a machine keeps from bit to bit, by what it waits for.
abbrev pub SoundBy : Waiting → ℕ → Machine → List Cell → List ℕ → Type 0
SoundBy First k m cells found = Due k m cells found
SoundBy (Second first) k m cells found = Due k m cells found × (m.whole ≡ false)
SoundBy Subordinate k m cells found = Refining k m cells found × (m.index < m.count)
SoundBy Nothing k m cells found = Over k m cells found

abbrev pub Sound : ℕ → Machine → List Cell → List ℕ → Type 0
Sound k m cells found = SoundBy m.waiting k m cells found

-- ---- What the steps come to, where `taken` bits are taken

-- Reading goes on from a later stage as it would have from an earlier one, whatever bits are left; or it comes to this fault.
abbrev pub GoesOn : ℕ → ℕ → Stage → Stage → Type 0
GoesOn k taken before after =
    (count : ℕ) (rest : List Bool) → count - length rest ≡ taken → meaning k count after rest ≡ meaning k count before rest

abbrev pub Fails : ℕ → ℕ → Stage → StreamFault → Type 0
Fails k taken before fault = (count : ℕ) (rest : List Bool) → count - length rest ≡ taken → meaning k count before rest ≡ refused fault

-- A step without a bit, to the next bit that is waited for.
abbrev pub Comes : ℕ → ℕ → Stage → Machine → List Cell → List ℕ → Result (Unit {0}) StreamFault → Type 0
Comes k taken before m cells found (Ok u) = Sound k m cells found × GoesOn k taken before (stage_of m cells found)
Comes k taken before m cells found (Err fault) = Fails k taken before fault

-- What a step without a bit comes to, over the cells of any table and for any list of found places that the machine keeps: in a dominant pass,
unfoldable pub Walks : ℕ → Machine → List Cell → Machine → List Cell → Result (Unit {0}) StreamFault → Type 0
Walks taken m cells after left r = (k : ℕ) (found : List ℕ) → IsTable k cells → Walking k m cells found → Comes k taken (stage_by First m cells found) after left found r

-- behind its last place,
unfoldable pub EndsDominant : ℕ → Machine → List Cell → Machine → List Cell → Result (Unit {0}) StreamFault → Type 0
EndsDominant taken m cells after left r =
    (k : ℕ) (found : List ℕ) → IsTable k cells → Walking k m cells found → 4 ^ k ≤ m.place → Comes k taken (stage_by First m cells found) after left found r

-- and in a subordinate pass with a bit taken.
unfoldable pub Refines : ℕ → Machine → List Cell → Machine → List Cell → Result (Unit {0}) StreamFault → Type 0
Refines taken m cells after left r =
    (k : ℕ) (found : List ℕ) → IsTable k cells → Refining k m cells found → m.whole ≡ false → Comes k taken (stage_by Subordinate m cells found) after left found r

-- A bit is taken.
unfoldable pub Takes : ℕ → ℕ → Bool → Stage → Machine → List Cell → List ℕ → Result (Unit {0}) StreamFault → Type 0
Takes k taken bit before m cells found (Ok u) =
    Sound k m cells found
    × ((count : ℕ) (rest : List Bool) → count - length rest ≡ taken → meaning k count (stage_of m cells found) rest ≡ meaning k count before (bit ∷ rest))
Takes k taken bit before m cells found (Err fault) =
    (count : ℕ) (rest : List Bool) → count - length rest ≡ taken → meaning k count before (bit ∷ rest) ≡ refused fault
