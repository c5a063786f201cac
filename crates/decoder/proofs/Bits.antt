-- One bit is taken, by what the machine waits for.
use Rattle.std.proofs.Common.{◌≡◌, ℕ, ◌+◌, ◌-◌, ◌^◌, ◌<◌, ◌≤◌, Bool, true, false, List, ◌∷◌, length, get_or, set, Ok, Err, Result, sym, refl, ap, ◌∙◌, arith}
use Rattle.decoder.proofs.Comings.{takes_from, by_sound, stage_by_lem}
use Rattle.decoder.proofs.Refinements.{refined_by, refine_fits, refine_step, refine_meaning}
use Rattle.decoder.proofs.Steps.{bits_after}
use Rattle.decoder.proofs.Takings.{begun, begun_due, children_test, find_fits, find_walk, find_meaning, label_walk, label_meaning, leaf_fails}
use Rattle.decoder.specs.Machines.{clear, stage_by, stage_of, passed, with_mark, finding_one, found_at, halved_cell, IsTable, Sound, Walks, Refines, Takes}
use Rattle.decoder.specs.Stages.{Stage, meaning}
use Rattle.decoder.specs.declared.cell.Cell.{Cell}
use Rattle.decoder.specs.declared.cell.Mark.TheVariants.{Root, Zero}
use Rattle.decoder.specs.declared.machine.Machine.{Machine}
use Rattle.decoder.specs.declared.machine.Waiting.{Waiting}
use Rattle.decoder.specs.declared.machine.Waiting.TheVariants.{First, Second, Subordinate, Nothing}
use Rattle.scan.specs.Tree.{HasChildren}
use Rattle.std.proofs.lemmas.Bool.{false≢true}
use Rattle.std.proofs.lemmas.List.{length-set}
use Rattle.stream.specs.Laws.{SideExponent}
use Rattle.stream.specs.Passes.{zerotree_root, isolated_zero, has_children}
use Rattle.stream.specs.Reading.{refused}
use Rattle.stream.specs.declared.fault.StreamFault.{StreamFault}
use Rattle.stream.specs.declared.fault.StreamFault.TheVariants.{RootAtLeaf, BitsAfterEnd}

module _ (k : ℕ) (m : Machine) (cells : List Cell) (found : List ℕ) (sound : Sound k m cells found) where
  -- What comes of a bit is told by what the machine is known to wait for.
  waits : (w : Waiting) → m.waiting ≡ w → (bit : Bool) (count : ℕ) (rest : List Bool)
      → meaning k count (stage_of m cells found) (bit ∷ rest) ≡ meaning k count (stage_by w m cells found) (bit ∷ rest)
  waits w e bit count rest = ap (λ (s : Stage). meaning k count s (bit ∷ rest)) (stage_by_lem m cells found w e)

  -- What finding the place needs, and what halving a cell does.
  pub find_needs : m.waiting ≡ Second true → SideExponent k → (m.exponent < 15) × ((m.place < 4096) × ((m.place < length cells) × (m.count < length found)))
  find_needs e side = let fits = find_fits k m cells found (by_sound k m cells found (Second true) e sound).0 side in (fits.0, (fits.1, (fits.2, fits.4)))

  pub refine_needs : m.waiting ≡ Subordinate → (m.index < length found) × (get_or found m.index 0 < length cells)
      × ((get_or cells (get_or found m.index 0) clear).low + (get_or cells (get_or found m.index 0) clear).width ≤ 2 ^ 15)
  refine_needs e =
      let sub = by_sound k m cells found Subordinate e sound in
      let fits = refine_fits k m cells found sub.0 sub.1 in
      (fits.0, omega (arith, fits.1, sub.0.memory), fits.2)

  -- The first bit of a label.
  pub takes_first : (bit : Bool) (taken : ℕ) (after : Machine) → m.waiting ≡ First → after ≡ begun bit m → Takes k taken bit (stage_of m cells found) after cells found (Ok tt)
  unfolding stage_of meaning Takes
  takes_first bit taken after e em = rw em (
    (begun_due k m cells found (by_sound k m cells found First e sound) bit, refl),
    λ count rest _. sym (waits First e bit count rest),
  )

  -- A zerotree root where there are no children.
  pub takes_leaf : (bit : Bool) (taken : ℕ) → SideExponent k → m.waiting ≡ Second false → bit ≡ true → (HasChildren k m.place → ⊥)
      → Takes k taken bit (stage_of m cells found) m cells found (Err (RootAtLeaf taken))
  unfolding Takes
  takes_leaf bit taken side e eb none = λ count rest t.
      let leaf = children_test k m.place false side (λ t. absurd (false≢true t), λ h. absurd (none h)) in
      waits (Second false) e bit count rest
      ∙ rw eb (leaf_fails k m cells found (by_sound k m cells found (Second false) e sound).0 leaf taken count rest t)

  -- A bit too many.
  pub takes_none : (bit : Bool) (index : ℕ) → m.waiting ≡ Nothing → Takes k (index + 1) bit (stage_of m cells found) m cells found (Err (BitsAfterEnd index))
  unfolding Takes
  takes_none bit index e = λ count rest t.
      let here : count - length (bit ∷ rest) ≡ index = omega (arith, t) in
      waits Nothing e bit count rest ∙ bits_after k count _ bit rest ∙ ap (λ (n : ℕ). refused (BitsAfterEnd n)) here

  -- What is written, and the step that goes on from there.
  module _ (table : IsTable k cells) (bit : Bool) (taken : ℕ) (after : Machine) (written : List Cell) (last : Machine) (left : List Cell) (r : Result (Unit {0}) StreamFault) where
    still : (p : ℕ) (c : Cell) → written ≡ set cells p c → IsTable k written
    still p c e = record { side = table.side; size = ap length e ∙ length-set cells p c ∙ table.size }

    module _ (walks : Walks taken after written last left r) where
      -- The second bit: significant,
      pub takes_significant : (listed : List ℕ) → m.waiting ≡ Second true → after ≡ finding_one m
          → written ≡ set cells m.place (found_at m.exponent bit (get_or cells m.place clear)) → listed ≡ set found m.count m.place
          → Takes k taken bit (stage_of m cells found) last left listed r
      unfolding Walks
      takes_significant listed e em ec ef =
          let due = by_sound k m cells found (Second true) e sound in
          takes_from k taken bit _ (stage_by First after written listed) last left listed r
          (λ count rest _. rw (em, ec, ef) (find_meaning k m cells found due.0 bit due.1 count rest) ∙ sym (waits (Second true) e bit count rest))
          (walks k listed (still _ _ ec) (rw (em, ec, ef) (find_walk k m cells found due.0 bit due.1)))

      -- a zerotree root,
      pub takes_root : m.waiting ≡ Second false → bit ≡ true → has_children k m.place ≡ true → after ≡ passed m
          → written ≡ set cells m.place (with_mark Root (get_or cells m.place clear)) → Takes k taken bit (stage_of m cells found) last left found r
      unfolding Walks
      takes_root e eb parent em ec =
          let due = by_sound k m cells found (Second false) e sound in
          takes_from k taken bit _ (stage_by First after written found) last left found r
          (λ count rest _.
          rw (em, ec, eb) (label_meaning k m cells found due.0 Root zerotree_root refl refl due.1 false true refl (λ _. parent) count rest)
          ∙ sym (waits (Second false) e bit count rest))
          (walks k found (still _ _ ec) (rw (em, ec) (label_walk k m cells found due.0 Root zerotree_root refl refl due.1)))

      -- or an isolated zero.
      pub takes_zero : m.waiting ≡ Second false → bit ≡ false → after ≡ passed m
          → written ≡ set cells m.place (with_mark Zero (get_or cells m.place clear)) → Takes k taken bit (stage_of m cells found) last left found r
      unfolding Walks
      takes_zero e eb em ec =
          let due = by_sound k m cells found (Second false) e sound in
          takes_from k taken bit _ (stage_by First after written found) last left found r
          (λ count rest _.
          rw (em, ec, eb) (label_meaning k m cells found due.0 Zero isolated_zero refl refl due.1 false false refl (λ z. cc) count rest)
          ∙ sym (waits (Second false) e bit count rest))
          (walks k found (still _ _ ec) (rw (em, ec) (label_walk k m cells found due.0 Zero isolated_zero refl refl due.1)))

    -- A subordinate bit.
    pub takes_refined : Refines taken after written last left r → m.waiting ≡ Subordinate → after ≡ refined_by m
        → written ≡ set cells (get_or found m.index 0) (halved_cell bit (get_or cells (get_or found m.index 0) clear))
        → Takes k taken bit (stage_of m cells found) last left found r
    unfolding Refines
    takes_refined refines e em ec =
        let sub = by_sound k m cells found Subordinate e sound in
        takes_from k taken bit _ (stage_by Subordinate after written found) last left found r
        (λ count rest _. rw (em, ec) (refine_meaning k m cells found sub.0 bit sub.1 count rest) ∙ sym (waits Subordinate e bit count rest))
        (refines k found (still _ _ ec) (rw (em, ec) (refine_step k m cells found sub.0 bit sub.1)) (rw em refl))

-- What `take` comes to in each of its arms but the first.
pub ruleset one_bit = (find_needs, refine_needs, takes_first, takes_leaf, takes_none, takes_significant, takes_root, takes_zero, takes_refined)
