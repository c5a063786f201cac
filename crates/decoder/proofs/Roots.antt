-- Missed roots, by the heir flags of the cells.
use Rattle.std.proofs.Common.{◌≡◌, ℕ, ◌*◌, ◌/◌, ◌^◌, ◌<◌, ◌≤◌, Bool, true, false, not, ◌&&◌, List, map, length, get_or, take, sym, refl, ap, ◌∙◌, inl, inr, arith}
use Rattle.decoder.proofs.Flags.{marks_plain}
use Rattle.decoder.proofs.Items.{mark_at}
use Rattle.decoder.specs.Heirs.{has_heir, is_zero}
use Rattle.decoder.specs.Machines.{clear, plain, mark_of, marks_of, IsTable}
use Rattle.decoder.specs.declared.cell.Cell.{Cell}
use Rattle.scan.proofs.Division.{fourfold}
use Rattle.std.proofs.lemmas.Bool.{and_from, and_parts, and_cases, and_left, and_right, both_ways, cases_Bool, cases_lt, lt-ltb, le-ltb}
use Rattle.std.proofs.lemmas.List.{get_or-take, get_or_default, length-map, length-take}
use Rattle.std.proofs.lemmas.List.Folds.{Any-from_list_any, list_any_at}
use Rattle.std.specs.List.{list_any}
use Rattle.stream.proofs.Somes.{some_at, some_none}
use Rattle.stream.specs.Passes.{Mark, skipped, has_children, some}
use Rattle.stream.specs.Reading.{has_missed_root}

-- A cell of an isolated zero without an heir.
abbrev pub lone : Cell → Bool
lone c = is_zero (mark_of c) && not c.heir

-- The rule of missed roots.
missed_rule : (k : ℕ) (marks : List Mark)
    → has_missed_root k marks ≡ some (4 ^ k) (λ p. is_zero (get_or marks p skipped) && (has_children k p && not (has_heir (4 ^ k) marks p)))
unfolding has_missed_root has_heir
missed_rule k marks = refl

-- The cells before and after their flags are written.
module _ (k : ℕ) (before cells : List Cell) (least : 1 ≤ k) (same : map plain cells ≡ map plain before)
    (heirs : (p : ℕ) → p < 4 ^ k → (get_or cells p clear).heir ≡ has_heir (4 ^ k) (marks_of (4 ^ k) before) p) where
  -- Whether a place is a zero without an heir is read from its cell.
  lone_is : (p : ℕ) → p < 4 ^ k
      → (is_zero (get_or (marks_of (4 ^ k) before) p skipped) && not (has_heir (4 ^ k) (marks_of (4 ^ k) before) p)) ≡ lone (get_or cells p clear)
  lone_is p l =
      let mark = sym (mark_at (4 ^ k) cells p l) ∙ ap (λ marks. get_or marks p skipped) (marks_plain (4 ^ k) before cells same) in
      rw (heirs p l, mark) refl

  -- Such a place among the first quarter is a missed root,
  pub root_missed : (p : ℕ) → p < 4 ^ k / 4 → lone (get_or cells p clear) ≡ true → has_missed_root k (marks_of (4 ^ k) before) ≡ true
  root_missed p l t =
      let low : p < 4 ^ k = omega arith in
      let children : has_children k p ≡ true = lt-ltb (4 * p) (4 ^ k) (omega arith) in
      let parts = and_parts _ _ (lone_is p low ∙ t) in
      missed_rule k _ ∙ some_at (4 ^ k) _ p low (and_from _ _ parts.0 (and_from _ _ children parts.1))

  -- and where there is none, no root is missed.
  pub none_missed : ((p : ℕ) → p < 4 ^ k / 4 → lone (get_or cells p clear) ≡ false) → has_missed_root k (marks_of (4 ^ k) before) ≡ false
  none_missed none =
      let four = fourfold k least in
      let marks = marks_of (4 ^ k) before in
      missed_rule k marks ∙ some_none (4 ^ k) _ (λ p l. elim (cases_lt (4 * p) (4 ^ k)) [
        | inl c ↦ between (is_zero (get_or marks p skipped)) (has_children k p) (not (has_heir (4 ^ k) marks p)) (lone_is p l ∙ none p (omega arith))
        | inr c ↦ and_right _ _ (and_left _ _ (le-ltb _ _ c))
      ])
    where
      between : (x y z : Bool) → (x && z) ≡ false → (x && (y && z)) ≡ false
      between x y z h = elim (and_cases x z h) [ inl e ↦ and_left x _ e | inr e ↦ and_right x _ (and_right y z e) ]

-- The same for the cells of any table.
module _ (k : ℕ) (before cells : List Cell) (table : IsTable k before) (same : map plain cells ≡ map plain before)
    (heirs : (p : ℕ) → p < 4 ^ k → (get_or cells p clear).heir ≡ has_heir (4 ^ k) (marks_of (4 ^ k) before) p) where
  -- So the first quarter of the cells tells whether a root is missed.
  pub missed_by_cells : list_any lone (take (length cells / 4) cells) ≡ has_missed_root k (marks_of (4 ^ k) before)
  missed_by_cells =
      let size : length cells ≡ 4 ^ k = omega (arith, ap length same, length-map cells plain, length-map before plain, table.size) in
      let front = take (length cells / 4) cells in
      elim (cases_Bool (list_any lone front)) [
        | inl t ↦
            let w = Any-from_list_any lone front t in
            let l : w.0 < length cells / 4 = omega (arith, length-take (length cells / 4) cells, w.2) in
            t ∙ sym (root_missed k before cells table.side.0 same heirs w.0 (omega (arith, size)) (rw (sym (get_or-take (length cells / 4) cells w.0 clear l), get_or_default front w.0 clear w.1 w.2, w.3) w.4))
        | inr f ↦ f ∙ sym (none_missed k before cells table.side.0 same heirs (λ p l. elim (cases_Bool (lone (get_or cells p clear))) [
          | inl t ↦
              let low : p < length front = rw length-take (omega (arith, size)) in
              absurd (both_ways _ f (list_any_at lone front p clear low (rw (get_or-take (length cells / 4) cells p clear (omega (arith, size))) t)))
          | inr e ↦ e
        ]))
      ]
