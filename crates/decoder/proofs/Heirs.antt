-- Heirs, told from child to parent.
use Rattle.std.proofs.Common.{◌≡◌, ℕ, ◌+◌, ◌-◌, ◌/◌, ◌^◌, ◌<◌, ◌≤◌, Bool, true, false, ◌||◌, List, length, get_or, map, Decides, sym, refl, ap, ◌∙◌, inl, inr, arith}
use Rattle.decoder.proofs.Flags.{flag_at, flag_plain, flag_same, flag_other, cleared_at, cleared_plain, marks_plain}
use Rattle.decoder.proofs.Items.{mark_at}
use Rattle.decoder.specs.Heirs.{has_heir}
use Rattle.decoder.specs.Machines.{clear, plain, mark_of, marks_of, IsTable}
use Rattle.decoder.specs.declared.cell.Cell.{Cell}
use Rattle.scan.proofs.Division.{fourfold, child_by_division, descends_by_division, descendant_later, descendant_trans}
use Rattle.scan.specs.Tree.{Descendant}
use Rattle.scan.specs.Tree.Descendant.{direct, deeper}
use Rattle.std.proofs.lemmas.List.{length-map}
use Rattle.std.proofs.lemmas.Bool.{and_from, and_parts, or_cases, or_left, or_right, cases_eq, both_ways}
use Rattle.std.proofs.lemmas.Bool.Decides.{same_from_decides}
use Rattle.stream.proofs.Somes.{some_true, some_at}
use Rattle.stream.specs.Laws.{SideExponent}
use Rattle.stream.specs.Passes.{Mark, skipped, is_fresh}

-- A place gives its parent an heir: it is found, or has an heir itself.
abbrev pub live : ℕ → List Mark → ℕ → Bool
live n marks c = is_fresh (get_or marks c skipped) || has_heir n marks c

-- A live child from place i on.
abbrev pub LiveChild : ℕ → List Mark → ℕ → ℕ → Type 0
LiveChild n marks i p = (c : ℕ) × (i ≤ c) × (c < n) × (c / 4 ≡ p) × (live n marks c ≡ true)

module _ (k n : ℕ) (marks : List Mark) (side : SideExponent k) (size : n ≡ 4 ^ k) where
  -- Every place above a live one has an heir.
  heir_above : (a d : ℕ) → Descendant k a d → live n marks d ≡ true → has_heir n marks a ≡ true
  unfolding has_heir
  heir_above a d s t =
      elim (or_cases _ _ t) [
        | inl new ↦
            let low = (descendant_later k a d side.0 s).1 in
            some_at n _ d (omega arith) (and_from _ _ ((descends_by_division k a d side.0 side.1 low).0 s) new)
        | inr heir ↦
            let w = some_true n _ heir in
            let low : w.0 < 4 ^ k = omega arith in
            let parts = and_parts _ _ w.2 in
            let below = descendant_trans k a d w.0 s ((descends_by_division k d w.0 side.0 side.1 low).1 parts.0) in
            some_at n _ w.0 w.1 (and_from _ _ ((descends_by_division k a w.0 side.0 side.1 low).0 below) parts.1)
      ]

  -- The child on the way to a live descendant is live.
  live_child : (a d : ℕ) → Descendant k a d → live n marks d ≡ true → LiveChild n marks 1 a
  live_child a d (direct s) t = let e = (child_by_division k a d side.0).0 s in (d, e.0, omega arith, e.2, t)
  live_child a d (deeper {p} s r) t = live_child a p s (or_right _ _ (heir_above p d (direct r) t))

  -- A place has an heir exactly if a child is live.
  heir_by_child : (p : ℕ) → Decides (has_heir n marks p) (LiveChild n marks 1 p)
  unfolding has_heir
  heir_by_child p = (
    λ h.
        let w = some_true n _ h in
        let parts = and_parts _ _ w.2 in
        live_child p w.0 ((descends_by_division k p w.0 side.0 side.1 (omega arith)).1 parts.0) (or_left _ _ parts.1),
    λ w. heir_above p w.0 (direct ((child_by_division k p w.0 side.0).1 (w.1, omega arith, w.3))) w.4,
  )

-- A flag stands exactly if a child from place i on is live.
abbrev pub Told : ℕ → List Mark → ℕ → List Cell → Type 0
Told n marks i cells = (p : ℕ) → p < n → Decides (get_or cells p clear).heir (LiveChild n marks i p)

module _ (n : ℕ) (marks : List Mark) (cells : List Cell) where
  -- No place has told its parent yet.
  pub told_none : ((p : ℕ) → p < n → (get_or cells p clear).heir ≡ false) → Told n marks n cells
  told_none h p l = (λ t. absurd (both_ways _ (h p l) t), λ w. absurd (omega arith))

  -- All children of a place have told.
  pub told_at : (k : ℕ) → SideExponent k → n ≡ 4 ^ k → (i p : ℕ) → Told n marks i cells → p < n → 1 ≤ i → ((c : ℕ) → 1 ≤ c → c / 4 ≡ p → i ≤ c)
      → (get_or cells p clear).heir ≡ has_heir n marks p
  told_at k side size i p told l one late =
      let rule = heir_by_child k n marks side size p in
      same_from_decides _ _ (told p l) (
        λ t. let w = rule.0 t in (w.0, late w.0 w.1 w.3, w.2, w.3, w.4),
        λ w. rule.1 (w.0, omega arith, w.2, w.3, w.4),
      )

  -- A live place tells its parent.
  pub told_flag : (q i : ℕ) → i ≡ q + 1 → Told n marks i cells → q < n → n ≤ length cells → live n marks q ≡ true → Told n marks q (flag_at cells (q / 4) true)
  told_flag q i next told l long t p h =
      elim (cases_eq p (q / 4)) [
        | inl e ↦ (λ _. (q, omega arith, l, sym e, t), λ _. rw e (flag_same cells (q / 4) true (omega arith)))
        | inr d ↦
            let same = flag_other cells (q / 4) p true d in (
              λ s. let w = (told p h).0 (sym same ∙ s) in (w.0, omega arith, w.2, w.3, w.4),
              λ w. same ∙ (told p h).1 (w.0, later w.0 w.1 w.3 d, w.2, w.3, w.4),
            )
      ]
    where
      later : (c : ℕ) → q ≤ c → c / 4 ≡ p → (p ≡ q / 4 → ⊥) → i ≤ c
      later c m e d = elim (cases_eq c q) [ inl same ↦ absurd (d (sym e ∙ rw same refl)) | inr other ↦ omega arith ]

  -- Any other tells nothing.
  pub told_pass : (q i : ℕ) → i ≡ q + 1 → Told n marks i cells → live n marks q ≡ false → Told n marks q cells
  told_pass q i next told t p h = (
    λ s. let w = (told p h).0 s in (w.0, omega arith, w.2, w.3, w.4),
    λ w. (told p h).1 (w.0, later w.0 w.1 w.4, w.2, w.3, w.4),
  )
    where
      later : (c : ℕ) → q ≤ c → live n marks c ≡ true → i ≤ c
      later c m e = elim (cases_eq c q) [ inl same ↦ absurd (both_ways _ t (rw same at e)) | inr other ↦ omega arith ]

-- The run from the last place to the first, before the turn at place i - 1: the later places have told their parents, in the cells of any table.
unfoldable pub Telling : ℕ → List Cell → List Cell → Type 0
Telling i before cells = (k : ℕ) → IsTable k before → (1 ≤ i) × Told (4 ^ k) (marks_of (4 ^ k) before) i cells

-- It begins where every flag is cleared.
pub telling_none : (before cells : List Cell) → cells ≡ map plain before → Telling (length cells) before cells
unfolding Telling
telling_none before cells e = λ k table.
    let size : length cells ≡ 4 ^ k = ap length e ∙ length-map before plain ∙ table.size in
    let four = fourfold k table.side.0 in
    (omega arith, rw size (told_none (4 ^ k) (marks_of (4 ^ k) before) cells (λ p _. rw e (cleared_at before p))))

module _ (before cells : List Cell) (same : map plain cells ≡ map plain before) where
  size : (k : ℕ) → IsTable k before → length cells ≡ 4 ^ k
  size k table = omega (arith, ap length same, length-map cells plain, length-map before plain, table.size)

  -- Whether the place of this turn is live is read from its cell.
  live_is : (k q i : ℕ) → SideExponent k → i ≡ q + 1 → 1 ≤ q → q < 4 ^ k → Told (4 ^ k) (marks_of (4 ^ k) before) i cells
      → live (4 ^ k) (marks_of (4 ^ k) before) q ≡ (is_fresh (mark_of (get_or cells q clear)) || (get_or cells q clear).heir)
  live_is k q i side next one l told =
      let mark = ap (λ marks. is_fresh (get_or marks q skipped)) (sym (marks_plain (4 ^ k) before cells same)) ∙ ap is_fresh (mark_at (4 ^ k) cells q l) in
      let heir = told_at (4 ^ k) (marks_of (4 ^ k) before) cells k side refl i q told l (omega arith) (λ c h e. omega arith) in
      rw (mark, heir) refl

  module _ (i : ℕ) (late : 1 < i) (inside : i ≤ length cells) (telling : Telling i before cells) where
    -- A turn at a live place,
    pub telling_flag : true ≡ (is_fresh (mark_of (get_or cells (i - 1) clear)) || (get_or cells (i - 1) clear).heir) → Telling (i - 1) before (flag_at cells ((i - 1) / 4) true)
    unfolding Telling
    telling_flag t = λ k table.
        let s = size k table in
        let told = (telling k table).1 in (
          omega arith,
          told_flag (4 ^ k) (marks_of (4 ^ k) before) cells (i - 1) i (omega arith) told (omega arith) (omega arith)
              (live_is k (i - 1) i table.side (omega arith) (omega arith) (omega arith) told ∙ sym t),
        )

    -- and at any other.
    pub telling_pass : false ≡ (is_fresh (mark_of (get_or cells (i - 1) clear)) || (get_or cells (i - 1) clear).heir) → Telling (i - 1) before cells
    unfolding Telling
    telling_pass t = λ k table.
        let s = size k table in
        let told = (telling k table).1 in (
          omega arith,
          told_pass (4 ^ k) (marks_of (4 ^ k) before) cells (i - 1) i (omega arith) told (live_is k (i - 1) i table.side (omega arith) (omega arith) (omega arith) told ∙ sym t),
        )

-- At the end every flag tells of its place's heirs.
pub telling_all : (before cells : List Cell) (i : ℕ) → Telling i before cells → i ≤ 1 → (k : ℕ) → IsTable k before → (p : ℕ) → p < 4 ^ k
    → (get_or cells p clear).heir ≡ has_heir (4 ^ k) (marks_of (4 ^ k) before) p
unfolding Telling
telling_all before cells i telling early k table p l =
    let run = telling k table in told_at (4 ^ k) (marks_of (4 ^ k) before) cells k table.side refl i p run.1 l run.0 (λ c h q. omega arith)

-- What the run comes to.
pub ruleset tells_heirs = (telling_none, telling_flag, telling_pass, flag_plain, cleared_plain)
