-- What every reading leaves between passes, whatever its bits were: cells of one width, aligned to it, at different places.
use Rattle.std.proofs.Common.{◌≡◌, ℕ, suc, ◌+◌, ◌*◌, ◌^◌, ◌<◌, ◌≤◌, Bool, true, false, eqb, List, [], ◌∷◌, ◌++◌, length, get_or, sym, refl, ◌∙◌, inl, inr, mul-one, mul-add, arith, pow_mono}
use native.Mathlib.Nat.{pow-succ'}
use Rattle.std.proofs.ByRecursion.{All-append, All-weaker}
use Rattle.std.proofs.lemmas.Bool.{cases_Bool, or_cases, or_from, or_left, or_right, eq-eqb, ne_eqb, eqb-true, both_ways, false≢true}
use Rattle.std.specs.List.{AllByRecursion as All}
use Rattle.stream.specs.Passes.{significant, zerotree_root, isolated_zero, Mark, skipped, labelled, Finding, is_found, is_fresh, findings, halved}
use Rattle.stream.specs.Reading.{refine_all}
use Rattle.stream.proofs.Cells.{twice}
use Rattle.stream.proofs.Dominant.{is_found_append, is_found_findings}
use Rattle.stream.proofs.Marks.{found_before}

-- ---- All of a list

pub all_both : {X : Type 0} (P Q R : X → Type 0) → ((x : X) → P x → Q x → R x) → (xs : List X) → All P xs → All Q xs → All R xs
all_both P Q R f [] p q = tt
all_both P Q R f (x ∷ xs) p q = (f x p.0 q.0, all_both P Q R f xs p.1 q.1)

pub all_parts : {X : Type 0} (P : X → Type 0) (xs ys : List X) → All P (xs ++ ys) → All P xs × All P ys
all_parts P [] ys h = (tt, h)
all_parts P (x ∷ xs) ys h = let r = all_parts P xs ys h.1 in ((h.0, r.0), r.1)

-- The finding at a place that is found.
pub found_at : (P : Finding → Type 0) (xs : List Finding) (p : ℕ) → All P xs → is_found xs p ≡ true → (x : Finding) × P x × (x.place ≡ p)
unfolding is_found
found_at P [] p h e = absurd (false≢true e)
found_at P (x ∷ xs) p h e = elim (or_cases _ _ e) [ inl c ↦ (x, h.0, eqb-true _ _ c) | inr c ↦ found_at P xs p h.1 c ]

-- ---- Shapes

-- A cell of width 2 ^ w that begins at a multiple of it, at or above 2 ^ l, and ends in range.
pub record ShapeOf (k w l : ℕ) (x : Finding) : Type 0 where
  pub wide : x.width ≡ 2 ^ w
  pub part : ℕ
  pub aligned : x.low ≡ 2 ^ w * part
  pub above : 2 ^ l ≤ x.low
  pub inside : x.low + 2 ^ w ≤ 2 ^ 15
  pub within : x.place < 4 ^ k

-- No place is found twice.
abbrev pub Distinct : List Finding → Type 0
Distinct [] = Unit {0}
Distinct (x ∷ xs) = (is_found xs x.place ≡ false) × Distinct xs

pub record Shaped (k w l : ℕ) (found : List Finding) : Type 0 where
  pub shapes : All (ShapeOf k w l) found
  pub distinct : Distinct found

pub distinct_append : (xs ys : List Finding) → Distinct xs → Distinct ys → ((p : ℕ) → is_found xs p ≡ true → is_found ys p ≡ false) → Distinct (xs ++ ys)
unfolding is_found
distinct_append [] ys dx dy h = dy
distinct_append (x ∷ xs) ys dx dy h = (
  is_found_append xs ys x.place ∙ or_from _ _ dx.0 (h x.place (or_left (eqb x.place x.place) (is_found xs x.place) (eq-eqb x.place x.place refl))),
  distinct_append xs ys dx.1 dy (λ p e. h p (or_right _ _ e)),
)

-- ---- A dominant pass

-- Where a finding comes from: the mark at an index, counted from place p.
pub record FreshAt (j p : ℕ) (ms : List Mark) (x : Finding) : Type 0 where
  pub index : ℕ
  pub stands : index < length ms
  pub at_place : x.place ≡ p + index
  pub marked : get_or ms index skipped ≡ labelled (significant x.negated)
  pub lowest : x.low ≡ 2 ^ j
  pub wide : x.width ≡ 2 ^ j

fresh_later : (j p : ℕ) (m : Mark) (ms : List Mark) (xs : List Finding) → All (FreshAt j (suc p) ms) xs → All (FreshAt j p (m ∷ ms)) xs
fresh_later j p m ms xs = All-weaker (FreshAt j (suc p) ms) (FreshAt j p (m ∷ ms)) (λ x h. record {
  index = suc h.index;
  stands = omega (arith, h.stands);
  at_place = omega (arith, h.at_place);
  marked = h.marked;
  lowest = h.lowest;
  wide = h.wide;
}) xs

pub findings_marked : (j p : ℕ) (ms : List Mark) → All (FreshAt j p ms) (findings j p ms)
unfolding findings
findings_marked j p [] = tt
findings_marked j p (skipped ∷ ms) = fresh_later j p _ ms _ (findings_marked j (suc p) ms)
findings_marked j p (labelled (significant s) ∷ ms) =
    (record { index = 0; stands = omega arith; at_place = omega arith; marked = refl; lowest = refl; wide = refl }, fresh_later j p _ ms _ (findings_marked j (suc p) ms))
findings_marked j p (labelled zerotree_root ∷ ms) = fresh_later j p _ ms _ (findings_marked j (suc p) ms)
findings_marked j p (labelled isolated_zero ∷ ms) = fresh_later j p _ ms _ (findings_marked j (suc p) ms)

-- Later findings are at later places.
not_among : (j p q : ℕ) (ms : List Mark) (xs : List Finding) → q < p → All (FreshAt j p ms) xs → is_found xs q ≡ false
unfolding is_found
not_among j p q ms [] h a = refl
not_among j p q ms (x ∷ xs) h a = or_from _ _ (ne_eqb _ _ (λ e. omega (arith, a.0.at_place))) (not_among j p q ms xs h a.1)

findings_distinct : (j p : ℕ) (ms : List Mark) → Distinct (findings j p ms)
unfolding findings
findings_distinct j p [] = tt
findings_distinct j p (skipped ∷ ms) = findings_distinct j (suc p) ms
findings_distinct j p (labelled (significant s) ∷ ms) = (found_before j (suc p) ms p (omega arith), findings_distinct j (suc p) ms)
findings_distinct j p (labelled zerotree_root ∷ ms) = findings_distinct j (suc p) ms
findings_distinct j p (labelled isolated_zero ∷ ms) = findings_distinct j (suc p) ms

-- The shape after a dominant pass that finds no place again.
pub dominant_shaped : (k j : ℕ) (earlier : List Finding) (ms : List Mark) → j ≤ 14 → length ms ≡ 4 ^ k → ((p : ℕ) → is_fresh (get_or ms p skipped) ≡ true → is_found earlier p ≡ false)
    → Shaped k j (suc j) earlier → Shaped k j j (earlier ++ findings j 0 ms)
dominant_shaped k j earlier ms h n new s = record {
  shapes = All-append (ShapeOf k j j) earlier (findings j 0 ms) (All-weaker (ShapeOf k j (suc j)) (ShapeOf k j j) old earlier s.shapes)
      (All-weaker (FreshAt j 0 ms) (ShapeOf k j j) fresh (findings j 0 ms) (findings_marked j 0 ms));
  distinct = distinct_append earlier (findings j 0 ms) s.distinct (findings_distinct j 0 ms) other;
}
  where
    old : (x : Finding) → ShapeOf k j (suc j) x → ShapeOf k j j x
    old x c = record { wide = c.wide; part = c.part; aligned = c.aligned; above = omega (arith, c.above, pow-succ' 2 j); inside = c.inside; within = c.within }

    fresh : (x : Finding) → FreshAt j 0 ms x → ShapeOf k j j x
    fresh x c = record {
      wide = c.wide;
      part = 1;
      aligned = c.lowest ∙ sym (mul-one (2 ^ j));
      above = omega (arith, c.lowest);
      inside = omega (arith, c.lowest, pow-succ' 2 j, pow_mono {i = suc j} {j = 15} (omega arith));
      within = omega (arith, c.at_place, c.stands);
    }

    other : (p : ℕ) → is_found earlier p ≡ true → is_found (findings j 0 ms) p ≡ false
    other p e = elim (cases_Bool (is_fresh (get_or ms p skipped))) [ inl f ↦ absurd (both_ways _ (new p f) e) | inr f ↦ is_found_findings j ms p ∙ f ]

-- ---- A subordinate pass

pub halved_shape : (k i l : ℕ) (x : Finding) (b : Bool) → ShapeOf k (suc i) l x → ShapeOf k i l (halved x b)
unfolding halved
halved_shape k i l x true c = record {
  wide = omega (arith, c.wide, pow-succ' 2 i);
  part = 2 * c.part + 1;
  aligned = omega (arith, c.wide, pow-succ' 2 i, c.aligned, twice i c.part, mul-add (2 ^ i) (2 * c.part) 1);
  above = omega (arith, c.above);
  inside = omega (arith, c.wide, pow-succ' 2 i, c.inside);
  within = c.within;
}
halved_shape k i l x false c = record {
  wide = omega (arith, c.wide, pow-succ' 2 i);
  part = 2 * c.part;
  aligned = omega (arith, c.aligned, twice i c.part);
  above = omega (arith, c.above);
  inside = omega (arith, pow-succ' 2 i, c.inside);
  within = c.within;
}

-- A subordinate pass keeps the places.
pub refine_all_found : (xs : List Finding) (bits : List Bool) (p : ℕ) → is_found (refine_all xs bits).found p ≡ is_found xs p
unfolding is_found refine_all halved
refine_all_found [] bits p = refl
refine_all_found (x ∷ xs) [] p = refl
refine_all_found (x ∷ xs) (b ∷ bits) p = rw (refine_all_found xs bits p)

refine_all_distinct : (xs : List Finding) (bits : List Bool) → Distinct xs → Distinct (refine_all xs bits).found
unfolding is_found refine_all halved
refine_all_distinct [] bits d = tt
refine_all_distinct (x ∷ xs) [] d = d
refine_all_distinct (x ∷ xs) (b ∷ bits) d = (refine_all_found xs bits x.place ∙ d.0, refine_all_distinct xs bits d.1)

refine_all_shapes : (k i l : ℕ) (xs : List Finding) (bits : List Bool) → All (ShapeOf k (suc i) l) xs → (refine_all xs bits).whole ≡ true → All (ShapeOf k i l) (refine_all xs bits).found
unfolding refine_all
refine_all_shapes k i l [] bits h w = tt
refine_all_shapes k i l (x ∷ xs) [] h w = absurd (false≢true w)
refine_all_shapes k i l (x ∷ xs) (b ∷ bits) h w = (halved_shape k i l x b h.0, refine_all_shapes k i l xs bits h.1 w)

pub subordinate_shaped : (k i l : ℕ) (xs : List Finding) (bits : List Bool) → Shaped k (suc i) l xs → (refine_all xs bits).whole ≡ true → Shaped k i l (refine_all xs bits).found
subordinate_shaped k i l xs bits s w = record { shapes = refine_all_shapes k i l xs bits s.shapes w; distinct = refine_all_distinct xs bits s.distinct }
