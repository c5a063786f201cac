-- A stream sees no more of a number than its likeness at the floor.
use Rattle.std.proofs.Common.{◌≡◌, ℕ, zero, suc, ◌+◌, ◌-◌, ◌*◌, ◌/◌, ◌^◌, ◌<◌, ◌≤◌, Bool, cond, not, ◌&&◌, ◌||◌, leb, ◌⊎◌, List, [], ◌∷◌, ◌++◌, get_or, ℤ, pos, nat_abs, sym, refl, ap, ◌∙◌, ap₂, inl, inr, arith}
use Rattle.scan.specs.Tree.{descends}
use Rattle.std.proofs.ByRecursion.{All-weaker}
use Rattle.std.proofs.lemmas.Bool.{cases_lt, le-leb, lt-leb}
use Rattle.std.specs.List.{AllByRecursion as All}
use Rattle.stream.specs.Laws.{SideExponent, Locality}
use Rattle.stream.specs.Numbers.{Table, Alike, magnitude_at, level, thresholds, low_end}
use Rattle.stream.specs.Passes.{Finding, is_found, some, due, reached_below, label_of, marks_to, findings, halved, upper, significant, skipped, labelled}
use Rattle.stream.specs.Streams.{spelled, labels, refinement, refinements, refined, found_in, pass_symbols, pass_found, passes, symbols, header, level_told, stream}
use Rattle.stream.proofs.Accepted.{level_is}
use Rattle.stream.proofs.Cells.{half, cell_holds, low_halves}
use Rattle.stream.proofs.Likeness.{doubled, nesting, alike_low}
use Rattle.stream.proofs.RoundTrip.{level_reached, below_level, start_state}
use Rattle.stream.proofs.States.{CellOf, State, found_in_state, pass_state}
use Rattle.stream.proofs.Terms.{cell_at}

-- Alike at a floor, at every place.
abbrev AllAlike : ℕ → ℕ → List ℤ → List ℤ → Type 0
AllAlike k f t u = (p : ℕ) → p < 4 ^ k → Alike f (get_or t p (pos 0)) (get_or u p (pos 0))

-- ---- The dominant pass

some_same : (n : ℕ) (f g : ℕ → Bool) → ((i : ℕ) → i < n → f i ≡ g i) → some n f ≡ some n g
unfolding some
some_same zero f g h = refl
some_same (suc n) f g h = ap₂ ◌||◌ (h n (omega arith)) (some_same n f g (λ i l. h i (omega arith)))

-- Alike numbers both reach the threshold, or both do not.
reach_alike : (j : ℕ) (a b : ℤ) → Alike j a b → leb (2 ^ j) (nat_abs a) ≡ leb (2 ^ j) (nat_abs b)
reach_alike j a b (inl h) = lt-leb _ _ h.0 ∙ sym (lt-leb _ _ h.1)
reach_alike j a b (inr h) = le-leb _ _ h.0 ∙ sym (le-leb _ _ h.1)

label_same : (k j : ℕ) (t u : List ℤ) (earlier : List Finding) (p : ℕ) → p < 4 ^ k → AllAlike k j t u → label_of k t j earlier p ≡ label_of k u j earlier p
unfolding label_of reached_below
label_same k j t u earlier p l h = go (h p l)
  where
    below : reached_below k t j earlier p ≡ reached_below k u j earlier p
    below = some_same (4 ^ k) _ _ (λ d i. ap (λ b. descends p d && (b && not (is_found earlier d))) (reach_alike j _ _ (h d i)))

    go : Alike j (get_or t p (pos 0)) (get_or u p (pos 0)) → label_of k t j earlier p ≡ label_of k u j earlier p
    go (inl a) = rw (lt-leb _ _ a.0, lt-leb _ _ a.1, below)
    go (inr a) = rw (le-leb _ _ a.0, le-leb _ _ a.1) (ap significant a.2)

marks_alike : (k j : ℕ) (t u : List ℤ) (earlier : List Finding) (n : ℕ) → n ≤ 4 ^ k → AllAlike k j t u → marks_to k t j earlier n ≡ marks_to k u j earlier n
unfolding marks_to
marks_alike k j t u earlier zero l h = refl
marks_alike k j t u earlier (suc n) l h =
    ap₂ (λ ms m. ms ++ cond (due earlier ms n) (labelled m) skipped ∷ []) (marks_alike k j t u earlier n (omega arith) h) (label_same k j t u earlier n (omega arith) h)

-- ---- The subordinate pass

-- Alike magnitudes lie in one half of the cell.
half_alike : (i a b : ℕ) → 2 * a / 2 ^ suc i ≡ 2 * b / 2 ^ suc i → leb (low_end (suc i) a + 2 ^ i) a ≡ leb (low_end (suc i) a + 2 ^ i) b
half_alike i a b e = elim (low_halves i a) [
  | inl h ↦ lt-leb _ _ (omega (arith, cell_holds i a)) ∙ sym (lt-leb _ _ (omega (arith, low, cell_holds i b)))
  | inr h ↦ le-leb _ _ (omega (arith, cell_holds i a)) ∙ sym (le-leb _ _ (omega (arith, low, cell_holds i b)))
]
  where
    low : low_end i a ≡ low_end i b
    low = ap (λ q. 2 ^ i * q) (sym (doubled i a) ∙ e ∙ doubled i b)

upper_alike : (k : ℕ) (t u : List ℤ) (i : ℕ) (x : Finding) → CellOf k t (suc i) (suc i) x → AllAlike k (suc i) t u → upper t x ≡ upper u x
unfolding upper cell_at
upper_alike k t u i x c h = go (h x.place c.within)
  where
    low : x.low + x.width / 2 ≡ low_end (suc i) (magnitude_at t x.place) + 2 ^ i
    low = ap (λ y. y.low + y.width / 2) c.is ∙ ap (λ w. low_end (suc i) (magnitude_at t x.place) + w) (half i)

    go : Alike (suc i) (get_or t x.place (pos 0)) (get_or u x.place (pos 0)) → upper t x ≡ upper u x
    go (inl a) = absurd (omega (arith, c.reached))
    go (inr a) = rw low (half_alike i _ _ a.3)

refinements_same : (t u : List ℤ) (j : ℕ) (xs : List Finding) → All (λ x. upper t x ≡ upper u x) xs → (refinements t j xs ≡ refinements u j xs) × (refined t xs ≡ refined u xs)
unfolding refinements refined
refinements_same t u j [] h = (refl, refl)
refinements_same t u j (x ∷ xs) h =
    let r = refinements_same t u j xs h.1 in
    (ap₂ (λ b ss. refinement j x.place b ∷ ss) h.0 r.0, ap₂ (λ b ys. halved x b ∷ ys) h.0 r.1)

-- ---- The passes

pass_same : (k : ℕ) (t u : List ℤ) (j : ℕ) (earlier : List Finding) → SideExponent k → State k t j (suc j) earlier → AllAlike k j t u
    → (pass_symbols k t j earlier ≡ pass_symbols k u j earlier) × (pass_found k t j earlier ≡ pass_found k u j earlier)
unfolding pass_symbols pass_found found_in
pass_same k t u zero earlier s st h =
    let e = marks_alike k 0 t u earlier (4 ^ k) (omega arith) h in
    (ap (labels 0 0) e, ap (λ ms. earlier ++ findings 0 0 ms) e)
pass_same k t u (suc i) earlier s st h =
    let e = marks_alike k (suc i) t u earlier (4 ^ k) (omega arith) h in
    let after = found_in_state k t (suc i) earlier s st in
    let r = refinements_same t u (suc i) (found_in k t (suc i) earlier) (All-weaker _ _ (λ x c. upper_alike k t u i x c h) _ after.cells) in
    let f : found_in k t (suc i) earlier ≡ found_in k u (suc i) earlier = ap (λ ms. earlier ++ findings (suc i) 0 ms) e in
    (ap₂ (λ ms ss. labels (suc i) 0 ms ++ ss) e (r.0 ∙ ap (refinements u (suc i)) f), r.1 ∙ ap (refined u) f)

passes_same : (k : ℕ) (t u : List ℤ) (f n : ℕ) (earlier : List Finding) → SideExponent k → State k t (f + n - 1) (f + n) earlier → AllAlike k f t u
    → passes k t (thresholds f n) earlier ≡ passes k u (thresholds f n) earlier
unfolding passes thresholds
passes_same k t u f zero earlier s st h = refl
passes_same k t u f (suc n) earlier s st h =
    let w : f + suc n - 1 ≡ f + n = omega arith in
    let l : f + suc n ≡ suc (f + n) = omega arith in
    let here : State k t (f + n) (suc (f + n)) earlier = rw (w, l) at st in
    let e = pass_same k t u (f + n) earlier s here (λ p i. nesting f (f + n) _ _ (omega arith) (h p i)) in
    ap₂ ◌++◌ e.0 (passes_same k t u f n (pass_found k t (f + n) earlier) s (pass_state k t (f + n) earlier s here) h ∙ ap (passes k u (thresholds f n)) e.1)

-- ---- The level

-- Alike with a number that reaches the threshold reaches it.
alike_high : (f : ℕ) (a b : ℤ) → Alike f a b → 2 ^ f ≤ nat_abs a → 2 ^ f ≤ nat_abs b
alike_high f a b (inl h) l = absurd (omega arith)
alike_high f a b (inr h) l = h.1

-- Two tables alike at a floor have one level, or neither reaches the floor.
level_alike : (k f : ℕ) (t u : List ℤ) → Table k t → Table k u → AllAlike k f t u → (level t ≡ level u) ⊎ ((level t ≤ f) × (level u ≤ f))
level_alike k f t u ht hu h = elim (cases_lt f (level t)) [ inl l ↦ inl (sym (same l)) | inr l ↦ inr (l, below l) ]
  where
    same : f < level t → level u ≡ level t
    same l =
        let r = level_reached k t (level t - 1) ht (omega arith) in
        level_is k u (level t) hu (λ p i. alike_low (level t) _ _ (nesting f (level t) _ _ (omega arith) (h p i)) (below_level k t (level t) p ht (omega arith)))
        (inr (r.0, r.1, alike_high (level t - 1) _ _ (nesting f (level t - 1) _ _ (omega arith) (h r.0 r.1)) r.2))

    below : level t ≤ f → level u ≤ f
    below l = elim (cases_lt f (level u)) [
      | inl g ↦ let r = level_reached k u f hu g in absurd (omega (arith, r.2, alike_low f _ _ (h r.0 r.1) (below_level k t f r.0 ht l)))
      | inr g ↦ g
    ]

pub locality : Locality
unfolding stream symbols level_told
locality k f t u s r ht hu h =
    ap₂ (λ l ss. header k l ++ spelled ss) told
    (passes_same k t u f (level t - f) [] s (start_state k t (f + (level t - f) - 1) (f + (level t - f)) ht (omega arith)) h
    ∙ ap (λ n. passes k u (thresholds f n) []) count)
  where
    told : cond (leb (level t) f) 0 (level t) ≡ cond (leb (level u) f) 0 (level u)
    told = elim (level_alike k f t u ht hu h) [ inl e ↦ ap (λ l. cond (leb l f) 0 l) e | inr b ↦ rw (le-leb _ _ b.0, le-leb _ _ b.1) ]

    count : level t - f ≡ level u - f
    count = elim (level_alike k f t u ht hu h) [ inl e ↦ ap (λ l. l - f) e | inr b ↦ omega arith ]
