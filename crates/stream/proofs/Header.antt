-- Binary digits and the number that they spell; the header of a stream.
use Rattle.std.proofs.Common.{◌≡◌, ℕ, zero, suc, ◌+◌, ◌*◌, ◌/◌, ◌%◌, ◌^◌, ◌<◌, ◌≤◌, Bool, true, false, cond, eqb, ltb, List, [], ◌∷◌, ◌++◌, length, take, drop, sym, refl, ap, ◌∙◌, subst, ap₂, inl, inr, mod-eq_of_lt, one-add, arith}
use lib.Pow.{mod-mod-pow}
use native.Mathlib.Nat.{pow-succ'}
use Rattle.std.proofs.lemmas.Nat.{mod-pow-add, field_of, shr_high, mod_low}
use Rattle.std.proofs.lemmas.List.{append_assoc, length-append, length-take-le, length-drop, take-append-drop, take_at, drop_at, drop-drop}
use Rattle.std.proofs.lemmas.Bool.{eq-eqb, le-ltb, ltb-false, eqb-true, cases_Bool}
use Rattle.stream.specs.Numbers.{thresholds}
use Rattle.stream.specs.declared.fault.StreamFault.{StreamFault}
use Rattle.stream.specs.declared.fault.StreamFault.TheVariants.{OtherSide}
use Rattle.stream.specs.Passes.{Finding}
use Rattle.stream.specs.Reading.{refused, heard, read_passes, spells, reading}
use Rattle.stream.specs.Streams.{binary, header}

length_binary : (w n : ℕ) → length (binary w n) ≡ w
unfolding binary
length_binary zero n = refl
length_binary (suc w) n = ap suc (length_binary w n)

-- The digit worth 2 ^ w, and those below it.
digits : (n w : ℕ) → n % 2 ^ suc w ≡ (n / 2 ^ w % 2) * 2 ^ w + n % 2 ^ w
digits n w = ap (λ x. n % 2 ^ x) (sym (one-add w)) ∙ mod-pow-add n 1 w

-- The lowest digits spell the number, as far as they go.
spells_binary_mod : (w n : ℕ) → spells (binary w n) ≡ n % 2 ^ w
unfolding spells binary
spells_binary_mod zero n = omega arith
spells_binary_mod (suc w) n = rw (length_binary w n, spells_binary_mod w n, digits n w) (digit (n / 2 ^ w % 2) (omega arith))
  where
    digit : (d : ℕ) → d < 2 → cond (eqb d 1) (2 ^ w) 0 + n % 2 ^ w ≡ d * 2 ^ w + n % 2 ^ w
    digit zero l = omega arith
    digit (suc zero) l = omega arith
    digit (suc (suc d)) l = absurd (omega arith)

pub spells_binary : (w n : ℕ) → n < 2 ^ w → spells (binary w n) ≡ n
spells_binary w n h = spells_binary_mod w n ∙ mod-eq_of_lt h

-- Digits that are alike spell the same.
binary_same : (w m n : ℕ) → m % 2 ^ w ≡ n % 2 ^ w → binary w m ≡ binary w n
unfolding binary
binary_same zero m n h = refl
binary_same (suc w) m n h = ap₂ ◌∷◌ (ap (λ d. eqb d 1) (digit m ∙ ap (λ x. x / 2 ^ w) h ∙ sym (digit n))) (binary_same w m n (low m ∙ ap (λ x. x % 2 ^ w) h ∙ sym (low n)))
  where
    digit : (m : ℕ) → m / 2 ^ w % 2 ≡ m % 2 ^ suc w / 2 ^ w
    digit m = sym (ap (λ x. m % 2 ^ x / 2 ^ w) (sym (one-add w)) ∙ field_of m 1 w)

    low : (m : ℕ) → m % 2 ^ w ≡ m % 2 ^ suc w % 2 ^ w
    low m = sym (ap (λ x. m % 2 ^ x % 2 ^ w) (sym (one-add w)) ∙ mod-mod-pow m 1 w)

pub spells_below : (bs : List Bool) → spells bs < 2 ^ length bs
unfolding spells
spells_below [] = omega arith
spells_below (true ∷ bs) = omega (arith, spells_below bs, pow-succ' 2 (length bs))
spells_below (false ∷ bs) = omega (arith, spells_below bs, pow-succ' 2 (length bs))

pub binary_spells : (bs : List Bool) → binary (length bs) (spells bs) ≡ bs
unfolding spells binary
binary_spells [] = refl
binary_spells (true ∷ bs) =
    let w = length bs in
    let e : 2 ^ w + spells bs ≡ 1 * 2 ^ w + spells bs = omega arith in
    ap₂ ◌∷◌ (rw (e, shr_high 1 w (spells bs) (spells_below bs)))
    (binary_same w _ (spells bs) (rw (e, mod_low 1 w (spells bs) (spells_below bs)) (sym (mod-eq_of_lt (spells_below bs)))) ∙ binary_spells bs)
binary_spells (false ∷ bs) =
    let w = length bs in
    let e : 0 + spells bs ≡ 0 * 2 ^ w + spells bs = omega arith in
    ap₂ ◌∷◌ (rw (e, shr_high 0 w (spells bs) (spells_below bs)))
    (binary_same w _ (spells bs) (rw (e, mod_low 0 w (spells bs) (spells_below bs)) (sym (mod-eq_of_lt (spells_below bs)))) ∙ binary_spells bs)

pub length_header : (k l : ℕ) → length (header k l) ≡ 7
unfolding header
length_header k l = length-append (binary 3 k) (binary 4 l) ∙ ap₂ ◌+◌ (length_binary 3 k) (length_binary 4 l)

-- What is read behind a header.
pub reading_header : (k l : ℕ) (bits : List Bool) → k < 8 → l < 16
    → reading k (header k l ++ bits) ≡ read_passes k (length (header k l ++ bits)) (thresholds 0 l) [] bits
unfolding reading header
reading_header k l bits hk hl =
    rw (le-ltb (length (header k l ++ bits)) 7 (omega (arith, length-append (header k l) bits, length_header k l)), side, level, drop_at (header k l) bits 7 (length_header k l))
  where
    side : eqb (spells (take 3 (header k l ++ bits))) k ≡ true
    side = rw (append_assoc, take_at (binary 3 k) _ 3 (length_binary 3 k)) (eq-eqb _ _ (spells_binary 3 k hk))

    level : spells (take 4 (drop 3 (header k l ++ bits))) ≡ l
    level = rw (append_assoc, drop_at (binary 3 k) _ 3 (length_binary 3 k), take_at (binary 4 l) bits 4 (length_binary 4 l)) (spells_binary 4 l hl)

-- What is read whole has a header.
pub record Headed (k : ℕ) (bits : List Bool) (found : List Finding) : Type 0 where
  pub told : ℕ
  pub rest : List Bool
  pub small : told < 16
  pub begins : bits ≡ header k told ++ rest
  pub reads : read_passes k (length bits) (thresholds 0 told) [] rest ≡ heard true found

pub refused_heard : {A : Type 0} (fault : StreamFault) (whole : Bool) (found : List Finding) → refused fault ≡ heard whole found → A
refused_heard fault whole found e = let z : ◌≡◌ {A = ℕ} 0 1 = cc in absurd (omega arith)

-- The digits at the front of a list.
front : (n : ℕ) (bs : List Bool) → n ≤ length bs → binary n (spells (take n bs)) ≡ take n bs
front n bs h = subst (λ m. binary m (spells (take n bs)) ≡ take n bs) (length-take-le n bs h) (binary_spells (take n bs))

pub reading_headed : (k : ℕ) (bits : List Bool) (found : List Finding) → reading k bits ≡ heard true found → Headed k bits found
unfolding reading header
reading_headed k bits found e = elim (cases_Bool (ltb (length bits) 7)) [ inl c ↦ refused_heard _ _ _ (rw c at e) | inr c ↦ long (ltb-false _ _ c) (rw c at e) ]
  where
    l : ℕ
    l = spells (take 4 (drop 3 bits))

    begun : 7 ≤ length bits → spells (take 3 bits) ≡ k → bits ≡ header k l ++ drop 7 bits
    begun h s =
        let a : binary 3 k ≡ take 3 bits = ap (binary 3) (sym s) ∙ front 3 bits (omega arith) in
        let b : binary 4 l ≡ take 4 (drop 3 bits) = front 4 (drop 3 bits) (omega (arith, length-drop 3 bits)) in
        sym (rw (a, b, append_assoc, ← drop-drop 4 3 bits, take-append-drop 4 (drop 3 bits)) (take-append-drop 3 bits))

    small : 7 ≤ length bits → l < 16
    small h = rw (length-take-le 4 (drop 3 bits) (omega (arith, length-drop 3 bits))) at (spells_below (take 4 (drop 3 bits)))

    long : 7 ≤ length bits → cond (eqb (spells (take 3 bits)) k) (read_passes k (length bits) (thresholds 0 l) [] (drop 7 bits)) (refused OtherSide) ≡ heard true found → Headed k bits found
    long h r = elim (cases_Bool (eqb (spells (take 3 bits)) k)) [
      | inl c ↦ record { told = l; rest = drop 7 bits; small = small h; begins = begun h (eqb-true _ _ c); reads = rw c at r }
      | inr c ↦ refused_heard _ _ _ (rw c at r)
    ]
