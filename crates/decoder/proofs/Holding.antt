-- The list of found places, where one more is found and where a cell is halved.
use Rattle.std.proofs.Common.{◌≡◌, ℕ, zero, suc, ◌+◌, ◌/◌, ◌^◌, ◌<◌, ◌≤◌, Bool, true, false, cond, ltb, List, get_or, set, sym, refl, ap, ◌∙◌, inl, inr, arith}
use native.Mathlib.Nat.{pow-succ'}
use Rattle.decoder.specs.Machines.{Held, known_to}
use Rattle.std.proofs.lemmas.Nat.{pow_pos, pow_below}
use Rattle.std.proofs.lemmas.List.{get_or-set_same, get_or-set_other, length-set}
use Rattle.std.proofs.lemmas.Bool.{cases_eq, lt-ltb, le-ltb}
use Rattle.stream.specs.Passes.{Finding}

-- ---- How many are known

abbrev one : Bool → ℕ
one b = cond b 1 0

-- Never more than there are places, and fewer where one is not known.
pub known_most : (told : ℕ → Finding) (n : ℕ) → known_to told n ≤ n
unfolding known_to
known_most told zero = omega arith
known_most told (suc n) = elim (ltb 0 (told n).width) as (λ b. one b + known_to told n ≤ suc n) [
  | true ↦ omega (arith, known_most told n)
  | false ↦ omega (arith, known_most told n)
]

pub known_fewer : (told : ℕ → Finding) (n p : ℕ) → p < n → (told p).width ≡ 0 → known_to told n < n
unfolding known_to
known_fewer told zero p h e = absurd (omega arith)
known_fewer told (suc n) p h e = elim (cases_eq p n) [
  | inl s ↦ let t : ltb 0 (told n).width ≡ false = le-ltb 0 (told n).width (omega (arith, ap (λ (q : ℕ). (told q).width) s)) in
      rw t (omega (arith, known_most told n))
  | inr d ↦ elim (ltb 0 (told n).width) as (λ b. one b + known_to told n < suc n) [
    | true ↦ omega (arith, known_fewer told n p (omega arith) e)
    | false ↦ omega (arith, known_fewer told n p (omega arith) e)
  ]
]

pub known_same : (told after : ℕ → Finding) (n : ℕ) → ((q : ℕ) → q < n → ltb 0 (after q).width ≡ ltb 0 (told q).width) → known_to after n ≡ known_to told n
unfolding known_to
known_same told after zero h = refl
known_same told after (suc n) h = rw (h n (omega arith), known_same told after n (λ q l. h q (omega arith)))

-- One more.
pub known_more : (told after : ℕ → Finding) (n p : ℕ) → p < n → (told p).width ≡ 0 → 0 < (after p).width
    → ((q : ℕ) → (q ≡ p → ⊥) → after q ≡ told q) → known_to after n ≡ known_to told n + 1
unfolding known_to
known_more told after zero p l z h same = absurd (omega arith)
known_more told after (suc n) p l z h same = elim (cases_eq p n) [
  | inl s ↦
      let old : ltb 0 (told n).width ≡ false = le-ltb 0 (told n).width (omega (arith, ap (λ (q : ℕ). (told q).width) s)) in
      let new : ltb 0 (after n).width ≡ true = lt-ltb 0 (after n).width (omega (arith, ap (λ (q : ℕ). (after q).width) s)) in
      rw (old, new) (omega (arith, known_same told after n (λ q u. ap (λ (x : Finding). ltb 0 x.width) (same q (omega arith)))))
  | inr d ↦ rw (same n (λ e. d (sym e))) (omega (arith, known_more told after n p (omega arith) z h same))
]

-- ---- The list

-- Its places are known, so a place that is not known is none of them.
pub not_listed : (k e count : ℕ) (told : ℕ → Finding) (found : List ℕ) (p : ℕ) → Held k e count told found → (told p).width ≡ 0
    → (i : ℕ) → i < count → get_or found i 0 ≡ p → ⊥
not_listed k e count told found p held z i h s = omega (arith, held.wide i h, pow_pos e, ap (λ (q : ℕ). (told q).width) s)

-- A power of two below 2 ^ 15, twice, is not above it.
twice : (e : ℕ) → e ≤ 14 → 2 ^ e + 2 ^ e ≤ 2 ^ 15
twice e h = elim (cases_eq e 14) [ inl s ↦ rw s (omega arith) | inr d ↦ omega (arith, pow_below e 14 (omega arith)) ]

-- One more place is found, in a cell of the threshold's width.
module _ (k e count : ℕ) (told after : ℕ → Finding) (found : List ℕ) (p : ℕ) (held : Held k e count told found) (small : e ≤ 14) (inside : p < 4 ^ k)
    (z : (told p).width ≡ 0) (width : (after p).width ≡ 2 ^ e) (low : (after p).low ≡ 2 ^ e) (same : (q : ℕ) → (q ≡ p → ⊥) → after q ≡ told q) where
  pub room : count < 4 ^ k
  room = omega (arith, held.counted, known_fewer told (4 ^ k) p inside z)

  last : get_or (set found count p) count 0 ≡ p
  last = get_or-set_same found count p 0 (omega (arith, room, held.memory))

  older : (i : ℕ) → i < count → get_or (set found count p) i 0 ≡ get_or found i 0
  older i h = get_or-set_other found count i p 0 (λ s. omega arith)

  apart : (i : ℕ) → i < count → get_or found i 0 ≡ p → ⊥
  apart = not_listed k e count told found p held z

  pub held_find : Held k e (count + 1) after (set found count p)
  held_find = record {
    memory = rw length-set held.memory;
    counted = omega (arith, known_more told after (4 ^ k) p inside z (omega (arith, pow_pos e)) same, held.counted);
    within = λ i h. elim (cases_eq i count) [ inl s ↦ rw (s, last) inside | inr d ↦ let l : i < count = omega arith in rw (older i l) (held.within i l) ];
    distinct = λ i j h l s. elim (cases_eq j count) [
      | inl t ↦ let u : i < count = omega arith in
          apart i u (sym (older i u) ∙ s ∙ ap (λ (n : ℕ). get_or (set found count p) n 0) t ∙ last)
      | inr d ↦ let u : i < count = omega arith in let v : j < count = omega arith in held.distinct i j h v (sym (older i u) ∙ s ∙ older j v)
    ];
    wide = λ i h. elim (cases_eq i count) [
      | inl s ↦ rw (s, last) (omega arith)
      | inr d ↦ let l : i < count = omega arith in rw (older i l, same (get_or found i 0) (apart i l)) (held.wide i l)
    ];
    range = λ q h. elim (cases_eq q p) [
      | inl s ↦ rw (s, width, low) (twice e small)
      | inr d ↦ rw (same q d) (held.range q h)
    ];
  }

-- The cell of a listed place is halved.
pub held_halve : (k e count : ℕ) (told after : ℕ → Finding) (found : List ℕ) (p : ℕ) → Held k e count told found → p < 4 ^ k
    → 2 ^ (e + 1) ≤ (told p).width → (after p).width ≡ (told p).width / 2 → (after p).low + (after p).width ≤ (told p).low + (told p).width
    → ((q : ℕ) → (q ≡ p → ⊥) → after q ≡ told q) → Held k e count after found
held_halve k e count told after found p held inside wide half low same =
    let enough : 2 ^ e ≤ (after p).width = omega (arith, pow-succ' 2 e, native.Mathlib.Numerals.add-one e, ap (λ (n : ℕ). 2 ^ n) (native.Mathlib.Numerals.add-one e)) in
    record {
      memory = held.memory;
      counted = held.counted ∙ sym (known_same told after (4 ^ k) (λ q h. elim (cases_eq q p) [
        | inl s ↦ rw s (lt-ltb 0 (after p).width (omega (arith, pow_pos e)) ∙ sym (lt-ltb 0 (told p).width (omega (arith, pow_pos (e + 1)))))
        | inr d ↦ ap (λ (x : Finding). ltb 0 x.width) (same q d)
      ]));
      within = held.within;
      distinct = held.distinct;
      wide = λ i h. elim (cases_eq (get_or found i 0) p) [ inl s ↦ rw s enough | inr d ↦ rw (same (get_or found i 0) d) (held.wide i h) ];
      range = λ q h. elim (cases_eq q p) [ inl s ↦ rw s (omega (arith, held.range p inside)) | inr d ↦ rw (same q d) (held.range q h) ];
    }

-- With smaller widths allowed.
pub held_weaker : (k e count : ℕ) (told : ℕ → Finding) (found : List ℕ) (d : ℕ) → Held k e count told found → 2 ^ d ≤ 2 ^ e → Held k d count told found
held_weaker k e count told found d held h = record {
  memory = held.memory;
  counted = held.counted;
  within = held.within;
  distinct = held.distinct;
  range = held.range;
  wide = λ i l. omega (arith, held.wide i l);
}
