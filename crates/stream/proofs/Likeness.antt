-- Likeness of numbers at a floor: what one resave keeps, how floors nest, and how far many resaves lead.
use Rattle.std.proofs.Common.{◌≡◌, ℕ, zero, suc, ◌+◌, ◌-◌, ◌*◌, ◌/◌, ◌^◌, ◌<◌, ◌≤◌, max, Bool, true, false, List, [], ◌∷◌, ℤ, pos, negsuc, ◌-ℤ◌, nat_abs, sym, refl, ap, ◌∙◌, ap₂, inl, inr, mul_comm, div-lt_iff_lt-mul, add-mul, mul-le-mul_left, le-div_iff_mul-le, mul-add, arith}
use native.Mathlib.Nat.{pow-succ', mul-div-mul_left, mul-div-le, lt-mul-div-succ, div-eq_of_lt-le, div-div-eq-div-mul}
use Rattle.std.proofs.lemmas.Int.{ints}
use Rattle.std.proofs.lemmas.Nat.{pow_pos}
use Rattle.std.proofs.lemmas.Bool.{cases_lt, le-leb, lt-leb, true≢false, false≢true}
use Rattle.stream.specs.Numbers.{Placement, InCell, Alike, negative, signed, width_after, low_end, quantized}
use Rattle.stream.specs.Laws.{SameSign, Nesting, Resave, resaved, coarsest, CreepBound}

-- ---- Magnitudes

-- Twice a number in steps of the floor is the number in steps of half the floor.
pub doubled : (f n : ℕ) → 2 * n / 2 ^ suc f ≡ n / 2 ^ f
doubled f n = rw pow-succ' (mul-div-mul_left n (2 ^ f) (omega arith))

pub half_of : (f : ℕ) → suc f - 1 ≡ f
half_of f = omega arith

-- Equal quotients are equal blocks, of half the floor's width or of width 1.
blocks : (f m n : ℕ) → 2 * m / 2 ^ f ≡ 2 * n / 2 ^ f → m / 2 ^ width_after f ≡ n / 2 ^ width_after f
blocks zero m n e = omega arith
blocks (suc f) m n e = rw half_of (sym (doubled f m) ∙ e ∙ doubled f n)

-- Equal blocks, of half the floor's width or of width 1, are equal quotients.
quotients : (f m n : ℕ) → m / 2 ^ width_after f ≡ n / 2 ^ width_after f → 2 * m / 2 ^ f ≡ 2 * n / 2 ^ f
quotients zero m n e = omega arith
quotients (suc f) m n e = doubled f m ∙ (rw half_of at e) ∙ sym (doubled f n)

-- The cell of a magnitude at or above the floor begins at or above it.
pub low_above : (f n : ℕ) → 2 ^ f ≤ n → 2 ^ f ≤ low_end (width_after f) n
low_above zero n h = omega arith
low_above (suc f) n h =
    let two : 2 ≤ n / 2 ^ f = (le-div_iff_mul-le (pow_pos f)).1 (omega (arith, pow-succ' 2 f)) in
    let up : 2 ^ f * 2 ≤ 2 ^ f * (n / 2 ^ f) = mul-le-mul_left (2 ^ f) two in
    rw half_of (omega (arith, pow-succ' 2 f))

-- What lies in an aligned cell has its block.
pub block_of : (w q n : ℕ) → 2 ^ w * q ≤ n → n < 2 ^ w * q + 2 ^ w → n / 2 ^ w ≡ q
block_of w q n l u =
    let c = mul_comm (2 ^ w) q in
    div-eq_of_lt-le (2 ^ w) (omega arith) (omega (arith, add-mul q 1 (2 ^ w)))

-- Equal quotients at a floor are equal at twice the floor.
coarser : (f m n : ℕ) → 2 * m / 2 ^ f ≡ 2 * n / 2 ^ f → m / 2 ^ f ≡ n / 2 ^ f
coarser f m n e = halves m ∙ ap (λ q. q / 2) e ∙ sym (halves n)
  where
    halves : (n : ℕ) → n / 2 ^ f ≡ 2 * n / 2 ^ f / 2
    halves n = sym (rw (div-div-eq-div-mul, mul_comm (2 ^ f) 2) (mul-div-mul_left n (2 ^ f) (omega arith)))

-- Equal blocks of a floor's width lie both below twice the floor, or both not.
both_below : (f m n : ℕ) → m / 2 ^ f ≡ n / 2 ^ f → m < 2 ^ suc f → n < 2 ^ suc f
both_below f m n e h =
    let l : m / 2 ^ f < 2 = (div-lt_iff_lt-mul (pow_pos f)).1 (omega (arith, pow-succ' 2 f)) in
    omega (arith, pow-succ' 2 f, (div-lt_iff_lt-mul {x = n} {y = 2} (pow_pos f)).0 (omega arith))

-- Twice two magnitudes of equal quotients lie less than the floor apart.
close : (f m n : ℕ) → 2 * m / 2 ^ f ≡ 2 * n / 2 ^ f → 2 * m < 2 * n + 2 ^ f
close f m n e =
    omega (arith, lt-mul-div-succ (2 * m) (pow_pos f), mul-add (2 ^ f) (2 * m / 2 ^ f) 1, ap (λ q. 2 ^ f * q) e, mul-div-le (2 * n) (2 ^ f))

-- ---- Signs

pub unsigned_abs_signed : (s : Bool) (n : ℕ) → nat_abs (signed s n) ≡ n
unsigned_abs_signed false n = refl
unsigned_abs_signed true zero = refl
unsigned_abs_signed true (suc n) = refl

pub negative_signed : (s : Bool) (n : ℕ) → 1 ≤ n → negative (signed s n) ≡ s
negative_signed false n h = refl
negative_signed true zero h = absurd (omega arith)
negative_signed true (suc n) h = refl

-- ---- What is heard of a number

pub quantized_low : (place : Placement) (f : ℕ) (c : ℤ) → nat_abs c < 2 ^ f → quantized place f c ≡ pos 0
unfolding quantized
quantized_low place f c h = rw (lt-leb (2 ^ f) (nat_abs c) h) refl

pub quantized_high : (place : Placement) (f : ℕ) (c : ℤ) → 2 ^ f ≤ nat_abs c
    → quantized place f c ≡ signed (negative c) (place (low_end (width_after f) (nat_abs c)) (2 ^ width_after f))
unfolding quantized
quantized_high place f c h = rw (le-leb (2 ^ f) (nat_abs c) h) refl

-- Alike numbers are heard alike.
pub quantized_alike : (place : Placement) (f : ℕ) (a b : ℤ) → Alike f a b → quantized place f a ≡ quantized place f b
quantized_alike place f a b (inl h) = quantized_low place f a h.0 ∙ sym (quantized_low place f b h.1)
quantized_alike place f a b (inr h) =
    quantized_high place f a h.0
    ∙ ap₂ (λ s q. signed s (place (2 ^ width_after f * q) (2 ^ width_after f))) h.2 (blocks f (nat_abs a) (nat_abs b) h.3)
    ∙ sym (quantized_high place f b h.1)

-- A number is alike with every number of its sign and block.
signed_alike : (f : ℕ) (c : ℤ) (m : ℕ) → 2 ^ f ≤ nat_abs c → 2 ^ f ≤ m → m / 2 ^ width_after f ≡ nat_abs c / 2 ^ width_after f → Alike f c (signed (negative c) m)
signed_alike f c m l h e =
    inr (l, rw unsigned_abs_signed h, sym (negative_signed (negative c) m (omega (arith, pow_pos f))), rw unsigned_abs_signed (quotients f (nat_abs c) m (sym e)))

-- A number is alike with what is heard of it.
pub quantized_like : (place : Placement) → InCell place → (f : ℕ) (c : ℤ) → Alike f c (quantized place f c)
quantized_like place stays f c =
    elim (cases_lt (nat_abs c) (2 ^ f)) [
      | inl l ↦ rw (quantized_low place f c l) (inl (l, pow_pos f))
      | inr l ↦ rw (quantized_high place f c l) (high l)
    ]
  where
    high : 2 ^ f ≤ nat_abs c → Alike f c (signed (negative c) (place (low_end (width_after f) (nat_abs c)) (2 ^ width_after f)))
    high l =
        let s = stays (low_end (width_after f) (nat_abs c)) (2 ^ width_after f) (pow_pos (width_after f)) in
        signed_alike f c _ l (omega (arith, low_above f (nat_abs c) l)) (block_of (width_after f) _ _ s.0 s.1)

-- ---- Likeness

pub alike_sym : (f : ℕ) (a b : ℤ) → Alike f a b → Alike f b a
alike_sym f a b (inl h) = inl (h.1, h.0)
alike_sym f a b (inr h) = inr (h.1, h.0, sym h.2, sym h.3)

pub alike_trans : (f : ℕ) (a b c : ℤ) → Alike f a b → Alike f b c → Alike f a c
alike_trans f a b c (inl h) (inl g) = inl (h.0, g.1)
alike_trans f a b c (inl h) (inr g) = absurd (omega arith)
alike_trans f a b c (inr h) (inl g) = absurd (omega arith)
alike_trans f a b c (inr h) (inr g) = inr (h.0, g.1, h.2 ∙ g.2, h.3 ∙ g.3)

-- Alike with a number below the floor is below it.
pub alike_low : (f : ℕ) (a b : ℤ) → Alike f a b → nat_abs a < 2 ^ f → nat_abs b < 2 ^ f
alike_low f a b (inl h) l = h.1
alike_low f a b (inr h) l = absurd (omega arith)

nesting_next : (f : ℕ) (a b : ℤ) → Alike f a b → Alike (suc f) a b
nesting_next f a b (inl h) = inl (omega (arith, pow-succ' 2 f))
nesting_next f a b (inr h) =
    let e = coarser f (nat_abs a) (nat_abs b) h.3 in
    elim (cases_lt (nat_abs a) (2 ^ suc f)) [
      | inl l ↦ inl (l, both_below f (nat_abs a) (nat_abs b) e l)
      | inr l ↦ elim (cases_lt (nat_abs b) (2 ^ suc f)) [
        | inl u ↦ absurd (omega (arith, both_below f (nat_abs b) (nat_abs a) (sym e) u))
        | inr u ↦ inr (l, u, h.2, doubled f (nat_abs a) ∙ e ∙ sym (doubled f (nat_abs b)))
      ]
    ]

nesting_up : (f d : ℕ) (a b : ℤ) → Alike f a b → Alike (f + d) a b
nesting_up f zero a b h = let e : f + 0 ≡ f = omega arith in rw e h
nesting_up f (suc d) a b h = let e : f + suc d ≡ suc (f + d) = omega arith in rw e (nesting_next (f + d) a b (nesting_up f d a b h))

pub nesting : Nesting
nesting f g a b l h = let e : f + (g - f) ≡ g = omega arith in rw e at (nesting_up f (g - f) a b h)

-- What is heard of a number of the range is in range.
pub quantized_range : (place : Placement) → InCell place → (f : ℕ) (c : ℤ) → f ≤ 15 → nat_abs c < 2 ^ 15 → nat_abs (quantized place f c) < 2 ^ 15
quantized_range place stays f c h l = alike_low 15 c (quantized place f c) (nesting f 15 c (quantized place f c) h (quantized_like place stays f c)) l

-- The distance of two numbers of one sign is that of their magnitudes.
pub distance : (a b : ℤ) → negative a ≡ negative b → nat_abs (b -ℤ a) ≡ (nat_abs b - nat_abs a) + (nat_abs a - nat_abs b)
distance (pos m) (pos n) e = omega (arith, ints)
distance (pos m) (negsuc n) e = absurd (false≢true e)
distance (negsuc m) (pos n) e = absurd (true≢false e)
distance (negsuc m) (negsuc n) e = omega (arith, ints)

-- Numbers alike at a floor, one of them at or above it, have one sign and lie less than half the floor apart.
pub alike_close : (f : ℕ) (a b : ℤ) → Alike f a b → 2 ^ f ≤ nat_abs a → SameSign b a × (2 * nat_abs (b -ℤ a) < 2 ^ f)
alike_close f a b (inl h) l = absurd (omega arith)
alike_close f a b (inr h) l = (
  (omega (arith, pow_pos f), omega (arith, pow_pos f), sym h.2),
  omega (arith, distance a b h.2, close f (nat_abs a) (nat_abs b) h.3, close f (nat_abs b) (nat_abs a) (sym h.3)),
)

-- ---- Resaving

-- Each number of a chain of resaves is alike with the first, at the coarsest floor.
resaved_like : (r : Resave) (rs : List Resave) (c : ℤ) → Alike (coarsest r rs) c (resaved (r ∷ rs) c)
unfolding resaved coarsest
resaved_like r [] c = quantized_like r.place r.stays r.floor c
resaved_like r (s ∷ rs) c =
    let v = quantized r.place r.floor c in
    let w = resaved (s ∷ rs) v in
    alike_trans (max r.floor (coarsest s rs)) c v w
    (nesting r.floor (max r.floor (coarsest s rs)) c v (omega arith) (quantized_like r.place r.stays r.floor c))
    (nesting (coarsest s rs) (max r.floor (coarsest s rs)) v w (omega arith) (resaved_like s rs v))

-- 0 stays 0.
resaved_zero : (rs : List Resave) → resaved rs (pos 0) ≡ pos 0
unfolding resaved
resaved_zero [] = refl
resaved_zero (r ∷ rs) = rw (quantized_low r.place r.floor (pos 0) (pow_pos r.floor)) (resaved_zero rs)

-- Below the coarsest floor a number is 0 in the end.
resaved_low : (r : Resave) (rs : List Resave) (c : ℤ) → nat_abs c < 2 ^ coarsest r rs → resaved (r ∷ rs) c ≡ pos 0
unfolding resaved coarsest
resaved_low r [] c h = quantized_low r.place r.floor c h
resaved_low r (s ∷ rs) c h =
    elim (cases_lt r.floor (coarsest s rs)) [
      | inl l ↦
          let e : max r.floor (coarsest s rs) ≡ coarsest s rs = omega arith in
          let v = quantized r.place r.floor c in
          let like = nesting r.floor (coarsest s rs) c v (omega arith) (quantized_like r.place r.stays r.floor c) in
          resaved_low s rs v (alike_low (coarsest s rs) c v like (rw e at h))
      | inr l ↦
          let e : max r.floor (coarsest s rs) ≡ r.floor = omega arith in
          rw (quantized_low r.place r.floor c (rw e at h)) (resaved_zero (s ∷ rs))
    ]

pub creep_bound : CreepBound
creep_bound r rs c =
    let like = resaved_like r rs c in
    (resaved_low r rs c, alike_close (coarsest r rs) c (resaved (r ∷ rs) c) like, λ g h. nesting (coarsest r rs) g c (resaved (r ∷ rs) c) h like)
