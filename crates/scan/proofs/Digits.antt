-- Bits moved together and apart, digit by digit: the bit rule, and there and back.
use Rattle.std.proofs.Common.{◌≡◌, ℕ, zero, suc, ◌+◌, ◌*◌, ◌/◌, ◌%◌, ◌^◌, ◌<◌, sym, ap, ◌∙◌, arith}
use native.Mathlib.Nat.{div-div-eq-div-mul, pow-succ', zero-div}
use Rattle.scan.specs.Places.{bit_of, gathered, spread}

-- A bit above the lowest is a bit of the half.
pub bit_of_suc : (i n : ℕ) → bit_of (suc i) n ≡ bit_of i (n / 2)
unfolding bit_of
bit_of_suc i n = rw (div-div-eq-div-mul, pow-succ')

-- A bit above the lowest two is a bit of the quarter.
bit_of_quarter : (i n : ℕ) → bit_of (2 * suc i) n ≡ bit_of (2 * i) (n / 4)
bit_of_quarter i n =
    ap (λ (k : ℕ). bit_of k n) (omega arith) ∙ bit_of_suc (suc (2 * i)) n ∙ bit_of_suc (2 * i) (n / 2)
    ∙ ap (bit_of (2 * i)) (omega arith)

-- Bit i of what is moved together is bit 2 * i of what it came from.
pub gathered_bits : (n m i : ℕ) → m < 4 ^ n → bit_of i (gathered n m) ≡ bit_of (2 * i) m
unfolding bit_of gathered
gathered_bits zero m i h = let e : m ≡ 0 = omega arith in simp (e, zero-div)
gathered_bits (suc n) m zero h = omega arith
gathered_bits (suc n) m (suc i) h =
    let lower : m / 4 < 4 ^ n = omega (arith, pow-succ' 4 n) in
    bit_of_suc i _ ∙ ap (bit_of i) (omega arith) ∙ gathered_bits n (m / 4) i lower ∙ sym (bit_of_quarter i m)

-- From n base-4 digits come n bits.
pub gathered_lt : (n m : ℕ) → gathered n m < 2 ^ n
unfolding gathered
gathered_lt zero m = omega arith
gathered_lt (suc n) m = omega (arith, pow-succ' 2 n, gathered_lt n (m / 4))

-- Twice n bits moved apart make n base-4 digits.
pub spread_lt : (n r c : ℕ) → 2 * spread n r + spread n c < 4 ^ n
unfolding spread
spread_lt zero r c = omega arith
spread_lt (suc n) r c = omega (arith, pow-succ' 4 n, spread_lt n (r / 2) (c / 2))

-- Apart and together again: the even-numbered bits,
pub gathered_even : (n r c : ℕ) → c < 2 ^ n → gathered n (2 * spread n r + spread n c) ≡ c
unfolding gathered spread
gathered_even zero r c h = omega arith
gathered_even (suc n) r c h =
    let lower : c / 2 < 2 ^ n = omega (arith, pow-succ' 2 n) in
    let e : (2 * (4 * spread n (r / 2) + r % 2) + (4 * spread n (c / 2) + c % 2)) / 4 ≡ 2 * spread n (r / 2) + spread n (c / 2) = omega arith in
    rw e (omega (arith, gathered_even n (r / 2) (c / 2) lower))

-- and the odd-numbered bits.
pub gathered_odd : (n r c : ℕ) → r < 2 ^ n → gathered n ((2 * spread n r + spread n c) / 2) ≡ r
unfolding gathered spread
gathered_odd zero r c h = omega arith
gathered_odd (suc n) r c h =
    let lower : r / 2 < 2 ^ n = omega (arith, pow-succ' 2 n) in
    let e : (2 * (4 * spread n (r / 2) + r % 2) + (4 * spread n (c / 2) + c % 2)) / 2 / 4 ≡ (2 * spread n (r / 2) + spread n (c / 2)) / 2 = omega arith in
    rw e (omega (arith, gathered_odd n (r / 2) (c / 2) lower))

-- Together and apart again: the odd-numbered bits beside the even-numbered.
pub spread_gathered : (n m : ℕ) → m < 4 ^ n → 2 * spread n (gathered n (m / 2)) + spread n (gathered n m) ≡ m
unfolding gathered spread
spread_gathered zero m h = omega arith
spread_gathered (suc n) m h =
    let lower : m / 4 < 4 ^ n = omega (arith, pow-succ' 4 n) in
    let e : m / 2 / 4 ≡ m / 4 / 2 = omega arith in
    let odd : (2 * gathered n (m / 2 / 4) + m / 2 % 2) / 2 ≡ gathered n (m / 4 / 2) = omega (arith, ap (gathered n) e) in
    let even : (2 * gathered n (m / 4) + m % 2) / 2 ≡ gathered n (m / 4) = omega arith in
    rw (odd, even) (omega (arith, spread_gathered n (m / 4) lower))
