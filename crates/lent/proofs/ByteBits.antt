-- The bits of a byte: masks and shifts against quotients and remainders, by trial of all bytes and weights.
use lib.Bits.{bit_and, bit_or}
use Rattle.std.proofs.Common.{◌≡◌, ℕ, ◌-◌, ◌*◌, ◌%◌, ◌^◌, ◌<◌, ◌≤◌, Bool, true, false, cond, not, T, eqb, refl, arith, eqb→eq, ne_eqb}
use Rattle.lent.specs.Layouts.{bit_in, byte_with_bit}
use Rattle.lent.proofs.Trials.{every, below}

-- a test passes at every byte and weight
at_all : (f : ℕ → ℕ → Bool) → T (every 256 (λ x. every 8 (f x))) → (x w : ℕ) → x < 256 → w ≤ 7 → T (f x w)
at_all f t x w hx hw = below 8 (f x) (below 256 (λ y. every 8 (f y)) t x hx) w (omega arith)

pub or_mask : (x w : ℕ) → x < 256 → w ≤ 7 → bit_or x (1 * 2 ^ w % 256) ≡ byte_with_bit x w true
or_mask x w hx hw = eqb→eq _ _ (at_all (λ y v. eqb (bit_or y (1 * 2 ^ v % 256)) (byte_with_bit y v true)) tt x w hx hw)

pub and_mask : (x w : ℕ) → x < 256 → w ≤ 7 → bit_and x (255 - 1 * 2 ^ w % 256) ≡ byte_with_bit x w false
and_mask x w hx hw = eqb→eq _ _ (at_all (λ y v. eqb (bit_and y (255 - 1 * 2 ^ v % 256)) (byte_with_bit y v false)) tt x w hx hw)

same : Bool → Bool → Bool
same true b = b
same false b = not b

same_is : (a b : Bool) → T (same a b) → a ≡ b
unfolding same
same_is true true t = refl
same_is false false t = refl
same_is true false t = absurd t
same_is false true t = absurd t

-- the bit that was set is the one that was given
pub bit_set : (x w : ℕ) (b : Bool) → x < 256 → w ≤ 7 → bit_in (byte_with_bit x w b) w ≡ b
unfolding same
bit_set x w true hx hw = same_is _ _ (at_all (λ y v. same (bit_in (byte_with_bit y v true) v) true) tt x w hx hw)
bit_set x w false hx hw = same_is _ _ (at_all (λ y v. same (bit_in (byte_with_bit y v false) v) false) tt x w hx hw)

-- and the others stand
stands : Bool → ℕ → ℕ → ℕ → Bool
stands b x w v = cond (eqb v w) true (same (bit_in (byte_with_bit x w b) v) (bit_in x v))

stands_all : (b : Bool) → T (every 256 (λ x. every 8 (λ w. every 8 (stands b x w))))
unfolding stands same
stands_all true = tt
stands_all false = tt

pub bit_stands : (x w v : ℕ) (b : Bool) → x < 256 → w ≤ 7 → v ≤ 7 → (v ≡ w → ⊥) → bit_in (byte_with_bit x w b) v ≡ bit_in x v
unfolding stands
bit_stands x w v b hx hw hv ne =
    let t : T (stands b x w v) =
    below 8 (stands b x w) (at_all (λ y u. every 8 (stands b y u)) (stands_all b) x w hx hw) v (omega arith) in
    same_is _ _ (rw (ne_eqb v w ne) at t)
