-- What writing one bit does to the bits of the bytes, in either layout.
use Rattle.std.proofs.Common.{◌≡◌, ℕ, ◌-◌, ◌/◌, ◌%◌, ◌<◌, Bool, true, false, eqb, List, [], ◌∷◌, length, get_or, set, refl, ap, ◌∙◌, inl, inr, arith}
use Rattle.std.proofs.lemmas.List.{get_or-set_same, get_or-set_other, drop-set-lt}
use Rattle.std.proofs.lemmas.Bool.{cases_eq}
use Rattle.lent.specs.Layouts.{bit_in, byte_with_bit, packed_space, packed_at, packed_past, digit_space, digit_at, digit_of_bit, digit_past, Written}
use Rattle.lent.proofs.ByteBits.{bit_set, bit_stands}

pub packed_written : (bs : List ℕ) (i : ℕ) (b : Bool) → get_or bs (i / 8) 0 < 256 → i < packed_space (length bs)
    → Written packed_space packed_at packed_past bs i b (set bs (i / 8) (byte_with_bit (get_or bs (i / 8) 0) (7 - i % 8) b))
packed_written bs i b fits within =
    let x = get_or bs (i / 8) 0 in
    let w = 7 - i % 8 in
    let y = byte_with_bit x w b in
    let at : i / 8 < length bs = omega arith in
    record {
      here = λ h. ap (λ z. bit_in z w) (get_or-set_same bs (i / 8) y 0 at) ∙ bit_set x w b fits (omega arith);
      elsewhere = λ j ne. elim (cases_eq (j / 8) (i / 8)) [
        | inl e ↦ ap (λ k. bit_in (get_or (set bs (i / 8) y) k 0) (7 - j % 8)) e ∙ ap (λ z. bit_in z (7 - j % 8)) (get_or-set_same bs (i / 8) y 0 at)
            ∙ bit_stands x w (7 - j % 8) b fits (omega arith) (omega arith) (λ q. ne (omega arith)) ∙ ap (λ k. bit_in (get_or bs k 0) (7 - j % 8)) (omega arith)
        | inr n ↦ ap (λ z. bit_in z (7 - j % 8)) (get_or-set_other bs (i / 8) (j / 8) y 0 n)
      ];
      beyond = drop-set-lt 16384 bs (i / 8) y (omega arith);
      outside = λ h. absurd (omega arith);
    }

digit_reads : (b : Bool) → digit_at (digit_of_bit b ∷ []) 0 ≡ b
digit_reads true = refl
digit_reads false = refl

pub digit_written : (bs : List ℕ) (i : ℕ) (b : Bool) → i < digit_space (length bs)
    → Written digit_space digit_at digit_past bs i b (set bs i (digit_of_bit b))
digit_written bs i b within =
    let at : i < length bs = omega arith in
    record {
      here = λ h. ap (λ z. eqb z 49) (get_or-set_same bs i (digit_of_bit b) 0 at) ∙ digit_reads b;
      elsewhere = λ j ne. ap (λ z. eqb z 49) (get_or-set_other bs i j (digit_of_bit b) 0 ne);
      beyond = drop-set-lt 131072 bs i (digit_of_bit b) (omega arith);
      outside = λ h. absurd (omega arith);
    }
