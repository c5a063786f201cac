-- The bits of a text in digits.
use Rattle.std.proofs.Common.{◌≡◌, ℕ, ◌≤◌, min, false, eqb, List, map, length, sym, ap, ◌∙◌, arith}
use Rattle.std.proofs.lemmas.List.FromFn.{fill_by_all}
use Rattle.std.proofs.lemmas.List.{get_or-map, length-map}
use Rattle.lent.specs.Layouts.{first, lent_bits, digit_space, digit_at}

-- the bits of a source over all of the digits
pub digit_bits : (bs : List ℕ) (n : ℕ) → length bs ≤ 131072 → n ≡ min (length bs) (digit_space (length bs))
    → lent_bits digit_space digit_at bs n ≡ map (λ b. eqb b 49) bs
unfolding lent_bits first
digit_bits bs n h e =
    let m : min n (digit_space (length bs)) ≡ length bs = omega arith in
    ap (first (digit_at bs)) m ∙ sym (fill_by_all (digit_at bs) (map (λ b. eqb b 49) bs) (length bs) false (length-map bs (λ b. eqb b 49)) (λ k l. get_or-map (λ b. eqb b 49) bs k 0 false l))
