-- The first values of a rule, and the bits of lent bytes: how many there are, which one stands where, one more, fewer.
use Rattle.std.proofs.Common.{◌≡◌, ℕ, ◌+◌, ◌<◌, ◌≤◌, min, Bool, false, List, [], ◌∷◌, ◌++◌, length, get_or, take, Some, None, sym, ap, ◌∙◌, zero-add, arith}
use Rattle.bits.specs.Bits.{Told}
use Rattle.std.proofs.lemmas.List.FromFn.{length-map-range_with_len, get_or-map-range_with_len, take-map-range_with_len, map-range_with_len_more}
use Rattle.std.proofs.lemmas.List.{ext_get_or, nil_from_length}
use Rattle.lent.specs.Layouts.{first, lent_bits, Written}

pub length_first : (f : ℕ → Bool) (n : ℕ) → length (first f n) ≡ n
unfolding first
length_first f n = length-map-range_with_len f 0 n

get_or_first : (f : ℕ → Bool) (n i : ℕ) → i < n → get_or (first f n) i false ≡ f i
unfolding first
get_or_first f n i h = get_or-map-range_with_len f 0 n i i false h (zero-add i)

take_first : (f : ℕ → Bool) (n k : ℕ) → k ≤ n → take k (first f n) ≡ first f k
unfolding first
take_first f n k h = take-map-range_with_len f 0 n k h

first_same : (f g : ℕ → Bool) (n : ℕ) → ((i : ℕ) → i < n → f i ≡ g i) → first f n ≡ first g n
first_same f g n e =
    ext_get_or false (first f n) (first g n) (length_first f n ∙ sym (length_first g n))
    (λ i h. let l : i < n = rw (length_first f n) at h in get_or_first f n i l ∙ e i l ∙ sym (get_or_first g n i l))

first_more : (f : ℕ → Bool) (n : ℕ) → first f (n + 1) ≡ first f n ++ f n ∷ []
unfolding first
first_more f n = map-range_with_len_more f 0 n n (zero-add n)

module _ (space : ℕ → ℕ) (at : List ℕ → ℕ → Bool) (bytes : List ℕ) (count : ℕ) where
  pub length_lent : length (lent_bits space at bytes count) ≡ min count (space (length bytes))
  unfolding lent_bits
  length_lent = length_first (at bytes) (min count (space (length bytes)))

  pub told_lent : (i : ℕ) → i < min count (space (length bytes)) → Told (lent_bits space at bytes count) i (Some (at bytes i))
  unfolding lent_bits
  told_lent i h = (rw length_lent h, sym (get_or_first (at bytes) (min count (space (length bytes))) i h))

  pub ended_lent : (i : ℕ) → min count (space (length bytes)) ≤ i → Told (lent_bits space at bytes count) i None
  ended_lent i h = rw length_lent h

  pub cut_lent : (n : ℕ) → n ≤ length (lent_bits space at bytes count) → lent_bits space at bytes n ≡ take n (lent_bits space at bytes count)
  unfolding lent_bits
  cut_lent n h =
      let e : min n (space (length bytes)) ≡ n = omega (arith, length_lent) in
      ap (first (at bytes)) e ∙ sym (take_first (at bytes) (min count (space (length bytes))) n (omega (arith, length_lent)))

  -- one more bit is written, at the count
  pub put_lent : (past : List ℕ → List ℕ) (b : Bool) (after : List ℕ) (n : ℕ) → n ≡ length (lent_bits space at bytes count) → n < space (length bytes)
      → length after ≡ length bytes → Written space at past bytes n b after → lent_bits space at after (n + 1) ≡ lent_bits space at bytes count ++ b ∷ []
  unfolding lent_bits
  put_lent past b after n e h same w =
      let m : min (n + 1) (space (length after)) ≡ n + 1 = rw same (omega arith) in
      ap (first (at after)) m ∙ first_more (at after) n
      ∙ rw (w.here h, sym (e ∙ length_lent)) (ap (λ xs. xs ++ b ∷ []) (first_same (at after) (at bytes) n (λ i l. w.elsewhere i (λ q. absurd (omega arith)))))

  -- what the host learns of its bytes: the first ones of their bits are the shelf's
  pub lent_first : (bits : List Bool) → lent_bits space at bytes count ≡ bits → first (at bytes) (length bits) ≡ bits
  unfolding lent_bits
  lent_first bits e = ap (first (at bytes)) (sym (ap length e) ∙ length_lent) ∙ e

  pub lent_none : count ≡ 0 → lent_bits space at bytes count ≡ []
  lent_none e = nil_from_length (lent_bits space at bytes count) (length_lent ∙ rw e (omega arith))
