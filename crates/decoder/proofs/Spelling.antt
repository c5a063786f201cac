-- The number that bits spell, one bit at a time.
use Rattle.std.proofs.Common.{◌≡◌, ℕ, ◌+◌, ◌*◌, ◌<◌, ◌≤◌, Bool, true, false, cond, List, [], ◌∷◌, ◌++◌, length, take, drop, refl, sym, ap, ◌∙◌, add-one, length-append, append-nil, append_assoc, arith}
use native.Mathlib.Nat.{pow-succ', pow-le-pow_right}
use Rattle.std.proofs.lemmas.List.{length_push, length-take, drop-take}
use Rattle.stream.proofs.Header.{spells_below}
use Rattle.stream.specs.Reading.{spells}

-- One more bit doubles the number, and adds itself.
pub spells_push : (xs : List Bool) (b : Bool) → spells (xs ++ b ∷ []) ≡ spells xs * 2 + cond b 1 0
unfolding spells
spells_push [] true = omega arith
spells_push [] false = omega arith
spells_push (true ∷ xs) b = rw (length_push xs b, add-one) (omega (arith, spells_push xs b, pow-succ' 2 (length xs)))
spells_push (false ∷ xs) b = omega (arith, spells_push xs b)

-- No bits spell 0.
pub spells_none : 0 ≡ spells []
unfolding spells
spells_none = refl

-- The first of up to seven bits spell a small number.
pub spells_few : (xs rest bits : List Bool) (start width : ℕ) → xs ++ rest ≡ take width (drop start bits) → start + width ≤ 7 → spells xs < 128
spells_few xs rest bits start width e h =
    let whole = ap length e in
    let short : length xs ≤ 7 = omega (arith, length-append xs rest, whole, length-take width (drop start bits)) in
    omega (arith, spells_below xs, pow-le-pow_right {n = 2} (omega arith) short)

-- One more is spelled, whichever way a bit is made a digit.
pub spells_more : (digit_of : Bool → ℕ) (xs : List Bool) (b : Bool) (value digit : ℕ) → digit_of true ≡ 1 → digit_of false ≡ 0 → value ≡ spells xs → digit ≡ digit_of b
    → value * 2 + digit ≡ spells (xs ++ b ∷ [])
spells_more digit_of xs true value digit one none told is = omega (arith, spells_push xs true)
spells_more digit_of xs false value digit one none told is = omega (arith, spells_push xs false)

-- The bits that are left begin with the next one.
pub one_more : (xs ys zs whole : List Bool) (b : Bool) → xs ++ ys ≡ whole → ys ≡ b ∷ zs → (xs ++ b ∷ []) ++ zs ≡ whole
one_more xs ys zs whole b all next = append_assoc xs (b ∷ []) zs ∙ ap (λ (rest : List Bool). xs ++ rest) (sym next) ∙ all

-- All of them are spelled.
pub spells_all : (xs rest bits : List Bool) (start width value : ℕ) → xs ++ rest ≡ take width (drop start bits) → rest ≡ [] → value ≡ spells xs
    → value ≡ spells (take width (drop start bits))
spells_all xs rest bits start width value e none told = told ∙ ap spells (sym (append-nil xs) ∙ ap (λ (ys : List Bool). xs ++ ys) (sym none) ∙ e)

-- What each turn of `number` comes to.
pub ruleset spelling = (spells_none, spells_few, spells_all, drop-take)
