-- Numbered refusals: which layer a number belongs to, and the checks of a call in their order.
use Rattle.std.specs.Prelude.{ℕ, Bool, true, false, cond, ◌&&◌, List, [], ◌∷◌, ◌++◌, Some, None, Option, codes, decimal, ◌==◌, nat_le}
use Rattle.refusal.specs.declared.Layer.{Layer}
use Rattle.refusal.specs.declared.Layer.TheVariants.{Slot, Stream, Shelf, Bank, Text}
use Rattle.refusal.specs.declared.Refusal.{Refusal}

-- The layer that the rule of a number belongs to: slot up to 5, stream for 8 to 14, shelf for 18 and 19, text for 21, bank for every other.
abbrev pub layer_of : (number : ℕ) → Layer
layer_of number =
    cond (nat_le number 5) Slot
    (cond (nat_le 8 number && nat_le number 14) Stream
    (cond (nat_le 18 number && nat_le number 19) Shelf
    (cond (number == 21) Text Bank)))

-- The refusal by this number at this place. Its layer follows from its number.
abbrev pub refusal_by : (number place : ℕ) → Refusal
refusal_by number place = record { number = number; layer = layer_of number; place = place }

-- What a refusal is printed as: its number and its place, in decimal.
abbrev pub refusal_text : (refusal : Refusal) → List ℕ
refusal_text refusal = codes "refused " ++ (decimal refusal.number ++ (codes " at " ++ decimal refusal.place))

-- A check of a call: the refusal that it comes to, or none where its rule is kept.
abbrev pub Check : Type 0
Check = Option Refusal

-- A rule that is broken exactly if the test is true.
abbrev pub refused_if : (broken : Bool) (refusal : Refusal) → Check
refused_if true refusal = Some refusal
refused_if false refusal = None

-- Checks run in their order, and the first one that refuses is answered.
abbrev pub first_refusal : List Check → Check
first_refusal [] = None
first_refusal (Some refusal ∷ checks) = Some refusal
first_refusal (None ∷ checks) = first_refusal checks
