-- Cells whose heir flags are written: what the flags then are, and that all else stands.
use Rattle.std.proofs.Common.{◌≡◌, ℕ, ◌<◌, Bool, false, ◌≢◌, List, map, length, get_or, take, set, sym, ap, ◌∙◌, refl}
use Rattle.decoder.specs.Machines.{clear, plain, mark_of, marks_of}
use Rattle.decoder.specs.declared.cell.Cell.{Cell}
use Rattle.std.proofs.Math.ListN.{get_or-map}
use Rattle.std.proofs.Math.Seq.{map-set_same}
use Rattle.std.proofs.lemmas.Simd.{map-map}
use Rattle.std.proofs.lemmas.List.{get_or-set_same, get_or-set_other, take-map}

-- A cell with this flag.
abbrev pub flagged : Bool → Cell → Cell
flagged b c = record { low = c.low; width = c.width; negated = c.negated; mark = c.mark; shaded = c.shaded; heir = b }

-- The cells with this flag at a place.
abbrev pub flag_at : List Cell → ℕ → Bool → List Cell
flag_at cells i b = set cells i (flagged b (get_or cells i clear))

-- All else stands.
pub flag_plain : (cells : List Cell) (i : ℕ) (b : Bool) → map plain (flag_at cells i b) ≡ map plain cells
flag_plain cells i b = map-set_same plain cells i (flagged b (get_or cells i clear)) clear refl

-- The flag is written,
pub flag_same : (cells : List Cell) (i : ℕ) (b : Bool) → i < length cells → (get_or (flag_at cells i b) i clear).heir ≡ b
flag_same cells i b h = ap (λ (c : Cell). c.heir) (get_or-set_same cells i (flagged b (get_or cells i clear)) clear h)

-- and no other.
pub flag_other : (cells : List Cell) (i p : ℕ) (b : Bool) → p ≢ i → (get_or (flag_at cells i b) p clear).heir ≡ (get_or cells p clear).heir
flag_other cells i p b h = ap (λ (c : Cell). c.heir) (get_or-set_other cells i p (flagged b (get_or cells i clear)) clear h)

-- Where every flag is cleared, none stands,
pub cleared_at : (cells : List Cell) (p : ℕ) → (get_or (map plain cells) p clear).heir ≡ false
cleared_at cells p = ap (λ (c : Cell). c.heir) (get_or-map plain cells p clear)

-- and all else does.
pub cleared_plain : (cells : List Cell) → map plain (map plain cells) ≡ map plain cells
cleared_plain cells = map-map plain plain cells

-- The marks are not in the flags.
pub marks_plain : (n : ℕ) (before after : List Cell) → map plain after ≡ map plain before → marks_of n after ≡ marks_of n before
unfolding marks_of
marks_plain n before after e = through (take n after) ∙ ap (map mark_of) (sym (take-map plain n after) ∙ ap (take n) e ∙ take-map plain n before) ∙ sym (through (take n before))
  where
    through : (cells : List Cell) → map mark_of cells ≡ map mark_of (map plain cells)
    through cells = sym (map-map mark_of plain cells)
