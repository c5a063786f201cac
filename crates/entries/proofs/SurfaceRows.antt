-- Which entry a surface row stands for.
use denote.Struct.Props.{props}
use Rattle.std.proofs.Common.{◌≡◌, ℤ, ap, ◌∙◌, arith}
use mathlib.Core.HLevel.{is_prop→PathP}
use Rattle.std.proofs.lemmas.Int.{ints}
use Rattle.entries.specs.declared.surface.Surface.{Surface}
use Rattle.entries.specs.Range.{InRange, kept}
use Rattle.entries.specs.Surfaces.{surface_entry}

-- Surface entries of one number are one entry.
pub same_surface : (x y : Surface) → x.number ≡ y.number → x ≡ y
same_surface x y e = λ j. record {
  number = e j;
  within = is_prop→PathP (λ k. InRange (e k)) (λ k. hlevel props) x.within y.within j;
}

-- What an entry has is kept.
kept_is : (z : ℤ) → InRange z → kept z ≡ z
kept_is z h = grind (arith, ints)

-- The row that is an entry's number stands for it.
pub surface_row : (x : Surface) (row : ℤ) → row ≡ x.number → surface_entry row ≡ x
surface_row x row e = same_surface (surface_entry row) x (ap kept e ∙ kept_is x.number x.within)
