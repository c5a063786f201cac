-- Which entry a partial row stands for.
use denote.Struct.Props.{props}
use Rattle.std.proofs.Common.{◌≡◌, ℕ, ◌≤◌, Bool, true, false, arith}
use mathlib.Core.HLevel.{is_prop→PathP}
use Rattle.std.proofs.lemmas.Bool.Decides.{nat_tests}
use Rattle.entries.specs.declared.partial.Partial.{Partial}
use Rattle.entries.specs.Partials.{kept_polarity, kept_level, partial_entry}

-- Partial entries of one polarity and level are one entry.
pub same_partial : (x y : Partial) → x.inverted ≡ y.inverted → x.level ≡ y.level → x ≡ y
same_partial x y i l = λ j. record {
  inverted = i j;
  level = l j;
  bound = is_prop→PathP (λ k. l k ≤ 32767) (λ k. hlevel props) x.bound y.bound j;
  upright = is_prop→PathP (λ k. l k ≡ 0 → i k ≡ false) (λ k. hlevel props) x.upright y.upright j;
}

-- What an entry has is kept.
kept_level_is : (level : ℕ) → level ≤ 32767 → kept_level level ≡ level
kept_level_is level h = grind (arith, nat_tests)

kept_polarity_is : (inverted : Bool) (level : ℕ) → (level ≡ 0 → inverted ≡ false) → kept_polarity inverted level ≡ inverted
kept_polarity_is true level h = grind (arith, nat_tests)
kept_polarity_is false level h = grind (arith, nat_tests)

-- The row of an entry's polarity and level stands for it.
pub partial_row : (x : Partial) → partial_entry (record { inverted = x.inverted; level = x.level }) ≡ x
partial_row x =
    let l = kept_level_is x.level x.bound in
    same_partial (partial_entry (record { inverted = x.inverted; level = x.level })) x
    (rw l (kept_polarity_is x.inverted x.level x.upright)) l
