-- The machine before the first bit behind the header.
use Rattle.std.proofs.Common.{◌≡◌, ℕ, zero, suc, ◌-◌, ◌^◌, ◌<◌, ◌≤◌, Bool, true, false, cond, ◌&&◌, ltb, List, [], length, get_or, sym, refl, ap, subst, ap₂, arith}
use Rattle.decoder.proofs.Shades.{under_first}
use Rattle.decoder.proofs.Steps.{start_stage}
use Rattle.decoder.specs.Machines.{clear, finding_of, findings_of, marks_of, stage_of, known_to, started, Held, Due, Sound}
use Rattle.decoder.specs.declared.cell.Cell.{Cell}
use Rattle.decoder.specs.declared.machine.Machine.{Machine}
use Rattle.decoder.specs.declared.machine.Waiting.TheVariants.{First, Nothing}
use Rattle.std.proofs.lemmas.Bool.{both_ways, le-ltb, ne_eqb}
use Rattle.stream.specs.Passes.{Finding, is_found, findings}

-- Nothing is known of a table of clear cells.
none_known : (told : ℕ → Finding) (n : ℕ) → ((p : ℕ) → p < n → (told p).width ≡ 0) → known_to told n ≡ 0
unfolding known_to
none_known told zero h = refl
none_known told (suc n) h = rw (le-ltb 0 (told n).width (omega (arith, h n (omega arith)))) (omega (arith, none_known told n (λ p l. h p (omega arith))))

-- The machine behind a header that tells a level above 0.
abbrev begin : ℕ → Machine
begin j = record { waiting = First; exponent = j; place = 0; index = 0; count = 0; before = 0; whole = false }

started_is : (j : ℕ) → begin j ≡ started (suc j)
started_is j =
    let e : j ≡ suc j - 1 = omega arith in
    ap₂ (λ (b : Bool) (i : ℕ). record { waiting = cond b Nothing First; exponent = i; place = 0; index = 0; count = 0; before = 0; whole = b })
    (sym (ne_eqb (suc j) 0 (λ z. omega arith))) e

module _ (k : ℕ) (cells : List Cell) (found : List ℕ) (memory : 4 ^ k ≤ length cells) (list : 4 ^ k ≤ length found)
    (cleared : (p : ℕ) → p < 4 ^ k → get_or cells p clear ≡ clear) where
  nothing_held : (e : ℕ) → Held k e 0 (finding_of cells) found
  nothing_held e = record {
    memory = list;
    counted = sym (none_known (finding_of cells) (4 ^ k) (λ p h. ap (λ (c : Cell). c.width) (cleared p h)));
    within = λ i h. absurd (omega arith);
    distinct = λ i j h l. absurd (omega arith);
    wide = λ i h. absurd (omega arith);
    range = λ p h. let low = ap (λ (c : Cell). c.low) (cleared p h) in let width = ap (λ (c : Cell). c.width) (cleared p h) in omega arith;
  }

  unknown_at : (p : ℕ) → p < 4 ^ k → ltb 0 (finding_of cells p).width ≡ false
  unknown_at p h = ap (λ (c : Cell). ltb 0 c.width) (cleared p h)

  begin_due : (j : ℕ) → j ≤ 14 → 0 < 4 ^ k → Due k (begin j) cells found
  unfolding findings_of marks_of findings is_found
  begin_due j small some = record {
    walk = record {
      held = nothing_held j;
      memory = memory;
      small = small;
      inside = omega arith;
      order = omega arith;
      news = refl;
      olds = λ p h. sym (ap (λ (b : Bool). b && true) (unknown_at p h));
      shades = λ p h. absurd (omega arith);
      untouched = λ t. absurd (both_ways false refl t);
    };
    place_in = some;
    unknown = ap (λ (c : Cell). c.width) (cleared 0 some);
    unshaded = ap (λ (c : Cell). c.shaded) (cleared 0 some);
    clear_above = under_first [];
  }

  pub start_sound : (level : ℕ) → level ≤ 15 → 0 < 4 ^ k → Sound k (started level) cells found
  unfolding findings_of is_found
  start_sound zero h some = record { held = nothing_held 0; listed = λ p h. sym (unknown_at p h); memory = memory; ended = refl }
  start_sound (suc j) h some = subst (λ (m : Machine). Sound k m cells found) (started_is j) (begin_due j (omega arith) some)

  pub start_stage_lem : (level : ℕ) → stage_of (started level) cells found ≡ start_stage level
  unfolding stage_of findings_of marks_of
  start_stage_lem zero = refl
  start_stage_lem (suc j) = ap (λ (m : Machine). stage_of m cells found) (sym (started_is j))
