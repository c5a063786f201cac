-- Steps one after the other.
use Rattle.std.proofs.Common.{◌≡◌, ℕ, ◌-◌, Bool, List, ◌∷◌, length, Ok, Err, Result, sym, ap, ◌∙◌, subst}
use Rattle.decoder.specs.Machines.{stage_by, stage_of, SoundBy, Sound, GoesOn, Comes, Takes}
use Rattle.decoder.specs.Stages.{Stage, meaning}
use Rattle.decoder.specs.declared.cell.Cell.{Cell}
use Rattle.decoder.specs.declared.machine.Machine.{Machine}
use Rattle.decoder.specs.declared.machine.Waiting.{Waiting}
use Rattle.stream.specs.declared.fault.StreamFault.{StreamFault}

-- Two steps without a bit.
pub comes_from : (k taken : ℕ) (start middle : Stage) (m : Machine) (cells : List Cell) (found : List ℕ) (r : Result (Unit {0}) StreamFault)
    → GoesOn k taken start middle → Comes k taken middle m cells found r → Comes k taken start m cells found r
comes_from k taken start middle m cells found (Ok u) on comes = (comes.0, λ count rest e. comes.1 count rest e ∙ on count rest e)
comes_from k taken start middle m cells found (Err fault) on fails = λ count rest e. sym (on count rest e) ∙ fails count rest e

-- A bit, and a step without one.
pub takes_from : (k taken : ℕ) (bit : Bool) (start middle : Stage) (m : Machine) (cells : List Cell) (found : List ℕ) (r : Result (Unit {0}) StreamFault)
    → ((count : ℕ) (rest : List Bool) → count - length rest ≡ taken → meaning k count middle rest ≡ meaning k count start (bit ∷ rest))
    → Comes k taken middle m cells found r → Takes k taken bit start m cells found r
unfolding Takes
takes_from k taken bit start middle m cells found (Ok u) on comes = (comes.0, λ count rest e. comes.1 count rest e ∙ on count rest e)
takes_from k taken bit start middle m cells found (Err fault) on fails = λ count rest e. sym (on count rest e) ∙ fails count rest e

-- By what the machine is known to wait for.
pub sound_by : (k : ℕ) (m : Machine) (cells : List Cell) (found : List ℕ) (w : Waiting) → m.waiting ≡ w → SoundBy w k m cells found → Sound k m cells found
sound_by k m cells found w e sound = subst (λ (v : Waiting). SoundBy v k m cells found) (sym e) sound

pub by_sound : (k : ℕ) (m : Machine) (cells : List Cell) (found : List ℕ) (w : Waiting) → m.waiting ≡ w → Sound k m cells found → SoundBy w k m cells found
by_sound k m cells found w e sound = subst (λ (v : Waiting). SoundBy v k m cells found) e sound

pub stage_by_lem : (m : Machine) (cells : List Cell) (found : List ℕ) (w : Waiting) → m.waiting ≡ w → stage_of m cells found ≡ stage_by w m cells found
unfolding stage_of
stage_by_lem m cells found w e = ap (λ (v : Waiting). stage_by v m cells found) e
