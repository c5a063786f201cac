use Rattle.std.proofs.Common.{rules}
use Rattle.slots.proofs.Outcomes.{loaded_heard}
use Rattle.slots.proofs.hearing.hear_whole.Goals as goal

pub returns-in_err-decoded-clause-hears : goal.returns-in_err-decoded-clause-hears
returns-in_err-decoded-clause-hears g c =
    let heard = loaded_heard _ _ _ _ _ c.hear.ensures.hears in search rules

pub returns-then-not-decoded-clause-hears : goal.returns-then-not-decoded-clause-hears
returns-then-not-decoded-clause-hears g c =
    let heard = loaded_heard _ _ _ _ _ c.hear.ensures.hears in search rules

pub returns-clause-hears : goal.returns-clause-hears
returns-clause-hears g c =
    let heard = loaded_heard _ _ _ _ _ c.hear.ensures.hears in search rules
