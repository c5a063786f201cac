use Rattle.std.proofs.Common.{rules}
use Rattle.slots.proofs.Outcomes.{previewed_heard}
use Rattle.slots.proofs.blank.Blank.preview.Goals as goal

pub returns-in_err-map_err-clause-takes : goal.returns-in_err-map_err-clause-takes
returns-in_err-map_err-clause-takes g c =
    let heard = previewed_heard _ _ _ _ _ c.hear.ensures.hears in search rules

pub returns-clause-takes : goal.returns-clause-takes
returns-clause-takes g c =
    let heard = previewed_heard _ _ _ _ _ c.hear.ensures.hears in search rules
