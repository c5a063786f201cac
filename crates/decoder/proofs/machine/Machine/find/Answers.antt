use Rattle.std.proofs.Common.{rules}
use Rattle.std.proofs.lemmas.Nat.{one_shl}
use Rattle.std.proofs.lemmas.List.{set-set, get_or-set_same, length-set}
use Rattle.decoder.proofs.machine.Machine.find.Goals as goal

pub returns : goal.returns
returns c = search (rules, set-set, get_or-set_same, length-set, one_shl)
