use Rattle.std.proofs.Common.{rules}
use Rattle.packing.proofs.Written.{byte_put}
use Rattle.packing.proofs.hex.push_byte.Goals as goal

pub returns : goal.returns
returns c = search (rules, byte_put)
