use Rattle.std.proofs.Common.{rules}
use Rattle.packing.proofs.Hosts.{packed_into}
use Rattle.packing.proofs.pack.pack_into.Goals as goal

pub returns : goal.returns
returns c =
    packed_into _ _ _ c.new-shelf.result c.pack.new.shelf (search rules) (search rules) c.pack.ensures.stands (λ e. search rules) _ c.pack.ensures.packs
    c.pack.ensures.unaltered
