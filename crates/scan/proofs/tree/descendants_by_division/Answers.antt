use Rattle.scan.proofs.Division.{child_by_division, has_children_by_division, descends_by_division}
use Rattle.scan.proofs.tree.descendants_by_division.Goals as goal

pub returns : goal.returns
returns c = record { children = child_by_division; parents = has_children_by_division; descendants = descends_by_division }
