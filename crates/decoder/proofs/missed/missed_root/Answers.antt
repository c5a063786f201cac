use Rattle.std.proofs.Common.{◌/◌, length, take, ◌∙◌, rules, tests}
use Rattle.decoder.proofs.Roots.{lone, missed_by_cells}
use Rattle.decoder.proofs.missed.missed_root.Goals as goal
use Rattle.std.proofs.lemmas.Iterator.{YieldsList-from_slice}
use Rattle.std.proofs.lemmas.Iterator.Search.{any_from_yields_List}

pub returns-clause-tells : goal.returns-clause-tells
returns-clause-tells c = λ k table.
    any_from_yields_List lone _ _ c.any.result c.any.ensures.ran (YieldsList-from_slice (take (length c.flag_heirs.new.cells / 4) c.flag_heirs.new.cells) cc)
    (λ x b q k. search (rules, tests))
    ∙ missed_by_cells k c.args.cells.now c.flag_heirs.new.cells table c.flag_heirs.ensures.same (c.flag_heirs.ensures.heirs k table)
