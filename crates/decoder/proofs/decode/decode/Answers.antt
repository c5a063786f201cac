use Rattle.std.proofs.Common.{◌+◌, drop, refl, ap, ◌∙◌, rules, arith}
use Rattle.std.proofs.lemmas.List.{length-take, take_all}
use Rattle.std.proofs.lemmas.Result.{err_from_is_err_and}
use Rattle.std.specs.Iterator.Adapters.{enumerate_source, enumerate_count}
use Rattle.decoder.proofs.Runs.{reads_header, reads_as, reads_more, reads_fault, reads_all}
use Rattle.decoder.proofs.decode.decode.Goals as goal

pub loop-index-init : goal.loop-index-init
loop-index-init g c =
    let same = c.into_iter-index-iterator.ensures.into_iter_gives in
    let counts = c.enumerate-index-items.ensures in
    reads_as _ _ _ _ _ _ _ _ _ (omega (arith, ap enumerate_count same, counts.count))
    (ap enumerate_source same ∙ counts.source ∙ c.range.ensures ∙ ap (drop 7) (take_all c.count-count.result (g.S.Source.bits c.args.source.now) (omega arith)))
    (reads_header _ _ _ _ _ _ _ c.start-machine.ensures c.number-2.ensures (omega arith) (search rules) (c.args.side.low, c.args.side.high) (omega (arith, length-take c.places-places.result c.args.cells.now))
    c.clear_cells.ensures (omega (arith, length-take c.places-places.result c.args.found.now)))

pub loop-index-preserved : goal.loop-index-preserved
loop-index-preserved g c =
    let turn = c.in-Some.ensures.steps in
    reads_as _ _ _ _ _ _ _ _ _ (omega (arith, turn.1, turn.2)) refl
    (reads_more _ _ _ _ _ _ _ c.loop-index.invariant (c.in-Some.index + 7) c.in-Some.bit _ (ap (λ n. n + 7) turn.1) turn.0 _ _ _ _ c.in_ok-take.ensures)

pub returns-in_err-take-clause-decodes : goal.returns-in_err-take-clause-decodes
returns-in_err-take-clause-decodes g c =
    let turn = c.in-Some.ensures.steps in
    let told = err_from_is_err_and c.from_residual.result c.from_residual.ensures.1 in
    reads_fault _ _ _ _ _ _ _ c.loop-index.invariant (c.in-Some.index + 7) c.in-Some.bit _ (ap (λ n. n + 7) turn.1) turn.0 _ _ _ _ _ _ _ c.in_err-take.ensures told.1 told.2

pub returns-clause-decodes : goal.returns-clause-decodes
returns-clause-decodes g c =
    reads_all _ _ _ _ _ _ _ c.loop-index.invariant _ c.in-None.ensures.steps.0.0 (omega (arith, length-take c.places-places.result c.args.cells.now))
