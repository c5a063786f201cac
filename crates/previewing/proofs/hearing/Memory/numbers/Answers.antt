use Rattle.std.proofs.Common.{◌^◌, arith, rules, ap}
use Rattle.previewing.proofs.Hearings.{read_more, read_all}
use Rattle.scan.proofs.Division.{places_most_lem}
use Rattle.scan.specs.declared.side.Side.{Side}
use Rattle.previewing.proofs.hearing.Memory.numbers.Goals as goal

pub loop-place-preserved : goal.loop-place-preserved
loop-place-preserved c = search (rules, read_more)

pub returns : goal.returns
returns c =
    let side = c.args.heard.now.side in
    let same = ap (λ (s : Side). 4 ^ s.exponent) c.side.ensures in
    read_all side.exponent c.loop-place.place _ _ (omega (arith, places_most_lem side.exponent side.high)) (omega arith) c.loop-place.invariant
