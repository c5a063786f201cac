use Rattle.std.proofs.Common.{vec_items, ap, arith}
use Rattle.previewing.proofs.Hearings.{written_over, heard_told, unheard}
use Rattle.scan.proofs.Division.{places_most_lem}
use Rattle.scan.specs.declared.side.Side.{Side}
use Rattle.std.proofs.lemmas.Result.{err_from_is_err_and}
use Rattle.previewing.proofs.hearing.Memory.hear.Goals as goal

pub returns-in_err-heard : goal.returns-in_err-heard
returns-in_err-heard g c =
    let side = c.args.blank.side in
    let most = places_most_lem side.exponent side.high in
    let p = err_from_is_err_and c.from_residual.result c.from_residual.ensures.1 in
    rw (p.1, p.2) (unheard _ _ _ (omega (arith, most), omega (arith, most), omega (arith, most)) c.in_err-heard.ensures.takes)

pub returns : goal.returns
returns g c =
    let side = c.args.blank.side in
    heard_told vec_items _ side.exponent (g.S.Source.bits c.args.source.now) _ _ _
    (ap (λ (s : Side). s.exponent) c.in_ok-heard.ensures.keeps) (written_over _ _ _ (omega arith))
    (omega (arith, places_most_lem side.exponent side.high)) c.in_ok-heard.ensures.takes.1 c.numbers.ensures
