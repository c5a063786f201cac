use Rattle.std.proofs.Common.{string_bytes, sym, ap, ◌∙◌}
use Rattle.previewing.proofs.Prints.{side_heard, side_unheard, side_none}
use Rattle.previewing.specs.Previews.{line_of_refusal}
use Rattle.scan.specs.declared.side.Side.{Side}
use Rattle.slots.specs.Faults.{slot_refusal}
use Rattle.slots.specs.declared.fault.SlotFault.{SlotFault}
use Rattle.std.proofs.lemmas.Result.{err_from_is_err_and}
use Rattle.previewing.proofs.preview.side_lines.Goals as goal

pub returns-in_err-blank : goal.returns-in_err-blank
returns-in_err-blank g c =
    let p = err_from_is_err_and c.from_residual.result c.from_residual.ensures.1 in
    let none = c.in_err-blank.ensures in
    rw (p.1, p.2) (side_none c.args.exponent (g.S.Source.bits c.args.source.now) none.0 ∙ ap (λ (fault : SlotFault). line_of_refusal (slot_refusal fault)) (sym none.1))

pub returns-in_err-numbers : goal.returns-in_err-numbers
returns-in_err-numbers g c =
    let p = err_from_is_err_and c.from_residual-in_err-numbers.result c.from_residual-in_err-numbers.ensures.1 in
    rw (p.1, p.2)
    (side_unheard c.in_ok-blank.blank.side.exponent c.args.exponent (g.S.Source.bits c.args.source.now) c.in_err-numbers.field-0.0 c.in_ok-blank.ensures.1 c.in_ok-blank.ensures.0 c.in_err-numbers.ensures)

pub returns : goal.returns
returns g c =
    let same = c.in_ok-blank.ensures.1 in
    side_heard string_bytes _ _ c.args.exponent (g.S.Source.bits c.args.source.now) _ _ _ same (ap (λ (side : Side). side.exponent) c.side-side.ensures ∙ same) c.in_ok-blank.ensures.0
    c.in_ok-numbers.ensures.0 c.deref.ensures.value c.table_lines.ensures
