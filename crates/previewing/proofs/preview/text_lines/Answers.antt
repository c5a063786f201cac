use Rattle.std.proofs.Common.{◌≡◌, ℕ, List, string_bytes, subst, MatchResult}
use Rattle.previewing.proofs.Prints.{text_refused, text_cut, text_headed}
use Rattle.previewing.specs.Faults.{ToldBy}
use Rattle.std.proofs.lemmas.Result.{err_from_is_err_and}
use Rattle.previewing.proofs.preview.text_lines.Goals as goal

pub returns-in_err-source : goal.returns-in_err-source
returns-in_err-source c =
    let p = err_from_is_err_and c.from_residual.result c.from_residual.ensures.1 in
    rw (p.1, p.2) (text_refused _ _ c.in_err-source.ensures)

pub returns-in_err-exponent : goal.returns-in_err-exponent
returns-in_err-exponent c =
    let p = err_from_is_err_and c.from_residual-in_err-exponent.result c.from_residual-in_err-exponent.ensures.1 in
    let read = c.in_ok-source.ensures in
    rw (p.1, p.2) (text_cut _ _ _ read.0 read.1 c.in_err-exponent.ensures)

pub returns : goal.returns
returns c =
    let read = c.in_ok-source.ensures in
    let P : List ℕ → Type 0 = λ shown. MatchResult c.side_lines.result (λ lines. string_bytes lines ≡ shown) (ToldBy shown) in
    subst P (text_headed _ _ c.in_ok-exponent.exponent read.0 read.1 c.in_ok-exponent.ensures) c.side_lines.ensures
