use Rattle.std.proofs.Common.{ap, length, length-append, arith}
use Rattle.bits.proofs.copy.copy.Goals as goal

-- the room was tested before the first put, so none is refused
pub returns-in_err-put : goal.returns-in_err-put
returns-in_err-put g c =
    let taken = simp length-append at (ap length c.loop-bit.invariant.taken) in
    let put = simp length-append at (ap length c.loop-bit.invariant.put) in
    absurd (omega (arith, c.in_err-put.ensures.puts.0, ap length c.in-Some.ensures.steps, taken, put))
