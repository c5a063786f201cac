-- The bits so far are spelled.
use Rattle.std.proofs.Common.{◌≡◌, ◌++◌, take, drop}
use Rattle.decoder.proofs.header.number.Given as goal
use Rattle.stream.specs.Reading.{spells}

abbrev pub invariant-loop-bit : goal.invariant-loop-bit
invariant-loop-bit g l = record {
  taken : l.yielded ++ l.bit-iterator ≡ take l.width (drop l.start (g.S.Source.bits l.source));
  spelled : l.value ≡ spells l.yielded;
}
