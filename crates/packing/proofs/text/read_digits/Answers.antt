use Rattle.std.proofs.Common.{rules}
use Rattle.packing.specs.Texts.{bits_of}
use Rattle.packing.proofs.Scans.{digit_bits}
use Rattle.packing.proofs.text.read_digits.Goals as goal

pub returns : goal.returns
unfolding bits_of
returns c = search (rules, digit_bits)
