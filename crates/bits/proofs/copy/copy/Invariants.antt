-- Each bit taken from the source has been put on the shelf, and its room and its frame stay.
use Rattle.std.proofs.Common.{◌≡◌, ◌++◌}
use Rattle.bits.proofs.copy.copy.Given as goal

abbrev pub invariant-loop-bit : goal.invariant-loop-bit
invariant-loop-bit g l = record {
  taken : l.yielded ++ l.bit-iterator ≡ g.S.Source.bits l.source;
  put : g.H.Source.bits l.shelf ≡ g.H.Source.bits l.initial.shelf ++ l.yielded;
  room_stays : g.H.Shelf.space l.shelf ≡ g.H.Shelf.space l.initial.shelf;
  frame_stands : g.H.Shelf.frame l.shelf ≡ g.H.Shelf.frame l.initial.shelf;
}
