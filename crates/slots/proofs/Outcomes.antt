-- What is heard of a source, as the outcome of a preview or a load.
use Rattle.std.proofs.Common.{◌≡◌, ℕ, Bool, true, false, List, length, MatchResult, Result, Ok, Err, sym, refl, ap}
use Rattle.decoder.specs.Cells.{cell_numbers}
use Rattle.decoder.specs.declared.cell.Cell.{Cell}
use Rattle.decoder.specs.declared.decode.Decoded.{Decoded}
use Rattle.slots.specs.Slots.{Hears, TurnedAway}
use Rattle.slots.specs.declared.fault.SlotFault.{SlotFault}
use Rattle.slots.specs.declared.fault.SlotFault.TheVariants.{NoSide, ShortMemory, NoPlace, Stream}
use Rattle.stream.specs.Numbers.{middle}
use Rattle.stream.specs.Reading.{reading, previewed, loaded}
use Rattle.stream.specs.declared.fault.StreamFault.TheVariants.{PassCut}

module _ (enough : Type 0) (k : ℕ) (bits : List Bool) (cells : List Cell) where
  pub previewed_heard : (r : Result Decoded SlotFault) → Hears enough k (reading k bits) cells r
      → MatchResult r (λ decoded. enough × (previewed middle k bits ≡ Ok (cell_numbers k cells))) (TurnedAway enough (λ fault. previewed middle k bits ≡ Err fault))
  unfolding previewed
  previewed_heard (Ok decoded) h = (h.0, rw h.1.1 (ap Ok (sym h.1.2)))
  previewed_heard (Err NoSide) h = h
  previewed_heard (Err ShortMemory) h = h
  previewed_heard (Err NoPlace) h = h
  previewed_heard (Err (Stream fault)) h = (h.0, rw h.1)

  pub loaded_heard : (r : Result Decoded SlotFault) → Hears enough k (reading k bits) cells r
      → MatchResult r (λ decoded. enough × (decoded.whole ≡ true → loaded middle k bits ≡ Ok (cell_numbers k cells)) × (decoded.whole ≡ false → loaded middle k bits ≡ Err (PassCut (length bits)))) (TurnedAway enough (λ fault. loaded middle k bits ≡ Err fault))
  unfolding loaded
  loaded_heard (Ok decoded) h = (h.0, (λ whole. rw (h.1.1, whole) (ap Ok (sym h.1.2))), λ cut. rw (h.1.1, cut) refl)
  loaded_heard (Err NoSide) h = h
  loaded_heard (Err ShortMemory) h = h
  loaded_heard (Err NoPlace) h = h
  loaded_heard (Err (Stream fault)) h = (h.0, rw h.1)
