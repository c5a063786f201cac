-- A load accepts exactly the streams that tables give: both directions together.
use Rattle.std.proofs.Common.{◌≡◌, ℕ, Bool, true, List, ℤ, is_ok, Ok, Err, Result, sym, refl, ap, ◌∙◌}
use Rattle.std.proofs.lemmas.Bool.{false≢true}
use Rattle.stream.proofs.Accepted.{accepts_streams_only}
use Rattle.stream.proofs.RoundTrip.{reads_back}
use Rattle.stream.specs.Laws.{SideExponent, IsStream, AcceptsExactly}
use Rattle.stream.specs.Numbers.{Placement, InCell}
use Rattle.stream.specs.Reading.{loaded}
use Rattle.stream.specs.declared.fault.StreamFault.{StreamFault}

-- an answer that is Ok holds something
held : (r : Result (List ℤ) StreamFault) → is_ok r ≡ true → (v : List ℤ) × (r ≡ Ok v)
held (Ok v) e = (v, refl)
held (Err f) e = absurd (false≢true e)

given : (place : Placement) → InCell place → (k : ℕ) (bits : List Bool) → SideExponent k → is_ok (loaded place k bits) ≡ true → IsStream k bits
given place ic k bits s e =
    let h = held (loaded place k bits) e in
    let a = accepts_streams_only place ic k bits h.0 s h.1 in
    record { table = h.0; floor = a.1.0; lawful = a.0; in_range = a.1.1; gives = a.1.2 }

taken : (place : Placement) (k : ℕ) (bits : List Bool) → SideExponent k → IsStream k bits → is_ok (loaded place k bits) ≡ true
taken place k bits s i =
    ap (λ b. is_ok (loaded place k b)) (sym i.gives) ∙ ap is_ok (reads_back place k i.floor i.table s i.in_range i.lawful)

pub accepts_exactly : AcceptsExactly
accepts_exactly place ic k bits s = (given place ic k bits s, taken place k bits s)
