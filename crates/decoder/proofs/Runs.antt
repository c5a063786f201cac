-- A source is read: its header, then bit by bit, to its end.
use Rattle.std.proofs.Common.{◌≡◌, ℕ, ◌+◌, ◌-◌, ◌^◌, ◌<◌, ◌≤◌, Bool, false, eqb, ltb, List, [], ◌∷◌, ◌++◌, map, length, get_or, take, drop, replicate, Ok, Err, Result, sym, ap, ◌∙◌, subst, arith}
use native.Mathlib.Nat.{pow-le-pow_right}
use Rattle.decoder.proofs.Hearing.{sound_heard}
use Rattle.decoder.proofs.Starts.{start_sound, start_stage_lem}
use Rattle.decoder.proofs.Steps.{start_level, start_stage}
use Rattle.decoder.specs.Cells.{cell_number, cell_numbers, Decodes}
use Rattle.decoder.specs.Machines.{clear, started, stage_of, Sound, Takes}
use Rattle.decoder.specs.Stages.{Stage, meaning}
use Rattle.decoder.specs.declared.cell.Cell.{Cell}
use Rattle.decoder.specs.declared.decode.Decoded.{Decoded}
use Rattle.decoder.specs.declared.machine.Machine.{Machine}
use Rattle.scan.proofs.Division.{fourfold}
use Rattle.std.proofs.lemmas.List.{length-replicate, length-take, length-drop, get_or-replicate, take-append-le, drop_all, drop_more}
use Rattle.std.proofs.lemmas.Bool.{cond-true, cond-false, lt-ltb, le-ltb, ne_eqb}
use Rattle.stream.proofs.Header.{spells_below}
use Rattle.stream.specs.Laws.{SideExponent}
use Rattle.stream.specs.Reading.{refused, reading, spells}
use Rattle.stream.specs.declared.fault.StreamFault.{StreamFault}
use Rattle.stream.specs.declared.fault.StreamFault.TheVariants.{HeaderCut, OtherSide}

-- ---- The header

pub header_cut : (k : ℕ) (bits : List Bool) (count : ℕ) → count ≡ length bits → count < 7 → reading k bits ≡ refused (HeaderCut count)
unfolding reading
header_cut k bits count e h =
    cond-true (ltb (length bits) 7) _ _ (lt-ltb (length bits) 7 (omega arith)) ∙ ap (λ (n : ℕ). refused (HeaderCut n)) (sym e)

pub other_side : (k : ℕ) (bits : List Bool) → 7 ≤ length bits → (spells (take 3 bits) ≡ k → ⊥) → reading k bits ≡ refused OtherSide
unfolding reading
other_side k bits h d =
    cond-false (ltb (length bits) 7) _ _ (le-ltb (length bits) 7 h) ∙ cond-false (eqb (spells (take 3 bits)) k) _ _ (ne_eqb (spells (take 3 bits)) k d)

-- ---- The bits

-- The first `index` bits are taken and these are left: reading goes on from the machine's stage as it would have from the first bit.
unfoldable pub Reads : ℕ → List Bool → ℕ → List Bool → Machine → List Cell → List ℕ → Type 0
Reads k bits index left m cells found =
    Sound k m cells found × (reading k bits ≡ meaning k (length bits) (stage_of m cells found) left) × (index + length left ≡ length bits)

-- The machine starts over clear cells, behind the header.
pub reads_header : (k n : ℕ) (bits : List Bool) (m : Machine) (cells : List Cell) (found : List ℕ) (level : ℕ) → m ≡ started level → level ≡ spells (take 4 (drop 3 bits))
    → 7 ≤ length bits → spells (take 3 bits) ≡ k → SideExponent k → n ≡ 4 ^ k → cells ≡ replicate n clear → 4 ^ k ≤ length found → Reads k bits 7 (drop 7 bits) m cells found
unfolding Reads
reads_header k n bits m cells found level e tells long told side places cleared list = (
  subst (λ (x : Machine). Sound k x cells found) (sym e) (start_sound k cells found memory list clear_at level level_low some_places),
  start_level k bits long told
      ∙ ap (λ (l : ℕ). meaning k (length bits) (start_stage l) (drop 7 bits)) (sym tells)
      ∙ ap (λ (t : Stage). meaning k (length bits) t (drop 7 bits))
      (sym (ap (λ (x : Machine). stage_of x cells found) e ∙ start_stage_lem k cells found memory list clear_at level)),
  omega (arith, length-drop 7 bits),
)
  where
    clear_is : cells ≡ replicate (4 ^ k) clear
    clear_is = cleared ∙ ap (λ (i : ℕ). replicate i clear) places

    clear_at : (p : ℕ) → p < 4 ^ k → get_or cells p clear ≡ clear
    clear_at p h = ap (λ (cs : List Cell). get_or cs p clear) clear_is ∙ get_or-replicate (4 ^ k) p clear clear h

    memory : 4 ^ k ≤ length cells
    memory = omega (arith, ap length clear_is, length-replicate (4 ^ k) clear)

    some_places : 0 < 4 ^ k
    some_places = let q = fourfold k side.0 in omega (arith, q.1, q.2)

    level_low : level ≤ 15
    level_low =
        let short : length (take 4 (drop 3 bits)) ≤ 4 = rw length-take (omega arith) in
        omega (arith, spells_below (take 4 (drop 3 bits)), pow-le-pow_right {n = 2} (omega arith) short)

-- The numbers are told by the cells of the table alone.
numbers_front : (k : ℕ) (cells rest : List Cell) → 4 ^ k ≤ length cells → cell_numbers k (cells ++ rest) ≡ cell_numbers k cells
unfolding cell_numbers
numbers_front k cells rest long = ap (map cell_number) (take-append-le (4 ^ k) cells rest long)

-- The same, by other words for the index and for what is left.
pub reads_as : (k : ℕ) (bits : List Bool) (i j : ℕ) (xs ys : List Bool) (m : Machine) (cells : List Cell) (found : List ℕ) → i ≡ j → xs ≡ ys
    → Reads k bits j ys m cells found → Reads k bits i xs m cells found
reads_as k bits i j xs ys m cells found e f run =
    subst (λ (n : ℕ). Reads k bits n xs m cells found) (sym e) (subst (λ (zs : List Bool). Reads k bits j zs m cells found) (sym f) run)

module _ (k : ℕ) (bits : List Bool) (index : ℕ) (left : List Bool) (m : Machine) (cells : List Cell) (found : List ℕ) (run : Reads k bits index left m cells found) where
  -- The machine is ready for the next bit.
  pub reads_sound : Sound k m cells found
  unfolding Reads
  reads_sound = run.0

  module _ (i : ℕ) (bit : Bool) (rest : List Bool) (at : i ≡ index) (here : left ≡ bit ∷ rest) where
    taken : length bits - length rest ≡ i + 1
    unfolding Reads
    taken = omega (arith, ap length here, run.2)

    next : reading k bits ≡ meaning k (length bits) (stage_of m cells found) (bit ∷ rest)
    unfolding Reads
    next = run.1 ∙ ap (λ (bs : List Bool). meaning k (length bits) (stage_of m cells found) bs) here

    -- One more bit is taken,
    pub reads_more : (after : Machine) (written : List Cell) (listed : List ℕ) (u : Unit {0}) → Takes k (i + 1) bit (stage_of m cells found) after written listed (Ok u)
        → Reads k bits (i + 1) rest after written listed
    unfolding Reads Takes
    reads_more after written listed u takes = (takes.0, next ∙ sym (takes.1 (length bits) rest taken), omega (arith, ap length here, run.2))

    -- or is refused.
    pub reads_fault : (after : Machine) (written all : List Cell) (listed : List ℕ) (fault out : StreamFault) (r : Result Decoded StreamFault)
        → Takes k (i + 1) bit (stage_of m cells found) after written listed (Err fault) → r ≡ Err out → out ≡ fault → Decodes k (reading k bits) all r
    unfolding Takes
    reads_fault after written all listed fault out r fails e same =
        subst (λ (x : Result Decoded StreamFault). Decodes k (reading k bits) all x) (sym (e ∙ ap Err same)) (next ∙ fails (length bits) rest taken)

  -- All are taken.
  pub reads_all : (rest : List Cell) → left ≡ [] → 4 ^ k ≤ length cells → Decodes k (reading k bits) (cells ++ rest) (Ok (record { whole = m.whole }))
  unfolding Reads
  reads_all rest end long =
      let all = sound_heard k (length bits) m cells found run.0 in (
        all.0,
        run.1 ∙ ap (λ (bs : List Bool). meaning k (length bits) (stage_of m cells found) bs) end ∙ all.1,
        numbers_front k cells rest long ∙ all.2,
      )

-- What `decode` comes to, but for the turns of its loop.
pub ruleset decoding = (header_cut, other_side, reads_header, reads_sound, length-take)
