-- A source is read into memory that may be longer than its table, and from any stage: `decode` cuts memory to the table and asks the like of the machine's
-- own stages alone. And the numbers of a header, by the indices of its bits.
use Rattle.std.proofs.Common.{◌≡◌, ℕ, ◌+◌, ◌-◌, ◌*◌, ◌/◌, ◌^◌, ◌<◌, ◌≤◌, Bool, true, false, cond, ◌||◌, List, ◌∷◌, ◌++◌, map, length, get_or, take, drop, replicate, Err, Result, sym, refl, ap, ◌∙◌, subst, arith}
use native.Mathlib.Nat.{pow-le-pow_right}
use Rattle.decoder.proofs.Flags.{flag_at, flag_plain, marks_plain}
use Rattle.decoder.proofs.Hearing.{sound_heard}
use Rattle.decoder.proofs.Heirs.{live, Told, told_at, told_flag, told_pass}
use Rattle.decoder.proofs.Items.{mark_at}
use Rattle.decoder.proofs.Spelling.{spells_push}
use Rattle.decoder.proofs.Starts.{start_sound, start_stage_lem}
use Rattle.decoder.proofs.Steps.{start_level, start_stage}
use Rattle.decoder.specs.Cells.{cell_numbers, Decodes}
use Rattle.decoder.specs.Heirs.{has_heir}
use Rattle.decoder.specs.Machines.{clear, plain, started, stage_of, mark_of, marks_of, Sound}
use Rattle.decoder.specs.Stages.{Stage, meaning}
use Rattle.decoder.specs.declared.cell.Cell.{Cell}
use Rattle.decoder.specs.declared.decode.Decoded.{Decoded}
use Rattle.decoder.specs.declared.machine.Machine.{Machine}
use Rattle.scan.proofs.Division.{fourfold}
use Rattle.std.proofs.lemmas.List.{length-append, length-replicate, length-take, length-drop, get_or_append_left, get_or-replicate, drop_at, drop_all, drop_more, drop-set-lt, get_or-drop, take_more}
use Rattle.stream.proofs.Header.{spells_below}
use Rattle.stream.specs.Laws.{SideExponent}
use Rattle.stream.specs.Numbers.{middle}
use Rattle.stream.specs.Passes.{skipped, is_fresh, Finding}
use Rattle.stream.specs.Reading.{Outcome, refused, heard, numbers_heard, reading, spells}
use Rattle.stream.specs.declared.fault.StreamFault.{StreamFault}

-- ---- The header

-- The bit behind the first so many from a start on.
pub spells_more : (bits : List Bool) (start index : ℕ) → start ≤ index → index < length bits
    → spells (take (index + 1 - start) (drop start bits)) ≡ spells (take (index - start) (drop start bits)) * 2 + cond (get_or bits index false) 1 0
spells_more bits start index l h =
    let e : index + 1 - start ≡ index - start + 1 = omega arith in
    let inside : index - start < length (drop start bits) = rw length-drop (omega arith) in
    let at : get_or (drop start bits) (index - start) false ≡ get_or bits index false =
    get_or-drop start bits (index - start) false ∙ ap (λ i. get_or bits i false) (omega arith) in
    rw (e, take_more (drop start bits) (index - start) false inside, at) (spells_push _ _)

-- No bits spell 0.
pub spells_none : (bits : List Bool) (start : ℕ) → 0 ≡ spells (take (start - start) (drop start bits))
unfolding spells
spells_none bits start = let e : start - start ≡ 0 = omega arith in rw e refl

-- Up to seven bits spell a small number.
pub spells_few : (bits : List Bool) (start index : ℕ) → index ≤ 7 → spells (take (index - start) (drop start bits)) < 128
spells_few bits start index h =
    let short : length (take (index - start) (drop start bits)) ≤ 7 = rw length-take (omega arith) in
    omega (arith, spells_below (take (index - start) (drop start bits)), pow-le-pow_right {n = 2} (omega arith) short)

-- ---- The start

-- The machine starts over clear cells.
module _ (k n : ℕ) (old cells : List Cell) (found : List ℕ) (side : SideExponent k) (places : n ≡ 4 ^ k) (memory : 4 ^ k ≤ length old) (list : 4 ^ k ≤ length found)
    (cleared : cells ≡ replicate n clear ++ drop n old) where
  clear_is : cells ≡ replicate (4 ^ k) clear ++ drop (4 ^ k) old
  clear_is = cleared ∙ ap (λ (i : ℕ). replicate i clear ++ drop i old) places

  pub clear_stands : drop (4 ^ k) cells ≡ drop (4 ^ k) old
  clear_stands = ap (drop (4 ^ k)) clear_is ∙ drop_at (replicate (4 ^ k) clear) (drop (4 ^ k) old) (4 ^ k) (length-replicate (4 ^ k) clear)

  clear_at : (p : ℕ) → p < 4 ^ k → get_or cells p clear ≡ clear
  clear_at p h =
      ap (λ (cs : List Cell). get_or cs p clear) clear_is
      ∙ get_or_append_left (replicate (4 ^ k) clear) (drop (4 ^ k) old) clear p (omega (arith, length-replicate (4 ^ k) clear))
      ∙ get_or-replicate (4 ^ k) p clear clear h

  clear_memory : 4 ^ k ≤ length cells
  clear_memory = omega (arith, ap length clear_is, length-append (replicate (4 ^ k) clear) (drop (4 ^ k) old), length-replicate (4 ^ k) clear)

  some_places : 0 < 4 ^ k
  some_places = let q = fourfold k side.0 in omega (arith, q.1, q.2)

  module _ (bits : List Bool) (level : ℕ) (m : Machine) (e : m ≡ started level) (tells : level ≡ spells (take 4 (drop 3 bits))) where
    level_low : level ≤ 15
    level_low =
        let short : length (take 4 (drop 3 bits)) ≤ 4 = rw length-take (omega arith) in
        omega (arith, spells_below (take 4 (drop 3 bits)), pow-le-pow_right {n = 2} (omega arith) short)

    pub started_sound : Sound k m cells found
    started_sound = subst (λ (x : Machine). Sound k x cells found) (sym e) (start_sound k cells found clear_memory list clear_at level level_low some_places)

    pub started_reads : 7 ≤ length bits → spells (take 3 bits) ≡ k → reading k bits ≡ meaning k (length bits) (stage_of m cells found) (drop 7 bits)
    started_reads h s =
        start_level k bits h s
        ∙ ap (λ (l : ℕ). meaning k (length bits) (start_stage l) (drop 7 bits)) (sym tells)
        ∙ ap (λ (t : Stage). meaning k (length bits) t (drop 7 bits))
        (sym (ap (λ (x : Machine). stage_of x cells found) e ∙ start_stage_lem k cells found clear_memory list clear_at level))

-- ---- The bits

module _ (k index : ℕ) (bits : List Bool) (bit : Bool) (inside : index < length bits) (is : bit ≡ get_or bits index false) (stage : Stage)
    (reads : reading k bits ≡ meaning k (length bits) stage (drop index bits)) where
  taken : length bits - length (drop (index + 1) bits) ≡ index + 1
  taken = omega (arith, length-drop (index + 1) bits)

  next : reading k bits ≡ meaning k (length bits) stage (bit ∷ drop (index + 1) bits)
  next = reads ∙ ap (λ (bs : List Bool). meaning k (length bits) stage bs)
      (drop_more bits index false inside ∙ ap (λ (b : Bool). b ∷ drop (index + 1) bits) (sym is))

  pub reads_more : (after : Stage)
      → ((count : ℕ) (rest : List Bool) → count - length rest ≡ index + 1 → meaning k count after rest ≡ meaning k count stage (bit ∷ rest))
      → reading k bits ≡ meaning k (length bits) after (drop (index + 1) bits)
  reads_more after on = next ∙ sym (on (length bits) (drop (index + 1) bits) taken)

  pub reads_fault : (fault : StreamFault)
      → ((count : ℕ) (rest : List Bool) → count - length rest ≡ index + 1 → meaning k count stage (bit ∷ rest) ≡ refused fault)
      → reading k bits ≡ refused fault
  reads_fault fault fails = next ∙ fails (length bits) (drop (index + 1) bits) taken

-- The same fault goes out.
pub decodes_fault : (k : ℕ) (outcome : Outcome) (cells : List Cell) (r : Result Decoded StreamFault) (out fault : StreamFault) → r ≡ Err out → out ≡ fault
    → outcome ≡ refused fault → Decodes k outcome cells r
decodes_fault k outcome cells r out fault e same reads =
    subst (λ (x : Result Decoded StreamFault). Decodes k outcome cells x) (sym (e ∙ ap Err same)) reads

-- ---- The end

pub reads_all : (k index : ℕ) (bits : List Bool) (m : Machine) (cells : List Cell) (found : List ℕ) → length bits ≤ index → Sound k m cells found
    → reading k bits ≡ meaning k (length bits) (stage_of m cells found) (drop index bits)
    → (fs : List Finding) × (reading k bits ≡ heard m.whole fs) × (cell_numbers k cells ≡ numbers_heard middle k fs)
reads_all k index bits m cells found end sound reads =
    let all = sound_heard k (length bits) m cells found sound in
    (all.0, reads ∙ ap (λ (bs : List Bool). meaning k (length bits) (stage_of m cells found) bs) (drop_all index bits end) ∙ all.1, all.2)

-- ---- Heirs

-- The run from the last place to the first, before the turn at place i - 1: the later places have told their parents, and all but the flags stands.
pub record Telling (n i : ℕ) (before cells : List Cell) : Type 0 where
  pub late : 1 ≤ i
  pub told : Told n (marks_of n before) i cells
  pub same : map plain cells ≡ map plain before
  pub stand : drop n cells ≡ drop n before

module _ (k n : ℕ) (before cells : List Cell) (side : SideExponent k) (size : n ≡ 4 ^ k) (long : n ≤ length cells) where
  -- Whether the place of this turn is live is read from its cell.
  live_is : (q i : ℕ) → i ≡ q + 1 → 1 ≤ q → q < n → Telling n i before cells
      → live n (marks_of n before) q ≡ (is_fresh (mark_of (get_or cells q clear)) || (get_or cells q clear).heir)
  live_is q i next one l run =
      let mark = ap (λ marks. is_fresh (get_or marks q skipped)) (sym (marks_plain n before cells run.same)) ∙ ap is_fresh (mark_at n cells q l) in
      let heir = told_at n (marks_of n before) cells k side size i q run.told l run.late (λ c h e. omega arith) in
      rw (mark, heir) refl

  -- A turn at a live place,
  pub telling_flag : (i : ℕ) → 1 < i → i ≤ n → Telling n i before cells
      → true ≡ (is_fresh (mark_of (get_or cells (i - 1) clear)) || (get_or cells (i - 1) clear).heir) → Telling n (i - 1) before (flag_at cells ((i - 1) / 4) true)
  telling_flag i late l run t = record {
    late = omega arith;
    told = told_flag n (marks_of n before) cells (i - 1) i (omega arith) run.told (omega arith) long
        (live_is (i - 1) i (omega arith) (omega arith) (omega arith) run ∙ sym t);
    same = flag_plain cells ((i - 1) / 4) true ∙ run.same;
    stand = drop-set-lt n cells ((i - 1) / 4) _ (omega arith) ∙ run.stand;
  }

  -- and at any other.
  pub telling_pass : (i : ℕ) → 1 < i → i ≤ n → Telling n i before cells
      → false ≡ (is_fresh (mark_of (get_or cells (i - 1) clear)) || (get_or cells (i - 1) clear).heir) → Telling n (i - 1) before cells
  telling_pass i late l run t = record {
    late = omega arith;
    told = told_pass n (marks_of n before) cells (i - 1) i (omega arith) run.told (live_is (i - 1) i (omega arith) (omega arith) (omega arith) run ∙ sym t);
    same = run.same;
    stand = run.stand;
  }

  -- At the end every flag tells of its place's heirs.
  pub telling_all : (i : ℕ) (first : List Cell) → i ≤ 1 → Telling n i before cells → map plain before ≡ map plain first
      → (p : ℕ) → p < 4 ^ k → (get_or cells p clear).heir ≡ has_heir (4 ^ k) (marks_of (4 ^ k) first) p
  telling_all i first early run e p l =
      told_at n (marks_of n before) cells k side size i p run.told (omega arith) run.late (λ c h q. omega arith)
      ∙ ap (λ marks. has_heir n marks p) (marks_plain n first before e) ∙ ap (λ m. has_heir m (marks_of m first) p) size
