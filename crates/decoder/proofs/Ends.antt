-- A dominant pass is over.
use Rattle.std.proofs.Common.{◌≡◌, ℕ, zero, suc, ◌+◌, ◌-◌, ◌^◌, ◌<◌, ◌≤◌, Bool, true, false, not, ◌&&◌, ◌||◌, ltb, List, [], ◌∷◌, ◌++◌, map, length, get_or, take, drop, Ok, Err, sym, refl, ap, ◌∙◌, ap₂, inl, inr, arith}
use Rattle.decoder.proofs.Items.{item_part, split_front, length_marks, findings_told, findings_push, listed_kept, listed_where, told_plain}
use Rattle.decoder.proofs.Holding.{held_weaker, known_most}
use Rattle.decoder.proofs.Steps.{pass_nothing, pass_missed, pass_end, last_pass_end, blank_missed}
use Rattle.decoder.specs.Machines.{plain, marks_of, finding_of, findings_of, stage_by, stage_of, IsTable, Listed, Walking, Comes, EndsDominant}
use Rattle.decoder.specs.Stages.{walking, refining, finished, meaning}
use Rattle.decoder.specs.declared.cell.Cell.{Cell}
use Rattle.decoder.specs.declared.machine.Machine.{Machine}
use Rattle.decoder.specs.declared.machine.Waiting.TheVariants.{First, Subordinate, Nothing}
use Rattle.std.proofs.lemmas.Nat.{pow_pos, pow_below}
use Rattle.std.proofs.lemmas.List.{length-map, length-take-le}
use Rattle.std.proofs.lemmas.Bool.{cases_Bool, both_ways, lt-ltb}
use Rattle.stream.proofs.Marks.{is_found_append, is_found_findings}
use Rattle.stream.specs.Passes.{Mark, Finding, skipped, is_found, is_fresh, findings}
use Rattle.stream.specs.Reading.{has_missed_root, is_none, refused}
use Rattle.stream.specs.declared.fault.StreamFault.TheVariants.{NothingFound, MissedRoot}

-- Something is listed.
pub some_listed : (cells : List Cell) (places : List ℕ) → 0 < length places → is_none (findings_of cells places) ≡ false
unfolding findings_of
some_listed cells [] h = absurd (omega arith)
some_listed cells (p ∷ places) h = refl

-- The end of a pass, by the exponent of its threshold.
last_end_at : (k count e : ℕ) (whole : Bool) (earlier : List Finding) (marks : List Mark) (bits : List Bool) → e ≡ 0
    → length marks ≡ 4 ^ k → is_none (earlier ++ findings e 0 marks) ≡ false → has_missed_root k marks ≡ false
    → meaning k count (finished (earlier ++ findings e 0 marks)) bits ≡ meaning k count (walking e whole earlier marks) bits
last_end_at k count zero whole earlier marks bits z = last_pass_end k count whole earlier marks bits
last_end_at k count (suc e) whole earlier marks bits z = absurd (omega arith)

pass_end_at : (k count e : ℕ) (whole : Bool) (earlier : List Finding) (marks : List Mark) (bits : List Bool) → 1 ≤ e
    → length marks ≡ 4 ^ k → is_none (earlier ++ findings e 0 marks) ≡ false → has_missed_root k marks ≡ false
    → meaning k count (refining e whole [] (earlier ++ findings e 0 marks)) bits ≡ meaning k count (walking e whole earlier marks) bits
pass_end_at k count zero whole earlier marks bits h = absurd (omega arith)
pass_end_at k count (suc e) whole earlier marks bits h = pass_end k count e whole earlier marks bits

-- The machine where every pass is over, and where a subordinate pass begins.
abbrev pub finishing : Machine → Machine
finishing m = record { waiting = Nothing; exponent = m.exponent; place = m.place; index = m.index; count = m.count; before = m.before; whole = true }

abbrev pub refining_now : Machine → Machine
refining_now m = record { waiting = Subordinate; exponent = m.exponent; place = m.place; index = 0; count = m.count; before = m.before; whole = m.whole }

module _ (k : ℕ) (m : Machine) (cells : List Cell) (found : List ℕ) (w : Walking k m cells found) where
  -- The places found before and in this pass are all that are listed.
  pub all_found : findings_of cells (take m.before found) ++ findings m.exponent 0 (marks_of m.place cells) ≡ findings_of cells (take m.count found)
  all_found =
      ap (λ (xs : List Finding). findings_of cells (take m.before found) ++ xs) w.news
      ∙ sym (findings_push cells (take m.before found) (drop m.before (take m.count found)))
      ∙ ap (findings_of cells) (split_front found m.before m.count w.order)

  -- A place that this pass finds has a width.
  fresh_known : (p : ℕ) → is_fresh (get_or (marks_of m.place cells) p skipped) ≡ true → ltb 0 (finding_of cells p).width ≡ true
  fresh_known p t =
      let s = listed_where cells (drop m.before (take m.count found)) p
      (ap (λ (xs : List Finding). is_found xs p) (sym w.news) ∙ is_found_findings m.exponent (marks_of m.place cells) p ∙ t) in
      let e = item_part found m.before m.count s.0 s.1 in
      lt-ltb 0 (finding_of cells p).width
      (omega (arith, w.held.wide (m.before + s.0) e.1, pow_pos m.exponent, ap (λ (q : ℕ). (finding_of cells q).width) (sym e.0 ∙ s.2)))

  pub walk_listed : Listed k m.count cells found
  walk_listed p h =
      ap (λ (xs : List Finding). is_found xs p) (sym all_found)
      ∙ is_found_append (findings_of cells (take m.before found)) (findings m.exponent 0 (marks_of m.place cells)) p
      ∙ ap₂ (λ (a b : Bool). a || b) (w.olds p h) (is_found_findings m.exponent (marks_of m.place cells) p)
      ∙ joined (ltb 0 (finding_of cells p).width) (is_fresh (get_or (marks_of m.place cells) p skipped)) (fresh_known p)
    where
      joined : (a b : Bool) → (b ≡ true → a ≡ true) → ((a && not b) || b) ≡ a
      joined true true f = refl
      joined true false f = refl
      joined false true f = sym (f refl)
      joined false false f = refl

  count_most : m.count ≤ length found
  count_most = omega (arith, w.held.counted, known_most (finding_of cells) (4 ^ k), w.held.memory)

  module _ (last : 4 ^ k ≤ m.place) where
    length_is : length (marks_of m.place cells) ≡ 4 ^ k
    length_is = length_marks m.place cells (omega (arith, w.memory, w.inside)) ∙ (let e : m.place ≡ 4 ^ k = omega (arith, w.inside) in e)

    -- Nothing is found: then this is the first pass.
    pub ends_nothing : (taken : ℕ) → m.count ≡ 0 → Comes k taken (stage_by First m cells found) m cells found (Err (NothingFound taken))
    unfolding findings_of
    ends_nothing taken none = λ count rest e. elim (cases_Bool m.whole) [
      | inl t ↦ absurd (omega (arith, (w.untouched t).0, w.order))
      | inr f ↦
          ap (λ (b : Bool). meaning k count (walking m.exponent b (findings_of cells (take m.before found)) (marks_of m.place cells)) rest) f
          ∙ pass_nothing k count m.exponent (findings_of cells (take m.before found)) (marks_of m.place cells) rest length_is
          (ap is_none all_found ∙ ap (λ (n : ℕ). is_none (findings_of cells (take n found))) none)
          ∙ ap (λ (n : ℕ). refused (NothingFound n)) e
    ]

    module _ (some : 0 < m.count) where
      not_none : is_none (findings_of cells (take m.before found) ++ findings m.exponent 0 (marks_of m.place cells)) ≡ false
      not_none = ap is_none all_found ∙ some_listed cells (take m.count found) (omega (arith, length-take-le m.count found count_most))

      -- A root is missed: then some label was read.
      pub ends_missed : (taken : ℕ) (after : List Cell) → true ≡ has_missed_root k (marks_of (4 ^ k) cells)
          → Comes k taken (stage_by First m cells found) m after found (Err (MissedRoot taken))
      ends_missed taken after missed = λ count rest e.
          let here : has_missed_root k (marks_of m.place cells) ≡ true =
          ap (λ (n : ℕ). has_missed_root k (marks_of n cells)) (let s : m.place ≡ 4 ^ k = omega (arith, w.inside) in s) ∙ sym missed in
          elim (cases_Bool m.whole) [
            | inl t ↦ absurd (both_ways (has_missed_root k (marks_of m.place cells)) (blank_missed k (marks_of m.place cells) (w.untouched t).1) here)
            | inr f ↦
                ap (λ (b : Bool). meaning k count (walking m.exponent b (findings_of cells (take m.before found)) (marks_of m.place cells)) rest) f
                ∙ pass_missed k count m.exponent (findings_of cells (take m.before found)) (marks_of m.place cells) rest length_is not_none here
                ∙ ap (λ (n : ℕ). refused (MissedRoot n)) e
          ]

      module _ (sound : false ≡ has_missed_root k (marks_of (4 ^ k) cells)) (after : List Cell) (told : finding_of after ≡ finding_of cells) (long : length after ≡ length cells) where
        here_sound : has_missed_root k (marks_of m.place cells) ≡ false
        here_sound = ap (λ (n : ℕ). has_missed_root k (marks_of n cells)) (let s : m.place ≡ 4 ^ k = omega (arith, w.inside) in s) ∙ sym sound

        listed_after : Listed k m.count after found
        listed_after p h = listed_kept cells after (take m.count found) p ∙ walk_listed p h ∙ ap (λ (f : ℕ → Finding). ltb 0 (f p).width) (sym told)

        all_after : findings_of after (take m.count found) ≡ findings_of cells (take m.before found) ++ findings m.exponent 0 (marks_of m.place cells)
        all_after = findings_told cells after (take m.count found) told ∙ sym all_found

        -- At the threshold 1 every pass is over.
        pub ends_over : (taken : ℕ) (last : Machine) → m.exponent ≡ 0 → last ≡ finishing m → Comes k taken (stage_by First m cells found) last after found (Ok tt)
        unfolding stage_of
        ends_over taken last z e = rw e (
          record {
            held = held_weaker k m.exponent m.count (finding_of after) found 0 (rw told w.held) (rw z (omega arith));
            listed = listed_after;
            memory = rw long w.memory;
            ended = refl;
          },
          λ count rest _.
              ap (λ (fs : List Finding). meaning k count (finished fs) rest) all_after
              ∙ last_end_at k count m.exponent m.whole (findings_of cells (take m.before found)) (marks_of m.place cells) rest z length_is not_none here_sound,
        )

        -- Else the subordinate pass begins.
        pub ends_begins : (taken : ℕ) (next : Machine) → 1 ≤ m.exponent → next ≡ refining_now m → Comes k taken (stage_by First m cells found) next after found (Ok tt)
        unfolding findings_of stage_of
        ends_begins taken next h e = rw e (
          (
            record {
              held = held_weaker k m.exponent m.count (finding_of after) found (m.exponent - 1) (rw told w.held) (smaller m.exponent h);
              listed = listed_after;
              memory = rw long w.memory;
              low = h;
              small = w.small;
              some = some;
              inside = omega arith;
              unrefined = λ i _ l. omega (arith, w.held.wide i l, ap (λ (f : ℕ → Finding). (f (get_or found i 0)).width) told);
            },
            some,
          ),
          λ count rest _.
              ap (λ (fs : List Finding). meaning k count (refining m.exponent m.whole [] fs) rest) all_after
              ∙ pass_end_at k count m.exponent m.whole (findings_of cells (take m.before found)) (marks_of m.place cells) rest h length_is not_none here_sound,
        )
          where
            smaller : (e : ℕ) → 1 ≤ e → 2 ^ (e - 1) ≤ 2 ^ e
            smaller e h = omega (arith, pow_below (e - 1) e (omega arith))

-- The same for the cells of any table.
module _ (taken : ℕ) (m : Machine) (cells : List Cell) where
  pub end_nothing : m.count ≡ 0 → EndsDominant taken m cells m cells (Err (NothingFound taken))
  unfolding EndsDominant
  end_nothing none = λ k found table w last. ends_nothing k m cells found w last taken none

  module _ (some : 0 < m.count) (after : List Cell) where
    pub end_missed : ((k : ℕ) → IsTable k cells → true ≡ has_missed_root k (marks_of (4 ^ k) cells)) → EndsDominant taken m cells m after (Err (MissedRoot taken))
    unfolding EndsDominant
    end_missed missed = λ k found table w last. ends_missed k m cells found w last some taken after (missed k table)

    module _ (sound : (k : ℕ) → IsTable k cells → false ≡ has_missed_root k (marks_of (4 ^ k) cells)) (same : map plain after ≡ map plain cells) where
      told : finding_of after ≡ finding_of cells
      told = told_plain cells after same

      long : length after ≡ length cells
      long = sym (length-map after plain) ∙ ap length same ∙ length-map cells plain

      pub end_over : (over : Machine) → m.exponent ≡ 0 → over ≡ finishing m → EndsDominant taken m cells over after (Ok tt)
      unfolding EndsDominant
      end_over over z e = λ k found table w last. ends_over k m cells found w last some (sound k table) after told long taken over z e

      pub end_begins : (next : Machine) → 1 ≤ m.exponent → next ≡ refining_now m → EndsDominant taken m cells next after (Ok tt)
      unfolding EndsDominant
      end_begins next h e = λ k found table w last. ends_begins k m cells found w last some (sound k table) after told long taken next h e

-- What the end of a dominant pass comes to.
pub ruleset ends = (end_nothing, end_missed, end_over, end_begins)
