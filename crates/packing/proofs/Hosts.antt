-- What the host learns of its bytes after a shelf over them was packed.
use Rattle.std.proofs.Common.{◌≡◌, ℕ, List, [], ◌∷◌, ◌++◌, length, get_or, drop, IfErr, Ok, Err, Result, sym, ap, ◌∙◌, arith}
use Rattle.lent.specs.Layouts.{first, lent_bits, packed_space, packed_at, packed_past}
use Rattle.lent.specs.declared.lent_bits.LentBits.{LentBits}
use Rattle.std.specs.Borrow.{MutBor}
use Rattle.lent.specs.declared.layout.Packed.{Packed}
use Rattle.lent.proofs.Firsts.{lent_first, lent_none}
use Rattle.packing.specs.Packs.{PackedBy, PackedInto}
use Rattle.packing.specs.Texts.{bits_of}
use Rattle.packing.specs.declared.fault.PackFault.{PackFault}
use Rattle.packing.specs.declared.fault.PackFault.TheVariants.{Text, Shelf}

module _ (text before after : List ℕ) (start end : LentBits (MutBor (List ℕ)) Packed)
    (lent : start.bytes.now ≡ before) (empty : start.count ≡ 0)
    (stands : end.bytes.ghost_name ∷ packed_past end.bytes.now ≡ start.bytes.ghost_name ∷ packed_past start.bytes.now)
    (back : start.bytes.ghost_name ≡ end.bytes.ghost_name → after ≡ end.bytes.now) where
  is_after : after ≡ end.bytes.now
  is_after = back (sym (ap (λ xs. get_or xs 0 0) stands))

  none : lent_bits packed_space packed_at start.bytes.now start.count ≡ []
  none = lent_none packed_space packed_at start.bytes.now start.count empty

  pub packed_into : (r : Result ℕ PackFault)
      → PackedBy text (packed_space (length start.bytes.now)) (lent_bits packed_space packed_at start.bytes.now start.count)
      (lent_bits packed_space packed_at end.bytes.now end.count) r
      → IfErr r (λ _. end ≡ start) → PackedInto text before after r
  packed_into (Ok n) (is, count, fits, put) u =
      let bits : lent_bits packed_space packed_at end.bytes.now end.count ≡ bits_of text = put ∙ ap (λ xs. xs ++ bits_of text) none in
      let nothing = ap length none in
      let long = ap length lent in (
        is,
        count,
        omega arith,
        ap (λ bytes. first (packed_at bytes) n) is_after ∙ ap (first (packed_at end.bytes.now)) count
            ∙ lent_first packed_space packed_at end.bytes.now end.count (bits_of text) bits,
        ap packed_past is_after ∙ ap (drop 1) stands ∙ ap packed_past lent,
      )
  packed_into (Err (Text fault)) (is, put) u = (is, is_after ∙ ap (λ s. s.bytes.now) u ∙ lent)
  packed_into (Err (Shelf full)) (is, lacks, put) u =
      let nothing = ap length none in
      let long = ap length lent in
      (is, omega arith, is_after ∙ ap (λ s. s.bytes.now) u ∙ lent)
