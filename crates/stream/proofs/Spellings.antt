-- How labels are spelled in bits. Walks, passes and readings use a spelling by its laws alone.
use Rattle.std.specs.Prelude.{◌≡◌, ℕ, zero, suc, ◌<◌, ◌≤◌, Bool, true, false, List, [], ◌∷◌, ◌++◌, length, take, refl}
use Rattle.std.proofs.Common.{arith}
use Rattle.stream.specs.Passes.{Label, significant, zerotree_root, isolated_zero}

-- A coder sends the label at a place with children (parent is true) or without: a zerotree root stands only at a place with children.
abbrev pub Sendable : (parent : Bool) (l : Label) → Type 0
Sendable parent (significant s) = Unit {0}
Sendable parent zerotree_root = parent ≡ true
Sendable parent isolated_zero = Unit {0}

-- What some bits begin with: a whole label, with the bits behind it; or less, since they end before a label is whole.
pub data LabelRead : Type 0 where
  complete : (l : Label) (rest : List Bool) → LabelRead
  incomplete : LabelRead

pub record Spelling : Type 0 where
  -- the bits of a label, at a place with or without children
  pub bits : (parent : Bool) (l : Label) → List Bool
  -- how a label is read
  pub read : (parent : Bool) (bs : List Bool) → LabelRead
  -- what is spelled is read back, and leaves the rest
  pub reads_back : (parent : Bool) (l : Label) (rest : List Bool) → Sendable parent l → read parent (bits parent l ++ rest) ≡ complete l rest
  -- no proper front of a spelling is read
  pub reads_whole : (parent : Bool) (l : Label) (n : ℕ) → Sendable parent l → n < length (bits parent l) → read parent (take n (bits parent l)) ≡ incomplete
  -- what is read was spelled
  pub reads_spelled : (parent : Bool) (bs rest : List Bool) (l : Label) → read parent bs ≡ complete l rest → bs ≡ bits parent l ++ rest
  -- a label has one or two bits
  pub some_bit : (parent : Bool) (l : Label) → 1 ≤ length (bits parent l)
  pub two_at_most : (parent : Bool) (l : Label) → length (bits parent l) ≤ 2

-- ---- Two bits a label: isolated zero 00, zerotree root 01, significant positive 10, significant negative 11

abbrev pub two_bits_of : (l : Label) → List Bool
two_bits_of isolated_zero = false ∷ false ∷ []
two_bits_of zerotree_root = false ∷ true ∷ []
two_bits_of (significant s) = true ∷ s ∷ []

abbrev pub label_of_two : (first second : Bool) → Label
label_of_two true s = significant s
label_of_two false true = zerotree_root
label_of_two false false = isolated_zero

abbrev pub two_read : (bs : List Bool) → LabelRead
two_read [] = incomplete
two_read (a ∷ []) = incomplete
two_read (a ∷ b ∷ rest) = complete (label_of_two a b) rest

pub two_reads_back : (l : Label) (rest : List Bool) → two_read (two_bits_of l ++ rest) ≡ complete l rest
two_reads_back (significant s) rest = refl
two_reads_back zerotree_root rest = refl
two_reads_back isolated_zero rest = refl

pub two_reads_whole : (l : Label) (n : ℕ) → n < length (two_bits_of l) → two_read (take n (two_bits_of l)) ≡ incomplete
two_reads_whole l zero h = refl
two_reads_whole (significant s) (suc zero) h = refl
two_reads_whole zerotree_root (suc zero) h = refl
two_reads_whole isolated_zero (suc zero) h = refl
two_reads_whole (significant s) (suc (suc n)) h = absurd (omega arith)
two_reads_whole zerotree_root (suc (suc n)) h = absurd (omega arith)
two_reads_whole isolated_zero (suc (suc n)) h = absurd (omega arith)

two_spelled : (a b : Bool) → two_bits_of (label_of_two a b) ≡ a ∷ b ∷ []
two_spelled true s = refl
two_spelled false true = refl
two_spelled false false = refl

pub two_reads_spelled : (bs rest : List Bool) (l : Label) → two_read bs ≡ complete l rest → bs ≡ two_bits_of l ++ rest
two_reads_spelled [] rest l e = let z : ◌≡◌ {A = ℕ} 0 1 = cc in absurd (omega arith)
two_reads_spelled (a ∷ []) rest l e = let z : ◌≡◌ {A = ℕ} 0 1 = cc in absurd (omega arith)
two_reads_spelled (a ∷ b ∷ bs) rest l e =
    let is : l ≡ label_of_two a b = cc in
    let left : rest ≡ bs = cc in
    rw (is, left, two_spelled a b) refl

pub two_length : (l : Label) → length (two_bits_of l) ≡ 2
two_length (significant s) = refl
two_length zerotree_root = refl
two_length isolated_zero = refl

abbrev pub two_bits : Spelling
two_bits = record {
  bits = λ parent l. two_bits_of l;
  read = λ parent bs. two_read bs;
  reads_back = λ parent l rest sent. two_reads_back l rest;
  reads_whole = λ parent l n sent h. two_reads_whole l n h;
  reads_spelled = λ parent bs rest l e. two_reads_spelled bs rest l e;
  some_bit = λ parent l. omega (arith, two_length l);
  two_at_most = λ parent l. omega (arith, two_length l);
}
