-- What is printed, by cases.
use Rattle.std.proofs.Common.{◌≡◌, ℕ, Bool, ◌&&◌, leb, List, length, ℤ, Ok, Err, Result, sym, ap, ◌∙◌, inl, inr, MatchResult}
use Rattle.packing.specs.Faults.{text_refusal}
use Rattle.packing.specs.Texts.{IsText, TextRefused, bits_of}
use Rattle.packing.specs.declared.fault.TextFault.{TextFault}
use Rattle.packing.specs.declared.fault.TextFault.TheVariants.{TooLong, NoDigit}
use Rattle.previewing.specs.Faults.{Headed, Unheard, ToldBy}
use Rattle.previewing.specs.Previews.{line_of_refusal, shown_outcome, shown_side, shown_bits, shown_text}
use Rattle.previewing.specs.declared.fault.PreviewFault.{PreviewFault}
use Rattle.previewing.specs.declared.fault.PreviewFault.TheVariants.{Text, Slot, NoMemory}
use Rattle.showing.specs.Shown.{shown_table}
use Rattle.slots.specs.Faults.{slot_refusal}
use Rattle.slots.specs.declared.fault.SlotFault.TheVariants.{NoSide, ShortMemory, NoPlace, Stream}
use Rattle.std.proofs.lemmas.Bool.{cond-true, cond-false, and_from, and_parts, cases_Bool, le-leb, leb-true, lt-ltb, le-ltb}
use Rattle.stream.specs.Faults.{stream_refusal}
use Rattle.stream.specs.Laws.{SideExponent}
use Rattle.stream.specs.Numbers.{middle}
use Rattle.stream.specs.Reading.{previewed}
use Rattle.stream.specs.declared.fault.StreamFault.{StreamFault}

-- With a side of this exponent the outcome is shown,
side_outcome : (k : ℕ) (bits : List Bool) → SideExponent k → shown_side k bits ≡ shown_outcome k (previewed middle k bits)
unfolding shown_side
side_outcome k bits s = cond-true _ _ _ (and_from _ _ (le-leb 1 k s.0) (le-leb k 6 s.1))

-- a table if it is heard,
pub side_heard : {S : Type 0} (bytes : S → List ℕ) (i j k : ℕ) (bits : List Bool) (heard numbers : List ℤ) (r : Result S PreviewFault) → i ≡ k → j ≡ k → SideExponent k
    → previewed middle i bits ≡ Ok heard → numbers ≡ heard → MatchResult r (λ lines. bytes lines ≡ shown_table j numbers) (λ fault. fault ≡ NoMemory)
    → MatchResult r (λ lines. bytes lines ≡ shown_side k bits) (ToldBy (shown_side k bits))
side_heard bytes i j k bits heard numbers (Ok lines) e f s h n w =
    let outcome = ap (λ (m : ℕ). previewed middle m bits) (sym e) ∙ h in
    w ∙ ap (shown_table j) n ∙ ap (λ (m : ℕ). shown_table m heard) f ∙ ap (shown_outcome k) (sym outcome) ∙ sym (side_outcome k bits s)
side_heard bytes i j k bits heard numbers (Err fault) e f s h n w = rw w tt

-- or else the stream's fault.
pub side_unheard : (j k : ℕ) (bits : List Bool) (fault : PreviewFault) → j ≡ k → SideExponent k → Unheard (previewed middle j bits) fault
    → ToldBy (shown_side k bits) fault
side_unheard j k bits (Text fault) e s u = absurd u
side_unheard j k bits (Slot NoSide) e s u = absurd u
side_unheard j k bits (Slot ShortMemory) e s u = absurd u
side_unheard j k bits (Slot NoPlace) e s u = absurd u
side_unheard j k bits (Slot (Stream fault)) e s u =
    side_outcome k bits s ∙ ap (shown_outcome k) (ap (λ (i : ℕ). previewed middle i bits) (sym e) ∙ u)
side_unheard j k bits NoMemory e s u = tt

-- There is no such side.
pub side_none : (k : ℕ) (bits : List Bool) → (SideExponent k → ⊥) → shown_side k bits ≡ line_of_refusal (slot_refusal NoSide)
unfolding shown_side
side_none k bits n = elim (cases_Bool (leb 1 k && leb k 6)) [
  | inl e ↦ absurd (n (leb-true 1 k (and_parts _ _ e).0, leb-true k 6 (and_parts _ _ e).1))
  | inr e ↦ cond-false _ _ _ e
]

-- The text is refused,
pub text_refused : (text : List ℕ) (fault : TextFault) → TextRefused text fault → shown_text text ≡ line_of_refusal (text_refusal fault)
unfolding shown_text
text_refused text TooLong h = cond-true _ _ _ (lt-ltb 65536 (length text) h)
text_refused text NoDigit h = cond-false _ _ _ (le-ltb 65536 (length text) h.0) ∙ cond-false _ _ _ h.1

-- or is a stream in digits,
text_bits : (text : List ℕ) (bits : List Bool) → IsText text → bits ≡ bits_of text → shown_text text ≡ shown_bits bits
unfolding shown_text
text_bits text bits t e = cond-false _ _ _ (le-ltb 65536 (length text) t.short) ∙ cond-true _ _ _ t.digits ∙ ap shown_bits (sym e)

-- which ends in its header,
pub text_cut : (text : List ℕ) (bits : List Bool) (fault : StreamFault) → IsText text → bits ≡ bits_of text → Headed bits (Err fault)
    → shown_text text ≡ line_of_refusal (stream_refusal fault)
unfolding shown_bits
text_cut text bits fault t e h =
    text_bits text bits t e ∙ cond-true _ _ _ (lt-ltb (length bits) 7 h.0) ∙ ap (λ (f : StreamFault). line_of_refusal (stream_refusal f)) (sym h.1)

-- or names a side.
pub text_headed : (text : List ℕ) (bits : List Bool) (k : ℕ) → IsText text → bits ≡ bits_of text → Headed bits (Ok k) → shown_side k bits ≡ shown_text text
unfolding shown_bits
text_headed text bits k t e h =
    ap (λ (j : ℕ). shown_side j bits) h.1 ∙ sym (text_bits text bits t e ∙ cond-false _ _ _ (le-ltb (length bits) 7 h.0))
