-- Writing bytes in hexadecimal, one after the other.
use Rattle.std.proofs.Common.{◌≡◌, ℕ, ◌+◌, ◌<◌, List, [], ◌∷◌, ◌++◌, length, get_or, take, sym, ap, ◌∙◌}
use Rattle.std.proofs.lemmas.List.{take_more, flat_map_more, append_assoc}
use Rattle.packing.specs.Hexes.{hex_byte, hex_text}

-- the three characters of a byte, put one after the other
pub byte_put : (before one two three : List ℕ) (a b c : ℕ)
    → one ≡ before ++ a ∷ [] → two ≡ one ++ b ∷ [] → three ≡ two ++ c ∷ [] → three ≡ before ++ a ∷ b ∷ c ∷ []
byte_put before one two three a b c e f g = g ∙ rw (f, e) (simp append_assoc)

-- one byte more
pub hex_more : (bs : List ℕ) (i : ℕ) (before after : List ℕ) → i < length bs → before ≡ hex_text (take i bs)
    → after ≡ before ++ hex_byte (get_or bs i 0) → after ≡ hex_text (take (i + 1) bs)
hex_more bs i before after h e f =
    f ∙ rw e (flat_map_more hex_byte [] (take i bs) (get_or bs i 0) ∙ ap hex_text (sym (take_more bs i 0 h)))
