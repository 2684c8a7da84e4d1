-- Encoded bits, and the room for them.
use Rattle.std.proofs.Common.{◌≡◌, ◌<◌, ℕ, List, length, ap, arith, Option, Some, None, IfSome}
use Rattle.hayro_ccitt.specs.Bits.{bits_in}
use Rattle.hayro_ccitt.specs.Rows.{Row}
use Rattle.hayro_ccitt.proofs.BitReading.BitLists.{length-bits_in}
use Rattle.fax_encode.specs.declared.settings.EncodeSettings.{EncodeSettings as EncoderSettings}
use Rattle.std.proofs.Common.{◌++◌, ◌∷◌, [], zero, suc, take, drop, refl, ◌∙◌}
use Rattle.std.proofs.lemmas.List.{length-append}
use Rattle.hayro_ccitt_c.specs.Encoding.{AreEncoded, HaveNoRoom, bits_asked}

-- more bytes of the chosen bits than there is room for
pub bits_have_no_room : (asked : Option EncoderSettings) (columns : ℕ) (rows : List Row) (bytes : List ℕ) (count room : ℕ)
    → IfSome asked (λ s. bits_in s.order bytes ≡ bits_asked s columns rows) → count ≡ length bytes → room < count
    → IfSome asked (λ s. HaveNoRoom (bits_asked s columns rows) count room)
bits_have_no_room None columns rows bytes count room are is more = tt
bits_have_no_room (Some s) columns rows bytes count room are is more =
    record { size = omega (arith, ap length are, length-bits_in s.order bytes); more = more }

take_part : (part rest : List ℕ) (count : ℕ) → count ≡ length part → take count (part ++ rest) ≡ part
take_part [] rest zero e = refl
take_part [] rest (suc n) e = absurd (omega (arith, e))
take_part (x ∷ part) rest zero e = absurd (omega (arith, e))
take_part (x ∷ part) rest (suc n) e = ap (λ (l : List ℕ). x ∷ l) (take_part part rest n (omega (arith, e)))

drop_part : (part rest : List ℕ) (count : ℕ) → count ≡ length part → drop count (part ++ rest) ≡ rest
drop_part [] rest zero e = refl
drop_part [] rest (suc n) e = absurd (omega (arith, e))
drop_part (x ∷ part) rest zero e = absurd (omega (arith, e))
drop_part (x ∷ part) rest (suc n) e = drop_part part rest n (omega (arith, e))

-- the chosen bits at the front of memory
pub bits_are_there : (asked : Option EncoderSettings) (columns : ℕ) (rows : List Row) (bytes before part : List ℕ) (count : ℕ)
    → IfSome asked (λ s. bits_in s.order bytes ≡ bits_asked s columns rows) → count ≡ length bytes → part ≡ bytes
    → IfSome asked (λ s. AreEncoded s.order (bits_asked s columns rows) count before (part ++ drop count before))
bits_are_there None columns rows bytes before part count are is same = tt
bits_are_there (Some s) columns rows bytes before part count are is same =
    let long : count ≡ length part = omega (arith, is, ap length same) in
    record {
      bits_are = ap (bits_in s.order) (take_part part (drop count before) count long ∙ same) ∙ are;
      rest = drop_part part (drop count before) count long;
      room = omega (arith, long, length-append part (drop count before));
    }
