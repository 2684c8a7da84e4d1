-- What a run writes row by row, from how the reading ended.
use Rattle.faxrows_lib.proofs.Names.{◌≡◌, ℕ, List, refl, sym, ◌∙◌, Ok, Err, OutOfMemory, DecodeSettings, Bits, Faulty}
use Rattle.faxrows_lib.proofs.Names.{Memory, Outcome, EndsAfter, EndsByRow, IsTextByRow, IsTextWithoutMemory, done_of}
use Rattle.faxrows_lib.proofs.Names.{text_after}
use Rattle.faxrows_lib.proofs.Names.{whole_text}
use Rattle.faxrows_lib.proofs.Texts.{all_text, done_at_fault, end_of_run}
use Rattle.hayro_ccitt.proofs.ErrorKinds.{by_kind}

-- a reading row by row that is cut short ended with an allocation failure
pub cut_by_row : (settings : DecodeSettings) (bits : Bits) (read : ℕ) (after : Outcome → List ℕ) (outcome : Outcome)
    → EndsByRow settings bits read outcome → done_of outcome ≡ Memory
    → EndsAfter settings bits read (Err OutOfMemory) × (after outcome ≡ after (Err OutOfMemory))
cut_by_row settings bits read after (Ok n) ends cut = cc
cut_by_row settings bits read after (Err e) ends cut =
    by_kind (λ e. EndsByRow settings bits read (Err e) → done_of (Err e) ≡ Memory
    → EndsAfter settings bits read (Err OutOfMemory) × (after (Err e) ≡ after (Err OutOfMemory)))
    (λ e fault ends cut. let never : Faulty ≡ Memory = sym (done_at_fault e fault) ∙ cut in cc)
    (λ ends cut. (ends.0, refl)) (λ ends cut. absurd (ends.1 refl)) e ends cut

-- the text after some rows is one of the end
pub text_by_row : (settings : DecodeSettings) (bits : Bits) (read : ℕ) (outcome : Outcome) → EndsByRow settings bits read outcome
    → IsTextByRow settings bits (done_of outcome) (text_after settings bits read outcome)
text_by_row settings bits read outcome ends =
    end_of_run settings bits read (text_after settings bits read) (whole_text settings bits) (IsTextWithoutMemory settings bits)
    (all_text settings bits read) outcome ends.0
    (λ cut. let short = cut_by_row settings bits read (text_after settings bits read) outcome ends cut in
    (read, short.0, short.1))
