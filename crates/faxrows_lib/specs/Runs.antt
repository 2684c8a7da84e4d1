-- What a run writes.
use Rattle.std.specs.Prelude.{◌≡◌, ◌<◌, ◌≤◌, ℕ, List, length, map, take, Option, IfSome, Result, Ok, Err, IsOk, IsErr}
use Rattle.hayro_ccitt.specs.DecodeError.{DecodeError}
use Rattle.hayro_ccitt.specs.Faults.{ByKind, ErrorKind, kind_of}
use Rattle.hayro_ccitt.specs.DecodeSettings.{DecodeSettings}
use Rattle.hayro_ccitt.specs.Bits.{Bits, bits_in}
use Rattle.hayro_ccitt.specs.Rows.{changes}
use Rattle.hayro_ccitt.specs.PlainReading.{plain, lines_of}
use Rattle.hayro_ccitt.specs.Answers.{PaintsBlack}
use Rattle.faxrows_lib.specs.declared.arguments.Arguments.{Arguments}
use Rattle.faxrows_lib.specs.declared.program.Done.{Done}
use Rattle.faxrows_lib.specs.declared.program.Done.TheVariants.{Good, Faulty, Memory}
use Rattle.faxrows_lib.specs.Text.{text_of}

-- how decoding ends: with a byte count, or an error
abbrev pub Outcome : Type 0
Outcome = Result ℕ DecodeError

-- the rows of some data, as their changes
abbrev pub rows_of : DecodeSettings → Bits → List (List ℕ)
rows_of settings bits = map changes (plain settings bits).rows

-- how the reading of some data ends
abbrev pub outcome_of : DecodeSettings → Bits → Outcome
outcome_of settings bits = (plain settings bits).outcome

-- all that is written of some data
abbrev pub whole_text : DecodeSettings → Bits → List ℕ
whole_text settings bits = text_of (rows_of settings bits) (outcome_of settings bits)

-- how a run ends that wrote an error of this kind
abbrev pub done_of_kind : ErrorKind → Done
done_of_kind ErrorKind.fault = Faulty
done_of_kind ErrorKind.memory = Memory
done_of_kind ErrorKind.refusal = Memory

-- how a run that wrote this result ends
abbrev pub done_of : Outcome → Done
done_of (Ok count) = Good
done_of (Err error) = done_of_kind (kind_of error)

-- what is written of some data of which this number of rows was accepted, and how it ended
abbrev pub text_after : DecodeSettings → Bits → ℕ → Outcome → List ℕ
text_after settings bits taken outcome = text_of (take taken (rows_of settings bits)) outcome

-- How decoding may end after this number of rows: after all of them, as the plain reading does; with an allocation
-- failure while a line that paints black is read; or because the next row was refused.
abbrev pub EndsAfter : DecodeSettings → Bits → ℕ → Outcome → Type 0
EndsAfter settings bits taken (Ok count) = (taken ≡ length (rows_of settings bits)) × (outcome_of settings bits ≡ Ok count)
EndsAfter settings bits taken (Err error) =
    ByKind (kind_of error) ((taken ≡ length (rows_of settings bits)) × (outcome_of settings bits ≡ Err error))
    ((taken ≤ length (rows_of settings bits)) × PaintsBlack (lines_of settings bits) taken)
    (taken < length (rows_of settings bits))

-- the lines of the accepted rows, then the last line, which says whether an allocation failure or a refusal ended the
-- decoding there
abbrev pub IsTextOfWant : DecodeSettings → Bits → List ℕ → Type 0
IsTextOfWant settings bits text =
    (taken : ℕ) × (outcome : Outcome) × EndsAfter settings bits taken outcome × (done_of outcome ≡ Memory)
    × (text ≡ text_after settings bits taken outcome)

-- What a run wrote that ended like this: all of a text, after a reading that ended well or at a fault, or a text that is cut
-- short by an allocation failure or a refusal.
abbrev pub IsTextOfEnd : Done → Outcome → List ℕ → (List ℕ → Type 0) → List ℕ → Type 0
IsTextOfEnd Good outcome whole IsCut text = IsOk outcome × (text ≡ whole)
IsTextOfEnd Faulty outcome whole IsCut text = IsErr outcome × (text ≡ whole)
IsTextOfEnd Memory outcome whole IsCut text = IsCut text

-- what a run writes of some data that ends like this
abbrev pub IsRowsText : DecodeSettings → Bits → Done → List ℕ → Type 0
IsRowsText settings bits done =
    IsTextOfEnd done (outcome_of settings bits) (whole_text settings bits) (IsTextOfWant settings bits)

-- a statement about the settings that the arguments mean, and about the bits, in the order that the arguments select, of
-- the bytes that a reader supplies
abbrev pub OnKnown : Option Arguments → Option (List ℕ) → (DecodeSettings → Bits → Type 0) → Type 0
OnKnown arguments known P = IfSome arguments (λ meant. IfSome known (λ input. P meant.settings (bits_in meant.order input)))
