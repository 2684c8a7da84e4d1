-- A strict reading without a fault is the lenient one.
use Rattle.std.proofs.Common.{◌≡◌, sym, ap, ◌∙◌, subst, false, Bool, Ok, Err}
use Rattle.std.specs.Prelude.{Result, IsOk}
use Rattle.hayro_ccitt.specs.DecodeError.{DecodeError}
use Rattle.hayro_ccitt.specs.DecodeSettings.{DecodeSettings}
use Rattle.hayro_ccitt.specs.Answers.{OnAnswer}
use Rattle.hayro_ccitt.specs.Bits.{Bits}
use Rattle.hayro_ccitt.specs.Laws.{StrictThenLenient, leniently, strictly}
use Rattle.hayro_ccitt.specs.PlainReading.{Reading, plain}
use Rattle.hayro_ccitt.specs.Settings.{AreSettings}
use Rattle.fax_decode.specs.Parts.{HasReading}
use Rattle.fax_decode.specs.declared.part.PartRows.{PartRows}

-- what follows from two statements on an answer
both : {T P Q R : Type 0} (answer : Result T DecodeError) → (P → Q → R) → OnAnswer answer P → OnAnswer answer Q
    → OnAnswer answer R
both (Ok x) follows p q = follows p q
both (Err fault) follows p q = λ is_fault. follows (p is_fault) (q is_fault)

-- rows of the strict reading that ended without a fault
is_lenient : (law : StrictThenLenient) (settings : DecodeSettings) (bits : Bits) (part : PartRows) → settings.strict ≡ false
    → AreSettings settings → HasReading settings.columns (plain (strictly settings) bits) part → IsOk part.end
    → HasReading settings.columns (plain settings bits) part
is_lenient law settings bits part lenient fit reading ended =
    let itself : leniently settings ≡ settings = ap (λ (s : Bool). record settings { strict = s }) (sym lenient) in
    let ok : IsOk (plain (strictly settings) bits).outcome = subst (λ (r : Result _ DecodeError). IsOk r) reading.end ended in
    let same : plain (strictly settings) bits ≡ plain settings bits =
    (law settings bits fit).1 ok ∙ ap (λ (s : DecodeSettings). plain s bits) itself in
    subst (λ (r : Reading). HasReading settings.columns r part) same reading

-- those of an answer
pub lenient_rows : (law : StrictThenLenient) (settings : DecodeSettings) (bits : Bits) (part : PartRows) → settings.strict ≡ false
    → AreSettings settings → OnAnswer part.end (HasReading settings.columns (plain (strictly settings) bits) part)
    → OnAnswer part.end (IsOk part.end) → OnAnswer part.end (HasReading settings.columns (plain settings bits) part)
lenient_rows law settings bits part lenient fit reading ended =
    both part.end (is_lenient law settings bits part lenient fit) reading ended
