-- What C gets of a decoding, from what decoding returns.
use Rattle.std.proofs.Common.{◌≡◌, ◌≤◌, ◌+◌, min, ℕ, List, [], ◌∷◌, length, map, refl, ap, subst, ◌∙◌, Ok, Err, Option, Some}
use Rattle.std.proofs.Common.{None, IfSome, inl, inr, arith}
use Rattle.hayro_ccitt.specs.DecodeError.TheVariants.{UnexpectedEof, InvalidCode, Overflow, OutOfMemory, Refused}
use Rattle.hayro_ccitt.specs.DecodeError.{DecodeError}
use Rattle.hayro_ccitt.specs.DecodeSettings.{DecodeSettings}
use Rattle.std.specs.Prelude.{Result}
use Rattle.std.specs.List.{fold}
use Rattle.hayro_ccitt.specs.Answers.{meaning_after}
use Rattle.hayro_ccitt.specs.BitOrder.{BitOrder}
use Rattle.hayro_ccitt.specs.Bits.{Bits, bits_in}
use Rattle.hayro_ccitt.specs.Rows.{Row, changes}
use Rattle.hayro_ccitt.specs.PlainReading.{plain}
use Rattle.c_rows.specs.Packing.{counted}
use Rattle.c_rows.specs.Reports.{EndsAfter, IsReport, OnSettings}
use Rattle.c_rows.specs.Settings.{order_of, settings_of}
use Rattle.c_rows.specs.declared.settings.Settings.{Settings}

-- if the first allocation fails, nothing is accepted
pub no_memory : (settings : DecodeSettings) (bits : Bits) → IsReport settings bits 4 0 0 0
no_memory settings bits =
    record {
      answer = Err OutOfMemory;
      ends = (omega arith, inl refl);
      status_is = refl;
      bytes_are = refl;
      fault_is = inr (refl, refl, refl);
    }

-- a statement about the settings that C passes
on_meant : (meant : Option DecodeSettings) (settings : DecodeSettings) (P : DecodeSettings → Type 0) → meant ≡ Some settings
    → P settings → IfSome meant P
on_meant None settings P e p = cc
on_meant (Some s) settings P e p = let same : settings ≡ s = cc in subst P same p

-- and about the bits of data
pub on_settings : (settings : Settings) (meant : DecodeSettings) (input : List ℕ)
    (order : BitOrder) (P : DecodeSettings → Bits → Type 0) → settings_of settings ≡ Some meant → order ≡ order_of settings
    → P meant (bits_in order input) → OnSettings settings input P
on_settings settings meant input order P is same p fit =
    on_meant (settings_of settings) meant (λ s. P s (bits_in (order_of settings) input)) is
    (subst (λ (o : BitOrder). P meant (bits_in o input)) same p)

-- there are this many rows
pub taken_within : (settings : DecodeSettings) (bits : Bits) (taken : ℕ) (answer : Result ℕ DecodeError)
    → EndsAfter settings bits taken answer → taken ≤ length (plain settings bits).rows
taken_within settings bits taken (Ok n) ends = omega (arith, ends.0)
taken_within settings bits taken (Err UnexpectedEof) ends = omega (arith, ends.0)
taken_within settings bits taken (Err InvalidCode) ends = omega (arith, ends.0)
taken_within settings bits taken (Err Overflow) ends = omega (arith, ends.0)
taken_within settings bits taken (Err OutOfMemory) ends = ends.0
taken_within settings bits taken (Err Refused) ends = omega (arith, ends)

-- ---- counting changes
-- what passes the limit stays there
pub at_once : (count more : ℕ) → counted (min count 18446744073709551615) more ≡ min (count + more) 18446744073709551615
at_once count more = omega arith

-- the step of the sink that counts them
abbrev pub counts : ℕ → List ℕ → ℕ
counts count row = counted count (length row)

-- the sum of numbers after a first one
abbrev pub sum_from : ℕ → List Row → ℕ
sum_from count rows = fold (λ n m. n + m) count (map (λ row. length (changes row)) rows)

pub changes_counted : (count : ℕ) (rows : List Row)
    → meaning_after counts (min count 18446744073709551615) rows ≡ min (sum_from count rows) 18446744073709551615
changes_counted count [] = refl
changes_counted count (row ∷ rows) =
    ap (λ n. meaning_after counts n rows) (at_once count (length (changes row)))
    ∙ changes_counted (count + length (changes row)) rows
