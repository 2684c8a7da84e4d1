-- What decoding one image leaves, in the terms of the callers.
use Rattle.std.proofs.Common.{inl, inr, ℕ, List, refl, Ok, Err, arith}
use Rattle.std.specs.Prelude.{Result}
use Rattle.hayro_ccitt.specs.DecodeError.{DecodeError}
use Rattle.hayro_ccitt.specs.DecodeError.TheVariants.{OutOfMemory}
use Rattle.hayro_ccitt.specs.DecodeSettings.{DecodeSettings}
use Rattle.hayro_ccitt.specs.Answers.{OnAnswer}
use Rattle.hayro_ccitt.specs.Bits.{Bits}
use Rattle.hayro_ccitt.specs.Context.{Held}
use Rattle.hayro_ccitt.specs.Contract.{Decodes}
use Rattle.hayro_ccitt.specs.Decoding.{SinkState}
use Rattle.hayro_ccitt.specs.PlainReading.{plain}
use Rattle.hayro_ccitt.specs.Rows.{HaveWidth}
use Rattle.fax_callers.specs.Readings.{ReadsPictures, TakesFirst}

-- with what is true of some results, what is true whatever the result is
and_all : (P Q : Type 0) (answer : Result ℕ DecodeError) → OnAnswer answer P → Q → OnAnswer answer (P × Q)
and_all P Q (Ok n) answered holds = (answered, holds)
and_all P Q (Err error) answered holds = λ fault. (answered fault, holds)

-- what is true whatever the result is
on_all : (P : Type 0) (answer : Result ℕ DecodeError) → P → OnAnswer answer P
on_all P (Ok n) holds = holds
on_all P (Err error) holds = λ fault. holds

-- if the context can't be allocated, no row is accepted
pub none_taken : {M : Type 0} (settings : DecodeSettings) (bits : Bits) (step : M → List ℕ → M) (meaning : M)
    (refuses : List ℕ → Type 0) → TakesFirst settings bits step meaning meaning refuses (Err OutOfMemory)
none_taken settings bits step meaning refuses =
    record {
      taken = 0;
      within = omega arith;
      meaning = refl;
      memory = λ e. inl refl;
      refused = λ e. cc;
      all = λ e. absurd e;
      widths = λ e. absurd e;
    }

module _ {M : Type 0} (settings : DecodeSettings) (bits : Bits) (step : M → List ℕ → M) (before after : SinkState M) (held : Held)
    (ticks : ℕ) (answer : Result ℕ DecodeError) (left : Decodes settings bits step before after held ticks answer) where
  -- the first rows are accepted
  pub first_taken : TakesFirst settings bits step before.meaning after.meaning after.refuses answer
  first_taken =
      record {
        taken = held.taken;
        within = left.reading.taken;
        meaning = left.reading.meaning;
        memory = λ e. inr (left.short.memory e);
        refused = λ e. (left.short.refused e, left.short.refused_row e);
        all = left.whole;
        widths = on_all (HaveWidth settings.columns (plain settings bits).rows) answer left.widths;
      }

  -- pictures are read as their rows
  pub pictures : ReadsPictures settings bits answer
  pictures =
      record {
        closed = λ rows count is. and_all _ _ answer (left.closed rows count is) (left.closed_rows rows count is);
        limited = λ rows is. and_all _ _ answer (left.limited rows is) (left.limited_rows rows is);
      }
