-- A row that is passed to a sink.
use Rattle.std.specs.Prelude.{◌≡◌, ℕ, true, List, Result, OnOk, OnErr, IsOkUnless}
use Rattle.fax_bits.specs.declared.error.DecodeError.{DecodeError}
use Rattle.fax_reading.specs.Decoding.{SinkState}

-- What passing a row leaves of a sink of this step: it takes the row, or it refuses it and means what it meant.
pub record PassesRow {M : Type 0} (step : M → List ℕ → M) (before after : SinkState M) (row : List ℕ)
    (answer : Result (Unit {0}) DecodeError) : Type 0 where
  pub taken : OnOk answer (after.meaning ≡ step before.meaning row)
  pub flag : OnOk answer (after.refused ≡ before.refused)
  pub kept : OnErr answer (after.meaning ≡ before.meaning)
  pub refused : OnErr answer (after.refused ≡ true)
  pub refused_row : OnErr answer (after.refuses row)
  pub only_refused : IsOkUnless answer DecodeError.Refused
