-- What adding a row to an encoder leaves, as C sees it.
use Rattle.std.proofs.Common.{◌≡◌, ◌≢◌, ◌↔◌, ℕ, true, false, refl, ap, Ok, Err, OnOk, inl, inr}
use Rattle.std.specs.Prelude.{Result}
use Rattle.hayro_ccitt.specs.Rows.{Row}
use Rattle.fax_encode.specs.RowByRow.{RowsEncoded, with_row}
use Rattle.fax_encode.specs.declared.error.EncodeError.{EncodeError}
use Rattle.fax_encode.specs.declared.error.EncodeError.TheVariants.{NoColumns, NoRows, NotARow, OutOfMemory}
use Rattle.c_rows.specs.RowsTaken.{TakesNext, status_of_adding}
use Rattle.c_rows.specs.declared.strip.Strip.TheVariants.{Rows}

pub takes_next : (rows new : RowsEncoded) (IsRow IsNone : Type 0) (row : Row) (answer : Result (Unit {0}) EncodeError)
    → (IsNone → ¬ IsRow) → ((¬ IsRow) → IsNone) → OnOk answer (new ≡ with_row rows row) → OnOk answer IsRow
    → ((k : ℕ) → (answer ≡ Err (NotARow k)) ↔ ((rows.wants_memory ≡ false) × IsNone × (k ≡ rows.count)))
    → ((k : ℕ) → answer ≡ Err (NotARow k) → new ≡ rows) → (answer ≢ Err NoColumns) × (answer ≢ Err NoRows)
    → (rows.wants_memory ≡ true → answer ≡ Err OutOfMemory) → (answer ≡ Err OutOfMemory → new.wants_memory ≡ true)
    → TakesNext rows (Rows new) IsRow row (status_of_adding answer)
takes_next rows new IsRow IsNone row (Ok done) out back taken lawful not_a_row kept others wanted wants = record {
  statuses = inl refl;
  taken = λ e. (lawful, ap Rows taken);
  untaken = (λ e. absurd cc, λ is. absurd (is.1 lawful));
  kept = λ e. absurd cc;
  wanted = λ e. let is = wanted e in absurd cc;
  wants = λ e. absurd cc;
}
takes_next rows new IsRow IsNone row (Err OutOfMemory) out back taken lawful not_a_row kept others wanted wants = record {
  statuses = inr (inl refl);
  taken = λ e. absurd cc;
  untaken = (λ e. absurd cc, λ is. let no = (not_a_row rows.count).1 (is.0, back is.1, refl) in absurd cc);
  kept = λ e. absurd cc;
  wanted = λ e. refl;
  wants = λ e. wants refl;
}
takes_next rows new IsRow IsNone row (Err (NotARow k)) out back taken lawful not_a_row kept others wanted wants = record {
  statuses = inr (inr refl);
  taken = λ e. absurd cc;
  untaken = (λ e. let is = (not_a_row k).0 refl in (is.0, out is.1), λ is. refl);
  kept = λ e. ap Rows (kept k refl);
  wanted = λ e. let is = wanted e in absurd cc;
  wants = λ e. absurd cc;
}
takes_next rows new IsRow IsNone row (Err NoColumns) out back taken lawful not_a_row kept others wanted wants =
    absurd (others.0 refl)
takes_next rows new IsRow IsNone row (Err NoRows) out back taken lawful not_a_row kept others wanted wants =
    absurd (others.1 refl)
