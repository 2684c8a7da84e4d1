-- The status that the program exits with: 0 if the data was decoded or conforms as asked, 1 if it is invalid or doesn't, 2 for
-- invalid arguments, and 3 for a failed allocation or device.
use Rattle.std.specs.Prelude.{◌≡◌, ◌⊎◌, ℕ, Result, Ok, Err}
use Rattle.hayro_ccitt.specs.DecodeError.{DecodeError}
use Rattle.hayro_ccitt.specs.Faults.{kind_of}
use Rattle.faxrows_lib.specs.Runs.{done_of_kind}
use Rattle.faxrows_lib.specs.declared.program.Done.{Done}
use Rattle.faxrows_lib.specs.declared.program.Done.TheVariants.{Good, Faulty, Memory}

-- the status of a run that wrote its text
abbrev pub status_of_done : Done → ℕ
status_of_done Good = 0
status_of_done Faulty = 1
status_of_done Memory = 3

-- the status of a run that wrote its bitmap
abbrev pub status_of_answer : Result (Unit {0}) DecodeError → ℕ
status_of_answer (Ok x) = 0
status_of_answer (Err error) = status_of_done (done_of_kind (kind_of error))

-- the status of a run that wrote its text or its bitmap
abbrev pub IsStatusOfRun : ℕ → Type 0
IsStatusOfRun status = (status ≡ 0) ⊎ (status ≡ 1) ⊎ (status ≡ 3)
