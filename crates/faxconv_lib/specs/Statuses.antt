-- How bad a status is, and the status that the program exits with.
use Rattle.std.specs.Prelude.{ℕ}
use Rattle.faxconv_lib.specs.declared.status.Status.{Status}
use Rattle.faxconv_lib.specs.declared.status.Status.TheVariants.{Whole, Damaged, Missing, CannotGoOn}

-- how bad a status is: whole, all rows there, rows missing, and an error that ends the run
abbrev pub rank : Status → ℕ
rank Whole = 0
rank Damaged = 1
rank Missing = 2
rank CannotGoOn = 3

-- the status that the program exits with
abbrev pub exit_code : Status → ℕ
exit_code Whole = 0
exit_code Damaged = 3
exit_code Missing = 1
exit_code CannotGoOn = 2
