-- What a cursor's stop means for the data.
use Rattle.paid_cursor.specs.declared.cursor.Stop.{Stop}
use Rattle.paid_cursor.specs.declared.cursor.Stop.TheVariants.{End, Spent, OutOfMemory}
use Rattle.filters.specs.declared.error.FilterError.{FilterError}
use Rattle.filters.specs.declared.error.FilterError.TheVariants as error

-- The end of the bytes cuts the data.
abbrev pub error_of : Stop → FilterError
error_of End = error.Truncated
error_of Spent = error.Spent
error_of OutOfMemory = error.OutOfMemory
