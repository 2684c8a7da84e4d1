-- What a cursor's stop means for a file.
use Rattle.paid_cursor.specs.declared.cursor.Stop.{Stop}
use Rattle.paid_cursor.specs.declared.cursor.Stop.TheVariants.{End, Spent, OutOfMemory}
use Rattle.tiff_read.specs.declared.error.TiffError.{TiffError}
use Rattle.tiff_read.specs.declared.error.TiffError.TheVariants as error

-- The end of the bytes is the end of the file.
abbrev pub error_of : Stop → TiffError
error_of End = error.Outside
error_of Spent = error.Spent
error_of OutOfMemory = error.OutOfMemory
