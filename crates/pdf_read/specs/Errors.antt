-- What a cursor's stop means for a file.
use Rattle.paid_cursor.specs.declared.cursor.Stop.{Stop}
use Rattle.paid_cursor.specs.declared.cursor.Stop.TheVariants.{End, Spent, OutOfMemory}
use Rattle.pdf_read.specs.declared.error.PdfError.{PdfError}
use Rattle.pdf_read.specs.declared.error.PdfError.TheVariants as error

-- Where the bytes end, no object is left.
abbrev pub error_of : Stop → PdfError
error_of End = error.NoObjects
error_of Spent = error.Spent
error_of OutOfMemory = error.OutOfMemory
