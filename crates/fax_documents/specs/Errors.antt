-- The texts of errors.
use Rattle.std.specs.Prelude.{ℕ, ◌≡◌, ◌⊎◌, List, codes}
use Rattle.fax_documents.specs.declared.error.DocumentError.{DocumentError}
use Rattle.fax_documents.specs.declared.error.DocumentError.TheVariants.{Encoding, Size, TooLong, OutOfMemory, Write}

-- the text of an error
abbrev pub text_of : DocumentError → List ℕ
text_of Encoding = codes "the format has no such encoding"
text_of Size = codes "no size that a page has"
text_of TooLong = codes "the file becomes too long"
text_of OutOfMemory = codes "out of memory"
text_of Write = codes "can't write"

-- what can fail at any page
abbrev pub FailsLate : DocumentError → Type 0
FailsLate error = (error ≡ OutOfMemory) ⊎ (error ≡ Write)
