-- What is printed for an input that isn't encoded, and the status that the program exits with: 0 if the strip was written, 1 if
-- the input is no picture that can be encoded, 2 for invalid arguments, and 3 for a failed allocation or device.
use Rattle.std.specs.Prelude.{◌≡◌, ◌⊎◌, ℕ, List, codes, Result, Ok, Err}
use Rattle.faxpack.specs.declared.picture.PictureFault.{PictureFault}
use Rattle.faxpack.specs.declared.picture.PictureFault.TheVariants.{NoPicture, Cut, NoColumns, NoRows}

-- the text of a fault of the picture
abbrev pub text_of_picture_fault : PictureFault → List ℕ
text_of_picture_fault NoPicture = codes "no PBM picture"
text_of_picture_fault Cut = codes "the picture ends early"
text_of_picture_fault NoColumns = codes "no columns"
text_of_picture_fault NoRows = codes "no rows"

-- the status of a run that read its input
abbrev pub status_of_answer : Result (Unit {0}) PictureFault → ℕ
status_of_answer (Ok x) = 0
status_of_answer (Err fault) = 1

-- the status of such a run
abbrev pub IsStatusOfRun : ℕ → Type 0
IsStatusOfRun status = (status ≡ 0) ⊎ (status ≡ 1)
