-- What is printed for a failed run, and the status that the program exits with.
use Rattle.std.specs.Prelude.{ℕ, List, codes}
use Rattle.fax_program.specs.declared.fault.RunFault.{RunFault}
use Rattle.fax_program.specs.declared.fault.RunFault.TheVariants.{BadArguments, Read, Memory, TooLong, Write}

-- the text of a fault
abbrev pub text_of_fault : RunFault → List ℕ
text_of_fault BadArguments = codes "bad arguments"
text_of_fault Read = codes "cannot read"
text_of_fault Memory = codes "out of memory"
text_of_fault TooLong = codes "input too long"
text_of_fault Write = codes "cannot write"

-- the status of a run that ended early: 2 for invalid arguments, 3 for a failed allocation or device
abbrev pub status_of_fault : RunFault → ℕ
status_of_fault BadArguments = 2
status_of_fault Read = 3
status_of_fault Memory = 3
status_of_fault TooLong = 3
status_of_fault Write = 3
