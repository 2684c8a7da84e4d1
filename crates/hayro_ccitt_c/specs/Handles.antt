-- What a handle owns: a value at its pointer, and the right to free it, if it has one.
use base.Fml.{Fml, ftrue}
use base.Stored.{Coded}
use denote.RawPtr.{Ptr}
use Rattle.std.specs.Prelude.{Option, None, Some}
use Rattle.std.specs.Coded.{coded_option}
use Rattle.std.specs.Box.Ownership.{box_owns}
use Rattle.std.specs.Global.{Global}
use Rattle.std.specs.contracts.impls.GlobalAllocator.TheImpl.{ghosts}
use Rattle.hayro_ccitt_c.specs.contracts.owned.Owned.{the_row}

abbrev pub value_owned : Global → Ptr → Option the_row.Denot → Fml
value_owned alloc p None = ftrue
value_owned alloc p (Some x) = box_owns (ghosts.dealloc_token alloc) the_row p x

abbrev pub value_coded : Coded (Option the_row.Denot)
value_coded = coded_option the_row.coded
