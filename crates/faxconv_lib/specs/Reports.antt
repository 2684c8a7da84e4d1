-- How whole a page is.
use Rattle.std.specs.Prelude.{ℕ, nat_lt, Option, is_some, if◌then◌else◌}
use Rattle.fax_decode.specs.declared.damage.Damage.{Damage}
use Rattle.faxconv_lib.specs.declared.status.Status.{Status}
use Rattle.faxconv_lib.specs.declared.status.Status.TheVariants.{Whole, Damaged, Missing}

-- rows are missing; or there is a place at which a strict reading fails; or neither
abbrev pub status_of_damage : Damage → Status
status_of_damage damage =
    if nat_lt 0 damage.missing.count then Missing
    else if is_some damage.fault then Damaged
    else Whole
