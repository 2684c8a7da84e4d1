use Rattle.std.proofs.Common.{drop, arith}
use Rattle.hayro_ccitt.specs.Bits.{bits_in}
use Rattle.fax_callers.specs.Pages.{page_settings}
use Rattle.fax_callers.proofs.pages.closed_pages.Goals as goal

pub returns : goal.returns
returns c = λ bytes place rows count is.
    (c.pictures.ensures.closed (page_settings c.args.columns) rows count (bits_in c.args.order (drop place bytes))
    (record { columns = c.ranges.columns.fits; rows = omega arith })
    (c.bits_of_bytes.ensures.whole c.args.order (drop place bytes)) is).1
