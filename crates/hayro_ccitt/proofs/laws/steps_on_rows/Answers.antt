use Rattle.hayro_ccitt.proofs.PixelRows.StepsOnRows.{over_rows}
use Rattle.hayro_ccitt.proofs.laws.steps_on_rows.Goals as goal

pub returns : goal.returns
returns g c = over_rows
