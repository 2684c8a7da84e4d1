use Rattle.hayro_ccitt.proofs.Readings.RowsOfFeeds.{passes_plain_rows}
use Rattle.hayro_ccitt.proofs.laws.feeds_pass_rows.Goals as goal

pub returns : goal.returns
returns g c = passes_plain_rows _ _ _
