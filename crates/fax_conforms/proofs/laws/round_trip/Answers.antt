use Rattle.fax_conforms.proofs.RoundTrips.{round_trips}
use Rattle.fax_conforms.proofs.laws.round_trip.Goals as goal

pub returns : goal.returns
returns c = round_trips
