use Rattle.fax_encode.proofs.RoundTrip.{round_trip_t6, round_trip_t4}
use Rattle.fax_encode.proofs.laws.round_trip.Goals as goal

pub returns-clause-t6 : goal.returns-clause-t6
returns-clause-t6 c = round_trip_t6

pub returns-clause-t4 : goal.returns-clause-t4
returns-clause-t4 c = round_trip_t4
