use Rattle.fax_encode.proofs.BitmapRoundTrip.{bitmap_round_trip_t6, bitmap_round_trip_t4}
use Rattle.fax_encode.proofs.laws.bitmap_round_trip.Goals as goal

pub returns-clause-t6 : goal.returns-clause-t6
returns-clause-t6 c = bitmap_round_trip_t6

pub returns-clause-t4 : goal.returns-clause-t4
returns-clause-t4 c = bitmap_round_trip_t4
