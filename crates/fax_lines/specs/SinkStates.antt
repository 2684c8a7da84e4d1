-- What a sink is like between two calls.
use Rattle.fax_lines.specs.declared.Decoder.{Ghosts}
use Rattle.fax_reading.specs.Decoding.{SinkState}

-- what a sink with these members means, whether it has refused a row, and which rows it refuses
abbrev pub state_of : {S : Type 0} (D : Ghosts S) → S → SinkState D.Meaning
state_of D sink = record { meaning = D.meaning sink; refused = D.has_refused sink; refuses = D.refuses sink }
