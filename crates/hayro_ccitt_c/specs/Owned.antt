-- What a handle holds: a reading of rows, a strip to which rows are added, or a reading of rows of data in pieces.
use Rattle.std.specs.Prelude.{Bool, true, false, Option, None, Some, IfSome}
use Rattle.hayro_ccitt_c.specs.declared.owned.Owned.{Owned as OwnedValue}
use Rattle.hayro_ccitt_c.specs.declared.owned.Owned.TheVariants.{Reading as OfReading, Strip as OfStrip, Feeding as OfFeeding}
use Rattle.c_rows.specs.declared.feeding.Feeding.{Feeding}
use Rattle.c_rows.specs.declared.reading.Reading.{Reading}
use Rattle.c_rows.specs.declared.strip.Strip.{Strip}

-- whether it is a reading, a strip, or a reading of data in pieces
abbrev pub is_reading : OwnedValue → Bool
is_reading (OfReading reading) = true
is_reading (OfStrip strip) = false
is_reading (OfFeeding feeding) = false

abbrev pub is_strip : OwnedValue → Bool
is_strip (OfReading reading) = false
is_strip (OfStrip strip) = true
is_strip (OfFeeding feeding) = false

abbrev pub is_feeding : OwnedValue → Bool
is_feeding (OfReading reading) = false
is_feeding (OfStrip strip) = false
is_feeding (OfFeeding feeding) = true

-- a statement about it
abbrev pub IfReading : OwnedValue → (Reading → Type 0) → Type 0
IfReading (OfReading reading) P = P reading
IfReading (OfStrip strip) P = Unit {0}
IfReading (OfFeeding feeding) P = Unit {0}

abbrev pub IfStrip : OwnedValue → (Strip → Type 0) → Type 0
IfStrip (OfReading reading) P = Unit {0}
IfStrip (OfStrip strip) P = P strip
IfStrip (OfFeeding feeding) P = Unit {0}

abbrev pub IfFeeding : OwnedValue → (Feeding → Type 0) → Type 0
IfFeeding (OfReading reading) P = Unit {0}
IfFeeding (OfStrip strip) P = Unit {0}
IfFeeding (OfFeeding feeding) P = P feeding

-- a statement about two
abbrev pub IfReadings : OwnedValue → OwnedValue → (Reading → Reading → Type 0) → Type 0
IfReadings old new P = IfReading old (λ before. IfReading new (λ after. P before after))

abbrev pub IfStrips : OwnedValue → OwnedValue → (Strip → Strip → Type 0) → Type 0
IfStrips old new P = IfStrip old (λ before. IfStrip new (λ after. P before after))

abbrev pub IfFeedings : OwnedValue → OwnedValue → (Feeding → Feeding → Type 0) → Type 0
IfFeedings old new P = IfFeeding old (λ before. IfFeeding new (λ after. P before after))

-- whether a handle holds one
abbrev pub holds_reading : Option OwnedValue → Bool
holds_reading None = false
holds_reading (Some held) = is_reading held

abbrev pub holds_strip : Option OwnedValue → Bool
holds_strip None = false
holds_strip (Some held) = is_strip held

abbrev pub holds_feeding : Option OwnedValue → Bool
holds_feeding None = false
holds_feeding (Some held) = is_feeding held

-- a statement about the one that a handle holds
abbrev pub OnReading : Option OwnedValue → (Reading → Type 0) → Type 0
OnReading held P = IfSome held (λ value. IfReading value P)

abbrev pub OnStrip : Option OwnedValue → (Strip → Type 0) → Type 0
OnStrip held P = IfSome held (λ value. IfStrip value P)

abbrev pub OnFeeding : Option OwnedValue → (Feeding → Type 0) → Type 0
OnFeeding held P = IfSome held (λ value. IfFeeding value P)

-- a statement about those that two hold
abbrev pub OnReadings : Option OwnedValue → Option OwnedValue → (Reading → Reading → Type 0) → Type 0
OnReadings old new P = OnReading old (λ before. OnReading new (λ after. P before after))

abbrev pub OnStrips : Option OwnedValue → Option OwnedValue → (Strip → Strip → Type 0) → Type 0
OnStrips old new P = OnStrip old (λ before. OnStrip new (λ after. P before after))

abbrev pub OnFeedings : Option OwnedValue → Option OwnedValue → (Feeding → Feeding → Type 0) → Type 0
OnFeedings old new P = OnFeeding old (λ before. OnFeeding new (λ after. P before after))
