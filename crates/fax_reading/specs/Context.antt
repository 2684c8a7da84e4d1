-- What a context holds between its calls.
use Rattle.std.specs.Prelude.{ℕ, zero, suc, ◌+◌, ◌-◌, [], ◌++◌, Bool, false, ◌||◌, ◌==◌, if◌then◌else◌, length, replicate}
use Rattle.std.specs.Prelude.{Result, ◌≡◌, ◌≤◌, ◌<◌, List, get_or, filter, nat_le, nat_lt, Option, None}
use Rattle.fax_bits.specs.declared.codes.Color.{Color}
use Rattle.fax_bits.specs.declared.codes.Color.TheVariants.{White}
use Rattle.fax_bits.specs.declared.settings.DecodeSettings.{DecodeSettings}
use Rattle.fax_bits.specs.declared.error.DecodeError.{DecodeError}
use Rattle.fax_bits.specs.declared.error.DecodeError.TheVariants.{UnexpectedEof}
use Rattle.fax_reading.specs.Rows.{Row, white_row, repaired, paint, last_pixel}

-- Of the accepted rows: how many were repaired, the fault of the last of these, the number of rows with it, in how many a run was
-- cut, and after how many an EOL was missed (T.4, 4.1.1 and 4.1.2).
pub record Repairs : Type 0 where
  pub rows : ℕ
  pub fault : DecodeError
  pub last : ℕ
  pub cut : ℕ
  pub missed : ℕ

-- none was; the fault means nothing then (auxiliary)
abbrev pub no_repairs : Repairs
no_repairs = record { rows = 0; fault = UnexpectedEof; last = 0; cut = 0; missed = 0 }

-- An EOL is missed after this number of rows, unless the last of them was repaired: then the search for the next EOL is part of
-- its repair. There is at most one EOL a row (T.4, 4.1.2).
abbrev pub with_missed : ℕ → Repairs → Repairs
with_missed taken before =
    if (before.last == taken) || nat_le taken before.missed then before else record before { missed = before.missed + 1 }

-- A run was cut in the row after this number of rows. There is at most one such row a row (T.4, 4.1.1).
abbrev pub with_cut : ℕ → Repairs → Repairs
with_cut taken before = if nat_le before.cut taken then record before { cut = before.cut + 1 } else before

-- the reference row, the front of the coding row, the present colour, the number of rows that were accepted, what was
-- repaired of them, whether EOLs are sought, where the last decoding failed, and the settings (T.4, 4.1.2 and 4.2.1.1)
pub record Held : Type 0 where
  pub reference : Row
  pub front : Row
  pub color : Color
  pub taken : ℕ
  pub repairs : Repairs
  pub has_eols : Bool
  pub fault_start : Option ℕ
  pub settings : DecodeSettings

-- a context: what it holds, how many changes of the reference row were passed in this line, whether a run of it was cut, the
-- count of its work, and for how many changes each of its two lists has room at most (auxiliary)
pub record Context : Type 0 where
  pub held : Held
  pub passed : ℕ
  pub cut : Bool
  pub ticks : ℕ
  pub space : ℕ

-- what a new context holds: a white reference row, nothing painted, no row accepted (T.4, 4.2.1.1)
abbrev pub fresh : DecodeSettings → Held
fresh settings =
    record {
      reference = white_row settings.columns;
      front = [];
      color = White;
      taken = 0;
      repairs = no_repairs;
      has_eols = false;
      fault_start = None;
      settings = settings;
    }

-- the row of a list of changes: a front that isn't full is continued in its last colour, and an empty one in white (T.4,
-- 4.2.1.1)
abbrev pub continued : ℕ → Row → Row
continued columns front = front ++ replicate (columns - length front) (last_pixel false front)

-- the row that is passed to the sink (T.4, 4.2.1.1)
abbrev pub taken_row : Held → Row
taken_row h = continued h.settings.columns h.front

-- the front with n more pixels of the present colour (T.4, 4.1.1)
abbrev pub painted_front : Held → ℕ → Result Row DecodeError
painted_front h count = paint h.settings.strict h.settings.columns h.front h.color count

-- this many pixels are more than the row has room for (T.4, 4.1.1)
abbrev pub exceeds : Held → ℕ → Bool
exceeds h count = nat_lt (h.settings.columns - length h.front) count

-- the row that was drawn becomes the reference row, and the front is empty (T.4, 4.2.1.1)
abbrev pub after_taking : Held → Held
after_taking h =
    record {
      reference = taken_row h;
      front = [];
      color = White;
      taken = h.taken + 1;
      repairs = h.repairs;
      has_eols = h.has_eols;
      fault_start = h.fault_start;
      settings = h.settings;
    }

-- another front and another colour, and the rest as it was (auxiliary)
abbrev pub redrawn : Held → Row → Color → Held
redrawn h front color =
    record {
      reference = h.reference;
      front = front;
      color = color;
      taken = h.taken;
      repairs = h.repairs;
      has_eols = h.has_eols;
      fault_start = h.fault_start;
      settings = h.settings;
    }

-- a damaged line is repaired: its front is continued in white, and the colour is white (T.4, 4.1.2)
abbrev pub after_repair : Held → Held
after_repair h = redrawn h (repaired h.settings.columns h.front) White

-- The first changes of a reference row, this many, are known not to be right of a0, where this many pixels are painted
-- (T.4, 4.2.1.1).
pub record ArePassed (places : List ℕ) (painted passed : ℕ) : Type 0 where
  pub none : painted ≡ 0 → passed ≡ 0
  pub within : passed ≤ length places
  pub left : (k : ℕ) → k < passed → get_or places k 0 ≤ painted

-- How many changes of a reference row are not right of a0, where this many pixels are painted: none while a0 is left of
-- the row; else those at or left of the position reached (T.4, 4.2.1.1).
abbrev pub passed_changes : List ℕ → ℕ → ℕ
passed_changes places zero = 0
passed_changes places (suc painted) = length (filter (λ p. nat_le p (suc painted)) places)

-- the first position right of a0, where this many pixels are painted (T.4, 4.2.1.1)
abbrev pub right_of_painted : ℕ → ℕ
right_of_painted zero = 0
right_of_painted (suc painted) = suc (suc painted)
