-- Code words in lookup tables of a fixed number of bits.
use Rattle.std.specs.Prelude.{ℕ, zero, suc, ◌+◌, ◌-◌, ◌*◌, ◌^◌, ◌<◌, ◌≡◌, max, Bool, false, ◌&&◌, nat_le, nat_lt, if◌then◌else◌}
use Rattle.std.specs.Prelude.{List, [], ◌∷◌, Option, Some, None, option_map, length, get_or}
use Rattle.fax_bits.specs.Bits.{Bits, low_bits}
use Rattle.fax_bits.specs.CodeLists.{Code, mode_codes}
use Rattle.fax_bits.specs.declared.codes.Mode.{Mode}
use Rattle.fax_bits.specs.declared.codes.Color.{Color}
use Rattle.fax_bits.specs.declared.codes.Color.TheVariants.{White, Black}
use Rattle.fax_bits.specs.Runs.{codes_of, opposite}
use Rattle.fax_bits.specs.CodeReading.{agreement, word_at, is_prefix}

-- auxiliary: the first n bits here, padded with zeros
abbrev pub padded : ℕ → Bits → Bits
padded zero here = []
padded (suc n) [] = false ∷ padded n []
padded (suc n) (b ∷ here) = b ∷ padded n here

-- the most bits from here on that are the start of a word of the list (T.4, 4.1.1)
abbrev pub longest_agreement : {V : Type 0} → List (Code V) → Bits → ℕ
longest_agreement [] here = 0
longest_agreement (c ∷ list) here = max (agreement c.word here) (longest_agreement list here)

-- How many bits decide what is here: those of the word; where there is none, the longest agreement with a word and the
-- bit that ends it (T.4, 4.1.1).
abbrev pub telling_bits : {V : Type 0} → List (Code V) → Bits → ℕ
telling_bits list here = elim (word_at list here) [
  | Some found ↦ length here - length found.1
  | None ↦ suc (longest_agreement list here)
]

-- the run of the word here, and 4095 where there is none (T.4, 4.1.1)
abbrev pub run_or_none : List (Code ℕ) → Bits → ℕ
run_or_none list here = elim (word_at list here) [
  | Some found ↦ found.0
  | None ↦ 4095
]

-- the entry of a lookup table for these bits: the run in the low twelve bits, above it the number of bits (T.4, 4.1.1)
abbrev pub entry_of : List (Code ℕ) → Bits → ℕ
entry_of list here = telling_bits list here * 4096 + run_or_none list here

-- auxiliary: the bits of an index, so many, the highest first
unfoldable pub index_bits : ℕ → ℕ → Bits
index_bits bits index = low_bits bits index

-- the entries of a list, one for each value of so many bits (T.4, 4.1.1)
pub record AreEntries (bits : ℕ) (list : List (Code ℕ)) (entries : List ℕ) : Type 0 where
  pub count : length entries ≡ 2 ^ bits
  pub each : (index : ℕ) → index < 2 ^ bits → get_or entries index 0 ≡ entry_of list (index_bits bits index)

-- the number of bits by which runs of a colour are looked up, those of its longest word (T.4, tables 2, 3a and 3b)
abbrev pub lookup_bits : Color → ℕ
lookup_bits White = 12
lookup_bits Black = 13

-- the entries of a colour, one for each value of these bits (T.4, 4.1.1)
abbrev pub AreEntriesOf : Color → List ℕ → Type 0
AreEntriesOf color entries = AreEntries (lookup_bits color) (codes_of color) entries

-- auxiliary: the twelve bits of an index, the highest first
unfoldable pub twelve_bits : ℕ → Bits
twelve_bits index = low_bits 12 index

-- a run that isn't empty and has one word (T.4, 4.1.1)
abbrev pub is_short : ℕ → Bool
is_short run = nat_lt 0 run && nat_lt run 64

-- The entry of a table of pairs for these bits: if they begin with the words of two short runs, the first of this colour, it is
-- the number of bits of both words, the second run and the first one, in four, six and six bits; otherwise 0 (T.4, 4.1.1).
abbrev pub pair_entry : Color → Bits → ℕ
pair_entry color here = elim (word_at (codes_of color) here) [
  | Some first ↦ elim (word_at (codes_of (opposite color)) first.1) [
    | Some second ↦ if is_short first.0 && is_short second.0
        then (length here - length second.1) * 4096 + second.0 * 64 + first.0
        else 0
    | None ↦ 0
  ]
  | None ↦ 0
]

-- the entries of pairs that begin with a run of a colour, one for each value of twelve bits (T.4, 4.1.1)
pub record ArePairs (color : Color) (entries : List ℕ) : Type 0 where
  pub count : length entries ≡ 4096
  pub each : (index : ℕ) → index < 4096 → get_or entries index 0 ≡ pair_entry color (twelve_bits index)

-- auxiliary: the seven bits of a number, the highest first
unfoldable pub seven_bits : ℕ → Bits
seven_bits number = low_bits 7 number

-- the mode whose word is here, `None` where there is none, and how many bits decide it (T.4, 4.2.1.2)
abbrev pub mode_in : Bits → Option Mode × ℕ
mode_in here = (option_map (λ found. found.0) (word_at mode_codes here), telling_bits mode_codes here)

-- ---- auxiliary: the entries while a table of triples (run, number of bits, word as a number) is filled

-- no bit of the word is above its width, which is at most thirteen, and the run fits in twelve bits
abbrev pub is_row : ℕ × ℕ × ℕ → Bool
is_row row = nat_le row.1 13 && nat_lt row.2 (2 ^ row.1) && nat_lt row.0 4096

-- the entry for these bits after one row
abbrev pub with_table_row : ℕ × ℕ × ℕ → Bits → ℕ → ℕ
with_table_row row here entry = if is_prefix (low_bits row.1 row.2) here then row.1 * 4096 + row.0 else entry

-- the entry after each row in turn
abbrev pub with_table_rows : List (ℕ × ℕ × ℕ) → Bits → ℕ → ℕ
with_table_rows [] here entry = entry
with_table_rows (row ∷ table) here entry = with_table_rows table here (with_table_row row here entry)

-- ---- auxiliary: the lookup tables of both colours

-- the entries of either colour
pub record ColorEntries : Type 0 where
  pub white : List ℕ
  pub black : List ℕ

-- those of one colour
abbrev pub entries_of : Color → ColorEntries → List ℕ
entries_of White both = both.white
entries_of Black both = both.black

-- the table's entries are those of its list (T.4, 4.1.1)
abbrev pub AreOfColors : ColorEntries → Type 0
AreOfColors both = (color : Color) → AreEntriesOf color (entries_of color both)
