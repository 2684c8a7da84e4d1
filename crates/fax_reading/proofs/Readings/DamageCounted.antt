-- The damage that a run passes is counted: the rows that it repairs, those in which it cuts a run, and the EOLs that it misses.
use Rattle.fax_reading.proofs.Names.{common_steps, ◌≡◌, ◌+◌, ◌-◌, ◌≤◌, ℕ, Bool, false, cond, List, [], ◌∷◌}
use Rattle.fax_reading.proofs.Names.{length, Ok, Err, arith, cond-true, cond-false, eq-eqb, ne_eqb, le-leb, Bits}
use Rattle.fax_reading.proofs.Names.{length-append, DecodeError, DecodeSettings, Held, Repairs, fresh, Damaged, Line}
use Rattle.fax_reading.proofs.Names.{repaired_in, missed_after, cuts_run, cut_in, cut_since, cuts_with, repairs_with, Progress}
use Rattle.fax_reading.proofs.Names.{repairs_after, row_of_line, with_row, context_at, Row, missed_since, start_in}

-- ---- Rows in which a run is cut

-- counting one changes nothing else
pub cuts_keep : (cut : Bool) (taken : ℕ) (before : Repairs)
    → cuts_with cut taken before ≡ record before { cut = (cuts_with cut taken before).cut }
cuts_keep cut taken before = grind arith

-- an accepted row is counted, if a run of it was cut
pub cut_counts : (line strict : Line) (taken : ℕ) (before : Repairs) (x : Damaged) → before.cut ≤ taken →
    (repairs_with line strict taken before).cut ≡ before.cut + length (cond {A = List Damaged} (cuts_run line strict) (x ∷ []) [])
cut_counts line strict taken before x few = grind (arith, cond-true, le-leb)

-- it is one row at most
pub cut_once : (line strict : Line) (x : Damaged) → length (cond {A = List Damaged} (cuts_run line strict) (x ∷ []) []) ≤ 1
cut_once line strict x = grind (arith, common_steps)

-- and it is reported
pub cut_is_reported : (cut : Bool) (x : Damaged) (now : Repairs) (before : ℕ) → now.cut ≡ before + length
    (cond {A = List Damaged} cut (x ∷ []) []) → cut_since now before ≡ cut_in (cond {A = List Damaged} cut (x ∷ []) [])
cut_is_reported cut x now before more = grind (arith, ne_eqb, eq-eqb)

-- where there is no row, none is cut
pub cut_none : (settings : DecodeSettings) (has_eols : Bool) (start : Bits) (line strict : Line) (e : DecodeError)
    → row_of_line settings has_eols start line ≡ Err e → cuts_run line strict ≡ false
cut_none settings has_eols start line strict e is = grind arith

-- ---- Rows that are repaired

-- an accepted row is counted, if its line was repaired
pub repaired_counts : (settings : DecodeSettings) (has_eols : Bool) (index offset : ℕ) (start : Bits) (line strict : Line)
    (row : Row) (rest : Bits) (taken : ℕ) (before : Repairs) → row_of_line settings has_eols start line ≡ Ok (row, rest)
    → (repairs_with line strict taken before).rows ≡ before.rows + length (repaired_in settings has_eols index offset line)
repaired_counts settings has_eols index offset start line strict row rest taken before is =
    grind (arith, cuts_keep, cond-true, cond-false)

-- and where there is no row, nothing is repaired
pub repaired_none : (settings : DecodeSettings) (has_eols : Bool) (index offset : ℕ) (start : Bits) (line : Line)
    (e : DecodeError) → row_of_line settings has_eols start line ≡ Err e → repaired_in settings has_eols index offset line ≡ []
repaired_none settings has_eols index offset start line e is = grind (arith, cond-true, cond-false)

-- ---- EOLs that are missed

-- the gap after a row repairs none, and cuts none
pub repaired_after : (held : Held) (here : Bits) → ((repairs_after held here).rows ≡ held.repairs.rows)
    × ((repairs_after held here).last ≡ held.repairs.last) × ((repairs_after held here).cut ≡ held.repairs.cut)
repaired_after held here = grind arith

-- so the first gap of Group 4 changes nothing but whether EOLs are sought
pub first_gap_left : (held last : Held) (here : Bits) → held ≡ fresh held.settings
    → last ≡ record held { has_eols = last.has_eols; repairs = last.repairs } → last.repairs ≡ repairs_after held here
    → last ≡ record (fresh held.settings) { has_eols = last.has_eols }
first_gap_left held last here begins frame missed = grind (arith, common_steps)

-- the EOL after one more row is counted, if it was missed and the row wasn't repaired
pub missed_counts : (settings : DecodeSettings) (bits : Bits) (so_far : Progress) (line strict : Line) (row : Row) (rest : Bits)
    (before : Repairs) → row_of_line settings so_far.has_eols so_far.rest line ≡ Ok (row, rest) → before.last ≤ length so_far.rows
    → before.missed ≤ length so_far.rows → (repairs_after (context_at settings (with_row so_far row rest) (repairs_with line
    strict (length so_far.rows) before)) rest).missed ≡ before.missed + length (missed_after settings bits so_far line)
missed_counts settings bits so_far line strict row rest before is last few = grind (arith, common_steps, cuts_keep, length-append)

-- it is missed where its row ends
pub missed_starts : (settings : DecodeSettings) (bits : Bits) (so_far : Progress) (line : Line) (row : Row) (rest : Bits)
    → row_of_line settings so_far.has_eols so_far.rest line ≡ Ok (row, rest) → (after : Repairs) (before : ℕ)
    → after.missed ≡ before + length (missed_after settings bits so_far line)
    → missed_since after before (length bits - length rest) ≡ start_in (missed_after settings bits so_far line)
missed_starts settings bits so_far line row rest is after before more = grind
    (arith, common_steps, cond-true, eq-eqb, cond-false, ne_eqb)

-- where there is no row, no EOL is missed
pub missed_none : (settings : DecodeSettings) (bits : Bits) (so_far : Progress) (line : Line) (e : DecodeError)
    → row_of_line settings so_far.has_eols so_far.rest line ≡ Err e → missed_after settings bits so_far line ≡ []
missed_none settings bits so_far line e is = grind arith

module _ (settings : DecodeSettings) (bits : Bits) (so_far : Progress) (line strict : Line) (row : Row) (rest : Bits)
    (before : Repairs) (is : row_of_line settings so_far.has_eols so_far.rest line ≡ Ok (row, rest))
    (last : before.last ≤ length so_far.rows) (few : before.missed ≤ length so_far.rows) where
  -- what is counted after one more row
  abbrev then : Repairs
  then = repairs_after (context_at settings (with_row so_far row rest) (repairs_with line strict
      (length so_far.rows) before)) rest

  pub few_after : then.missed ≤ length so_far.rows + 1
  few_after = grind (arith, common_steps, few, missed_counts settings bits so_far line strict row rest before is last few)

  pub last_after : then.last ≤ length so_far.rows + 1
  last_after = grind (
    arith,
    common_steps,
    (repaired_after (context_at settings (with_row so_far row rest) (repairs_with line strict (length so_far.rows) before))
        rest).1,
  )
