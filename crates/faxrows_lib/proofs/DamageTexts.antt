-- What a run writes of the damage, from how the reading ended.
use Rattle.faxrows_lib.proofs.Names.{◌≡◌, ◌≢◌, ◌≤◌, ◌+◌, ◌-◌, ℕ, zero, suc, Bool, List, [], ◌++◌, refl, true, sym, ap}
use Rattle.faxrows_lib.proofs.Names.{subst, ◌∙◌, Result, Ok, Err, length, get_or, append_assoc, append-nil, arith, Option}
use Rattle.faxrows_lib.proofs.Names.{None, Some}
use Rattle.faxrows_lib.proofs.Names.{DecodeError}
use Rattle.faxrows_lib.proofs.Names.{DecodeSettings, Bits, line_starts, failed_at, RowsRead, ReadsNext, at_end_of_rows}
use Rattle.faxrows_lib.proofs.Names.{AppendsFront}
use Rattle.faxrows_lib.proofs.Names.{IsDamageText, IsDamageWithoutMemory, damage_after, damage_lines}
use Rattle.faxrows_lib.proofs.Names.{damage_of_row, line_of_damage, whole_damage, Outcome, done_of, outcome_of}
use Rattle.faxrows_lib.proofs.Names.{rows_of}
use Rattle.faxrows_lib.proofs.Names.{EndsByRow, line_of_miss, miss_of_row, missed_before, misses_by_line, repair_of_row}
use Rattle.faxrows_lib.proofs.Names.{start_in, fault_in, repairs_by_line}
use Rattle.faxrows_lib.proofs.Outputs.{front_of_longer, front_of_more}
use Rattle.faxrows_lib.proofs.RunsByRow.{cut_by_row}
use Rattle.faxrows_lib.proofs.Texts.{end_of_run}

-- ---- The lines of the rows

-- the lines of the first n rows are the front of those of more
damage_rest : (settings : DecodeSettings) (bits : Bits) (rows more : ℕ)
    → (rest : List ℕ) × (damage_lines settings bits (more + rows) ≡ damage_lines settings bits rows ++ rest)
damage_rest settings bits rows zero =
    let none : zero + rows ≡ rows = omega arith in
    ([], ap (damage_lines settings bits) none ∙ sym (append-nil (damage_lines settings bits rows)))
damage_rest settings bits rows (suc more) =
    let (rest, same) = damage_rest settings bits rows more in
    let line = damage_of_row settings bits (more + rows) in
    let next : suc more + rows ≡ suc (more + rows) = omega arith in (
      rest ++ line,
      ap (damage_lines settings bits) next ∙ ap (λ l. l ++ line) same ∙ append_assoc (damage_lines settings bits rows) rest line,
    )

-- so a front of them is one of the lines of all rows
pub front_of_damage : (a b : Option (List ℕ)) (settings : DecodeSettings) (bits : Bits) (rows all : ℕ) → rows ≤ all
    → AppendsFront a b (damage_lines settings bits rows) → AppendsFront a b (damage_lines settings bits all)
front_of_damage a b settings bits rows all few front =
    let (rest, same) = damage_rest settings bits rows (all - rows) in
    let whole : (all - rows) + rows ≡ all = omega (arith, few) in
    subst (λ (n : ℕ). AppendsFront a b (damage_lines settings bits n)) whole
    (subst (AppendsFront a b) (sym same) (front_of_longer a b [] (damage_lines settings bits rows) rest front))

-- the line of a row that was read is that of its index
line_is : (old new : RowsRead) → ReadsNext old new (Ok true)
    → line_of_damage (new.taken - 1) new.line_start new.damage new.cut ≡ repair_of_row old.settings old.bits old.taken
line_is old new reads =
    let index : new.taken - 1 ≡ old.taken = omega (arith, (reads.more refl).1) in
    let start = get_or (line_starts old.settings old.bits) old.taken 0 in
    ap (λ (n : ℕ). line_of_damage n new.line_start new.damage new.cut) index
    ∙ ap (λ (n : ℕ). line_of_damage old.taken n new.damage new.cut) (reads.line_start refl)
    ∙ ap (λ (fault : Option DecodeError). line_of_damage old.taken start fault new.cut) (reads.damage refl)
    ∙ ap (line_of_damage old.taken start (fault_in (get_or (repairs_by_line old.settings old.bits) old.taken [])))
    (reads.cut refl)

-- the lines of the first n rows, without that of the EOL after the last one, whose gap is passed with the next row
abbrev pub damage_so_far : DecodeSettings → Bits → ℕ → List ℕ
damage_so_far settings bits zero = []
damage_so_far settings bits (suc row) = damage_lines settings bits row ++ repair_of_row settings bits row

-- with it they are all lines of these rows
miss_added : (settings : DecodeSettings) (bits : Bits) (rows : ℕ)
    → damage_so_far settings bits rows ++ line_of_miss (rows - 1) (missed_before settings bits rows)
    ≡ damage_lines settings bits rows
miss_added settings bits zero = refl
miss_added settings bits (suc row) =
    let index : suc row - 1 ≡ row = omega arith in
    ap (λ (n : ℕ). damage_so_far settings bits (suc row)
    ++ line_of_miss n (start_in (get_or (misses_by_line settings bits) row []))) index
    ∙ append_assoc (damage_lines settings bits row) (repair_of_row settings bits row) (miss_of_row settings bits row)

-- a call reports it
pub miss_reported : (settings : DecodeSettings) (bits : Bits) (old new : RowsRead) (result : Result Bool DecodeError)
    → old.settings ≡ settings → old.bits ≡ bits → ReadsNext old new result → damage_so_far settings bits old.taken
    ++ line_of_miss (old.taken - 1) new.missed ≡ damage_lines settings bits old.taken
miss_reported settings bits old new result of_settings of_bits reads =
    let missed : new.missed ≡ missed_before settings bits old.taken
    = reads.missed ∙ ap (λ (s : DecodeSettings). missed_before s old.bits old.taken) of_settings
    ∙ ap (λ (b : Bits). missed_before settings b old.taken) of_bits in
    ap (λ (m : Option ℕ). damage_so_far settings bits old.taken ++ line_of_miss (old.taken - 1) m) missed
    ∙ miss_added settings bits old.taken

-- a front of the lines without it is one of all lines
pub front_so_far : (a b : Option (List ℕ)) (settings : DecodeSettings) (bits : Bits) (rows all : ℕ) → rows ≤ all
    → AppendsFront a b (damage_so_far settings bits rows) → AppendsFront a b (damage_lines settings bits all)
front_so_far a b settings bits rows all few front =
    front_of_damage a b settings bits rows all few (subst (AppendsFront a b) (miss_added settings bits rows)
    (front_of_more a b (damage_so_far settings bits rows)
    (line_of_miss (rows - 1) (missed_before settings bits rows)) front))

-- with the line of its damage there is one more row
pub damage_more : (settings : DecodeSettings) (bits : Bits) (old new : RowsRead) → old.settings ≡ settings
    → old.bits ≡ bits → ReadsNext old new (Ok true) → damage_lines settings bits old.taken
    ++ line_of_damage (new.taken - 1) new.line_start new.damage new.cut ≡ damage_so_far settings bits new.taken
damage_more settings bits old new of_settings of_bits reads =
    let next : suc old.taken ≡ new.taken = omega (arith, (reads.more refl).1) in
    let line = line_of_damage (new.taken - 1) new.line_start new.damage new.cut in
    let here : damage_lines old.settings old.bits old.taken ++ line ≡ damage_so_far old.settings old.bits new.taken
    = ap (λ l. damage_lines old.settings old.bits old.taken ++ l) (line_is old new reads) ∙ ap
    (damage_so_far old.settings old.bits) next in
    subst (λ (b : Bits). damage_lines settings b old.taken ++ line ≡ damage_so_far settings b new.taken) of_bits
    (subst (λ (s : DecodeSettings). damage_lines s old.bits old.taken ++ line
    ≡ damage_so_far s old.bits new.taken) of_settings here)

-- ---- The place of a fault

-- a reading that first fails at a call hasn't ended before it
pub unended_before : (before : Option (Result (Unit {0}) DecodeError)) (error : DecodeError) (result : Result Bool DecodeError)
    → result ≡ Err error → ((e : DecodeError) → before ≢ Some (Err e))
    → ((end : Result (Unit {0}) DecodeError) → before ≡ Some end → result ≡ at_end_of_rows end) → before ≡ None
unended_before None error result is unfailed ended = refl
unended_before (Some (Ok x)) error result is unfailed ended = let never = sym is ∙ ended (Ok x) refl in absurd cc
unended_before (Some (Err e)) error result is unfailed ended = absurd (unfailed e refl)

-- and it says where it fails
pub failed_there : (old new : RowsRead) (error : DecodeError) → ReadsNext old new (Err error) → old.end ≡ None
    → new.line_start ≡ failed_at new.settings new.bits new.taken
failed_there old new error reads unended =
    reads.fault_start unended ∙ ap (λ (s : DecodeSettings). failed_at s old.bits old.taken) (sym reads.settings)
    ∙ ap (λ (b : Bits). failed_at new.settings b old.taken) (sym reads.bits)
    ∙ ap (failed_at new.settings new.bits) (sym reads.error.1)

-- ---- The whole text

-- with all rows and the result of the plain reading, the whole damage is written
pub all_damage : (settings : DecodeSettings) (bits : Bits) (read : ℕ) (outcome : Outcome) → read ≡ length (rows_of settings bits)
    → outcome_of settings bits ≡ outcome → damage_after settings bits read outcome ≡ whole_damage settings bits
all_damage settings bits read outcome all same =
    ap (λ (n : ℕ). damage_after settings bits n outcome) all
    ∙ ap (damage_after settings bits (length (rows_of settings bits))) (sym same)

-- the text after some rows is one of the end
pub is_damage_text : (settings : DecodeSettings) (bits : Bits) (read : ℕ) (outcome : Outcome)
    → EndsByRow settings bits read outcome
    → IsDamageText settings bits (done_of outcome) (damage_after settings bits read outcome)
is_damage_text settings bits read outcome ends =
    end_of_run settings bits read (damage_after settings bits read) (whole_damage settings bits)
    (IsDamageWithoutMemory settings bits) (all_damage settings bits read) outcome ends.0
    (λ cut. let short = cut_by_row settings bits read (damage_after settings bits read) outcome ends cut in
    (read, short.0, short.1))
