-- Rows that come one after another, as lines.
use Rattle.faxrows_lib.proofs.Names.{◌≡◌, ◌<◌, ◌≤◌, ◌+◌, ◌/◌, ℕ, List, [], ◌++◌, refl, true, false, Ok, Err, length, take}
use Rattle.faxrows_lib.proofs.Names.{get_or, sym}
use Rattle.faxrows_lib.proofs.Names.{ap, ◌∙◌, subst, rules, arith, get_or-map, length-map, DecodeError, kind_of}
use Rattle.faxrows_lib.proofs.Names.{DecodeSettings, Bits, plain, changes, RowsRead, ReadsNext}
use Rattle.faxrows_lib.proofs.Names.{HasFailed, EndsAfter, EndsByRow, IsFault, outcome_of, rows_of, line_of_row, lines_of_rows}
use Rattle.faxrows_lib.proofs.{Outputs.pieces_more}
use Rattle.hayro_ccitt.proofs.ErrorKinds.{by_kind, of_fault_kind}

-- the row of some data with this index came
pub record Came (settings : DecodeSettings) (bits : Bits) (index : ℕ) (new : RowsRead) : Type 0 where
  pub settings_are : new.settings ≡ settings
  pub bits_are : new.bits ≡ bits
  pub taken : new.taken ≡ index + 1
  pub within : new.taken ≤ length (rows_of settings bits)
  pub lines : lines_of_rows (take index (rows_of settings bits)) ++ line_of_row (changes new.row) ≡ lines_of_rows
      (take new.taken (rows_of settings bits))

-- the rows of the same data
same_rows : (s t : DecodeSettings) (b c : Bits) → s ≡ t → b ≡ c → rows_of s b ≡ rows_of t c
same_rows s t b c p q = ap (λ (x : DecodeSettings). rows_of x b) p ∙ ap (rows_of t) q

-- the lines of the first n rows, and of the next one
lines_more : (rows : List (List ℕ)) (row : List ℕ) (index taken : ℕ) → index < length rows → row ≡ get_or rows index []
    → taken ≡ index + 1 → lines_of_rows (take index rows) ++ line_of_row row ≡ lines_of_rows (take taken rows)
lines_more rows row index taken inside is next =
    ap (λ (r : List ℕ). lines_of_rows (take index rows) ++ line_of_row r) is ∙ pieces_more line_of_row rows index [] inside
    ∙ ap (λ (n : ℕ). lines_of_rows (take n rows)) (sym next)

-- a call that reads a row reads the next one
pub came : (settings : DecodeSettings) (bits : Bits) (old new : RowsRead) → old.settings ≡ settings → old.bits ≡ bits
    → ReadsNext old new (Ok true) → Came settings bits old.taken new
came settings bits old new of_settings of_bits reads =
    let more = reads.more refl in
    let rows = (plain old.settings old.bits).rows in
    let same : rows_of old.settings old.bits ≡ rows_of settings bits
    = same_rows old.settings settings old.bits bits of_settings of_bits in
    let long : length (rows_of settings bits) ≡ length rows = ap length (sym same) ∙ length-map rows changes in
    let inside : old.taken < length (rows_of settings bits) = omega (arith, long, more.1, more.2) in
    let row : changes new.row ≡ get_or (rows_of settings bits) old.taken []
    = ap changes (reads.row refl) ∙ sym (get_or-map changes rows old.taken [] [] (omega (arith, more.1, more.2))) ∙ ap
    (λ (l : List (List ℕ)). get_or l old.taken []) same in
    record {
      settings_are = reads.settings ∙ of_settings;
      bits_are = reads.bits ∙ of_bits;
      taken = more.1;
      within = omega (arith, long, more.2);
      lines = lines_more (rows_of settings bits) (changes new.row) old.taken new.taken inside row more.1;
    }

-- after a call that finds no row the reading has ended well
pub ended_well : (settings : DecodeSettings) (bits : Bits) (old new : RowsRead) (count : ℕ) → old.settings ≡ settings
    → old.bits ≡ bits → ReadsNext old new (Ok false) → count ≡ (new.place + 7) / 8 → EndsByRow settings bits new.taken (Ok count)
ended_well settings bits old new count of_settings of_bits reads is =
    let end = (reads.end refl).2 in
    let all : new.taken ≡ length (rows_of old.settings old.bits)
    = end.all ∙ sym (length-map (plain old.settings old.bits).rows changes) in
    let here : EndsByRow old.settings old.bits new.taken (Ok count)
    = ((all, end.count ∙ ap Ok (sym is)), λ never. search rules) in
    subst (λ (s : DecodeSettings). EndsByRow s bits new.taken (Ok count)) of_settings
    (subst (λ (b : Bits). EndsByRow old.settings b new.taken (Ok count)) of_bits here)

-- a fault that ends a reading ends it after all rows
ended_by : (settings : DecodeSettings) (bits : Bits) (taken place : ℕ) (error : DecodeError)
    → HasFailed settings bits taken place error → IsFault error
    → (taken ≡ length (rows_of settings bits)) × (outcome_of settings bits ≡ Err error)
ended_by settings bits taken place error failed fault =
    (failed.all fault ∙ sym (length-map (plain settings bits).rows changes), failed.fault fault)

-- a reading that has failed, after at most all rows, ends like this
pub failed_so : (settings : DecodeSettings) (bits : Bits) (taken place : ℕ) (error : DecodeError)
    → HasFailed settings bits taken place error → taken ≤ length (rows_of settings bits)
    → EndsAfter settings bits taken (Err error)
failed_so settings bits taken place error failed within =
    by_kind (λ error. HasFailed settings bits taken place error → EndsAfter settings bits taken (Err error))
    (λ error fault failed. of_fault_kind (kind_of error) _ _ _ fault (ended_by settings bits taken place error failed fault))
    (λ failed. (within, failed.memory refl)) (λ failed. absurd (failed.not_refused refl)) error failed

-- after a call that fails the reading has ended with its error
pub ended_badly : (settings : DecodeSettings) (bits : Bits) (old new : RowsRead) (error : DecodeError) → old.settings ≡ settings
    → old.bits ≡ bits → old.taken ≤ length (rows_of settings bits) → ReadsNext old new (Err error)
    → EndsByRow settings bits new.taken (Err error)
ended_badly settings bits old new error of_settings of_bits within reads =
    let same : rows_of old.settings old.bits ≡ rows_of settings bits
    = same_rows old.settings settings old.bits bits of_settings of_bits in
    let failed : HasFailed settings bits new.taken new.place error
    = subst (λ (s : DecodeSettings). HasFailed s bits new.taken new.place error) of_settings
    (subst (λ (b : Bits). HasFailed old.settings b new.taken new.place error) of_bits reads.error.2) in (
      failed_so settings bits new.taken new.place error failed (omega (arith, within, reads.error.1)),
      λ refused. failed.not_refused (search rules),
    )
