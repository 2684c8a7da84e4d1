-- The text of data that was read to its end.
use Rattle.faxrows_lib.proofs.Names.{◌≡◌, ◌++◌, ◌∙◌, ℕ, List, [], Option, Result, RunFault, Write, drop, refl, sym, subst}
use Rattle.faxrows_lib.proofs.Names.{take, Appends}
use Rattle.faxrows_lib.proofs.Names.{Appends-trans, AppendsFront, Bits, BitOrder, DecodeSettings, Done, EndsByRow, Feeding, Ok}
use Rattle.faxrows_lib.proofs.Names.{Err}
use Rattle.faxrows_lib.proofs.Names.{IsBegunBy, IsReadToEnd, IsTextByRow, IsTextWithoutMemory, IsUnderWay, Outcome, PassesOn}
use Rattle.faxrows_lib.proofs.Names.{PutsRows, Used, WritesAsRead, bytes_after, bytes_before, done_of, line_of_outcome}
use Rattle.faxrows_lib.proofs.Names.{line_of_row}
use Rattle.faxrows_lib.proofs.Names.{lines_of_rows, outcome_of, rows_of, text_after, whole_text, Bool, Some, HasPut, IfErr}
use Rattle.faxrows_lib.proofs.Names.{bits_in, true}
use Rattle.faxrows_lib.proofs.{Outputs.passes_both, Outputs.front_following, Outputs.front_of_more, Outputs.front_of_waiting}
use Rattle.faxrows_lib.proofs.{Outputs.front_of_longer, Outputs.pieces_rest, RunsByRow.text_by_row, Texts.whole_end}
use Rattle.faxrows_lib.proofs.RowsUnderWay.{front_as_read, text_as_read, way_put}

-- a front of a text that may be written of some bits
abbrev pub WritesFront : DecodeSettings → Bits → Option (List ℕ) → Option (List ℕ) → Type 0
WritesFront settings bits before after =
    (done : Done) × (text : List ℕ) × IsTextByRow settings bits done text × AppendsFront before after text

-- a front of the lines of all rows is one of the whole text
pub front_of_lines : (settings : DecodeSettings) (bits : Bits) (before after : Option (List ℕ))
    → AppendsFront before after (lines_of_rows (rows_of settings bits)) → WritesFront settings bits before after
front_of_lines settings bits before after front =
    let whole = whole_end (outcome_of settings bits) (whole_text settings bits) (IsTextWithoutMemory settings bits) in (
      whole.0,
      whole_text settings bits,
      whole.1,
      front_of_more before after (lines_of_rows (rows_of settings bits)) (line_of_outcome (outcome_of settings bits)) front,
    )

-- so is a front of the lines so far
pub front_of_put : (start now later : Option (List ℕ)) {bits : Bits} {feed : Feeding} {waits : List ℕ}
    → HasPut start now bits feed waits → AppendsFront now later waits
    → WritesFront feed.ctx.held.settings bits start later
front_of_put start now later {bits} {feed} {waits} put front =
    let rows = rows_of feed.ctx.held.settings bits in
    let taken = feed.ctx.held.taken in
    front_of_lines feed.ctx.held.settings bits start later
    (subst (AppendsFront start later) (pieces_rest line_of_row rows taken)
    (front_of_longer start later [] (lines_of_rows (take taken rows)) _
    (front_of_waiting start now later [] (lines_of_rows (take taken rows)) waits put.lines front)))

-- a statement about the fault of a result
pub if_err : {S : Type 0} (P : RunFault → Type 0) (result : Result S RunFault) (fault : RunFault) → result ≡ Err fault → P fault
    → IfErr result P
if_err {S} P result fault e holds = subst (λ (r : Result S RunFault). IfErr r P) (sym e) holds

-- the writer failed while rows were put
pub put_fails : {R W : Type 0} {settings : DecodeSettings} {order : BitOrder} {reader : Used R} {writer : Used W}
    {now : Option (List ℕ)} {old : Feeding} {waited : List ℕ} {fault : RunFault}
    → IsUnderWay settings order reader (bytes_before writer) now old waited → reader.after.1 ≡ reader.before.1
    → ((start : Option (List ℕ)) (whole : Bits) → HasPut start now whole old waited
    → AppendsFront start (bytes_after writer) (lines_of_rows (rows_of old.ctx.held.settings whole)))
    → fault ≡ Write → writer.after.1 ≡ true → WritesAsRead IsTextByRow settings order reader writer (Err fault)
put_fails {order = order} {writer = writer} {old = old} {fault = fault} way read front only failed =
    front_as_read IsTextByRow writer way read fault only (λ whole begun.
    subst (λ (s : DecodeSettings). WritesFront s (bits_in order whole) (bytes_before writer) (bytes_after writer))
    way.settings_are (front_of_lines old.ctx.held.settings (bits_in order whole) (bytes_before writer) (bytes_after writer)
    (front (bytes_before writer) (bits_in order whole) (way.put whole begun)))) failed

-- or while what waited was written
pub waits_fail : {R W : Type 0} {settings : DecodeSettings} {order : BitOrder} {reader : Used R} {writer : Used W}
    {now : Option (List ℕ)} {feed : Feeding} {waits : List ℕ} {fault : RunFault}
    → IsUnderWay settings order reader (bytes_before writer) now feed waits → reader.after.1 ≡ reader.before.1
    → AppendsFront now (bytes_after writer) waits → fault ≡ Write → writer.after.1 ≡ true
    → WritesAsRead IsTextByRow settings order reader writer (Err fault)
waits_fail {order = order} {writer = writer} {now = now} {feed = feed} {fault = fault} way read front only failed =
    front_as_read IsTextByRow writer way read fault only (λ whole begun.
    subst (λ (s : DecodeSettings). WritesFront s (bits_in order whole) (bytes_before writer) (bytes_after writer))
    way.settings_are (front_of_put (bytes_before writer) now (bytes_after writer) (way.put whole begun) front)) failed

-- the reading ended, and its rows were put
pub read_to_end : {R W : Type 0} {settings : DecodeSettings} {order : BitOrder} {reader : Used R} {start : Option (List ℕ)}
    {writer : Used W} {old new : Feeding} {waited waits : List ℕ} {outcome : Outcome}
    → IsUnderWay settings order reader start (bytes_before writer) old waited
    → PutsRows writer old new waited waits (Ok (Some outcome))
    → IsReadToEnd settings order reader start (bytes_after writer) new waits outcome
read_to_end {order = order} {start = start} {new = new} {outcome = outcome} way puts = record {
  so_far = way_put way puts;
  ends = λ whole begun.
      subst (λ (s : DecodeSettings). EndsByRow s (bits_in order whole) new.ctx.held.taken outcome) way.settings_are
      (puts.ends start (bits_in order whole)
      (way.put whole (subst (λ (b : Bool). IsBegunBy way.input b whole) puts.keeps.finished begun)));
}

module _ {R W : Type 0} {settings : DecodeSettings} {order : BitOrder} {reader : Used R} (writer : Used W)
    {first : Option (List ℕ)} {feed : Feeding} {waits : List ℕ} {outcome : Outcome}
    (end : IsReadToEnd settings order reader (bytes_before writer) first feed waits outcome) where
  -- the text of all rows, and how the reading ended
  abbrev text : List ℕ → List ℕ
  text whole = text_after settings (bits_in order whole) feed.ctx.held.taken outcome

  module _ (whole : List ℕ) (begun : IsBegunBy end.so_far.input feed.finished whole) where
    is_text : IsTextByRow settings (bits_in order whole) (done_of outcome) (text whole)
    is_text = text_by_row settings (bits_in order whole) feed.ctx.held.taken outcome (end.ends whole begun)

    lines : PassesOn (bytes_before writer) first []
        (lines_of_rows (take feed.ctx.held.taken (rows_of settings (bits_in order whole)))) waits
    lines = subst (λ (s : DecodeSettings). PassesOn (bytes_before writer) first []
        (lines_of_rows (take feed.ctx.held.taken (rows_of s (bits_in order whole)))) waits) end.so_far.settings_are
        (end.so_far.put whole begun).lines

    passes : (second : Option (List ℕ)) (left : List ℕ) → PassesOn first second waits (line_of_outcome outcome) left
        → PassesOn (bytes_before writer) second [] (text whole) left
    passes second left line = passes_both (bytes_before writer) first second [] _ waits (line_of_outcome outcome) left lines line

  -- the last line couldn't be put
  pub line_fails : reader.after.1 ≡ reader.before.1 → (fault : RunFault) → fault ≡ Write
      → AppendsFront first (bytes_after writer) (waits ++ line_of_outcome outcome) → writer.after.1 ≡ true
      → WritesAsRead IsTextByRow settings order reader writer (Err fault)
  line_fails read fault only front failed =
      front_as_read IsTextByRow writer end.so_far read fault only (λ whole begun. (
        done_of outcome,
        text whole,
        is_text whole begun,
        front_following (bytes_before writer) first (bytes_after writer) [] _ waits (line_of_outcome outcome) (lines whole begun)
            front,
      )) failed

  -- what waits couldn't be written
  pub flush_fails : reader.after.1 ≡ reader.before.1 → (second : Option (List ℕ)) (left : List ℕ)
      → PassesOn first second waits (line_of_outcome outcome) left → (fault : RunFault)
      → fault ≡ Write → AppendsFront second (bytes_after writer) left → writer.after.1 ≡ true
      → WritesAsRead IsTextByRow settings order reader writer (Err fault)
  flush_fails read second left line fault only front failed =
      front_as_read IsTextByRow writer end.so_far read fault only (λ whole begun. (
        done_of outcome,
        text whole,
        is_text whole begun,
        front_of_waiting (bytes_before writer) second (bytes_after writer) [] (text whole) left
            (passes whole begun second left line) front,
      )) failed

  -- all was written
  pub all_written : reader.after.1 ≡ reader.before.1 → (second : Option (List ℕ)) (left : List ℕ)
      → PassesOn first second waits (line_of_outcome outcome) left → Appends second (bytes_after writer) left
      → writer.after.1 ≡ writer.before.1
      → WritesAsRead IsTextByRow settings order reader writer (Ok (done_of outcome))
  all_written read second left line wrote kept =
      text_as_read IsTextByRow writer end.so_far read (done_of outcome) (λ whole begun.
      let p = passes whole begun second left line in (
        text whole,
        is_text whole begun,
        subst (Appends (bytes_before writer) (bytes_after writer)) (sym p.2)
            (Appends-trans (bytes_before writer) second (bytes_after writer) p.0 left p.1 wrote),
      )) kept

-- a result that is an error
pub as_fault : {R W : Type 0} {settings : DecodeSettings} {order : BitOrder} {reader : Used R} {writer : Used W}
    (result : Result Done RunFault) (fault : RunFault) → result ≡ Err fault
    → WritesAsRead IsTextByRow settings order reader writer (Err fault)
    → WritesAsRead IsTextByRow settings order reader writer result
as_fault {settings = settings} {order = order} {reader = reader} {writer = writer} result fault e writes =
    subst (WritesAsRead IsTextByRow settings order reader writer) (sym e) writes

-- or a good end
pub as_done : {R W : Type 0} {settings : DecodeSettings} {order : BitOrder} {reader : Used R} {writer : Used W}
    (done other : Done) → done ≡ other → WritesAsRead IsTextByRow settings order reader writer (Ok other)
    → WritesAsRead IsTextByRow settings order reader writer (Ok done)
as_done {settings = settings} {order = order} {reader = reader} {writer = writer} done other e writes =
    subst (λ (d : Done). WritesAsRead IsTextByRow settings order reader writer (Ok d)) (sym e) writes
