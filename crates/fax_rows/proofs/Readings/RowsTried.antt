-- A row that no data that follows can change, and a line that is left.
use Rattle.fax_rows.proofs.Names.{common_steps}
use Rattle.fax_rows.proofs.Names.{◌≡◌, ◌≤◌, ℕ, Bool, true, false, [], ◌++◌, length, Result, Ok, Err, OnOk, refl}
use Rattle.fax_rows.proofs.Names.{ap}
use Rattle.fax_rows.proofs.Names.{subst, DecodeError, IsFault, OnAnswer, DrawsLine, Row, Bits, Line, Held, Context, Repairs}
use Rattle.fax_rows.proofs.Names.{AreWholeBytes}
use Rattle.fax_rows.proofs.Names.{TakesOneRow, repairs_with, line_here, front_of}
use Rattle.fax_rows.proofs.Names.{append-nil, IfErr, inl, inr, ◌⊎◌, BitsAt, here, row_came, ◌≢◌, arith, redrawn, White}
use Rattle.fax_reading.proofs.Continuations.ShortLines.{line_stays}
use Rattle.fax_reading.proofs.DrawingLines.FullRows.{IsFull}
use Rattle.fax_reading.specs.Continuations.{StaysAsRead, is_short, line_before, row_continued}
use Rattle.fax_rows.specs.RowsTried.{ReadsRow, CanCome, TriesRow, falls_short, lacks_memory, needs_more}
use Rattle.fax_bits.specs.declared.error.DecodeError.TheVariants.{OutOfMemory}
use Rattle.fax_rows.proofs.Names.{◌∙◌, sym, false≢true, kind_of, no_memory}
use Rattle.fax_bits.proofs.ErrorKinds.{at_fault_kind, no_memory_is}

-- a line that was drawn to its end is full
pub drawn_full : (columns : ℕ) (line : Line) (answer : Result (Unit {0}) DecodeError) (front : Row) (rest : Bits)
    → IsFull columns line → DrawsLine line answer front rest → OnOk answer (columns ≤ length front)
drawn_full columns line (Ok x) front rest full drawn = subst (IsFull columns) drawn full
drawn_full columns line (Err e) front rest full drawn = tt

-- a line that was drawn until it ended or broke isn't short if its error isn't the end of the data
pub isnt_short : (line : Line) (answer : Result (Unit {0}) DecodeError) (front : Row) (rest : Bits)
    → DrawsLine line answer front rest
    → falls_short answer ≡ false → OnAnswer answer (is_short line ≡ false)
isnt_short line (Ok x) front rest drawn other = ap is_short drawn
isnt_short line (Err e) front rest drawn other = λ fault. ap is_short (at_fault_kind (kind_of e) _ _ _ fault drawn) ∙ other

-- a line with more bits after it has the same front, is as broken, and counts as the same damage
pub same_front : (more : Bits) (line : Line) → front_of (line_before more line) ≡ front_of line
same_front more (Line.whole row rest) = refl
same_front more (Line.broken front fault) = refl

same_repairs : (more : Bits) (line strict : Line) (taken : ℕ) (before : Repairs)
    → repairs_with (line_before more line) (line_before more strict) taken before ≡ repairs_with line strict taken before
same_repairs more (Line.whole row rest) (Line.whole other after) taken before = refl
same_repairs more (Line.whole row rest) (Line.broken front fault) taken before = refl
same_repairs more (Line.broken front fault) strict taken before = refl

-- the row of a line is taken, also with more bits after it
row_continues : (more : Bits) (line strict : Line) (row : Result (Row × Bits) DecodeError) (old new : Held)
    (answer : Result (Unit {0}) DecodeError) (rest : Bits) → TakesOneRow line strict row old new answer rest
    → TakesOneRow (line_before more line) (line_before more strict) (row_continued more row) old new answer (rest ++ more)
row_continues more line strict row old new (Ok x) rest takes = grind (arith, common_steps, same_repairs)
row_continues more line strict row old new (Err e) rest takes = grind (arith, common_steps, same_front)

-- a row that was read is the same whatever follows, where its line stays as it was read
pub row_goes_on : (old new : Context) (answer : Result (Unit {0}) DecodeError) (start rest more : Bits)
    → StaysAsRead old.held.settings old.held.reference start → AreWholeBytes more → ReadsRow old new answer start rest
    → ReadsRow old new answer (start ++ more) (rest ++ more)
row_goes_on old new answer start rest more stays bytes read = grind (arith, common_steps, row_continues, same_front)

-- nothing follows the last data
pub nothing_follows : (old new : Context) (answer : Result (Unit {0}) DecodeError) (start rest more : Bits) → more ≡ []
    → ReadsRow old new answer start rest → ReadsRow old new answer (start ++ more) (rest ++ more)
nothing_follows old new answer start rest more none read = grind (arith, common_steps, append-nil)

-- no data that follows changes a line for which none is needed
pub settled : (is_last : Bool) (line : Line) (answer : Result (Unit {0}) DecodeError) (front : Row) (rest : Bits)
    → DrawsLine line answer front rest → needs_more is_last answer ≡ false
    → OnAnswer answer ((is_last ≡ true) ⊎ (is_short line ≡ false))
settled true line (Ok x) front rest drawn enough = inl refl
settled true line (Err e) front rest drawn enough = λ fault. inl refl
settled false line (Ok x) front rest drawn enough = inr (isnt_short line (Ok x) front rest drawn enough)
settled false line (Err e) front rest drawn enough = λ fault. inr (isnt_short line (Err e) front rest drawn enough fault)

-- so its row is the same
pub goes_on : (is_last : Bool) (old new : Context) (answer : Result (Unit {0}) DecodeError) (start rest : Bits)
    → (is_last ≡ true) ⊎ (is_short (line_here old.held.settings old.held.reference start) ≡ false)
    → ReadsRow old new answer start rest → (more : Bits) → CanCome is_last more
    → ReadsRow old new answer (start ++ more) (rest ++ more)
goes_on is_last old new answer start rest (inl last) read more come = grind (arith, common_steps, nothing_follows)
goes_on is_last old new answer start rest (inr whole) read more come =
    row_goes_on old new answer start rest more (line_stays old.held.settings old.held.reference start whole) come.bytes read

-- what a line's result says where its row was taken, or its fault returned
module _ {P : Type 0} where
  said_taken : (line : Result (Unit {0}) DecodeError) → OnAnswer line P → IfErr line (λ e. IsFault e) → P
  said_taken (Ok x) said fault = said
  said_taken (Err e) said fault = said fault

  said_failed : (line : Result (Unit {0}) DecodeError) (e : DecodeError) → OnAnswer line P → IsFault e → line ≡ Err e → P
  said_failed line e said fault is = subst (λ (r : Result (Unit {0}) DecodeError). OnAnswer r P) is said fault

module _ (is_last : Bool) (old new : Context) (before after : BitsAt) (line : Result (Unit {0}) DecodeError)
    (said : OnAnswer line
    ((is_last ≡ true) ⊎ (is_short (line_here old.held.settings old.held.reference (here before)) ≡ false))) where
  failed : (e : DecodeError) → e ≢ OutOfMemory → ReadsRow old new (Err e) (here before) (here after)
      → (IsFault e → line ≡ Err e) → TriesRow is_last old new (Err e) before after
  failed e other read same = record {
    read = λ is. cc;
    failed = λ fault.
        goes_on is_last old new (Err e) (here before) (here after) (said_failed line e said fault (same fault)) read;
    left = λ is. absurd (other is);
    short = λ is. cc;
    memory = λ is. absurd (other cc);
    not_refused = λ is. read.row.not_refused cc;
    counts = read.counts;
    at_most = read.at_most;
    space = read.space;
  }

  -- so the row here is read, or its fault returned
  pub tries : (row : Result (Unit {0}) DecodeError) → lacks_memory row ≡ false
      → ReadsRow old new row (here before) (here after) → OnOk row (IfErr line (λ e. IsFault e))
      → IfErr row (λ e. IsFault e → line ≡ Err e) → TriesRow is_last old new (row_came row) before after
  tries (Ok x) enough read repairable same = record {
    read = λ is. goes_on is_last old new (Ok x) (here before) (here after) (said_taken line said repairable) read;
    failed = tt;
    left = λ is. cc;
    short = λ is. cc;
    memory = λ is. cc;
    not_refused = λ is. cc;
    counts = read.counts;
    at_most = read.at_most;
    space = read.space;
  }
  tries (Err e) enough read repairable same = failed e (λ is. false≢true (sym enough ∙ ap no_memory is)) read same

-- a line whose row can't be stored is left
pub leaves_row : (is_last : Bool) (old mid new : Context) (row : Result (Unit {0}) DecodeError) (before after : BitsAt)
    (rest : Bits)
    → ReadsRow old mid row (here before) rest → lacks_memory row ≡ true
    → new ≡ record mid { held = redrawn mid.held [] White; passed = 0; cut = false }
    → TriesRow is_last old new (Err OutOfMemory) before after
leaves_row is_last old mid new (Ok x) before after rest read lacks frame = absurd cc
leaves_row is_last old mid new (Err e) before after rest read lacks frame = grind (arith, common_steps, no_memory_is)
