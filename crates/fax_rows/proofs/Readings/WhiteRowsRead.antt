-- White rows that are read one after another are the next ones of the plain reading.
use Rattle.fax_rows.proofs.Names.{common_steps}
use Rattle.fax_rows.proofs.Names.{◌≡◌, ◌+◌, ◌≤◌, ◌∙◌, ℕ, zero, suc, List, [], Ok, ap, arith, refl, sym, take, true}
use Rattle.fax_rows.proofs.Names.{length, get_or}
use Rattle.fax_rows.proofs.Names.{Bits, BitsAt, AfterRow, Context, DecodeSettings, IsStanding, ReadsNext, changes}
use Rattle.fax_rows.proofs.Names.{meaning_after, plain}
use Rattle.fax_rows.proofs.Names.{seen}
use Rattle.fax_rows.proofs.Readings.RowsAgain.{taken_reads, taken_stands, white_unchanging}
use Rattle.fax_rows.proofs.Readings.RowsPushed.{means_pushed, of_same}
use Rattle.fax_rows.specs.WhiteRows.{PassWhite, PassesWhite, Pushed, ReadsWhite}
use Rattle.fax_rows.specs.declared.row_reader.RowState.{RowState}
use Rattle.fax_rows.specs.declared.white_lines.WhiteLines.{WhiteLines}
use Rattle.fax_rows.proofs.Names.{DecodeError, DecodesRows, Err, Result, SinkState, drop, failed_at, here, subst, ◌-◌, ◌<◌}
use Rattle.fax_rows.specs.WhiteRows.{PushesWhite, RefusesWhite, WhiteEnds}
use Rattle.fax_rows.proofs.Readings.RowsPushed.{rows_refused}
use Rattle.fax_rows.proofs.Readings.RowsAgain.{taken_starts, taken_within}

-- what a context keeps
abbrev pub with_rows : ℕ → ℕ → Context → Context
with_rows taken ticks ctx = record ctx { held = record ctx.held { taken = taken }; ticks = ticks }

-- only rows and ticks are counted
pub record CountsRows (old new : Context) : Type 0 where
  pub same : new ≡ with_rows new.held.taken new.ticks old
  pub more : old.held.taken ≤ new.held.taken

pub counts_rows : {M : Type 0} (step : M → List ℕ → M) (lines : WhiteLines) (dropped : ℕ) (old new : Pushed M) (count : ℕ)
    → PassWhite step lines dropped count old new → CountsRows old.ctx new.ctx
counts_rows {M} step lines dropped old new zero pass = grind (arith, common_steps)
counts_rows step lines dropped old new (suc count) pass =
    grind (arith, common_steps, counts_rows step lines dropped old pass.0 count pass.1)

-- the bits are the same
passed_bits : {M : Type 0} (step : M → List ℕ → M) (lines : WhiteLines) (dropped : ℕ) (old new : Pushed M) (count : ℕ)
    → PassWhite step lines dropped count old new → new.at.bits ≡ old.at.bits
passed_bits {M} step lines dropped old new zero pass = ap (λ (p : Pushed M). p.at.bits) pass
passed_bits step lines dropped old new (suc count) pass = ap (λ (b : BitsAt). b.bits) pass.2.reads.takes.passes.moved_on
    ∙ passed_bits step lines dropped old pass.0 count pass.1

-- the reading is after a row, and the sink means the rows so far
pub record IsAfterRows {M : Type 0} (step : M → List ℕ → M) (from : ℕ) (settings : DecodeSettings) (bits : Bits) (start : M)
    (now : Pushed M) : Type 0 where
  pub stands : IsStanding from now.rows now.ctx now.at
  pub aligned_after_row : now.rows.stand ≡ AfterRow
  pub settings_are : now.ctx.held.settings ≡ settings
  pub bits_are : now.at.bits ≡ bits
  pub within : now.ctx.held.taken ≤ length (plain settings bits).rows
  pub means : now.meaning ≡ meaning_after step start (take now.ctx.held.taken (plain settings bits).rows)

module _ {M : Type 0} {step : M → List ℕ → M} {from : ℕ} {settings : DecodeSettings} {bits : Bits} {start : M}
    {lines : WhiteLines} where
  -- a white line is the next row
  module _ {mid new : Pushed M} (following : IsAfterRows step from settings bits start mid)
      (reads : ReadsWhite lines 0 mid new) where
    there : 0 + mid.at.place ≡ mid.at.place
    there = omega arith

    pub white_comes : ReadsNext (seen mid.rows mid.ctx mid.at) (seen new.rows new.ctx new.at) (Ok true)
    white_comes = taken_reads {from = from} following.stands following.aligned_after_row reads.follow there reads.takes

    pub white_following : IsStanding from new.rows new.ctx new.at
    white_following = taken_stands {from = from} following.stands following.aligned_after_row reads.follow there reads.takes

    pub white_within : new.rows.started_at ≤ length new.at.bits
    white_within =
        omega (
          arith,
          ap (λ (b : BitsAt). length b.bits) reads.takes.passes.moved_on,
          taken_within {from = from} following.stands following.aligned_after_row reads.follow there reads.takes,
        )

    -- its line fails where it begins, once it is taken back
    pub white_fails : (last : ℕ) (at : BitsAt) → last ≡ new.ctx.held.taken - 1
        → at ≡ record new.at { place = new.rows.started_at } → length bits - length (here at) ≡ failed_at settings bits last
    white_fails last at back is =
        let taken : last ≡ mid.ctx.held.taken = omega (arith, back, (white_comes.more refl).1) in
        let same : here at ≡ drop new.rows.started_at mid.at.bits =
        ap here is ∙ ap (λ (b : BitsAt). drop new.rows.started_at b.bits) reads.takes.passes.moved_on in
        of_same (λ s b. length b - length (here at) ≡ failed_at s b last) following.settings_are following.bits_are
        (ap (λ (x : Bits). length mid.at.bits - length x) same
        ∙ taken_starts {from = from} following.stands following.aligned_after_row reads.follow there reads.takes
        ∙ ap (failed_at mid.ctx.held.settings mid.at.bits) (sym taken))

    pub white_empty : [] ≡ changes new.ctx.held.reference
    white_empty = white_unchanging reads.follow ∙ ap (λ (x : Context). changes x.held.reference) (sym reads.takes.new_is)

  pub one_on : {mid new : Pushed M} → IsAfterRows step from settings bits start mid → PassesWhite step lines 0 mid new
      → IsAfterRows step from settings bits start new
  one_on {mid} {new} following passes =
      let reads = passes.reads in
      let takes = reads.takes in
      let came = white_comes following reads in
      let rows = (plain settings bits).rows in
      let within : new.ctx.held.taken ≤ length rows =
      of_same (λ s b. new.ctx.held.taken ≤ length (plain s b).rows) following.settings_are following.bits_are
      (came.more refl).2 in
      record {
        stands = white_following following reads;
        aligned_after_row = ap (λ (r : RowState). r.stand) takes.kept_is;
        settings_are = ap (λ (x : Context). x.held.settings) takes.new_is ∙ following.settings_are;
        bits_are = ap (λ (b : BitsAt). b.bits) takes.passes.moved_on ∙ following.bits_are;
        within = within;
        means = means_pushed (λ (w : ℕ). step) 0 0 start mid.meaning new.meaning rows mid.ctx.held.taken new.ctx.held.taken
            new.ctx.held.reference [] refl following.means passes.meaning (white_empty following reads)
            (of_same (λ s b. new.ctx.held.reference ≡ get_or (plain s b).rows mid.ctx.held.taken [])
            following.settings_are following.bits_are (came.row refl)) (came.more refl).1 within;
      }

-- and so on
pub some_on : {M : Type 0} (step : M → List ℕ → M) (from : ℕ) (settings : DecodeSettings) (bits : Bits) (start : M)
    (lines : WhiteLines) (count : ℕ) (old new : Pushed M) → IsAfterRows step from settings bits start old
    → PassWhite step lines 0 count old new → IsAfterRows step from settings bits start new
some_on step from settings bits start lines zero old new following pass = grind (arith, common_steps)
some_on step from settings bits start lines (suc count) old new following pass =
    one_on (some_on step from settings bits start lines count old pass.0 following pass.1) pass.2

-- what white rows leave that were read, each passed to a sink
module _ {M : Type 0} {step : M → List ℕ → M} {lines : WhiteLines} {dropped : ℕ} {before after : SinkState M}
    {rows kept : RowState} {old new : Context} {at next : BitsAt} {answer : Result (Unit {0}) DecodeError}
    (pushes : PushesWhite step lines dropped before after rows kept old new at next answer) where
  abbrev pub white_read : Pushed M
  white_read = record { rows = kept; ctx = new; at = next; meaning = after.meaning }

  pub counted_mid : CountsRows old pushes.mid.ctx
  counted_mid = counts_rows step lines dropped (record { rows = rows; ctx = old; at = at; meaning = before.meaning }) pushes.mid
      pushes.count pushes.pass

  pub refused_after : {error : DecodeError} → answer ≡ Err error
      → RefusesWhite lines dropped after pushes.mid white_read error
  refused_after is = subst (WhiteEnds lines dropped before after pushes.mid white_read) is pushes.ends

  module _ (is : answer ≡ Ok tt) where
    pub came_after : (white_read ≡ pushes.mid) × (after.refused ≡ before.refused)
    came_after = subst (WhiteEnds lines dropped before after pushes.mid white_read) is pushes.ends

    pub counted_now : CountsRows old new
    counted_now = subst (λ (p : Pushed M). CountsRows old p.ctx) (sym came_after.0) counted_mid

    pub bits_now : next.bits ≡ at.bits
    bits_now = ap (λ (p : Pushed M). p.at.bits) came_after.0
        ∙ passed_bits step lines dropped (record { rows = rows; ctx = old; at = at; meaning = before.meaning }) pushes.mid
        pushes.count pushes.pass

-- where the sink refused the row of a white line, and it was taken back
module _ {M : Type 0} {step : M → List ℕ → M} {lines : WhiteLines} {before after : SinkState M} {old last : Context} {bits : Bits}
    {mid new : Pushed M} {damaged cut : ℕ} {error : DecodeError} (wide : 0 < old.held.settings.columns)
    (following : IsAfterRows step old.ticks old.held.settings bits before.meaning mid)
    (refuses : RefusesWhite lines 0 after mid new error) (frame : last ≡ record new.ctx {
      held = record new.ctx.held {
        taken = new.ctx.held.taken - 1;
        repairs = record new.ctx.held.repairs { rows = damaged; cut = cut };
      };
    }) where
  pub white_refused : damaged ≡ new.ctx.held.repairs.rows → cut ≡ new.ctx.held.repairs.cut → after.meaning ≡ new.meaning
      → DecodesRows bits step before after old last (Err error)
  white_refused damaged_is cut_is means =
      let takes = refuses.reads.takes in
      rows_refused wide mid.rows new.rows mid.ctx following.settings_are following.bits_are following.stands
      (white_following following refuses.reads) (ap (λ (r : RowState). r.stand) takes.kept_is)
      (white_comes following refuses.reads) frame
      (damaged_is ∙ ap (λ (x : Context). x.held.repairs.rows) takes.new_is)
      (cut_is ∙ ap (λ (x : Context). x.held.repairs.cut) takes.new_is) (means ∙ refuses.meaning ∙ following.means) refuses.flag
      (subst after.refuses (white_empty following refuses.reads) refuses.row) refuses.is
