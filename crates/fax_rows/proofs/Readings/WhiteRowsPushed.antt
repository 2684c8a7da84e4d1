-- White rows that are read one after another, and passed to a sink.
use Rattle.fax_rows.proofs.Names.{common_steps}
use Rattle.fax_rows.proofs.Names.{◌≡◌, ◌+◌, ◌-◌, ◌<◌, ◌≤◌, ◌∙◌, ℕ, zero, suc, List, [], Ok, Err, ap, arith, refl, subst, sym}
use Rattle.fax_rows.proofs.Names.{BitsAt, AfterRow, Context, DecodeError, None, Refused, Result, SinkState, false, true}
use Rattle.fax_rows.proofs.Readings.RowsAgain.{not_at_limit}
use Rattle.fax_rows.specs.WhiteRows.{TakesWhite}
use Rattle.fax_rows.specs.WhiteLines.{MayFollow, PassesLine}
use Rattle.fax_rows.specs.WhiteRows.{PassWhite, Pushed, PushesWhite, ReadsWhite, WhiteEnds}
use Rattle.fax_rows.specs.declared.row_reader.RowState.{RowState}
use Rattle.fax_rows.specs.declared.white_lines.WhiteLines.{WhiteLines}

-- what is known after so many rows, of which the last one's line begins there
abbrev pub rows_after : ℕ → ℕ → RowState → RowState
rows_after zero start rows = rows
rows_after (suc count) start rows =
    record { started_at = start; damage = None; cut = false; missed = None; stand = AfterRow }

abbrev pub ctx_after : ℕ → Context → Context
ctx_after count ctx =
    record ctx { held = record ctx.held { taken = ctx.held.taken + count }; ticks = ctx.ticks + count + count }

some_after : (count start : ℕ) (rows : RowState) → 0 < count → rows_after count start rows
    ≡ record { started_at = start; damage = None; cut = false; missed = None; stand = AfterRow }
some_after zero start rows some = absurd (omega arith)
some_after (suc count) start rows some = refl

-- no row was passed
still_there : {M : Type 0} (step : M → List ℕ → M) (lines : WhiteLines) (dropped : ℕ) (old new : Pushed M) (count : ℕ)
    → count ≡ 0 → PassWhite step lines dropped count old new → new ≡ old
still_there step lines dropped old new zero none pass = pass
still_there step lines dropped old new (suc count) none pass = absurd (omega (arith, none))

-- so many rows were read and passed, and no more than there may be before the row limit
pub record HasPushedWhite {M : Type 0} (step : M → List ℕ → M) (lines : WhiteLines) (dropped most counted start : ℕ)
    (rows : RowState)
    (ctx : Context) (at next : BitsAt) (before after : M) : Type 0 where
  pub count : ℕ
  pub count_is : count ≡ counted
  pub within : counted ≤ most
  pub pass : PassWhite step lines dropped count (record { rows = rows; ctx = ctx; at = at; meaning = before }) (record {
    rows = rows_after count (dropped + start + lines.gap) rows;
    ctx = ctx_after count ctx;
    at = next;
    meaning = after;
  })

pub none_pushed : {M : Type 0} {step : M → List ℕ → M} {lines : WhiteLines} {dropped most start : ℕ} {rows : RowState}
    {ctx : Context} {at next : BitsAt} {meaning : M} → next ≡ at
    → HasPushedWhite step lines dropped most 0 start rows ctx at next meaning meaning
none_pushed {rows = rows} {ctx} {at} {next} {meaning} same = grind (arith, common_steps)

module _ {M : Type 0} {step : M → List ℕ → M} {lines : WhiteLines} {dropped most counted start : ℕ} {rows : RowState}
    {ctx : Context}
    {at next : BitsAt} {before after : M}
    (pushed : HasPushedWhite step lines dropped most counted start rows ctx at next before after) where
  abbrev count : ℕ
  count = pushed.count

  abbrev so_far : Pushed M
  so_far = record {
    rows = rows_after count (dropped + start + lines.gap) rows;
    ctx = ctx_after count ctx;
    at = next;
    meaning = after;
  }

  -- one more is read
  module _ (follow : MayFollow ctx.held.settings ctx.held.has_eols ctx.held.reference lines)
      (limit : most ≡ lines.limit - ctx.held.taken) (more : counted < most) {then : BitsAt}
      (passes : PassesLine lines next then) where
    abbrev start_then : ℕ
    start_then = dropped + next.place + lines.gap

    takes_more : TakesWhite lines (dropped + next.place) so_far.rows (rows_after (suc count) start_then rows) so_far.ctx
        (ctx_after (suc count) ctx) next then
    takes_more = grind (arith, common_steps, not_at_limit)

    reads_more : {after_it : M} → ReadsWhite lines dropped so_far (record {
      rows = rows_after (suc count) start_then rows;
      ctx = ctx_after (suc count) ctx;
      at = then;
      meaning = after_it;
    })
    reads_more = record { follow = follow; takes = takes_more }

    -- and passed
    pub one_pushed : {after_it : M} → after_it ≡ step after []
        → HasPushedWhite step lines dropped most (counted + 1) next.place rows ctx at then before after_it
    one_pushed means = record {
      count = suc count;
      count_is = omega (arith, pushed.count_is);
      within = omega (arith, more);
      pass = (so_far, pushed.pass, record { reads = reads_more; meaning = means });
    }

    -- or the sink refuses its row
    pub one_refused : {kept : RowState} {new : Context} {last : BitsAt} {first end : SinkState M} {error : DecodeError}
        → kept ≡ record { started_at = start_then; damage = None; cut = false; missed = None; stand = AfterRow }
        → new ≡ ctx_after (counted + 1) ctx → last ≡ then → first.meaning ≡ before → end.meaning ≡ after → error ≡ Refused
        → end.refused ≡ true → end.refuses []
        → PushesWhite step lines dropped first end rows kept ctx new at last (Err error)
    one_refused {kept} {new} {last} {first} {end} kept_is new_is last_is start_is means is flag row =
        let all : counted + 1 ≡ suc count = omega (arith, pushed.count_is) in
        let new_then : new ≡ ctx_after (suc count) ctx = new_is ∙ ap (λ (n : ℕ). ctx_after n ctx) all in
        record {
          count = count;
          mid = so_far;
          pass = subst (λ (m : M). PassWhite step lines dropped count (record { rows = rows; ctx = ctx; at = at; meaning = m })
              so_far) (sym start_is) pushed.pass;
          ends = grind (arith, common_steps, so_far, rows_after, count, start_then, ctx_after, takes_more);
        }

  none_passed : counted ≡ 0 → so_far ≡ record { rows = rows; ctx = ctx; at = at; meaning = before }
  none_passed none = still_there step lines dropped _ so_far count (omega (arith, none, pushed.count_is)) pushed.pass

  pub still_at : counted ≡ 0 → next ≡ at
  still_at none = ap (λ (p : Pushed M). p.at) (none_passed none)

  -- none is next
  module _ {kept : RowState} {new : Context} {last : BitsAt} {first end : SinkState M} (start_is : first.meaning ≡ before)
      (means : end.meaning ≡ after) (flag : end.refused ≡ first.refused) where
    all_pushed : kept ≡ so_far.rows → new ≡ so_far.ctx → last ≡ next
        → PushesWhite step lines dropped first end rows kept ctx new at last (Ok tt)
    all_pushed kept_is new_is last_is = record {
      count = count;
      mid = so_far;
      pass = grind (arith, common_steps, count, so_far);
      ends = grind (arith, common_steps, so_far);
    }

    pub some_pushed : 0 < counted
        → kept ≡ record { started_at = dropped + start + lines.gap; damage = None; cut = false; missed = None; stand = AfterRow }
        → new ≡ ctx_after counted ctx → last ≡ next → PushesWhite step lines dropped first end rows kept ctx new at last (Ok tt)
    some_pushed some kept_is new_is last_is = grind (arith, common_steps, all_pushed, some_after)

    pub no_row_left : counted ≡ 0 → kept ≡ rows → new ≡ ctx → last ≡ at
        → PushesWhite step lines dropped first end rows kept ctx new at last (Ok tt)
    no_row_left none kept_is new_is last_is =
        let unmoved : after ≡ before = ap (λ (p : Pushed M). p.meaning) (none_passed none) in
        record {
          count = 0;
          mid = record { rows = rows; ctx = ctx; at = at; meaning = first.meaning };
          pass = refl;
          ends = grind (arith, common_steps);
        }

-- no row was read
pub no_white_read : {M : Type 0} {step : M → List ℕ → M} {lines : WhiteLines} {dropped : ℕ} {sink : SinkState M} {rows : RowState}
    {ctx : Context} {at : BitsAt} → PushesWhite step lines dropped sink sink rows rows ctx ctx at at (Ok tt)
no_white_read {sink = sink} {rows} {ctx} {at} = record {
  count = 0;
  mid = record { rows = rows; ctx = ctx; at = at; meaning = sink.meaning };
  pass = refl;
  ends = (refl, refl);
}

-- ---- One after another

-- rows passed first, and then others
more_pass : {M : Type 0} (step : M → List ℕ → M) (lines : WhiteLines) (dropped first count : ℕ) (old mid new : Pushed M)
    → PassWhite step lines dropped first old mid → PassWhite step lines dropped count mid new
    → (all : ℕ) × PassWhite step lines dropped all old new
more_pass step lines dropped first zero old mid new before then =
    (first, subst (PassWhite step lines dropped first old) (sym then) before)
more_pass step lines dropped first (suc count) old mid new before then =
    let so_far = more_pass step lines dropped first count old mid then.0 before then.1 in
    (suc so_far.0, (then.0, so_far.1, then.2))

module _ {M : Type 0} {step : M → List ℕ → M} {lines : WhiteLines} {dropped : ℕ} {first mid : SinkState M}
    {rows kept : RowState} {old ctx : Context} {at next : BitsAt}
    (pushes : PushesWhite step lines dropped first mid rows kept old ctx at next (Ok tt)) where
  abbrev so_far_pushed : Pushed M
  so_far_pushed = record { rows = kept; ctx = ctx; at = next; meaning = mid.meaning }

  passed_so_far : PassWhite step lines dropped pushes.count
      (record { rows = rows; ctx = old; at = at; meaning = first.meaning }) so_far_pushed
  passed_so_far = subst (PassWhite step lines dropped pushes.count
      (record { rows = rows; ctx = old; at = at; meaning = first.meaning })) (sym pushes.ends.0) pushes.pass

  -- more were read, and passed
  pub then_pushed : {last : SinkState M} {end : RowState} {new : Context} {then : BitsAt}
      {answer : Result (Unit {0}) DecodeError} → PushesWhite step lines dropped mid last kept end ctx new next then answer
      → PushesWhite step lines dropped first last rows end old new at then answer
  then_pushed {last} {end} {new} {then} {answer} more =
      let all = more_pass step lines dropped pushes.count more.count _ so_far_pushed more.mid passed_so_far more.pass in
      record {
        count = all.0;
        mid = more.mid;
        pass = all.1;
        ends = flag_before answer more.ends;
      }
    where
      flag_before : (answer : Result (Unit {0}) DecodeError)
          → WhiteEnds lines dropped mid last more.mid (record { rows = end; ctx = new; at = then; meaning = last.meaning }) answer
          → WhiteEnds lines dropped first last more.mid (record { rows = end; ctx = new; at = then; meaning = last.meaning })
          answer
      flag_before (Ok x) ends = (ends.0, ends.1 ∙ pushes.ends.1)
      flag_before (Err error) ends = ends
