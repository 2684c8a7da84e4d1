use Rattle.fax_feeds.proofs.Names.{common_steps}
use Rattle.fax_feeds.proofs.Names.{◌≡◌, ℕ, List, Result, Ok, Err, DecodeError, ap, arith, bits_in, refl, subst, sym}
use Rattle.fax_feeds.proofs.Names.{BitsAt}
use Rattle.std.specs.Prelude.{IfErr, OnOk}
use Rattle.fax_bits.proofs.BitReading.BitLists.{length-bits_in}
use Rattle.fax_feeds.proofs.Readings.FeedTurns.{IsReadBy, past_line}
use Rattle.fax_feeds.proofs.Readings.RowsPassed.{passes_none, pushed_to_refusal}
use Rattle.fax_feeds.proofs.Readings.WhiteRowsFed.{IsFedTo, fed_to, some_fed, white_fed_by, white_fed_empty, white_fed_row}
use Rattle.fax_rows.proofs.Readings.WhiteRowsRead.{came_after, refused_after}
use Rattle.fax_feeds.specs.RowFeeds.{PassesRows, PushesRows, feeding_of, no_gap}
use Rattle.fax_feeds.specs.declared.row_feed.RowFeed.TheInside.{Inside}
use Rattle.fax_lines.specs.SinkStates.{state_of}
use Rattle.fax_rows.specs.declared.white_lines.WhiteLines.{WhiteLines}
use Rattle.fax_rows.specs.WhiteRows.{Pushed, PushesWhite}
use Rattle.fax_feeds.proofs.row_feed.RowFeed.push_white.{Given.Over}
use Rattle.fax_feeds.proofs.row_feed.RowFeed.push_white.Goals.{After-bit_pos-self-inside}
use Rattle.fax_feeds.proofs.row_feed.RowFeed.push_white.Goals as goal

-- what is so of each answer
on_ok_is : {A E : Type 0} {P : Type 0} {r : Result A E} → ((x : A) → r ≡ Ok x → P) → OnOk r P
on_ok_is {r = Ok x} f = f x refl
on_ok_is {r = Err e} f = tt

if_err_is : {A E : Type 0} {P : E → Type 0} {r : Result A E} → ((e : E) → r ≡ Err e → P e) → IfErr r P
if_err_is {r = Ok x} f = tt
if_err_is {r = Err e} f = f e refl

pub push_white_rows-pushed-requires-clause-fits : goal.push_white_rows-pushed-requires-clause-fits
push_white_rows-pushed-requires-clause-fits g c = grind (arith, common_steps, length-bits_in)

module _ (g : Over) (c : After-bit_pos-self-inside g) where
  abbrev step_here : g.D.Decoder.Meaning → List ℕ → g.D.Decoder.Meaning
  step_here = g.D.Decoder.step (g.D.Decoder.width c.args.decoder.now)

  abbrev lines_here : WhiteLines
  lines_here = c.repeats_white-repeats.new.lines

  pushes : PushesWhite step_here lines_here c.self.inside.dropped (state_of g.D.Decoder c.args.decoder.now)
      (state_of g.D.Decoder c.push_white_rows-pushed.new.decoder) c.self.inside.rows c.push_white_rows-pushed.new.rows
      c.self.inside.ctx c.push_white_rows-pushed.new.ctx c.placed_at-reader.result c.push_white_rows-pushed.new.reader
      c.push_white_rows-pushed.result
  pushes = c.push_white_rows-pushed.ensures.pushes

  abbrev read_before : Pushed g.D.Decoder.Meaning
  read_before = record {
    rows = c.self.inside.rows;
    ctx = c.self.inside.ctx;
    at = c.placed_at-reader.result;
    meaning = g.D.Decoder.meaning c.args.decoder.now;
  }

  -- what is left
  abbrev left : ℕ → Inside
  left place = past_line c.self.inside c.push_white_rows-pushed.new.ctx c.push_white_rows-pushed.new.rows place

  reader_is : c.placed_at-reader.result
      ≡ record { bits = bits_in c.self.inside.order c.self.inside.«data».items; place = c.self.inside.place }
  reader_is = grind (arith, common_steps)

  read_by : IsReadBy c.self.inside c.placed_at-reader.result
  read_by = grind (arith, common_steps, reader_is)

  fresh : c.self.inside.gap ≡ no_gap
  fresh = grind (arith, common_steps, c.requires.unlooked)

  -- the sink means the rows so far, which are none
  fed_before : IsFedTo step_here (feeding_of c.self.inside) (g.D.Decoder.meaning c.args.decoder.now) c.self.inside read_before
  fed_before = record {
    read_by = subst (λ (b : BitsAt). IsReadBy (past_line c.self.inside c.self.inside.ctx c.self.inside.rows b.place) b)
        (sym reader_is) (subst (IsReadBy c.self.inside) reader_is read_by);
    after = grind (arith, common_steps);
    passes = subst (λ (b : BitsAt). PassesRows step_here (g.D.Decoder.meaning c.args.decoder.now)
        (g.D.Decoder.meaning c.args.decoder.now) (feeding_of c.self.inside)
        (feeding_of (past_line c.self.inside c.self.inside.ctx c.self.inside.rows b.place))) (sym reader_is) (passes_none refl);
    keeps = record { order = refl; finished = refl; kept = refl; dropped = refl; room = refl };
    settings = refl;
  }

  fed_mid : IsFedTo step_here (feeding_of c.self.inside) (g.D.Decoder.meaning c.args.decoder.now) c.self.inside pushes.mid
  fed_mid = some_fed step_here (feeding_of c.self.inside) (g.D.Decoder.meaning c.args.decoder.now) c.self.inside lines_here fresh
      pushes.count read_before pushes.mid fed_before pushes.pass

  -- the feed after the last of them
  kept_by : (answer : Result (Unit {0}) DecodeError) → c.push_white_rows-pushed.result ≡ answer
      → IsReadBy (left c.push_white_rows-pushed.new.reader.place) c.push_white_rows-pushed.new.reader
  kept_by (Ok x) is =
      (subst (IsFedTo step_here (feeding_of c.self.inside) (g.D.Decoder.meaning c.args.decoder.now) c.self.inside)
      (sym (came_after pushes is).0) fed_mid).read_by
  kept_by (Err error) is = white_fed_by fresh fed_mid (refused_after pushes is).reads

pub invariant_of-self : goal.invariant_of-self
invariant_of-self g c =
    let here = (goal.at.invariant_of-self g c).After-bit_pos-self-inside in
    (subst (λ (n : ℕ). IsReadBy (left g here n) c.push_white_rows-pushed.new.reader) (sym c.bit_pos-self-inside.ensures.place)
    (kept_by g here c.push_white_rows-pushed.result refl)).kept

-- a feed of the same rows at the same place
left_there : (g : Over) (c : After-bit_pos-self-inside g) → left g c c.push_white_rows-pushed.new.reader.place
    ≡ left g c c.bit_pos-self-inside.result
left_there g c = ap (left g c) (sym c.bit_pos-self-inside.ensures.place)

pub returns-clause-passes : goal.returns-clause-passes
returns-clause-passes g d =
    let c = (goal.at.returns-clause-passes g d).After-bit_pos-self-inside in
    rw (← c.self.view_is) (on_ok_is (λ x is.
    let step = step_here g c in
    let start = g.D.Decoder.meaning c.args.decoder.now in
    let fed = subst (IsFedTo step (feeding_of c.self.inside) start c.self.inside) (sym (came_after (pushes g c) is).0)
    (fed_mid g c) in (
      subst (λ (f : Inside). PassesRows step start (g.D.Decoder.meaning c.push_white_rows-pushed.new.decoder)
          (feeding_of c.self.inside) (feeding_of f)) (left_there g c) fed.passes,
      (came_after (pushes g c) is).1,
    )))

pub returns-clause-refused : goal.returns-clause-refused
returns-clause-refused g d =
    let c = (goal.at.returns-clause-refused g d).After-bit_pos-self-inside in
    rw (← c.self.view_is) (if_err_is (λ error is.
    let step = step_here g c in
    let start = g.D.Decoder.meaning c.args.decoder.now in
    let mid = fed_mid g c in
    let refused = refused_after (pushes g c) is in
    subst (λ (f : Inside). PushesRows step (state_of g.D.Decoder c.args.decoder.now)
    (state_of g.D.Decoder c.push_white_rows-pushed.new.decoder) (feeding_of c.self.inside) (feeding_of f) (Err error))
    (left_there g c)
    (pushed_to_refusal (subst (λ (m : g.D.Decoder.Meaning). PassesRows step start m (feeding_of c.self.inside)
    (feeding_of (fed_to c.self.inside (pushes g c).mid))) (sym refused.meaning) mid.passes) mid.keeps mid.settings
    (white_fed_row (fresh g c) mid refused.reads) (ap Err refused.is) refused.flag
    (subst (g.D.Decoder.refuses c.push_white_rows-pushed.new.decoder) (white_fed_empty (fresh g c) mid refused.reads)
    refused.row))))
