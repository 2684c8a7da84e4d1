use Rattle.fax_rows.proofs.Names.{◌≡◌, ◌∙◌, ◌≤◌, ◌+◌, ◌⊎◌, ℕ, Bool, false, None, sym, subst, Ok, Err, DecodeError, inl, inr, refl}
use Rattle.fax_rows.proofs.Names.{IsStandingAtLine, ended, length, most_counted}
use Rattle.fax_rows.specs.RowsTried.{PassesGapHere}
use Rattle.hayro_ccitt.specs.TaggedBodies.{PassesLine, ReadsRowHere}
use Rattle.hayro_ccitt.proofs.TaggedBodies.RowsPassed.{can_take, failing_most, gap_here, gap_taken, isnt_there, passes_line}
use Rattle.hayro_ccitt.proofs.TaggedBodies.RowsPassed.{standing_most}
use Rattle.hayro_ccitt.proofs.tagged.pass_line.Goals.{After-pass_gap_here}
use Rattle.hayro_ccitt.proofs.tagged.pass_line.Goals as goal

pub read_row_here-requires-clause-room : goal.read_row_here-requires-clause-room
read_row_here-requires-clause-room c =
    (can_take c.requires.at.0 c.args.rows.now c.args.ctx.now c.args.reader.now c.requires.at.1 c.bit_pos-start.ensures.fit).0

pub returns-in-Err-clause-at_most : goal.returns-in-Err-clause-at_most
returns-in-Err-clause-at_most c base at =
    (failing_most base c.args.rows.now c.args.ctx.now c.args.reader.now c.read_row_here.new.ctx.ticks at
    c.read_row_here.ensures.counts c.read_row_here.ensures.at_most).1

module _ (c : After-pass_gap_here) where
  row_is_read : ReadsRowHere c.args.rows.now c.read_row_here.new.rows c.args.ctx.now c.read_row_here.new.ctx c.args.reader.now
      c.read_row_here.new.reader
  row_is_read = c.in_default.ensures.reads

  unended : ended c.read_row_here.new.rows.stand ≡ None
  unended = isnt_there (ended c.read_row_here.new.rows.stand) (sym c.has_ended.ensures ∙ c.if-has_ended.false)

  gap_passed : PassesGapHere c.read_row_here.new.reader.place c.read_row_here.new.rows c.pass_gap_here.new.self
      c.read_row_here.new.ctx c.pass_gap_here.new.ctx c.read_row_here.new.reader c.pass_gap_here.new.reader c.pass_gap_here.result
  gap_passed = subst (λ (n : ℕ). PassesGapHere n c.read_row_here.new.rows c.pass_gap_here.new.self c.read_row_here.new.ctx
      c.pass_gap_here.new.ctx c.read_row_here.new.reader c.pass_gap_here.new.reader c.pass_gap_here.result)
      c.bit_pos-gap_start.ensures.place c.pass_gap_here.ensures

  settings_kept : c.pass_gap_here.new.ctx.held.settings ≡ c.args.ctx.now.held.settings
  settings_kept = (gap_taken 0 c.read_row_here.new.rows c.pass_gap_here.new.self c.read_row_here.new.ctx c.pass_gap_here.new.ctx
      c.read_row_here.new.reader c.pass_gap_here.new.reader c.pass_gap_here.result gap_passed).1
      ∙ c.read_row_here.ensures.settings

  passes_to : (follows : Bool) → ((c.pass_gap_here.result ≡ Ok follows)
      ⊎ ((e : DecodeError) × (c.pass_gap_here.result ≡ Err e) × (follows ≡ false))) → PassesLine c.args.rows.now
      c.pass_gap_here.new.self c.args.ctx.now c.pass_gap_here.new.ctx c.args.reader.now c.pass_gap_here.new.reader follows
  passes_to follows said = passes_line c.args.rows.now c.pass_gap_here.new.self c.args.ctx.now c.pass_gap_here.new.ctx
      c.args.reader.now c.pass_gap_here.new.reader c.read_row_here.new.rows c.read_row_here.new.ctx c.read_row_here.new.reader
      row_is_read c.read_row_here.ensures.same_bits unended c.pass_gap_here.result gap_passed follows said

  most : (base : ℕ) → IsStandingAtLine base c.args.rows.now c.args.ctx.now c.args.reader.now
      → (base ≤ c.pass_gap_here.new.ctx.ticks)
      × (c.pass_gap_here.new.ctx.ticks ≤ base + most_counted c.args.ctx.now.held.settings.encoding
      (length c.args.reader.now.bits))
  most base at = standing_most base c.pass_gap_here.new.self c.pass_gap_here.new.ctx c.pass_gap_here.new.reader
      c.args.ctx.now.held.settings c.args.reader.now.bits
      (gap_here base c.read_row_here.new.rows c.pass_gap_here.new.self c.read_row_here.new.ctx c.pass_gap_here.new.ctx
      c.read_row_here.new.reader c.pass_gap_here.new.reader c.pass_gap_here.result gap_passed unended row_is_read.no_line
      (row_is_read.stands base at)) settings_kept (c.pass_gap_here.ensures.same_bits ∙ c.read_row_here.ensures.same_bits)

pub returns-in-Ok-clause-passes : goal.returns-in-Ok-clause-passes
returns-in-Ok-clause-passes c =
    passes_to (goal.at.returns-in-Ok-clause-passes c).After-pass_gap_here c.in-Ok.follows (inl c.in-Ok.is)

pub returns-in-Ok-clause-settings : goal.returns-in-Ok-clause-settings
returns-in-Ok-clause-settings c = settings_kept (goal.at.returns-in-Ok-clause-settings c).After-pass_gap_here

pub returns-in-Ok-clause-counts : goal.returns-in-Ok-clause-counts
returns-in-Ok-clause-counts c base at = (most (goal.at.returns-in-Ok-clause-counts c).After-pass_gap_here base at).0

pub returns-in-Ok-clause-at_most : goal.returns-in-Ok-clause-at_most
returns-in-Ok-clause-at_most c base at = (most (goal.at.returns-in-Ok-clause-at_most c).After-pass_gap_here base at).1

pub returns-in-Err-pass_gap_here-clause-passes : goal.returns-in-Err-pass_gap_here-clause-passes
returns-in-Err-pass_gap_here-clause-passes c =
    passes_to (goal.at.returns-in-Err-pass_gap_here-clause-passes c).After-pass_gap_here false
    (inr (c.in-Err-pass_gap_here.field-0, c.in-Err-pass_gap_here.is, refl))

pub returns-in-Err-pass_gap_here-clause-settings : goal.returns-in-Err-pass_gap_here-clause-settings
returns-in-Err-pass_gap_here-clause-settings c =
    settings_kept (goal.at.returns-in-Err-pass_gap_here-clause-settings c).After-pass_gap_here

pub returns-in-Err-pass_gap_here-clause-counts : goal.returns-in-Err-pass_gap_here-clause-counts
returns-in-Err-pass_gap_here-clause-counts c base at =
    (most (goal.at.returns-in-Err-pass_gap_here-clause-counts c).After-pass_gap_here base at).0

pub returns-in-Err-pass_gap_here-clause-at_most : goal.returns-in-Err-pass_gap_here-clause-at_most
returns-in-Err-pass_gap_here-clause-at_most c base at =
    (most (goal.at.returns-in-Err-pass_gap_here-clause-at_most c).After-pass_gap_here base at).1
