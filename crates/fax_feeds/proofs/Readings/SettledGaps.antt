-- A gap that no data that follows can change, and that is passed as a whole.
use Rattle.fax_feeds.proofs.Names.{common_steps}
use Rattle.fax_feeds.proofs.Names.{◌≡◌, ◌∙◌, ◌+◌, ◌≤◌, ◌++◌, ◌⊎◌, [], ap, arith, sym, subst, refl, true, false}
use Rattle.fax_feeds.proofs.Names.{inl, inr, ℕ, Bool}
use Rattle.fax_feeds.proofs.Names.{AfterRow, Bits, BitsAt, Context, DecodeError, Held, Result, Ok, None, Err, Gap}
use Rattle.fax_feeds.proofs.Names.{append-nil, false≢true, gap_after_row, here, is_at_line, length, length-drop}
use Rattle.fax_feeds.proofs.Names.{ended, line_after}
use Rattle.fax_feeds.specs.declared.gap_look.GapLook.{GapLook}
use Rattle.fax_feeds.specs.declared.gap_look.GapStage.TheVariants.{Start}
use Rattle.fax_feeds.specs.GapsSeen.{IsSeen, bits_needed, nothing_seen, rules_for}
use Rattle.fax_feeds.specs.RowFeeds.{ComesOn, PassesEol, of_settled_gap}
use Rattle.fax_feeds.proofs.Readings.GapsNear.{passed_near, passed_shorter, settled_sought}
use Rattle.fax_feeds.proofs.Readings.GapsSeen.{looked_needed, looked_within}
use Rattle.fax_feeds.proofs.Readings.RowsFed.{gap_step_reaches, gap_step_stands, line_said, passed_some, said_code, said_line}
use Rattle.fax_reading.proofs.Work.EolsPassed.{length-within, line_past_eol}
use Rattle.fax_reading.specs.GapsContinued.{gap_is_settled}
use Rattle.fax_rows.specs.declared.row_reader.RowState.{RowState}
use Rattle.fax_rows.specs.RowsTried.{PassesGap, PassesGapHere}

over_is : (over : Result Bool DecodeError) → line_after over ≡ Ok true → over ≡ Ok false
over_is (Ok true) e = absurd cc
over_is (Ok false) e = refl
over_is (Err error) e = absurd cc

module _ {is_last : Bool} {gap_start : ℕ} {rows kept : RowState} (old mid new : Context) (before after : BitsAt)
    {answer : Result Bool DecodeError} (same : mid.held ≡ old.held)
    (closed : (is_last ≡ true) ⊎ (gap_is_settled old.held.settings old.held.taken old.held.has_eols (here before) ≡ true))
    (stood : rows.stand ≡ AfterRow) (gap : PassesGapHere gap_start rows kept mid new before after answer) where
  away : is_at_line rows.stand ≡ false
  away = ap is_at_line stood

  unended : ended rows.stand ≡ None
  unended = ap ended stood

  settled : (is_last ≡ true) ⊎ (gap_is_settled mid.held.settings mid.held.taken mid.held.has_eols (here before) ≡ true)
  settled = subst (λ (h : Held). (is_last ≡ true) ⊎ (gap_is_settled h.settings h.taken h.has_eols (here before) ≡ true))
      (sym same) closed

  settled_here : is_last ≡ false → gap_is_settled mid.held.settings mid.held.taken mid.held.has_eols (here before) ≡ true
  settled_here unfinished = elim settled [ inl last ↦ absurd (false≢true (sym unfinished ∙ last)) | inr is ↦ is ]

  passes : PassesGap mid new gap.over (here before) (here after)
  passes = subst (λ (b : Bits). PassesGap mid new gap.over b (here after)) (append-nil (here before))
      (subst (PassesGap mid new gap.over (here before ++ [])) (append-nil (here after)) (gap.passes [] (inl refl)))

  -- it needs few bits beyond its end
  near_end : is_last ≡ false
      → bits_needed (rules_for true old.held) Start 0 (here before) + length (here after) ≤ length (here before) + 12
  near_end unfinished = subst (λ (h : Held). bits_needed (rules_for true h) Start 0 (here before) + length (here after)
      ≤ length (here before) + 12) same
      (passed_near mid.held.settings mid.held.taken mid.held.has_eols (here before) (here after) (settled_here unfinished)
      gap.over new.held.has_eols passes.gap gap.put_back)

  shorter : length (here after) ≤ length (here before)
  shorter = passed_shorter mid.held.settings mid.held.taken mid.held.has_eols (here before) (here after) gap.over
      new.held.has_eols passes.gap gap.put_back

  -- an EOL is passed
  eol_passed : is_last ≡ false → mid.held.has_eols ≡ true → gap.over ≡ Ok false
      → PassesEol (here before) before.place after.place
  eol_passed unfinished sought over =
      let settings = mid.held.settings in
      let taken = mid.held.taken in
      let line : gap_after_row settings taken true (here before) ≡ Gap.line_at new.held.has_eols (here after) =
      grind (arith, common_steps, passes.gap) in
      let still = settled_sought settings taken (here before) (here after) new.held.has_eols
      (ap (λ (b : Bool). gap_is_settled settings taken b (here before)) (sym sought) ∙ settled_here unfinished) line in
      let eol = line_past_eol settings taken (here before) (here after)
      (line ∙ ap (λ (b : Bool). Gap.line_at b (here after)) still) in
      record {
        fill = eol.1.fill;
        after = eol.0;
        place = eol.1.place;
        passed = grind (arith, common_steps, length-within, length-drop);
      }

  -- after so many bits of it were looked at
  module _ {look : GapLook} (seen : GapLook) (more : ℕ) (space : mid.space ≡ old.space) (ticks : mid.ticks ≡ old.ticks + more)
      (looked : more + look.bits ≡ seen.bits) (known : IsSeen (rules_for true old.held) seen (here before))
      (finished : is_last ≡ true → more ≡ 0) where
    pub settled_comes : ComesOn is_last gap_start rows kept look nothing_seen old new before after (of_settled_gap answer)
    settled_comes = record {
      extra = more;
      looks = record {
        line = λ e. absurd (false≢true (sym away ∙ e));
        finished = finished;
        within = λ some. omega (arith, looked, (looked_within known.1).0);
      };
      looked = λ e. absurd (passed_some answer e);
      none_looked = λ e. refl;
      near = λ some unfinished. omega (
        arith,
        looked,
        looked_needed known.1,
        near_end unfinished,
        gap.begun,
        gap.within,
        ap length gap.same_bits,
        length-drop before.place before.bits,
        length-drop after.place after.bits,
      );
      counts = omega (arith, ticks, passes.counts);
      onward = λ e. omega (
        arith,
        shorter,
        gap.begun,
        gap.within,
        ap length gap.same_bits,
        length-drop before.place before.bits,
        length-drop after.place after.bits,
      );
      at_line = λ e. absurd (false≢true (sym away ∙ e));
      past_eol = λ unfinished was sought e. eol_passed unfinished (ap (λ (h : Held). h.has_eols) same ∙ sought)
          (over_is gap.over (sym gap.said ∙ line_said answer e));
      same_bits = gap.same_bits;
      within = gap.within;
      space = gap.space ∙ space;
      frame = subst (λ (h : Held). new.held ≡ record h { has_eols = new.held.has_eols; repairs = new.held.repairs }) same
          passes.held;
      waits = λ e. absurd (passed_some answer e);
      comes = λ from whole dropped some lie starts stands. gap_step_reaches is_last gap_start rows kept old mid new before after
          answer more same ticks gap settled unended away from whole dropped lie starts stands;
      stands = λ from whole dropped some lie starts stands. gap_step_stands is_last gap_start rows kept old mid new before after
          answer more same ticks gap settled unended away from whole dropped lie starts stands;
      line = λ e. ap (λ (r : RowState). is_at_line r.stand) gap.kept_is ∙ said_line gap.over answer gap.said e;
      only_code = said_code gap.over answer gap.said passes.only_code;
    }
