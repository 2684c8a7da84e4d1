-- What is kept of a gap that was looked at, from step to step.
use Rattle.fax_feeds.proofs.Names.{ended, arith, common_steps}
use Rattle.fax_feeds.proofs.Names.{◌≡◌, ◌≤◌, ◌++◌, ◌∷◌, [], ℕ, Bool, true, Option, None, Some, Result, Ok, Err, sym}
use Rattle.fax_feeds.proofs.Names.{subst, drop, length, Bits, BitsAt, Held, Context, DecodeError, false≢true}
use Rattle.fax_feeds.proofs.Names.{here, is_at_line}
use Rattle.std.proofs.lemmas.List.{drop-append-le}
use Rattle.fax_feeds.specs.GapsSeen.{IsSeen, nothing_seen, rules_for, stage_following, zeros_after}
use Rattle.fax_feeds.specs.declared.gap_look.GapStage.{GapStage}
use Rattle.fax_feeds.specs.RowFeeds.{IsCounted, no_gap}
use Rattle.fax_feeds.specs.CountedGaps.{ComesCounted, StaysKnown}
use Rattle.fax_feeds.specs.declared.counted_gaps.GapSoFar.{GapSoFar}
use Rattle.fax_feeds.proofs.Names.{◌≢◌, ◌∙◌, ◌+◌, ap, refl, inl, false, length-drop}
use Rattle.fax_rows.specs.GapsCounted.{IsTidy}
use Rattle.fax_feeds.specs.declared.gap_look.GapLook.{GapLook}
use Rattle.fax_feeds.specs.declared.gap_look.GapRules.{GapRules}
use Rattle.fax_rows.specs.declared.row_reader.RowState.{RowState}
use Rattle.fax_feeds.proofs.Readings.GapsSeen.{none_seen, seen_longer}

-- once something has begun, the rules are those after a row
pub seen_begun : {begun now : Bool} (held : Held) {look : GapLook} {gap : Bits} → begun ≡ now
    → IsSeen (rules_for begun held) look gap → IsSeen (rules_for now held) look gap
seen_begun held {look = look} {gap = gap} is seen = subst (λ (b : Bool). IsSeen (rules_for b held) look gap) is seen

-- of the same bits
pub seen_there : {rules : GapRules} {look : GapLook} {gap same : Bits} → gap ≡ same → IsSeen rules look gap
    → IsSeen rules look same
seen_there {rules} {look} is seen = subst (IsSeen rules look) is seen

-- where no bit was looked at, nothing was seen
none_seen_of : (rules : GapRules) (look : GapLook) (looked : Bits) → length looked ≡ 0
    → look.stage ≡ stage_following rules GapStage.Start 0 looked → look.zeros ≡ zeros_after 0 looked → look.bits ≡ 0
    → look ≡ nothing_seen
none_seen_of rules look [] none stage zeros bits = grind (arith, common_steps)
none_seen_of rules look (bit ∷ looked) none stage zeros bits = absurd (omega (arith, none))

pub unlooked : {rules : GapRules} {look : GapLook} {gap : Bits} → IsSeen rules look gap → look.bits ≡ 0 → look ≡ nothing_seen
unlooked {rules} {look} seen none =
    none_seen_of rules look seen.1.looked (omega (arith, none, seen.1.bits)) seen.1.stage seen.1.zeros none

-- nothing was seen of any gap
pub fresh_look : {look : GapLook} (rules : GapRules) (gap : Bits) → look ≡ nothing_seen → IsSeen rules look gap
fresh_look rules gap is = subst (λ (l : GapLook). IsSeen rules l gap) (sym is) (none_seen rules gap)

-- the bits after the place, once more are kept
pub seen_more : {rules : GapRules} {look : GapLook} (place : ℕ) (kept next : Bits) → place ≤ length kept
    → IsSeen rules look (drop place kept) → IsSeen rules look (drop place (kept ++ next))
seen_more place kept next within seen = seen_there (sym (drop-append-le place kept next within)) (seen_longer next seen)

-- nothing was counted of a gap that begins
pub none_counted_of : {gap : GapSoFar} {at : ℕ} → gap ≡ no_gap → IsCounted gap at
none_counted_of {gap} {at} is = record {
  tidy = λ e. subst (λ (g : GapSoFar). IsTidy g.count) (sym is) (inl refl);
  few = λ e. omega (arith, ap (λ (g : GapSoFar). g.count.eols) is, ap (λ (g : GapSoFar). g.count.zeros) is);
  zeros = λ zeros. absurd (false≢true (sym (ap (λ (g : GapSoFar). g.at_zeros) is) ∙ zeros));
  missed = λ some. absurd (omega (arith, some, ap (λ (g : GapSoFar). g.look.bits) is));
}

-- ---- A gap that is counted

-- what is known of it after a call
pub record IsLawfulGap (is_last : Bool) (at : ℕ) (rows : RowState) (held : Held) (gap : GapSoFar) (here : Bits) : Type 0 where
  pub seen : IsSeen (rules_for true held) gap.look here
  pub line : is_at_line rows.stand ≡ true → gap.at_zeros ≡ false → gap ≡ no_gap
  pub over : ended rows.stand ≢ None → gap.at_zeros ≡ false → gap ≡ no_gap
  pub counted : IsCounted gap at
  pub last : gap.at_zeros ≡ true → is_last ≡ true

-- a gap that was passed
pub passed_lawful : {is_last : Bool} {at : ℕ} {rows : RowState} {held : Held} {gap next : GapSoFar} {before here : Bits}
    {answer : Result (Option Bool) DecodeError} → answer ≢ Ok None → StaysKnown is_last gap next before here answer
    → IsLawfulGap is_last at rows held next here
passed_lawful {is_last} {at} {rows} {held} {gap} {next} {before} {here} some known = by_zeros next.at_zeros refl
  where
    by_zeros : (b : Bool) → next.at_zeros ≡ b → IsLawfulGap is_last at rows held next here
    by_zeros false e =
        let is = known.passed some e in
        record {
          seen = fresh_look (rules_for true held) here (ap (λ (g : GapSoFar). g.look) is);
          line = λ line follows. is;
          over = λ over follows. is;
          counted = none_counted_of is;
          last = λ zeros. absurd (false≢true (sym e ∙ zeros));
        }
    by_zeros true e =
        let is = known.zeros e in
        record {
          seen = fresh_look (rules_for true held) here is.2;
          line = λ line follows. absurd (false≢true (sym follows ∙ e));
          over = λ over follows. absurd (false≢true (sym follows ∙ e));
          counted = record {
            tidy = λ follows. absurd (false≢true (sym follows ∙ e));
            few = λ follows. absurd (false≢true (sym follows ∙ e));
            zeros = λ zeros. (is.1, is.2);
            missed = known.missed;
          };
          last = λ zeros. is.0;
        }

pub counted_lawful : {is_last : Bool} {dropped at : ℕ} {rows kept : RowState} {gap next : GapSoFar} {old new : Context}
    {before after : BitsAt} (answer : Result (Option Bool) DecodeError)
    → ComesCounted is_last dropped rows kept gap next old new before after answer → IsCounted gap (dropped + before.place)
    → gap.at_zeros ≡ false → before.place ≤ length before.bits → at ≡ dropped + after.place → ended rows.stand ≡ None
    → IsLawfulGap is_last at kept new.held next (here after)
counted_lawful {is_last} {dropped} {at} {rows} {kept} {gap} {next} {old} {new} {before} {after} (Ok None) on counted follows
    within at_is unended =
    let waits = on.known.waits refl in
    record {
      seen = subst (λ (h : Held). IsSeen (rules_for true h) next.look (here after)) (sym (on.waits refl).0) (on.seen refl);
      line = λ line follows.
          let never : Ok None ≡ Ok (Some true) =
          (on.at_line (ap (λ (r : RowState). is_at_line r.stand) (sym (on.waits refl).3) ∙ line)).0 in absurd cc;
      over = λ over follows. absurd (over (ap (λ (r : RowState). ended r.stand) (on.waits refl).3 ∙ unended));
      counted = record {
        tidy = λ e. waits.0;
        few = λ e. omega (
          arith,
          counted.few follows,
          waits.2,
          at_is,
          within,
          on.within,
          ap length on.same_bits,
          length-drop before.place before.bits,
          length-drop after.place after.bits,
        );
        zeros = λ zeros. absurd (false≢true (sym waits.1 ∙ zeros));
        missed = on.known.missed;
      };
      last = λ zeros. absurd (false≢true (sym waits.1 ∙ zeros));
    }
counted_lawful (Ok (Some line)) on counted follows within at_is unended = passed_lawful (λ e. cc) on.known
counted_lawful (Err error) on counted follows within at_is unended = passed_lawful (λ e. cc) on.known
