use Rattle.hayro_ccitt.proofs.Names.{refl, arith, ◌∙◌}
use Rattle.fax_callers.proofs.PagesFed.{fresh_page}
use Rattle.fax_callers.proofs.PagesPaid.{fresh_paid}
use Rattle.fax_callers.proofs.page_feed.PageFeed.end_page.Goals as goal

pub returns : goal.returns
returns c =
    let new = c.in_ok-self-inside.ensures in
    rw (← c.self.view_is) (record {
      order = refl;
      finished = refl;
      end = λ e. absurd cc;
      failed = tt;
      some = λ e. omega (arith, c.bytes_read-read.ensures, c.if-read-eq0.false);
      begins = λ e. fresh_page new.reading new.order new.none_fed new.none_read.1;
      paid = λ e. fresh_paid new.reading new.none_read.1 new.none_read.2 new.none_read.3;
      none_read = λ e. (new.settings ∙ c.settings.ensures, new.none_read.0);
      back = λ e. (
        refl,
        refl,
        c.none_seen-self-inside.ensures,
        omega (arith, c.saturating_sub-self-inside.ensures, c.saturating_sub-unread.ensures, c.bytes_read-read.ensures),
      );
      only = (λ e. cc, λ e. cc);
    })
