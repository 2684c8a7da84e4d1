use Rattle.hayro_ccitt.proofs.Names.{◌≡◌, ℕ, List}
use Rattle.hayro_ccitt.specs.DecodeError.{DecodeError}
use Rattle.fax_callers.specs.PageFeeds.{FewGiven, HasFailed, IsPageFeedOf, IsPaidFrom, Stays, left_to_give}
use Rattle.fax_callers.specs.PageFeeds.{settings_of}
use Rattle.fax_callers.proofs.page_feed.PageFeed.next_row.Given as goal

abbrev pub invariant-loop-answer : goal.invariant-loop-answer
invariant-loop-answer l = record {
  stays : (whole : List ℕ) (start : ℕ) → IsPageFeedOf whole start l.fn.self → Stays whole start l.fn.self l.self;
  order : l.self.order ≡ l.fn.self.order;
  finished : l.self.finished ≡ l.fn.self.finished;
  failed : (error : DecodeError) → HasFailed l.fn.self error → l.self ≡ l.fn.self;
  paid : (whole : List ℕ) (start : ℕ) → IsPageFeedOf whole start l.fn.self → (calls before : ℕ)
      → IsPaidFrom whole start calls before l.fn.self → IsPaidFrom whole start calls before l.self;
  few : (whole : List ℕ) (start : ℕ) → IsPageFeedOf whole start l.fn.self
      → FewGiven (settings_of l.fn.self) l.fn.self.order whole start l.fn.self.given
      → FewGiven (settings_of l.fn.self) l.fn.self.order whole start l.self.given;
}

abbrev pub decreases-loop-answer : goal.decreases-loop-answer
decreases-loop-answer l = left_to_give l.self
