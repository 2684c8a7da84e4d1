-- A feed with all bits that were fed, where the reading is.
use Rattle.fax_feeds.proofs.Names.{◌≡◌, ◌∙◌, ◌+◌, ◌≤◌, ◌++◌, ap, sym, subst}
use Rattle.fax_feeds.proofs.Names.{false≢true, arith, length, drop, take, ℕ, Bool, true, false, [], ◌∷◌, refl, Some, Group3_2D}
use Rattle.fax_feeds.proofs.Names.{Bits, length-drop, length-append, drop-drop, append_assoc}
use Rattle.std.proofs.Math.Seq.{drop-length, length-take-le}
use Rattle.std.proofs.lemmas.List.{drop-take, take-append-drop}
use Rattle.fax_feeds.specs.declared.counted_gaps.GapSoFar.{GapSoFar}
use Rattle.fax_rows.specs.GapsCounted.{counted_by, left_before, none_counted}
use Rattle.fax_feeds.specs.RowFeeds.{Feeding, IsFeedOf, IsPlainFeedOf, KnowsGap, LieIn, StandsIn, completed, fed_bits, gap_rules}
use Rattle.fax_feeds.specs.RowFeeds.{no_gap, offset_of}
use Rattle.fax_feeds.specs.GapsSeen.{nothing_seen}
use Rattle.fax_feeds.specs.declared.gap_look.GapLook.{GapLook}
use Rattle.fax_feeds.proofs.Readings.RowsFed.{from_place, place_within}

pub take_length : (first rest : Bits) → take (length first) (first ++ rest) ≡ first
take_length [] rest = refl
take_length (bit ∷ first) rest = ap (λ (b : Bits). bit ∷ b) (take_length first rest)

-- the bits from an offset on that are known
pub known_from : (whole known more : Bits) (start fed : ℕ) → drop start whole ≡ known ++ more → fed ≡ start + length known
    → drop start (take fed whole) ≡ known
known_from whole known more start fed are is =
    ap (λ (n : ℕ). drop start (take n whole)) is ∙ drop-take start (length known) whole ∙ ap (take (length known)) are
    ∙ take_length known more

module _ {whole : Bits} {tried : ℕ} {feed : Feeding} (fed : IsFeedOf whole tried feed) where
  abbrev lie : LieIn whole feed.dropped feed.finished feed.kept
  lie = fed.lie

  pub fed_within : fed_bits feed ≤ length whole
  fed_within = omega (
    arith,
    lie.within,
    ap length lie.bits,
    length-append feed.kept lie.more,
    length-drop feed.dropped whole,
  )

  pub full_long : length (take (fed_bits feed) whole) ≡ fed_bits feed
  full_long = length-take-le (fed_bits feed) whole fed_within

  pub rest_to_come : drop (fed_bits feed) whole ≡ lie.more
  rest_to_come = from_place lie (length feed.kept) (omega arith) ∙ ap (λ (b : Bits). b ++ lie.more) (drop-length feed.kept)

  -- it is a reading of the data too
  pub full_is_plain : IsPlainFeedOf whole tried (completed whole feed)
  full_is_plain = record {
    fit = fed.fit;
    lie = record {
      within = omega arith;
      more = lie.more;
      bits = sym (take-append-drop (fed_bits feed) whole) ∙ ap (λ (b : Bits). take (fed_bits feed) whole ++ b) rest_to_come;
      can_come = lie.can_come;
    };
    stands = subst (λ (n : ℕ). StandsIn feed.begun tried feed.rows feed.ctx (record { bits = whole; place = n }))
        (omega arith) fed.stands;
  }

  module _ (within : feed.place ≤ length feed.kept) where
    abbrev here : Bits
    here = drop feed.place feed.kept

    pub at_within : feed.dropped + feed.place ≤ length whole
    at_within = place_within lie feed.place within

    pub known_bits : drop (offset_of feed) whole ≡ (fed.known.gone ++ here) ++ lie.more
    known_bits = fed.known.are ∙ ap (λ (b : Bits). fed.known.gone ++ b) (from_place lie feed.place within)
        ∙ sym (append_assoc fed.known.gone here lie.more)

    pub known_long : fed_bits feed ≡ offset_of feed + length (fed.known.gone ++ here)
    known_long = omega (
      arith,
      within,
      fed.known.place,
      length-append fed.known.gone here,
      length-drop feed.place feed.kept,
    )

    pub full_gap : drop (offset_of feed) (take (fed_bits feed) whole) ≡ fed.known.gone ++ here
    full_gap = known_from whole (fed.known.gone ++ here) lie.more (offset_of feed) (fed_bits feed) known_bits known_long

    pub gap_long : length (drop (offset_of feed) (take (fed_bits feed) whole)) + offset_of feed ≡ fed_bits feed
    gap_long = omega (arith, length-drop (offset_of feed) (take (fed_bits feed) whole), full_long, known_long)

-- what is known of a gap that was passed
pub knows_passed : (whole : Bits) (feed : Feeding) → feed.gap.passed ≤ feed.dropped + feed.place
    → feed.dropped + feed.place ≤ length whole → (feed.gap.at_zeros ≡ false → feed.gap ≡ no_gap)
    → (feed.gap.at_zeros ≡ true
    → (feed.finished ≡ true) × (drop (offset_of feed) whole ≡ left_before feed.gap.count [])
    × (feed.gap.count.tag ≡ true → feed.ctx.held.settings.encoding ≡ Group3_2D))
    → (feed.gap.at_zeros ≡ true → feed.gap.look ≡ nothing_seen) → KnowsGap whole feed
knows_passed whole feed few within none zeros unlooked =
    let gap : Bits = drop (offset_of feed) whole in
    let long : length (take feed.gap.passed gap) ≡ feed.gap.passed =
    length-take-le feed.gap.passed gap (omega (arith, few, within, length-drop (offset_of feed) whole)) in
    record {
      gone = take feed.gap.passed gap;
      are = sym (take-append-drop feed.gap.passed gap)
          ∙ ap (λ (b : Bits). take feed.gap.passed gap ++ b) (drop-drop feed.gap.passed (offset_of feed) whole
          ∙ ap (λ (n : ℕ). drop n whole) (omega (arith, few)));
      place = omega (arith, few, long);
      long = long;
      counted = λ e.
          ap (λ (g : GapSoFar). counted_by (gap_rules feed.begun feed.ctx.held.settings) none_counted (take g.passed gap))
          (none e) ∙ ap (λ (g : GapSoFar). Some g.count) (sym (none e));
      zeros = zeros;
      missed = λ some. absurd (omega (arith, some, none_looked feed.gap.at_zeros refl));
    }
  where
    none_looked : (b : Bool) → feed.gap.at_zeros ≡ b → feed.gap.look.bits ≡ 0
    none_looked true e = ap (λ (l : GapLook). l.bits) (unlooked e)
    none_looked false e = ap (λ (g : GapSoFar). g.look.bits) (none e)

-- nothing is known of a gap that begins here
pub knows_none : (whole : Bits) (feed : Feeding) → feed.dropped + feed.place ≤ length whole → feed.gap ≡ no_gap
    → KnowsGap whole feed
knows_none whole feed within is =
    knows_passed whole feed (omega (arith, ap (λ (g : GapSoFar). g.passed) is)) within (λ e. is)
    (λ zeros. absurd (false≢true (sym (ap (λ (g : GapSoFar). g.at_zeros) is) ∙ zeros)))
    (λ zeros. ap (λ (g : GapSoFar). g.look) is)
