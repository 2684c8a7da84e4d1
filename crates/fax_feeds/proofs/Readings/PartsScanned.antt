-- What is kept of a feed whose line is read on from a part that was kept.
use Rattle.fax_feeds.proofs.Names.{◌≡◌, ◌∙◌, ◌+◌, ◌-◌, ◌≤◌, ℕ, Bool, true, false, None, Some, Option, refl, sym, subst, arith}
use Rattle.fax_feeds.proofs.Names.{length, drop, BitsAt, Context, bits_in, false≢true, ◌*◌, length-drop, common_steps}
use Rattle.fax_feeds.specs.GapsSeen.{IsSeen, rules_for}
use Rattle.fax_feeds.specs.declared.line_parts.KeptPart.{KeptPart}
use Rattle.fax_feeds.specs.declared.row_feed.RowFeed.TheInside.{Inside}
use Rattle.fax_feeds.specs.LineParts.{ContinuesLine}
use Rattle.fax_feeds.specs.RowFeeds.{no_gap}
use Rattle.fax_feeds.proofs.Names.{◌≢◌, is_at_line}
use Rattle.fax_feeds.specs.RowFeeds.{Feeding, IsKept, LineGoesOn, PartIsKept, ScansLine, feeding_of, StaysShort}
use Rattle.fax_bits.proofs.BitReading.BitLists.{length-bits_in}
use Rattle.fax_feeds.proofs.Readings.PartsFed.{part_reached, scans_short, scans_whole, read_within, stays_by}

-- what was read of the line is among the bits kept
pub part_within : (f : Inside) → IsKept f → f.place + f.line_read ≤ 8 * length f.«data».items
part_within f held = grind (
  arith,
  common_steps,
  length-bits_in,
  length-drop,
  read_within f.part f.begun f.rows.stand f.ctx.held
      (drop f.place (bits_in f.order f.«data».items)) f.line_read held.part,
)

-- where a part is kept, no zeros end the data
pub part_follows : (f : Inside) (part : KeptPart) → IsKept f → f.part ≡ Some part → f.gap.at_zeros ≡ false
part_follows f part held is = by_zeros f.gap.at_zeros refl
  where
    by_zeros : (b : Bool) → f.gap.at_zeros ≡ b → b ≡ false
    by_zeros false e = refl
    by_zeros true e = let never : Some part ≡ None = sym is ∙ held.unkept e in absurd cc

-- a part that is kept is that of a line here, of which no gap is known
pub part_is_at_line : (f : Inside) → IsKept f → f.part ≢ None → (is_at_line f.rows.stand ≡ true) × (f.gap ≡ no_gap)
part_is_at_line f held some = by_part f.part refl held.part
  where
    by_part : (part : Option KeptPart) → f.part ≡ part
        → PartIsKept part f.begun f.rows.stand f.ctx.held (drop f.place (bits_in f.order f.«data».items)) f.line_read
        → (is_at_line f.rows.stand ≡ true) × (f.gap ≡ no_gap)
    by_part None is kept = absurd (some is)
    by_part (Some part) is kept = (kept.at_line, held.line kept.at_line (part_follows f part held is))

module _ {f : Inside} {now : Context} {part next : KeptPart} {read : ℕ} {before after : BitsAt} {short : Bool}
    (held : IsKept f) (before_is : before ≡ record { bits = bits_in f.order f.«data».items; place = f.place + read })
    (on : ContinuesLine part next f.ctx now before after short)
    (kept : LineGoesOn f.begun f.rows.stand f.ctx.held (drop f.place (bits_in f.order f.«data».items)) read part) where
  -- with a part, or with none
  abbrev pub with_part : Option KeptPart → ℕ → Inside
  with_part left reached = record f { ctx = now; part = left; line_read = reached }

  place_within : f.place ≤ length (bits_in f.order f.«data».items)
  place_within = omega (arith, held.within, length-bits_in f.order f.«data».items)

  abbrev scanned : Feeding
  scanned = record (feeding_of f) { ctx = now }

  kept_by : (left : Option KeptPart) (reached : ℕ)
      → PartIsKept left f.begun f.rows.stand now.held (drop f.place (bits_in f.order f.«data».items)) reached
      → (f.gap.at_zeros ≡ true → left ≡ None) → IsKept (with_part left reached)
  kept_by left reached is unkept = record {
    within = held.within;
    fit = held.fit;
    bytes = held.bytes;
    unbegun = λ e. absurd (false≢true (sym e ∙ kept.is_begun));
    seen = subst (λ (x : Context). IsSeen (rules_for f.begun x.held) f.gap.look (drop f.place (bits_in f.order f.«data».items)))
        (sym on.frame) held.seen;
    line = held.line;
    over = held.over;
    counted = held.counted;
    unkept = unkept;
    last = held.last;
    part = is;
  }

  -- none is kept
  pub kept_whole : IsKept (with_part None 0)
  kept_whole = kept_by None 0 refl (λ zeros. refl)

  pub whole_scans : short ≡ false → ScansLine part.passed read (feeding_of f) (feeding_of (with_part None 0)) false
  whole_scans = scans_whole (feeding_of f) scanned part next read before after short before_is place_within on kept

  pub whole_stays : f.part ≡ Some part → f.line_read ≡ read → f.is_last ≡ false → short ≡ false
      → StaysShort (feeding_of f) (feeding_of (with_part None 0)) false
  whole_stays is read_is more whole =
      stays_by (feeding_of f) _ part false is more kept.none_drawn
      (subst (λ (n : ℕ). ScansLine part.passed n (feeding_of f) (feeding_of (with_part None 0)) false) (sym read_is)
      (whole_scans whole))

  -- the part that is reached is
  module _ (reached : ℕ) (reached_is : reached ≡ after.place - f.place) (inside : after.place ≤ length after.bits)
      (is_short : short ≡ true) where
    pub kept_short : f.gap.at_zeros ≡ false → IsKept (with_part (Some next) reached)
    kept_short some_follow = kept_by (Some next) reached (subst (λ (n : ℕ). LineGoesOn f.begun f.rows.stand now.held
        (drop f.place (bits_in f.order f.«data».items)) n next) (sym reached_is)
        (part_reached (feeding_of f) scanned part next read before after short before_is place_within on kept inside is_short))
        (λ zeros. absurd (false≢true (sym some_follow ∙ zeros)))

    pub short_scans : ScansLine part.passed read (feeding_of f) (feeding_of (with_part (Some next) reached)) true
    short_scans = subst (λ (n : ℕ). ScansLine part.passed read (feeding_of f) (feeding_of (with_part (Some next) n)) true)
        (sym reached_is)
        (scans_short (feeding_of f) scanned part next read before after short before_is place_within on kept inside is_short)

    pub short_stays : f.part ≡ Some part → f.line_read ≡ read → f.is_last ≡ false
        → StaysShort (feeding_of f) (feeding_of (with_part (Some next) reached)) true
    short_stays is read_is more =
        stays_by (feeding_of f) _ part true is more kept.none_drawn
        (subst (λ (n : ℕ). ScansLine part.passed n (feeding_of f) (feeding_of (with_part (Some next) reached)) true) (sym read_is)
        short_scans)
