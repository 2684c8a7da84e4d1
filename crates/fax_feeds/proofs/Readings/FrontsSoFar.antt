-- What is before the first line, of which the first bits were counted.
use Rattle.fax_feeds.proofs.Names.{◌≡◌, ◌≢◌, ◌∙◌, ◌≤◌, ◌<◌, ◌++◌, ◌||◌, [], ap, sym, subst, refl, arith, length, drop}
use Rattle.fax_feeds.proofs.Names.{true, false, not, ltb, ℕ, Bool, Ok, Bits, Context, DecodeSettings, EncodingMode, Held}
use Rattle.fax_feeds.proofs.Names.{Group3_1D, Group3_2D, Group4, at_end, length-drop, stand_after}
use Rattle.fax_reading.specs.Context.{fresh}
use Rattle.fax_reading.specs.PlainReading.{is_over}
use Rattle.fax_rows.specs.declared.gap_count.GapCount.{GapCount}
use Rattle.fax_rows.specs.FrontsCounted.{FrontEndsWithZeros, PassesFront, TakesNoRow, front_encoding, front_rules}
use Rattle.fax_rows.specs.GapsCounted.{behind_tag, left_before}
use Rattle.fax_feeds.proofs.Names.{eols_here, replicate, suc, zero}
use Rattle.fax_rows.specs.RowsTried.{StandsFirst}
use Rattle.fax_rows.proofs.Readings.FrontsCounted.{front_of_zeros, passes_front}
use Rattle.fax_feeds.specs.declared.counted_gaps.GapSoFar.{GapSoFar}
use Rattle.fax_feeds.specs.CountedGaps.{PassesFirst}
use Rattle.fax_feeds.proofs.Readings.GapsSoFar.{tag_counted}

-- they are among its bits
pub zeros_within : {settings : DecodeSettings} {whole : Bits} {at : ℕ} {count : GapCount} {after : Bits}
    → FrontEndsWithZeros settings whole at count after → drop at whole ≡ [] → length (left_before count []) ≤ length whole
zeros_within {whole = whole} ends last =
    let found = front_of_zeros ends last in omega (arith, ap length found.2, length-drop found.0 whole)

-- by a context in which the same is held
passes_by_held : (old mid new : Context) (whole : Bits) (next : ℕ) (line : Bool) → mid.held ≡ old.held
    → PassesFront mid new whole next line → PassesFront old new whole next line
passes_by_held old mid new whole next line same passes =
    let now = subst (λ (h : Held). StandsFirst (stand_after (Ok (not line))) (record mid { held = h; ticks = new.ticks }) new
    (record { bits = whole; place = 0 }) (record { bits = whole; place = next })) same passes in
    record {
      stands = now.stands;
      damage = now.damage;
      paid = now.paid;
      within = now.within;
      row = now.row;
      counts = now.counts;
    }

-- only whether EOLs are sought
record ChangesLittle (mid new : Context) : Type 0 where
  ticks : new.ticks ≡ mid.ticks
  space : new.space ≡ mid.space
  taken : new.held.taken ≡ mid.held.taken
  settings : new.held.settings ≡ mid.held.settings

-- what passing it changes, where its EOLs were counted
module _ {old mid new : Context} (eols : ℕ) {line : Bool} (same : mid.held ≡ old.held) (took : TakesNoRow old mid)
    (four : mid.held.settings.encoding ≡ Group4 → (new ≡ mid)
    × ((rest : Bits) → false ≡ at_end rest → is_over mid.held.settings mid.held.taken (eols, rest) ≡ not line))
    (three : mid.held.settings.encoding ≢ Group4 → (line ≡ true)
    × (new ≡ record mid { held = record mid.held { has_eols = ltb 0 eols || mid.held.settings.end_of_line } })) where
  changes_little : ChangesLittle mid new
  changes_little = by_encoding mid.held.settings.encoding refl
    where
      by_three : mid.held.settings.encoding ≢ Group4 → ChangesLittle mid new
      by_three other =
          let is = (three other).1 in
          record {
            ticks = ap (λ (c : Context). c.ticks) is;
            space = ap (λ (c : Context). c.space) is;
            taken = ap (λ (c : Context). c.held.taken) is;
            settings = ap (λ (c : Context). c.held.settings) is;
          }

      by_encoding : (encoding : EncodingMode) → mid.held.settings.encoding ≡ encoding → ChangesLittle mid new
      by_encoding Group4 e =
          let is = (four e).0 in
          record {
            ticks = ap (λ (c : Context). c.ticks) is;
            space = ap (λ (c : Context). c.space) is;
            taken = ap (λ (c : Context). c.held.taken) is;
            settings = ap (λ (c : Context). c.held.settings) is;
          }
      by_encoding Group3_1D e = by_three (λ is. let never = sym e ∙ is in absurd cc)
      by_encoding Group3_2D e = by_three (λ is. let never = sym e ∙ is in absurd cc)

  pub front_takes : TakesNoRow old new
  front_takes = record {
    taken = changes_little.taken ∙ took.taken;
    settings = changes_little.settings ∙ took.settings;
    space = changes_little.space ∙ took.space;
    counts = omega (arith, changes_little.ticks, took.counts);
  }

  pub front_ticks : new.ticks ≡ mid.ticks
  front_ticks = changes_little.ticks

  -- the data ends with zeros
  pub zeros_first : (whole : Bits) (at : ℕ) (gap : GapSoFar) {after : Bits} → gap.count.eols ≡ eols
      → FrontEndsWithZeros old.held.settings whole at gap.count after → drop at whole ≡ [] → at ≤ length whole
      → old.held ≡ fresh old.held.settings → 0 < old.held.settings.columns
      → gap.passed ≡ length (left_before gap.count []) → PassesFirst old new whole at gap line
  zeros_first whole at gap {after} counts ends last within begins wide passed =
      let found = front_of_zeros ends last in
      let next = found.0 in
      let settings_same : mid.held.settings ≡ old.held.settings = ap (λ (h : Held). h.settings) same in
      let some : at_end (drop next whole) ≡ false =
      ap at_end found.2 ∙ some_zeros_left gap.count.tag gap.count.zeros ends.enough in
      record {
        place = next;
        place_is = omega (
          arith,
          passed,
          ap length found.2,
          length-drop next whole,
          found.3,
          ap length last,
          length-drop at whole,
          within,
        );
        within = found.3;
        passes = passes_by_held old mid new whole next line same (passes_front mid new mid.ticks whole next gap.count.eols line
            (same ∙ begins ∙ ap fresh (sym settings_same))
            (subst (λ (s : DecodeSettings). 0 < s.columns) (sym settings_same) wide)
            found.3 (ap (λ (s : DecodeSettings). eols_here (front_rules s) whole) settings_same ∙ found.1)
            (λ is. (
              (four is).0,
              ap (λ (n : ℕ). is_over mid.held.settings mid.held.taken (n, drop next whole)) counts
                  ∙ (four is).1 (drop next whole) (sym some),
            ))
            (λ other. (
              (three other).0,
              (three other).1 ∙ ap (λ (n : ℕ). record mid {
                held = record mid.held { has_eols = ltb 0 n || mid.held.settings.end_of_line };
              }) (sym counts),
            )));
        zeros = λ zeros. (
          found.2,
          λ tag. absurd (untagged old.held.settings.encoding
              (tag_counted (front_rules old.held.settings) ends.stands.gone gap.count ends.stands.is tag)),
        );
      }
    where
      untagged : (encoding : EncodingMode) → front_encoding encoding ≡ Group3_2D → ⊥
      untagged Group4 e = cc
      untagged Group3_1D e = cc
      untagged Group3_2D e = cc

      some_zeros_left : (tag : Bool) (n : ℕ) → 16 ≤ n → at_end (behind_tag tag (replicate n false ++ [])) ≡ false
      some_zeros_left true n enough = refl
      some_zeros_left false zero enough = absurd (omega (arith, enough))
      some_zeros_left false (suc n) enough = refl
