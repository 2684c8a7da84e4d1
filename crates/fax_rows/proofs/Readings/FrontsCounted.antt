-- What is before the first line, counted as its bits come.
use Rattle.fax_rows.proofs.Names.{◌≡◌, ◌≢◌, ◌∙◌, ◌+◌, ◌≤◌, ◌<◌, ◌||◌, ap, sym, subst, arith, length, drop, true, false, ℕ, Bool}
use Rattle.fax_rows.proofs.Names.{Bits, Context, DecodeSettings, EncodingMode, Held, Ok, refl, Group3_1D, Group3_2D, Group4}
use Rattle.fax_rows.proofs.Names.{append_assoc, drop-drop, length-append, length-drop, eols_here, is_over, fresh, misses_eol, eqb}
use Rattle.fax_rows.proofs.Names.{all_eols, first_line, at_end, limit_met, ◌&&◌}
use Rattle.std.proofs.Common.{◌++◌, ◌∷◌, [], Some, append-nil, not, ltb}
use Rattle.std.proofs.Math.Seq.{drop-append_seam}
use Rattle.fax_reading.specs.GapsContinued.{eols_here_are_settled, first_gap_is_settled}
use Rattle.fax_reading.specs.PlainReading.{eols_by}
use Rattle.fax_rows.proofs.Names.{◌⊎◌, inl, inr}
use Rattle.fax_rows.proofs.Readings.RowByRow.{has_columns}
use Rattle.fax_rows.proofs.Readings.FirstGaps.{eols_go_on, front_goes_on}
use Rattle.fax_rows.proofs.Readings.GapsCame.{both_over, is_t6, second_is_last, some_bits, ends_with_two}
use Rattle.fax_rows.proofs.Readings.GapsCounted.{counted_then, passes_known}
use Rattle.fax_rows.proofs.Readings.GapsEnded.{found_at_end, found_at_one}
use Rattle.fax_rows.proofs.Readings.GapsOpen.{counted_is_open, counted_eols_are_open}
use Rattle.fax_rows.proofs.Readings.GapsStepped.{bits_here}
use Rattle.fax_rows.proofs.Readings.GapsStood.{before_split, left_of_counted}
use Rattle.fax_rows.specs.declared.gap_count.GapCount.{GapCount}
use Rattle.fax_rows.specs.FrontsCounted.{CountsFront, FrontEndsWithZeros, PassesFront, WaitsAtFront, front_encoding, front_rules}
use Rattle.fax_rows.specs.GapsCounted.{EndsAtOne, EndsAtTwo, LiesAt, StaysOpen, counted_by, ends_at_two, eols_of_count, has_tags}
use Rattle.fax_rows.specs.GapsCounted.{left_before, none_counted, to_last_eol}
use Rattle.fax_rows.specs.RowsTried.{PassesGap, front_is_settled}

-- no EOL has a tag there
eols_plain : (encoding : EncodingMode) (count : GapCount) (here : Bits)
    → eols_of_count (front_encoding encoding) count here ≡ (count.eols, left_before count here)
eols_plain Group4 count here = refl
eols_plain Group3_1D count here = refl
eols_plain Group3_2D count here = refl

-- ---- Its EOLs

module _ (settings : DecodeSettings) {whole : Bits} {at : ℕ} {old : GapCount} (front : CountsFront settings whole at old)
    (before more : Bits) (here : drop at whole ≡ before ++ more) where
  abbrev rules : DecodeSettings
  rules = front_rules settings

  all_are : whole ≡ front.gone ++ (before ++ more)
  all_are = front.are ∙ ap (λ (b : Bits). front.gone ++ b) here

  -- more bits were counted
  counts_on : (first : Bits) (new : GapCount) → counted_by rules old first ≡ Some new
      → counted_by rules none_counted (front.gone ++ first) ≡ Some new
  counts_on first new is =
      counted_then (has_tags rules.encoding) (ends_at_two rules.encoding rules.end_of_block) none_counted old front.gone first
      front.is ∙ is

  pub front_after : (first after : Bits) (new : GapCount) → before ≡ first ++ after → counted_by rules old first ≡ Some new
      → CountsFront settings whole (at + length first) new
  front_after first after new are is =
      let rest : drop (at + length first) whole ≡ after ++ more =
      sym (drop-drop (length first) at whole)
      ∙ ap (drop (length first)) (here ∙ ap (λ (b : Bits). b ++ more) are ∙ append_assoc first after more)
      ∙ drop-append_seam first (after ++ more) in
      record {
        gone = front.gone ++ first;
        are = all_are ∙ ap (λ (b : Bits). front.gone ++ (b ++ more)) are
            ∙ ap (λ (b : Bits). front.gone ++ b) (append_assoc first after more)
            ∙ sym (append_assoc front.gone first (after ++ more))
            ∙ ap (λ (b : Bits). (front.gone ++ first) ++ b) (sym rest);
        place = omega (arith, front.place, length-append front.gone first);
        is = counts_on first new is;
      }

  pub found_one : {new : GapCount} {mid : Bits} → EndsAtOne rules old new before mid
      → eols_here rules whole ≡ (new.eols, mid ++ more)
  found_one {new} {mid} ends =
      let first = ends.first ++ left_before ends.tail [] in
      let rest = ends.rest ++ more in
      let are : before ++ more ≡ first ++ true ∷ rest =
      ap (λ (b : Bits). b ++ more) (ends.are ∙ ap (λ (b : Bits). ends.first ++ b) ends.left
      ∙ sym (append_assoc ends.first (left_before ends.tail []) (true ∷ ends.rest)))
      ∙ append_assoc first (true ∷ ends.rest) more in
      let is : counted_by rules old first ≡ Some ends.tail =
      counted_then (has_tags rules.encoding) (ends_at_two rules.encoding rules.end_of_block) old new ends.first
      (left_before ends.tail []) ends.is ∙ ends.counted_tail in
      let left : left_before ends.tail (true ∷ rest) ≡ mid ++ more =
      before_split ends.tail.tag ends.tail.zeros [] (true ∷ rest)
      ∙ sym (append_assoc (left_before ends.tail []) (true ∷ ends.rest) more) ∙ ap (λ (b : Bits). b ++ more) (sym ends.left) in
      ap (eols_here rules) (all_are ∙ ap (λ (b : Bits). front.gone ++ b) are)
      ∙ found_at_one rules front.gone old front.is first rest ends.tail is ends.few ends.none
      ∙ eols_plain settings.encoding ends.tail (true ∷ rest) ∙ ap (λ (b : Bits). (ends.tail.eols, b)) left
      ∙ ap (λ (n : ℕ). (n, mid ++ more)) (sym (ap (λ (n : GapCount). n.eols) ends.last))

  pub found_two : {new : GapCount} {after : Bits} → EndsAtTwo rules old new before after
      → eols_here rules whole ≡ (2, after ++ more)
  found_two {new} {after} ends =
      ap (eols_here rules) (all_are ∙ ap (λ (b : Bits). front.gone ++ (b ++ more)) ends.are
      ∙ ap (λ (b : Bits). front.gone ++ b) (append_assoc ends.first (true ∷ after) more)
      ∙ sym (append_assoc front.gone ends.first (true ∷ (after ++ more))))
      ∙ second_is_last rules ends (front.gone ++ ends.first) (counts_on ends.first new ends.is) (after ++ more)

  module _ {new : GapCount} {mid : Bits} (waits : StaysOpen rules old new before mid) where
    all_is : counted_by rules none_counted (front.gone ++ before) ≡ Some waits.end
    all_is = counts_on before waits.end (ap (counted_by rules old) waits.are
        ∙ counted_then (has_tags rules.encoding) (ends_at_two rules.encoding rules.end_of_block) old new waits.first mid waits.is
        ∙ waits.still)

    -- at the end of the data
    pub found_last : new.zeros < 16 → more ≡ [] → eols_here rules whole ≡ (new.eols, mid ++ more)
    found_last few last =
        let tail = tail_here waits.tail in
        let none : (b : Bits) → b ≡ b ++ more = λ b. sym (append-nil b) ∙ ap (λ (m : Bits). b ++ m) (sym last) in
        ap (eols_here rules) (all_are ∙ ap (λ (b : Bits). front.gone ++ b) (sym (none before)))
        ∙ found_at_end rules (front.gone ++ before) waits.end all_is ∙ eols_plain settings.encoding waits.end []
        ∙ ap (λ (n : ℕ). (n, left_before waits.end [])) (sym (ap (λ (n : GapCount). n.eols) tail.0))
        ∙ ap (λ (b : Bits). (new.eols, b)) (sym tail.1 ∙ none mid)
      where
        tail_here : ((new ≡ to_last_eol waits.end) × (mid ≡ left_before waits.end [])) ⊎ ((16 ≤ new.zeros) × (mid ≡ []))
            → (new ≡ to_last_eol waits.end) × (mid ≡ left_before waits.end [])
        tail_here (inl is) = is
        tail_here (inr is) = absurd (omega (arith, few, is.0))

-- ---- Data that follows can change it

module _ (settings : DecodeSettings) (gone : Bits) (count : GapCount)
    (is : counted_by (front_rules settings) none_counted gone ≡ Some count) where
  open_by : (encoding : EncodingMode) → settings.encoding ≡ encoding → first_gap_is_settled encoding settings gone ≡ false
  open_by Group4 e =
      let same : front_rules settings ≡ settings =
      ap (λ (m : EncodingMode). record settings { encoding = front_encoding m }) e
      ∙ ap (λ (m : EncodingMode). record settings { encoding = m }) (sym e) in
      counted_is_open settings 0 false gone count (ap (λ (s : DecodeSettings). counted_by s none_counted gone) (sym same) ∙ is)
  open_by Group3_1D e =
      ap (λ (m : EncodingMode). eols_here_are_settled (record settings { encoding = front_encoding m }) gone) (sym e)
      ∙ counted_eols_are_open (front_rules settings) gone count is
  open_by Group3_2D e =
      ap (λ (m : EncodingMode). eols_here_are_settled (record settings { encoding = front_encoding m }) gone) (sym e)
      ∙ counted_eols_are_open (front_rules settings) gone count is

  pub front_open : 0 < settings.columns → front_is_settled settings gone ≡ false
  front_open wide =
      ap (λ (b : Bool). b || first_gap_is_settled settings.encoding settings gone) (has_columns settings wide)
      ∙ open_by settings.encoding refl

-- ---- It is passed

module _ (old new : Context) (whole : Bits) (next eols : ℕ) (line : Bool) (begins : old.held ≡ fresh old.held.settings)
    (wide : 0 < old.held.settings.columns) (within : next ≤ length whole)
    (found : eols_here (front_rules old.held.settings) whole ≡ (eols, drop next whole)) where
  abbrev settings : DecodeSettings
  settings = old.held.settings

  abbrev now : Context
  now = record old { ticks = new.ticks }

  shorter : length (drop next whole) ≤ length whole
  shorter = omega (arith, length-drop next whole)

  -- in Group 4 (T.6, 2.4.1.1)
  pub passes_front_4 : settings.encoding ≡ Group4 → new ≡ now
      → is_over settings old.held.taken (eols, drop next whole) ≡ not line → PassesFront old new whole next line
  passes_front_4 four same over =
      let rules : front_rules settings ≡ settings =
      ap (λ (m : EncodingMode). record settings { encoding = front_encoding m }) four
      ∙ ap (λ (m : EncodingMode). record settings { encoding = m }) (sym four) in
      let here : eols_here settings whole ≡ (eols, drop next whole) =
      ap (λ (s : DecodeSettings). eols_here s whole) (sym rules) ∙ found in
      let unsought : old.held.has_eols ≡ false = ap (λ (h : Held). h.has_eols) begins in
      let none : misses_eol settings old.held.taken old.held.has_eols whole ≡ false =
      ap (λ (b : Bool). misses_eol settings old.held.taken b whole) unsought
      ∙ none_missed (eqb (eols_here settings whole).0 0) (not (limit_met settings old.held.taken)) (not (at_end whole)) in
      let passes = subst (λ (b : Bool). PassesGap now now (Ok b) whole (drop next whole)) over
      (passes_known now whole (drop next whole) eols here none shorter) in
      front_goes_on now new whole next (Ok (not line)) within four wide begins
      (subst (λ (c : Context). PassesGap now c (Ok (not line)) whole (drop next whole)) (sym same) passes)
      (record { bits = whole; place = next }) refl
    where
      none_missed : (a b c : Bool) → (a && false && b && c) ≡ false
      none_missed true b c = refl
      none_missed false b c = refl

  -- in Group 3 (T.4, 4.1.2)
  pub passes_front_3 : settings.encoding ≢ Group4 → line ≡ true
      → new ≡ record now { held = record old.held { has_eols = ltb 0 eols || settings.end_of_line } }
      → PassesFront old new whole next line
  passes_front_3 other is same =
      let here : all_eols whole ≡ (eols, drop next whole) = by_encoding settings.encoding refl in
      let frame : new.held ≡ record (fresh settings) { has_eols = (first_line settings whole).has_eols } =
      ap (λ (c : Context). c.held) same
      ∙ ap (λ (h : Held). record h { has_eols = ltb 0 eols || settings.end_of_line }) begins
      ∙ ap (λ (x : ℕ × Bits). record (fresh settings) { has_eols = ltb 0 x.0 || settings.end_of_line }) (sym here) in
      subst (λ (b : Bool). PassesFront old new whole next b) (sym is)
      (eols_go_on now new whole next within other wide begins frame (ap (λ (x : ℕ × Bits). x.1) (sym here))
      (omega (arith, shorter)) (omega arith) (record { bits = whole; place = next }) refl)
    where
      by_encoding : (encoding : EncodingMode) → settings.encoding ≡ encoding → all_eols whole ≡ (eols, drop next whole)
      by_encoding Group4 e = absurd (other e)
      by_encoding Group3_1D e =
          ap (λ (m : EncodingMode). eols_by (front_encoding m) settings.end_of_block whole) (sym e) ∙ found
      by_encoding Group3_2D e =
          ap (λ (m : EncodingMode). eols_by (front_encoding m) settings.end_of_block whole) (sym e) ∙ found

-- by what its encoding says
pub passes_front : (old new : Context) (ticks : ℕ) (whole : Bits) (next eols : ℕ) (line : Bool)
    → old.held ≡ fresh old.held.settings → 0 < old.held.settings.columns → next ≤ length whole
    → eols_here (front_rules old.held.settings) whole ≡ (eols, drop next whole)
    → (old.held.settings.encoding ≡ Group4 → (new ≡ record old { ticks = ticks })
    × (is_over old.held.settings old.held.taken (eols, drop next whole) ≡ not line))
    → (old.held.settings.encoding ≢ Group4 → (line ≡ true) × (new ≡ record old {
      held = record old.held { has_eols = ltb 0 eols || old.held.settings.end_of_line };
      ticks = ticks;
    }))
    → PassesFront old new whole next line
passes_front old new ticks whole next eols line begins wide within found four three =
    by_encoding old.held.settings.encoding refl
  where
    by_three : old.held.settings.encoding ≢ Group4 → PassesFront old new whole next line
    by_three other =
        let is = three other in
        passes_front_3 old new whole next eols line begins wide within found other is.0
        (is.1 ∙ ap (λ (n : ℕ). record old {
          held = record old.held { has_eols = ltb 0 eols || old.held.settings.end_of_line };
          ticks = n;
        }) (sym (ap (λ (c : Context). c.ticks) is.1)))

    by_encoding : (encoding : EncodingMode) → old.held.settings.encoding ≡ encoding → PassesFront old new whole next line
    by_encoding Group4 e =
        let is = four e in
        passes_front_4 old new whole next eols line begins wide within found e
        (is.0 ∙ ap (λ (n : ℕ). record old { ticks = n }) (sym (ap (λ (c : Context). c.ticks) is.0))) is.1
    by_encoding Group3_1D e = by_three (λ four. absurd (let never = sym e ∙ four in cc))
    by_encoding Group3_2D e = by_three (λ four. absurd (let never = sym e ∙ four in cc))

-- ---- A step

module _ (settings : DecodeSettings) {whole : Bits} {dropped : ℕ} {bits more : Bits} (lies : LiesAt whole dropped bits more)
    {place : ℕ} (within : place ≤ length bits) {count : GapCount}
    (front : CountsFront settings whole (dropped + place) count) (to : ℕ) (to_within : to ≤ length bits) where
  abbrev Known : drop (dropped + place) whole ≡ drop place bits ++ more
  Known = bits_here lies place within

  abbrev There : drop (dropped + to) whole ≡ drop to bits ++ more
  There = bits_here lies to to_within

  moved : (first : Bits) → drop place bits ≡ first ++ drop to bits → dropped + place + length first ≡ dropped + to
  moved first are = omega (
    arith,
    within,
    to_within,
    ap length are,
    length-append first (drop to bits),
    length-drop place bits,
    length-drop to bits,
  )

  module _ {next : GapCount} (waits : StaysOpen (front_rules settings) count next (drop place bits) (drop to bits)) where
    stays : CountsFront settings whole (dropped + to) next
    stays = subst (λ (n : ℕ). CountsFront settings whole n next) (moved waits.first waits.are)
        (front_after settings front (drop place bits) more Known waits.first (drop to bits) next waits.are waits.is)

    pub front_waits : 0 < settings.columns → WaitsAtFront settings whole (dropped + to) next (drop to bits)
    front_waits wide = record {
      stands = stays;
      unsettled = front_open settings (stays.gone ++ drop to bits) waits.end
          (counted_then (has_tags (front_rules settings).encoding)
          (ends_at_two (front_rules settings).encoding settings.end_of_block) none_counted next stays.gone (drop to bits)
          stays.is ∙ waits.still) wide;
      tidy = waits.tidy;
      few = waits.few;
    }

    pub front_zeros : 16 ≤ next.zeros → FrontEndsWithZeros settings whole (dropped + to) next (drop to bits)
    front_zeros enough = record { stands = stays; enough = enough; none_left = none_after waits.tail }
      where
        none_after : ((next ≡ to_last_eol waits.end) × (drop to bits ≡ left_before waits.end []))
            ⊎ ((16 ≤ next.zeros) × (drop to bits ≡ [])) → drop to bits ≡ []
        none_after (inl is) = absurd (omega (arith, enough, ap (λ (n : GapCount). n.zeros) is.0))
        none_after (inr is) = is.1

    pub front_last : next.zeros < 16 → more ≡ []
        → eols_here (front_rules settings) whole ≡ (next.eols, drop (dropped + to) whole)
    front_last few last =
        found_last settings front (drop place bits) more Known waits few last ∙ ap (λ (b : Bits). (next.eols, b)) (sym There)

  pub front_one : {next : GapCount} → EndsAtOne (front_rules settings) count next (drop place bits) (drop to bits)
      → (eols_here (front_rules settings) whole ≡ (next.eols, drop (dropped + to) whole))
      × (at_end (drop (dropped + to) whole) ≡ false)
  front_one {next} ends = (
    found_one settings front (drop place bits) more Known ends ∙ ap (λ (b : Bits). (next.eols, b)) (sym There),
    ap at_end (There ∙ ap (λ (b : Bits). b ++ more) ends.left
        ∙ append_assoc (left_before ends.tail []) (true ∷ ends.rest) more)
        ∙ some_bits (left_before ends.tail []) (ends.rest ++ more),
  )

  pub front_two : {next : GapCount} → EndsAtTwo (front_rules settings) count next (drop place bits) (drop to bits)
      → eols_here (front_rules settings) whole ≡ (2, drop (dropped + to) whole)
  front_two ends = found_two settings front (drop place bits) more Known ends ∙ ap (λ (b : Bits). (2, b)) (sym There)

  -- such data ends with two EOLs (T.6, 2.4.1.1)
  pub front_over : {next : GapCount} → EndsAtTwo (front_rules settings) count next (drop place bits) (drop to bits)
      → settings.encoding ≡ Group4 → (taken : ℕ) (rest others : Bits)
      → is_over settings taken (2, others) ≡ is_over settings taken (2, rest)
  front_over ends four taken rest others =
      both_over settings four (is_t6 (front_rules settings).encoding settings.end_of_block
      (ends_with_two (front_rules settings) ends (front.gone ++ ends.first)
      (counts_on settings front (drop place bits) more Known ends.first _ ends.is))).1 taken rest others

-- ---- The data ends with zeros

pub front_of_zeros : {settings : DecodeSettings} {whole : Bits} {at : ℕ} {count : GapCount} {after : Bits}
    → FrontEndsWithZeros settings whole at count after → drop at whole ≡ []
    → (next : ℕ) × (eols_here (front_rules settings) whole ≡ (count.eols, drop next whole))
    × (drop next whole ≡ left_before count []) × (next ≤ length whole)
front_of_zeros {settings} {whole} {at} {count} ends last =
    let front = ends.stands in
    let rules = front_rules settings in
    let are : whole ≡ front.gone ++ [] = front.are ∙ ap (λ (b : Bits). front.gone ++ b) last in
    let left = left_of_counted (has_tags rules.encoding) (ends_at_two rules.encoding rules.end_of_block) none_counted front.gone
    count [] front.is in
    let there : left_before count [] ≡ drop (length left.0) whole =
    sym (drop-append_seam left.0 (left_before count [])) ∙ ap (drop (length left.0)) (sym (are ∙ left.1)) in (
      length left.0,
      ap (eols_here rules) (are ∙ append-nil front.gone) ∙ found_at_end rules front.gone count front.is
          ∙ eols_plain settings.encoding count [] ∙ ap (λ (b : Bits). (count.eols, b)) there,
      sym there,
      omega (arith, ap length (are ∙ left.1), length-append left.0 (left_before count [])),
    )
