-- Rows one at a time: what comes before the first line is passed, in data of which a reader may hold a part.
use Rattle.fax_rows.proofs.Names.{common_steps}
use Rattle.fax_rows.proofs.Names.{◌≡◌, ◌≢◌, ◌∙◌, ◌<◌, ◌≤◌, ◌+◌, ◌++◌, ◌⊎◌, [], ℕ, Bool, false, true, inl, inr, length, drop}
use Rattle.fax_rows.proofs.Names.{ap, sym, subst, arith, ◌||◌}
use Rattle.fax_rows.proofs.Names.{length-drop, IfOk-weaker, on_err_weaker, on_ok_weaker, DecodeSettings, Result, DecodeError}
use Rattle.fax_rows.proofs.Names.{append-nil}
use Rattle.fax_rows.proofs.Names.{Group4, Bits, Held, Context, fresh, gap_said, all_eols, gap_after_row, first_line}
use Rattle.fax_rows.proofs.Names.{refl, length-append}
use Rattle.fax_rows.proofs.Names.{DamageIsCounted, Stand, IsPaid, ReaderStands, stand_after, AtLine, looked, EncodingMode}
use Rattle.fax_rows.proofs.Names.{Group3_1D}
use Rattle.fax_rows.proofs.Names.{Group3_2D, BitsAt}
use Rattle.std.proofs.lemmas.List.{drop-append-le}
use Rattle.fax_bits.specs.Ones.{holds_one}
use Rattle.fax_reading.proofs.GapsContinued.ContinuedEols.{all_eols-more}
use Rattle.fax_reading.proofs.Readings.DamageCounted.{first_gap_left}
use Rattle.fax_reading.proofs.Work.ChangesStored.{changes_white}
use Rattle.fax_rows.proofs.Readings.RowByRow.{none_damaged, misses_after, first_gap_stands, first_line_stands, has_columns}
use Rattle.fax_rows.proofs.Readings.GapsPassed.{gap_goes_on, looked-more}
use Rattle.fax_rows.proofs.Work.CallsPaid.{first_gap_paid, first_line_paid}
use Rattle.fax_reading.proofs.Work.EolsPassed.{unsought_after}
use Rattle.fax_reading.specs.GapsContinued.{first_gap_is_settled, gap_is_settled}
use Rattle.fax_rows.specs.RowsTried.{PassesGap, StandsAlone, StandsFirst, front_is_settled}

-- in Group 4 a gap (T.6, 2.4.1.1)
module _ (old new : Context) (bits : Bits) (next : ℕ) (over : Result Bool DecodeError) (within : next ≤ length bits)
    (is : old.held.settings.encoding ≡ Group4) (wide : 0 < old.held.settings.columns)
    (begins : old.held ≡ fresh old.held.settings) (passes : PassesGap old new over bits (drop next bits)) where
  abbrev settings : DecodeSettings
  settings = old.held.settings

  abbrev last : Held
  last = new.held

  said : gap_after_row settings 0 false bits ≡ gap_said over last.has_eols (drop next bits)
  said = ap (λ (h : Held). gap_after_row settings h.taken h.has_eols bits) (sym begins) ∙ passes.gap

  frame : last ≡ record (fresh settings) { has_eols = last.has_eols }
  frame = first_gap_left old.held last bits begins passes.held passes.missed

  sought : old.held.has_eols ≡ false
  sought = ap (λ (h : Held). h.has_eols) begins

  unsought : last.has_eols ≡ false
  unsought = grind (arith, common_steps, unsought_after, on_err_weaker)

  pub front_stands : ReaderStands (stand_after over) settings bits last next
  front_stands = first_gap_stands settings wide bits is last next within frame over said passes.only_code unsought

  pub front_paid : IsPaid old.ticks (stand_after over) settings bits last next new.ticks
  front_paid = grind (arith, common_steps, first_gap_paid, IfOk-weaker, on_ok_weaker, settings, last, frame, said, sought)

-- where there are columns, the gap is settled
settled_gap : (settings : DecodeSettings) (bits : Bits) → 0 < settings.columns → front_is_settled settings bits ≡ true
    → first_gap_is_settled settings.encoding settings bits ≡ true
settled_gap settings bits wide is =
    ap (λ (b : Bool). b || first_gap_is_settled settings.encoding settings bits) (sym (has_columns settings wide)) ∙ is

-- so whatever follows
pub front_goes_on : (old new : Context) (bits : Bits) (next : ℕ) (over : Result Bool DecodeError) → next ≤ length bits
    → old.held.settings.encoding ≡ Group4 → 0 < old.held.settings.columns → old.held ≡ fresh old.held.settings
    → PassesGap old new over bits (drop next bits) → (after : BitsAt) → after ≡ record { bits = bits; place = next }
    → StandsFirst (stand_after over) old new (record { bits = bits; place = 0 }) after
front_goes_on old new bits next over within is wide begins passes after at =
    let longer : (more : Bits) → next ≤ length (bits ++ more) = λ more. omega (arith, within, length-append bits more) in
    let continues = λ (more : Bits)
    (settled : (more ≡ []) ⊎ (front_is_settled old.held.settings bits ≡ true)).
    subst (PassesGap old new over (bits ++ more)) (sym (drop-append-le next bits more within))
    (gap_goes_on old new over bits (drop next bits) more (at_front more settled) passes) in
    let place = ap (λ (a : BitsAt). a.place) at in
    record {
      stands = λ more settled. subst (ReaderStands (stand_after over) old.held.settings (bits ++ more) new.held) (sym place)
          (front_stands old new (bits ++ more) next over (longer more) is wide begins (continues more settled));
      damage = λ more. grind (arith, common_steps, none_damaged, misses_after, first_gap_left);
      paid = λ more settled. subst (λ (n : ℕ). IsPaid old.ticks (stand_after over) old.held.settings (bits ++ more) new.held n
          new.ticks) (sym place)
          (front_paid old new (bits ++ more) next over (longer more) is wide begins (continues more settled));
      within = omega (arith, within, place, ap (λ (a : BitsAt). length a.bits) at);
      row = ap (λ (h : Held). h.reference) passes.held;
      counts = passes.counts;
    }
  where
    by_encoding : (e : EncodingMode) → e ≡ Group4 → first_gap_is_settled e old.held.settings bits ≡ true
        → gap_is_settled old.held.settings 0 false bits ≡ true
    by_encoding Group4 e settled = settled
    by_encoding Group3_1D e settled = absurd cc
    by_encoding Group3_2D e settled = absurd cc

    at_front : (more : Bits) → (more ≡ []) ⊎ (front_is_settled old.held.settings bits ≡ true)
        → (more ≡ []) ⊎ (gap_is_settled old.held.settings old.held.taken old.held.has_eols bits ≡ true)
    at_front more (inl none) = inl none
    at_front more (inr settled) =
        let gap = settled_gap old.held.settings bits wide settled in inr (grind (arith, common_steps, by_encoding))

-- in Group 3 the EOLs there (T.4, 4.1.2)
pub eols_go_on : (old new : Context) (bits : Bits) (next : ℕ) → next ≤ length bits → old.held.settings.encoding ≢ Group4
    → 0 < old.held.settings.columns → old.held ≡ fresh old.held.settings
    → new.held ≡ record (fresh old.held.settings) { has_eols = (first_line old.held.settings bits).has_eols }
    → drop next bits ≡ (all_eols bits).1
    → new.ticks + length (drop next bits) ≤ old.ticks + length bits + looked (drop next bits)
    → old.ticks ≤ new.ticks → (after : BitsAt) → after ≡ record { bits = bits; place = next }
    → StandsFirst AtLine old new (record { bits = bits; place = 0 }) after
eols_go_on old new bits next within other wide begins frame rest work counts after at =
    let settings = old.held.settings in
    let last = new.held in
    let place = ap (λ (a : BitsAt). a.place) at in
    let following = λ (more : Bits). drop-append-le next bits more within in
    record {
      stands = λ more settled. subst (ReaderStands AtLine settings (bits ++ more) last) (sym place)
          (first_line_stands settings wide (bits ++ more) other last (drop next (bits ++ more))
          (frame ∙ ap (λ (b : Bool). record (fresh settings) { has_eols = b }) (sym (first_has more settled)))
          (following more ∙ ap (λ (b : Bits). b ++ more) rest ∙ sym (first_rest more settled))
          (omega (arith, length-drop next (bits ++ more))));
      damage = λ more. none_damaged AtLine settings (bits ++ more) last (λ misses. misses) (ap (λ (h : Held). h.taken) frame)
          (ap (λ (h : Held). h.repairs) frame);
      paid = λ more settled. grind (
        arith,
        common_steps,
        settings,
        last,
        first_line_paid,
        frame,
        changes_white,
        length-drop,
        length-append,
        looked-more,
      );
      within = omega (arith, within, place, ap (λ (a : BitsAt). length a.bits) at);
      row = ap (λ (h : Held). h.reference) frame ∙ sym (ap (λ (h : Held). h.reference) begins);
      counts = counts;
    }
  where
    by_encoding : (e : EncodingMode) → e ≢ Group4 → first_gap_is_settled e old.held.settings bits ≡ true
        → holds_one (all_eols bits).1 ≡ true
    by_encoding Group4 e settled = absurd (e refl)
    by_encoding Group3_1D e settled = settled
    by_encoding Group3_2D e settled = settled

    same_eols : (more : Bits) → (more ≡ []) ⊎ (front_is_settled old.held.settings bits ≡ true)
        → all_eols (bits ++ more) ≡ ((all_eols bits).0, (all_eols bits).1 ++ more)
    same_eols more (inl none) = grind (arith, common_steps, append-nil)
    same_eols more (inr settled) =
        all_eols-more more bits (by_encoding old.held.settings.encoding other (settled_gap old.held.settings bits wide settled))

    first_has : (more : Bits) → (more ≡ []) ⊎ (front_is_settled old.held.settings bits ≡ true)
        → (first_line old.held.settings (bits ++ more)).has_eols ≡ (first_line old.held.settings bits).has_eols
    first_has more settled = grind (arith, common_steps, same_eols)

    first_rest : (more : Bits) → (more ≡ []) ⊎ (front_is_settled old.held.settings bits ≡ true)
        → (first_line old.held.settings (bits ++ more)).rest ≡ (all_eols bits).1 ++ more
    first_rest more settled = ap (λ (found : ℕ × Bits). found.1) (same_eols more settled)

-- and if nothing follows
pub first_alone : {stand : Stand} {old new : Context} {before after : BitsAt} → StandsFirst stand old new before after
    → StandsAlone stand old new before.bits after.place
first_alone {stand} {old} {new} {before} {after} first =
    record {
      damage = subst (λ (b : Bits). DamageIsCounted stand old.held.settings b new.held) (append-nil before.bits)
          (first.damage []);
      stands = subst (λ (b : Bits). ReaderStands stand old.held.settings b new.held after.place) (append-nil before.bits)
          (first.stands [] (inl refl));
      paid = λ from begun. subst (λ (n : ℕ). IsPaid n stand old.held.settings before.bits new.held after.place new.ticks) begun
          (subst (λ (b : Bits). IsPaid old.ticks stand old.held.settings b new.held after.place new.ticks)
          (append-nil before.bits) (first.paid [] (inl refl)));
    }
