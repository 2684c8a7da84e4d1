-- Damage to a line of two-dimensional data ends at the next one-dimensional line.
use Rattle.fax_reading.proofs.Names.{ComesBefore1D, length-append, AreWholeBytes, IsTaggedBody, ComeBefore1D, EncodingMode, false}
use Rattle.fax_reading.proofs.Names.{Group3_2D, after_eol, line_here, eols_here, IsLine2D, one_more}
use Rattle.fax_reading.proofs.Names.{common_steps, DecodeError, AreSettings, tagged_eols, LocalityByK, RowsDiffer, ◌≡◌}
use Rattle.fax_reading.proofs.Names.{drop, Some, Bits, List, suc, ◌-◌, ◌≤◌, ◌∷◌, sym, ◌∙◌, inl, inr, Row, ap}
use Rattle.fax_reading.proofs.Names.{length-replicate, DecodeSettings, DamageEndsAt1D, EncodesLine2D, pass_last_tag, append_assoc}
use Rattle.fax_reading.proofs.Names.{line_by, eols_by, IsEolAt, length, Result, subst, arith, White, plain, zero, ◌++◌, ℕ}
use Rattle.std.proofs.Math.Seq.{take-append_seam, drop-append-add}
use Rattle.fax_bits.proofs.BitReading.ConsecutiveEols.{after_eol_shorter, all_tagged-some, all_tagged-none, next_eol_found}
use Rattle.fax_reading.proofs.DamagedLines.AnyReference.{encoded_ends, quiet_line, modes_read, scan_past}
use Rattle.fax_reading.proofs.DamagedLines.LineTails.{line_past_by, past_before, line_in_2d, stays_2d}
use Rattle.fax_reading.proofs.DamagedLines.PastEol.{after_eol_is, then_after, past_is, past}
use Rattle.fax_reading.proofs.DamagedLines.RunsAlike.{LinesDiffer, Unreferred, RowsAlike, Settles, Begun}
use Rattle.fax_reading.proofs.DamagedLines.PastEol.{eols_here_same, found_next, rest_of}
use Rattle.fax_reading.proofs.{EncodedPictures.PicturesT4.line_2d_after_tag, DamagedLines.EolsAlike.IsLineIn}
use Rattle.fax_reading.proofs.{Readings.TurnsMoveOn.eols_end, DamagedLines.Damage.damage_alike}

-- ---- The lines that follow

module _ (settings : DecodeSettings) (encoding : settings.encoding ≡ Group3_2D) where
  -- the EOL before the lines that follow
  pub eol_before_lines : (lines : ℕ) (here : Bits) → ComeBefore1D settings lines here → IsEolAt here
  eol_before_lines lines here e3 = grind arith

  -- a one-dimensional line has no reference row
  pub unreferred : (here : Bits) → ComesBefore1D settings here → Unreferred settings (eols_here settings here)
  unreferred here (eol, ends) = grind (arith, common_steps, eols_end)

  -- the next EOL is the one after it, whatever it is read against
  next_after : (other : Row) (line next : Bits) (is : IsLine2D line next)
      → past 0 (rest_of (line_here settings other (false ∷ line)) (false ∷ line)) ≡ Some is.ends.0
  next_after other line next is = line_past_by settings other (false ∷ line) is.ends.0 (past_is (false ∷ line) ∙ ap then_after
      is.next_is ∙ is.ends.1) (λ row rest e. is.ends.2 rest (modes_read settings.strict settings.columns other line row rest
      (sym (ap (λ (e : EncodingMode). line_by e settings.strict settings.columns other (false ∷ line)) encoding) ∙ e)))

  -- the lines that follow are read with the same EOLs after them, whatever they are read against
  settles : (lines : ℕ) (here after : Bits) → ComeBefore1D settings lines here → after_eol 0 here ≡ Some after
      → Settles settings lines after
  settles zero here after comes e = λ found f. rw (eols_here_same settings found here after f e) (unreferred here comes)
  settles (suc lines) here after (line, next, f, is, more) e = let after_is : false ∷ line ≡ after = cc in
      subst (Settles settings (suc lines)) after_is (
        is.ends.0,
        omega (arith, after_eol_shorter 0 next is.ends.0 is.ends.1, (next_eol_found (false ∷ line) next is.next_is).0),
        λ found g. (ap (λ (g : EncodingMode). eols_by g settings.end_of_block found) encoding ∙ ap pass_last_tag (all_tagged-some
            found (false ∷ line) g ∙ ap one_more (all_tagged-none (false ∷ line) is.no_eol))),
        λ other. next_after other line next is,
        settles lines next is.ends.0 more is.ends.1,
      )

  -- what follows an EOL decides
  comes_same : (lines : ℕ) (here there after : Bits) → after_eol 0 here ≡ Some after → after_eol 0 there ≡ Some after
      → ComeBefore1D settings lines here → ComeBefore1D settings lines there
  comes_same zero here there after e f (eol, ends) =
      let same : tagged_eols here ≡ tagged_eols there
      = ap pass_last_tag (all_tagged-some here after e ∙ sym (all_tagged-some there after f)) in grind arith
  comes_same (suc lines) here there after e f (line, next, g, is, more) = grind (arith, common_steps)

  -- a two-dimensional line of an encoding is such a line
  pub encoded_follows : (lines : ℕ) (reference row : Row) (line next here : Bits) → EncodesLine2D reference row 0 White line
      → ComeBefore1D settings lines next → after_eol 0 here ≡ Some (false ∷ line ++ next) → ComeBefore1D settings (suc lines) here
  encoded_follows lines reference row line next here encodes more e = let eol = eol_before_lines lines next more in
      let after = eol.0 in
      grind (
        arith,
        common_steps,
        quiet_line reference row 0 White line encodes 1 (omega arith),
        found_next (false ∷ line ++ next) after,
        past_before 0 (false ∷ line) next after,
        scan_past 1,
        line_2d_after_tag reference row 0 White line next encodes (omega arith),
        after_eol_is,
        length-append,
        length-replicate,
        encoded_ends reference row line next after,
        comes_same lines next,
      )

-- ---- Rows of which some may differ

drop_past : {A : Type 0} (n : ℕ) (front rest : List A) → length front ≤ n → drop n (front ++ rest) ≡ drop (n - length front) rest
drop_past n front rest le = grind (arith, common_steps, drop-append-add)

-- rows that are alike differ in that many at most
rows_differ : (settings : DecodeSettings) (one two : Bits) (from differ : ℕ) (rows others : List Row)
    → RowsAlike differ (Begun settings one two from) rows others → RowsDiffer settings one two from differ rows others
rows_differ settings one two from differ rows others (inl e) = inl (sym e)
rows_differ settings one two from differ rows others (inr (before, these, those, more, same, few, e, f, begins)) =
    grind (arith, common_steps, take-append_seam before (these ++ more), append_assoc, drop_past)

-- the law
pub locality_by_k : LocalityByK
locality_by_k settings one are whole_one two from to to2 lines whole_two differ =
    let both = damage_alike settings one two from body.closes.0 lines lines_differ whole_one whole_two in
    (rows_differ settings one two from (suc lines) (plain settings one).rows (plain settings two).rows both.0, both.1)
  where
    body : IsTaggedBody settings one from to
    body = differ.body

    other : IsTaggedBody settings two from to2
    other = differ.other

    same_after : other.closes.0 ≡ body.closes.0
    same_after = grind (arith, common_steps)

    lines_differ : LinesDiffer settings one two from body.closes.0 lines
    lines_differ = record {
      line_one = line_in_2d settings one from to differ.encoding differ.lenient body;
      line_two = subst (IsLineIn settings two (drop from two)) same_after
          (line_in_2d settings two from to2 differ.encoding differ.lenient other);
      fits_one = omega (arith, body.one.1, body.one.2, body.within);
      fits_two = omega (arith, other.one.1, other.one.2, other.within);
      same = differ.before;
      starts = body.starts;
      sought_by = differ.sought;
      stays_one = λ rows reached. stays_2d settings one from to body rows reached;
      stays_two = λ rows reached. stays_2d settings two from to2 other rows reached ∙ ap Some same_after;
      settles = settles settings differ.encoding lines (drop to one) body.closes.0 differ.follow body.closes.1;
    }

-- a run with the rows and the result of the plain reading has what the law says
pub damage_ends : (settings : DecodeSettings) (bits : Bits) (rows : List Row) (outcome : Result ℕ DecodeError)
    → AreSettings settings → AreWholeBytes bits
    → rows ≡ (plain settings bits).rows → outcome ≡ (plain settings bits).outcome → DamageEndsAt1D settings bits rows outcome
damage_ends settings bits rows outcome are whole rows_are outcome_is = rw (rows_are, outcome_is)
    (locality_by_k settings bits are whole)
