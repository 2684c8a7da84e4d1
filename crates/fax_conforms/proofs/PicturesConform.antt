-- Data that conform, by how they begin.
use Rattle.hayro_ccitt.proofs.Names.{◌≡◌, ◌≢◌, ℕ, ◌+◌, ◌<◌, ◌≤◌, true, false, Option, None, List, [], ◌∷◌, ◌++◌, ◌↔◌, length}
use Rattle.hayro_ccitt.proofs.Names.{refl, ap}
use Rattle.hayro_ccitt.proofs.Names.{sym, subst, ◌∙◌, append_assoc, arith, inl, inr, All-head, Bits, Row, DecodeSettings}
use Rattle.hayro_ccitt.proofs.Names.{EncodingMode, Group4, HaveWidth, padding, cond}
use Rattle.hayro_ccitt.proofs.Names.{EncodesRows, EncodesRowsWithEols, Allows, IsClosedPicture, IsLimitedPicture, eol}
use Rattle.hayro_ccitt.proofs.Names.{white_row}
use Rattle.hayro_ccitt.proofs.Names.{after_eol}
use Rattle.hayro_ccitt.proofs.EncodedPictures.PicturesT4.{eol_stands, line_t4_starts, matches_itself}
use Rattle.fax_conforms.specs.Conforming.{Conforms, BodyStands, LinesStand, EolStands}

added_none : (n : ℕ) → n ≡ 0 + n
added_none n = omega arith

-- lines with EOLs begin with one
begins_with_eol : (settings : DecodeSettings) (reference : Row) (rows : List Row) (bits after whole : Bits) → 0 < length rows
    → EncodesRowsWithEols settings.encoding reference rows bits → whole ≡ bits ++ after → (rest : Bits) × EolStands whole rest
begins_with_eol settings reference [] bits after whole some lines is = absurd (omega arith)
begins_with_eol settings reference (row ∷ rows) bits after whole some (fill, line, next, is_line, lines, split) is =
    (line ++ (next ++ after), (fill, is ∙ ap (λ (x : Bits). x ++ after) split ∙ simp append_assoc refl))

-- lines of T.4 without EOLs don't
begins_with_no_eol : (settings : DecodeSettings) → 0 < settings.columns → settings.columns ≤ 4294967295
    → settings.encoding ≢ Group4
    → (reference : Row) (rows : List Row) (bits after whole : Bits) → 0 < length rows
    → EncodesRows settings.encoding settings.rows_are_byte_aligned reference rows bits
    → ((row : Row) (more : List Row) → rows ≡ row ∷ more → length row ≡ settings.columns) → whole ≡ bits ++ after
    → (rest : Bits) → EolStands whole rest → ⊥
begins_with_no_eol settings wide small three reference [] bits after whole some lines widths is rest stands = absurd
    (omega arith)
begins_with_no_eol settings wide small three reference (row ∷ rows) bits after whole some
    (line, next, is_line, lines, split) widths
    is rest (fill, stands) =
    let fill_of : Bits = cond settings.rows_are_byte_aligned (padding (length line)) [] in
    let start = line_t4_starts settings wide small settings.encoding reference row line (fill_of ++ (next ++ after))
    (matches_itself settings three) is_line (widths row rows refl) in
    let here : whole ≡ line ++ (fill_of ++ (next ++ after)) =
    is ∙ ap (λ (x : Bits). x ++ after) split ∙ append_assoc (line ++ fill_of) next after
    ∙ append_assoc line fill_of (next ++ after) in
    absurd (let e : Option.Some rest ≡ None = sym (eol_stands fill rest) ∙ ap (after_eol 0) (sym stands ∙ here)
    ∙ start.no_eol in cc)

module _ (settings : DecodeSettings) (wide : 0 < settings.columns) (whole : Bits) where
  abbrev white : Row
  white = white_row settings.columns

  -- ---- Group 4.
  module _ (four : settings.encoding ≡ Group4) where
    group4_to : Conforms settings whole → BodyStands settings 0 white whole
    group4_to (rows, inl (count, IsClosedPicture.by_eofb bits begins counted)) =
        let (body, is, lines, split) = begins.picture in
        let (rest, starts) = begins.begins in (
          rows,
          body,
          eol 0 ++ (eol 0 ++ rest),
          is.1,
          subst (λ (e : EncodingMode). EncodesRows e settings.rows_are_byte_aligned white rows body) (sym four) lines,
          starts ∙ ap (λ (x : Bits). x ++ rest) split ∙ append_assoc (body ++ eol 0) (eol 0) rest
              ∙ append_assoc body (eol 0) (eol 0 ++ rest),
          inr (((four, begins.end_of_block), (rest, refl)), subst (Allows settings) (added_none (length rows)) begins.limit),
        )
    group4_to (rows, inl (count, IsClosedPicture.by_rtc bits after begins counted)) = absurd (begins.encoding four)
    group4_to (rows, inr (IsLimitedPicture.of_t6 bits begins)) =
        let (rest, starts) = begins.begins in (
          rows,
          bits,
          rest,
          begins.picture.1,
          subst (λ (e : EncodingMode). EncodesRows e settings.rows_are_byte_aligned white rows bits) (sym four) begins.lines,
          starts,
          inl (begins.limit ∙ added_none (length rows), omega (arith, begins.some)),
        )
    group4_to (rows, inr (IsLimitedPicture.of_t4 bits begins)) = absurd (begins.encoding four)
    group4_to (rows, inr (IsLimitedPicture.of_t4_with_eols bits begins)) = absurd (begins.encoding four)

    group4_back : BodyStands settings 0 white whole → Conforms settings whole
    group4_back (rows, bits, after, widths, lines, is, inl (limit, some)) = (
      rows,
      inr (IsLimitedPicture.of_t6 bits (record {
        encoding = four;
        limit = limit ∙ sym (added_none (length rows));
        some = omega (arith, some);
        picture = (wide, widths);
        lines = subst (λ (e : EncodingMode). EncodesRows e settings.rows_are_byte_aligned white rows bits) four lines;
        begins = (after, is);
      })),
    )
    group4_back (rows, bits, after, widths, lines, is, inr ((seeks, (rest, stands)), allows)) = (
      rows,
      inl (
        _,
        IsClosedPicture.by_eofb ((bits ++ eol 0) ++ eol 0) (record {
          encoding = four;
          end_of_block = seeks.1;
          limit = subst (Allows settings) (sym (added_none (length rows))) allows;
          picture = (
            bits,
            (wide, widths),
            subst (λ (e : EncodingMode). EncodesRows e settings.rows_are_byte_aligned white rows bits) four lines,
            refl,
          );
          begins = (
            rest,
            is ∙ ap (λ (x : Bits). bits ++ x) stands ∙ sym (append_assoc bits (eol 0) (eol 0 ++ rest))
                ∙ sym (append_assoc (bits ++ eol 0) (eol 0) rest),
          );
        }) refl,
      ),
    )

    pub group4_conforms : Conforms settings whole ↔ BodyStands settings 0 white whole
    group4_conforms = (group4_to, group4_back)

  -- ---- Group 3.
  module _ (small : settings.columns ≤ 4294967295) (three : settings.encoding ≢ Group4) where
    -- data that begins with an EOL
    module _ (first : Bits) (stands_first : EolStands whole first) where
      eols_to : Conforms settings whole → LinesStand settings 0 white whole
      eols_to (rows, inl (count, IsClosedPicture.by_eofb bits begins counted)) = absurd (three begins.encoding)
      eols_to (rows, inl (count, IsClosedPicture.by_rtc bits after begins counted)) = (
        rows,
        bits,
        after,
        begins.picture.1,
        begins.lines,
        begins.begins,
        inr (
          (begins.end_of_block, omega (arith, begins.some), begins.closing),
          subst (Allows settings) (added_none (length rows)) begins.limit,
        ),
      )
      eols_to (rows, inr (IsLimitedPicture.of_t6 bits begins)) = absurd (three begins.encoding)
      eols_to (rows, inr (IsLimitedPicture.of_t4 bits begins)) =
          let (rest, starts) = begins.begins in
          absurd (begins_with_no_eol settings wide small three white rows bits rest whole begins.some begins.lines
          (λ row more e. All-head (λ row. length row ≡ settings.columns) row more
          (subst (HaveWidth settings.columns) e begins.picture.1)) starts first stands_first)
      eols_to (rows, inr (IsLimitedPicture.of_t4_with_eols bits begins)) =
          let (rest, starts) = begins.begins in (
            rows,
            bits,
            rest,
            begins.picture.1,
            begins.lines,
            starts,
            inl (begins.limit ∙ added_none (length rows), omega (arith, begins.some)),
          )

      eols_back : LinesStand settings 0 white whole → Conforms settings whole
      eols_back (rows, bits, after, widths, lines, is, inl (limit, some)) = (
        rows,
        inr (IsLimitedPicture.of_t4_with_eols bits (record {
          encoding = three;
          limit = limit ∙ sym (added_none (length rows));
          some = omega (arith, some);
          picture = (wide, widths);
          lines = lines;
          begins = (after, is);
        })),
      )
      eols_back (rows, bits, after, widths, lines, is, inr ((block, some, closing), allows)) = (
        rows,
        inl (
          _,
          IsClosedPicture.by_rtc bits after (record {
            encoding = three;
            end_of_block = block;
            limit = subst (Allows settings) (sym (added_none (length rows))) allows;
            some = omega (arith, some);
            picture = (wide, widths);
            lines = lines;
            closing = closing;
            begins = is;
          }) refl,
        ),
      )

      pub eols_conform : Conforms settings whole ↔ LinesStand settings 0 white whole
      eols_conform = (eols_to, eols_back)

    -- data that don't
    module _ (none : (rest : Bits) → EolStands whole rest → ⊥) where
      no_eols : (rows : List Row) (bits after : Bits) → 0 < length rows → EncodesRowsWithEols settings.encoding white rows bits
          → whole ≡ bits ++ after → ⊥
      no_eols rows bits after some lines is =
          let eol_here = begins_with_eol settings white rows bits after whole some lines is in none eol_here.0 eol_here.1

      pub no_eols_conform : settings.end_of_line ≡ true → Conforms settings whole → ⊥
      no_eols_conform ask (rows, inl (count, IsClosedPicture.by_eofb bits begins counted)) = three begins.encoding
      no_eols_conform ask (rows, inl (count, IsClosedPicture.by_rtc bits after begins counted)) =
          no_eols rows bits after begins.some begins.lines begins.begins
      no_eols_conform ask (rows, inr (IsLimitedPicture.of_t6 bits begins)) = three begins.encoding
      no_eols_conform ask (rows, inr (IsLimitedPicture.of_t4 bits begins)) =
          let e : true ≡ false = sym ask ∙ begins.end_of_line in cc
      no_eols_conform ask (rows, inr (IsLimitedPicture.of_t4_with_eols bits begins)) =
          let (rest, starts) = begins.begins in no_eols rows bits rest begins.some begins.lines starts

      module _ (unasked : settings.end_of_line ≡ false) where
        lines_to : Conforms settings whole → BodyStands settings 0 white whole
        lines_to (rows, inl (count, IsClosedPicture.by_eofb bits begins counted)) = absurd (three begins.encoding)
        lines_to (rows, inl (count, IsClosedPicture.by_rtc bits after begins counted)) =
            absurd (no_eols rows bits after begins.some begins.lines begins.begins)
        lines_to (rows, inr (IsLimitedPicture.of_t6 bits begins)) = absurd (three begins.encoding)
        lines_to (rows, inr (IsLimitedPicture.of_t4 bits begins)) =
            let (rest, starts) = begins.begins in (
              rows,
              bits,
              rest,
              begins.picture.1,
              begins.lines,
              starts,
              inl (begins.limit ∙ added_none (length rows), omega (arith, begins.some)),
            )
        lines_to (rows, inr (IsLimitedPicture.of_t4_with_eols bits begins)) =
            let (rest, starts) = begins.begins in absurd (no_eols rows bits rest begins.some begins.lines starts)

        lines_back : BodyStands settings 0 white whole → Conforms settings whole
        lines_back (rows, bits, after, widths, lines, is, inl (limit, some)) = (
          rows,
          inr (IsLimitedPicture.of_t4 bits (record {
            encoding = three;
            end_of_line = unasked;
            limit = limit ∙ sym (added_none (length rows));
            some = omega (arith, some);
            picture = (wide, widths);
            lines = lines;
            begins = (after, is);
          })),
        )
        lines_back (rows, bits, after, widths, lines, is, inr ((seeks, two), allows)) = absurd (three seeks.0)

        pub lines_conform : Conforms settings whole ↔ BodyStands settings 0 white whole
        lines_conform = (lines_to, lines_back)
