-- A page, cut where it ends, is read as its rows.
use Rattle.hayro_ccitt.proofs.Names.{◌≡◌, ◌≢◌, ℕ, zero, suc, ◌+◌, ◌-◌, ◌*◌, ◌/◌, ◌<◌, ◌≤◌, true, false, Bool, List, []}
use Rattle.hayro_ccitt.proofs.Names.{Some, None, ◌∷◌, ◌++◌, length, drop, take, refl, sym, ap, subst, ◌∙◌, append_assoc}
use Rattle.hayro_ccitt.proofs.Names.{append-nil, arith, length-append, Bits, Row, eol, after_eol, all_eols}
use Rattle.hayro_ccitt.proofs.Names.{eols_here, IsClosedPicture, AreSettings, bits_in, Ok}
use Rattle.std.proofs.lemmas.Bool.{lt-leb}
use Rattle.std.proofs.lemmas.List.{take-append-drop, length-take-le}
use Rattle.std.proofs.lemmas.Grind.{flat_map-append}
use Rattle.std.proofs.Math.Seq.{take-append_seam, take-append-add, take-length}
use Rattle.hayro_ccitt.specs.BitOrder.{BitOrder}
use Rattle.hayro_ccitt.specs.Bits.{bits_of_byte}
use Rattle.hayro_ccitt.specs.DecodeSettings.{DecodeSettings}
use Rattle.hayro_ccitt.specs.EncodingMode.{EncodingMode}
use Rattle.hayro_ccitt.specs.EncodingMode.TheVariants.{Group4, Group3_1D, Group3_2D}
use Rattle.hayro_ccitt.specs.Encodings.{ClosesWithEols}
use Rattle.hayro_ccitt.specs.EndOfLine.{one_more, past_tag, pass_last_tag}
use Rattle.hayro_ccitt.specs.Laws.{ReadsClosedPictures}
use Rattle.hayro_ccitt.proofs.BitReading.BitLists.{length-bits_in, bits_are_whole}
use Rattle.hayro_ccitt.proofs.BitReading.ConsecutiveEols.{all_eols-some, all_eols-none, all_tagged, all_tagged-some}
use Rattle.hayro_ccitt.proofs.BitReading.ConsecutiveEols.{all_tagged-none}
use Rattle.hayro_ccitt.proofs.EncodedPictures.PicturesT4.{eol_stands, eols_here_one, eols_here_two}
use Rattle.hayro_ccitt.specs.Pictures.{BeginsWithPictureT6}
use Rattle.fax_callers.specs.Pages.{BeginsWithPageT4, IsPage, ReadsPages}
use Rattle.fax_callers.specs.Readings.{reading_of}
use Rattle.fax_callers.specs.Rtc.{after_rtc, none_seen, page_size, rtc_size, size_before}
use Rattle.fax_callers.proofs.RtcFound.{after_page, tags_in}

-- ---- The EOLs of RTC, where fewer bits follow than an EOL has

-- a few bits are no EOL
few_bits : (seen : ℕ) (bits : Bits) → seen + length bits < 12 → after_eol seen bits ≡ None
few_bits seen [] lt = refl
few_bits seen (false ∷ bits) lt = few_bits (suc seen) bits (omega arith)
few_bits seen (true ∷ bits) lt = rw (lt-leb 11 seen (omega arith)) refl

module _ (pad : Bits) (short : length pad < 8) where
  all_closed : (n : ℕ) (closing : Bits) → ClosesWithEols Group3_1D n closing → all_eols (closing ++ pad) ≡ (n, pad)
  all_closed zero closing is =
      ap (λ (b : Bits). all_eols (b ++ pad)) is ∙ all_eols-none pad (few_bits 0 pad (omega arith))
  all_closed (suc n) closing (fill, next, then, is) =
      let split : closing ++ pad ≡ eol fill ++ (next ++ pad) = ap (λ (b : Bits). b ++ pad) is ∙ simp (append_assoc, append-nil) in
      ap all_eols split ∙ all_eols-some (eol fill ++ (next ++ pad)) (next ++ pad) (eol_stands fill (next ++ pad))
      ∙ ap one_more (all_closed n next then)

  -- the tag of an EOL that others follow
  tag_before : (n : ℕ) (next : Bits) → ClosesWithEols Group3_2D (suc n) next → past_tag (true ∷ (next ++ pad)) ≡ next ++ pad
  tag_before n next (fill, last, then, is) =
      let split : next ++ pad ≡ eol fill ++ (true ∷ (last ++ pad)) = ap (λ (b : Bits). b ++ pad) is ∙ simp append_assoc in
      let stands : after_eol 0 (next ++ pad) ≡ Some (true ∷ (last ++ pad))
      = ap (after_eol 0) split ∙ eol_stands fill (true ∷ (last ++ pad)) in
      rw (stands, past_tag) refl

  all_tags_closed : (n : ℕ) (closing : Bits) → ClosesWithEols Group3_2D (suc n) closing
      → all_tagged (closing ++ pad) ≡ (suc n, true ∷ pad)
  all_tags_closed zero closing (fill, next, then, is) =
      let split : closing ++ pad ≡ eol fill ++ (true ∷ pad)
      = ap (λ (b : Bits). b ++ pad) (is ∙ ap (λ (b : Bits). (eol fill ++ (true ∷ [])) ++ b) then)
      ∙ simp (append_assoc, append-nil) in
      let none : after_eol 0 pad ≡ None = few_bits 0 pad (omega arith) in
      let tag : past_tag (true ∷ pad) ≡ true ∷ pad = rw (none, past_tag) refl in
      ap all_tagged split ∙ all_tagged-some (eol fill ++ (true ∷ pad)) (true ∷ pad) (eol_stands fill (true ∷ pad))
      ∙ ap (λ (b : Bits). one_more (all_tagged b)) tag ∙ ap one_more (all_tagged-none (true ∷ pad) refl)
  all_tags_closed (suc n) closing (fill, next, then, is) =
      let split : closing ++ pad ≡ eol fill ++ (true ∷ (next ++ pad)) = ap (λ (b : Bits). b ++ pad) is ∙ simp append_assoc in
      ap all_tagged split
      ∙ all_tagged-some (eol fill ++ (true ∷ (next ++ pad))) (true ∷ (next ++ pad)) (eol_stands fill (true ∷ (next ++ pad)))
      ∙ ap (λ (b : Bits). one_more (all_tagged b)) (tag_before n next then) ∙ ap one_more (all_tags_closed n next then)

  -- they end where these bits begin
  closing_counted : (settings : DecodeSettings) (encoding : EncodingMode) (closing : Bits) → encoding ≢ Group4
      → settings.encoding ≡ encoding → ClosesWithEols encoding 6 closing → eols_here settings (closing ++ pad) ≡ (6, pad)
  closing_counted settings Group4 closing three e is = absurd (three refl)
  closing_counted settings Group3_1D closing three e is =
      eols_here_one settings (closing ++ pad) e ∙ all_closed 6 closing is
  closing_counted settings Group3_2D closing three e is =
      eols_here_two settings (closing ++ pad) e ∙ ap pass_last_tag (all_tags_closed 5 closing is)

-- ---- The bytes of a page

-- of two ways to split a list the one part begins with the other
begins_with : {A : Type 0} (a b c d : List A) → a ++ b ≡ c ++ d → length c ≤ length a
    → a ≡ c ++ take (length a - length c) d
begins_with a b c d e le =
    let sum : length a ≡ length c + (length a - length c) = omega arith in
    sym (take-append_seam a b) ∙ ap (take (length a)) e ∙ ap (λ (n : ℕ). take n (c ++ d)) sum
    ∙ take-append-add c d (length a - length c)

-- the bits of the first bytes
first_bits : (order : BitOrder) (bytes : List ℕ) (n : ℕ)
    → bits_in order (take n bytes) ++ bits_in order (drop n bytes) ≡ bits_in order bytes
first_bits order bytes n =
    sym (flat_map-append (bits_of_byte order) (take n bytes) (drop n bytes)) ∙ ap (bits_in order) (take-append-drop n bytes)

size_of_page : (settings : DecodeSettings) (order : BitOrder) (bytes : List ℕ) (bits more : Bits) → settings.encoding ≢ Group4
    → bits_in order bytes ≡ bits ++ more → after_rtc (tags_in settings.encoding) none_seen (bits ++ more) ≡ Some more
    → page_size settings.encoding order bytes ≡ (length bits + 7) / 8
size_of_page settings order bytes bits more three split found = by_encoding settings.encoding three found
  where
    counted : (tags : Bool) → after_rtc tags none_seen (bits ++ more) ≡ Some more
        → rtc_size tags (bits_in order bytes) (length bytes) ≡ (length bits + 7) / 8
    counted tags found =
        ap (λ (b : Bits). rtc_size tags b (length bytes)) split ∙ ap (size_before (bits ++ more) (length bytes)) found
        ∙ (let sum = length-append bits more in omega (arith, sum))

    by_encoding : (encoding : EncodingMode) → encoding ≢ Group4
        → after_rtc (tags_in encoding) none_seen (bits ++ more) ≡ Some more
        → page_size encoding order bytes ≡ (length bits + 7) / 8
    by_encoding Group4 three found = absurd (three refl)
    by_encoding Group3_1D three found = counted false found
    by_encoding Group3_2D three found = counted true found

rtc_page_size : (settings : DecodeSettings) (order : BitOrder) {rows : List Row} (bytes : List ℕ) (bits : Bits) (count : ℕ)
    → BeginsWithPageT4 settings rows bits (bits_in order bytes) → count ≡ (length bits + 7) / 8
    → page_size settings.encoding order bytes ≡ count
rtc_page_size settings order {rows} bytes bits count begins e =
    size_of_page settings order bytes bits begins.begins.0 begins.encoding begins.begins.1
    (after_page settings.encoding settings.columns rows bits begins.begins.0 begins.encoding begins.picture) ∙ sym e

-- in Group 3 a page may occupy the bytes that it does
pub closed_size : (settings : DecodeSettings) (order : BitOrder) {rows : List Row} {count : ℕ} (bytes : List ℕ)
    → settings.encoding ≢ Group4 → IsPage settings rows count (bits_in order bytes)
    → page_size settings.encoding order bytes ≡ count
closed_size settings order bytes three (IsPage.by_eofb bits begins e) = absurd (three begins.encoding)
closed_size settings order {rows} {count} bytes three (IsPage.by_rtc bits begins e) =
    rtc_page_size settings order bytes bits count begins e

-- the bytes that some bits occupy, the last one filled up, and the bits that fill it
module _ (order : BitOrder) (bytes : List ℕ) (bits more : Bits) (count : ℕ) (split : bits_in order bytes ≡ bits ++ more)
    (size : count ≡ (length bits + 7) / 8) where
  within : count ≤ length bytes
  within = omega (arith, size, ap length split, length-append bits more, length-bits_in order bytes)

  abbrev first : Bits
  first = bits_in order (take count bytes)

  first_length : length first ≡ 8 * count
  first_length = length-bits_in order (take count bytes) ∙ ap (λ (n : ℕ). 8 * n) (length-take-le count bytes within)

  abbrev pad : Bits
  pad = take (length first - length bits) more

  cut : first ≡ bits ++ pad
  cut = begins_with first (bits_in order (drop count bytes)) bits more (first_bits order bytes count ∙ split)
      (omega (arith, first_length, size))

  short : length pad < 8
  short = omega (arith, first_length, size, ap length cut, length-append bits pad)

module _ (settings : DecodeSettings) (order : BitOrder) (law : ReadsClosedPictures) (are : AreSettings settings) where
  -- its rows are read, and it ends there
  abbrev IsRead : List Row → ℕ → List ℕ → Type 0
  IsRead rows count bytes =
      ((reading_of settings order bytes).rows ≡ rows) × ((reading_of settings order bytes).outcome ≡ Ok count)

  closed_is_read : (rows : List Row) (count : ℕ) (bytes : List ℕ) → IsClosedPicture settings rows count (bits_in order bytes)
      → IsRead rows count bytes
  closed_is_read rows count bytes is = law settings rows count (bits_in order bytes) are (bits_are_whole order bytes) is

  -- the bytes of a page of T.6 are a closed picture
  cut_t6 : (rows : List Row) (count : ℕ) (bytes : List ℕ) (bits : Bits)
      → BeginsWithPictureT6 settings rows bits (bits_in order bytes) → count ≡ (length bits + 7) / 8
      → IsClosedPicture settings rows count (bits_in order (take count bytes))
  cut_t6 rows count bytes bits begins e = IsClosedPicture.by_eofb bits (record {
    encoding = begins.encoding;
    end_of_block = begins.end_of_block;
    limit = begins.limit;
    picture = begins.picture;
    begins = (
      pad order bytes bits begins.begins.0 count begins.begins.1 e,
      cut order bytes bits begins.begins.0 count begins.begins.1 e,
    );
  }) e

  -- so are those of a page of T.4
  cut_t4 : (rows : List Row) (count : ℕ) (bytes : List ℕ) (bits : Bits)
      → BeginsWithPageT4 settings rows bits (bits_in order bytes) → count ≡ (length bits + 7) / 8
      → IsClosedPicture settings rows count (bits_in order (take count bytes))
  cut_t4 rows count bytes bits begins e = IsClosedPicture.by_rtc lines (closing ++ after) (record {
    encoding = begins.encoding;
    end_of_block = begins.end_of_block;
    limit = begins.limit;
    some = begins.picture.2;
    picture = begins.picture.3;
    lines = begins.picture.4;
    closing = (closing, begins.picture.5, (after, refl));
    begins = split ∙ ap (λ (b : Bits). b ++ after) begins.picture.6 ∙ append_assoc lines closing after;
  }) (omega (
    arith,
    e,
    first_length order bytes bits begins.begins.0 count begins.begins.1 e,
    ap length split,
    length-append bits after,
    ap (λ (found : ℕ × Bits). length found.1) counted,
  ))
    where
      lines : Bits
      lines = begins.picture.0

      closing : Bits
      closing = begins.picture.1

      after : Bits
      after = pad order bytes bits begins.begins.0 count begins.begins.1 e

      split : bits_in order (take count bytes) ≡ bits ++ after
      split = cut order bytes bits begins.begins.0 count begins.begins.1 e

      counted : eols_here settings (closing ++ after) ≡ (6, after)
      counted = closing_counted after (short order bytes bits begins.begins.0 count begins.begins.1 e) settings settings.encoding
          closing begins.encoding refl begins.picture.5

  -- a page lies within the bytes
  page_within : (rows : List Row) (count : ℕ) (bytes : List ℕ) → IsPage settings rows count (bits_in order bytes)
      → count ≤ length bytes
  page_within rows count bytes (IsPage.by_eofb bits begins e) =
      within order bytes bits begins.begins.0 count begins.begins.1 e
  page_within rows count bytes (IsPage.by_rtc bits begins e) = within order bytes bits begins.begins.0 count begins.begins.1 e

  -- the bytes of a page alone are read as its rows
  cut_is_read : (rows : List Row) (count : ℕ) (bytes : List ℕ) → IsPage settings rows count (bits_in order bytes)
      → IsRead rows count (take count bytes)
  cut_is_read rows count bytes (IsPage.by_eofb bits begins e) =
      closed_is_read rows count (take count bytes) (cut_t6 rows count bytes bits begins e)
  cut_is_read rows count bytes (IsPage.by_rtc bits begins e) =
      closed_is_read rows count (take count bytes) (cut_t4 rows count bytes bits begins e)

  -- so are those up to its RTC, or all
  page_is_read : (rows : List Row) (count : ℕ) (bytes : List ℕ) → IsPage settings rows count (bits_in order bytes)
      → IsRead rows count (take (page_size settings.encoding order bytes) bytes)
  page_is_read rows count bytes (IsPage.by_eofb bits begins e) =
      let all : take (page_size settings.encoding order bytes) bytes ≡ bytes =
      ap (λ (encoding : EncodingMode). take (page_size encoding order bytes) bytes) begins.encoding ∙ take-length bytes in
      subst (IsRead rows count) (sym all) (closed_is_read rows count bytes (IsClosedPicture.by_eofb bits begins e))
  page_is_read rows count bytes (IsPage.by_rtc bits begins e) =
      subst (λ (n : ℕ). IsRead rows count (take n bytes)) (sym (rtc_page_size settings order bytes bits count begins e))
      (closed_is_read rows count (take count bytes) (cut_t4 rows count bytes bits begins e))

  -- wherever the page begins
  pub pages_read : ReadsPages settings order
  pages_read bytes begin rows count is =
      let cut = cut_is_read rows count (drop begin bytes) is in
      let size : length (take count (drop begin bytes)) ≡ count =
      length-take-le count (drop begin bytes) (page_within rows count (drop begin bytes) is) in
      let page = page_is_read rows count (drop begin bytes) is in
      (page.1, (cut.0, cut.1 ∙ ap Ok (sym size)), page.0)
