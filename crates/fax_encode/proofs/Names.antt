-- The names of std and of the definitions that proofs cite.
pub use Rattle.fax_encode.specs.Chosen.{Place, bits_at, chosen_from, chosen_line_1d, chosen_line_2d, chosen_lines_1d}
pub use Rattle.fax_encode.specs.Chosen.{chosen_lines_2d, chosen_mode, chosen_rest, chosen_run, chosen_runs, chosen_t4, chosen_t6}
pub use Rattle.fax_encode.specs.Chosen.{filled_up, is_near, place_after, return_to_control, rows_of, vertical_mode}
pub use Rattle.fax_encode.specs.Chosen.{word_of_length, word_of_mode, AreRows}
pub use Rattle.fax_encode.specs.Coding.{AreAllLeft, IsNear, color_after, place_of}
pub use Rattle.fax_encode.specs.Laws.{BitmapRoundTripT4, BitmapRoundTripT6, ChangesAtMost, ChosenBySettings, ChosenComesBack}
pub use Rattle.fax_encode.specs.Laws.{ChosenIsAnEncoding, ChosenIsRead, ChosenLinesEncode, DamageReachesKRows, DamagedLine}
pub use Rattle.fax_encode.specs.Laws.{GivesAll, NeverLonger, NoLineIsShorter, NoRunsAreShorter, NoneIsShorter, PackedIsShown}
pub use Rattle.fax_encode.specs.Laws.{EncodesInKinds, EncodesInKindsWithEols, EncodesAlike, ReadToTheEnd, RoundTripT4}
pub use Rattle.fax_encode.specs.Laws.{RoundTripT6, RowsAreChosen, RowsArePacked, lenient_settings_for, line_end, tag_after}
pub use Rattle.fax_encode.specs.Packed.{Bitmap, bytes_of_row, in_black, packed, rows_shown, shown, with_packed_row}
pub use Rattle.fax_encode.specs.RowByRow.{RowsEncoded, no_rows, with_row, with_rows}
pub use Rattle.fax_encode.specs.Settings.{chosen, chosen_end, chosen_eols, chosen_group4, chosen_line, chosen_lines}
pub use Rattle.fax_encode.specs.Settings.{chosen_lines_with_eols, chosen_part, chosen_picture, chosen_with_eols}
pub use Rattle.fax_encode.specs.Settings.{decode_settings_for, fill_of, group3_settings, group4_settings, has_eols, is_closed}
pub use Rattle.fax_encode.specs.Settings.{lines_by, lines_left, is_two_dimensional, left_after, line_1d, line_2d, needs_row}
pub use Rattle.fax_encode.specs.Settings.{with_end, EndsWhereAligned}
pub use Rattle.fax_encode.specs.WhiteRows.{AreWhiteLines}
pub use Rattle.fax_encode.specs.Writing.{Marked, Written, all_bits}
pub use Rattle.fax_encode.specs.declared.bit_order.TheConstants.{TURNED}
pub use Rattle.fax_encode.specs.declared.settings.Effort.{Effort}
pub use Rattle.fax_encode.specs.declared.settings.Effort.TheVariants.{Procedure, Shortest}
pub use Rattle.fax_encode.specs.declared.settings.EncodeSettings.{EncodeSettings}
pub use Rattle.fax_bits.proofs.BitReading.BitLists.{bits_are_whole, drop_some, length-bits_in, length-bits_of, length-low_bits}
pub use Rattle.fax_bits.proofs.BitReading.SoughtEols.{zeros_end}
pub use Rattle.fax_bits.proofs.BitReading.WordRanges.{low_bits-append}
pub use Rattle.fax_reading.proofs.DamagedLines.DamageByK.{encoded_follows, locality_by_k}
pub use Rattle.fax_reading.proofs.DamagedLines.EncodedBodies.{encoded_lines_are_bodies}
pub use Rattle.fax_reading.proofs.DamagedLines.LineTails.{drop_at}
pub use Rattle.fax_reading.proofs.EncodedPictures.PicturesT4.{body_end, rows_t4_end, closed_picture_t4, eol_before, eol_stands}
pub use Rattle.fax_reading.proofs.EncodedPictures.PicturesT4.{eols_here_one, eols_here_two, limited_t4_end, matches_itself}
pub use Rattle.fax_reading.proofs.EncodedPictures.PicturesT4.{six_tagged}
pub use Rattle.fax_reading.proofs.EncodedPictures.PictureLines.{ended_with, plain_ends}
pub use Rattle.fax_reading.proofs.EncodedPictures.PicturesOfEachKind.{closed_pictures}
pub use Rattle.fax_reading.proofs.EncodedPictures.PicturesT6.{closed_picture_t6}
pub use Rattle.fax_reading.proofs.PixelRows.ChangePlaces.{a1_next, a2_least}
pub use Rattle.fax_reading.proofs.PixelRows.ChangesAndPixels.{changes-pixels, length-pixels}
pub use Rattle.fax_reading.proofs.PixelRows.ReferencePlaces.{b2_after_b1}
pub use Rattle.fax_reading.proofs.PixelRows.StepsOnRows.{over_rows}
pub use Rattle.fax_bits.proofs.BitReading.ConsecutiveEols.{eols-none, eols-some, eols_with_tags-none, eols_with_tags-some}
pub use Rattle.fax_reading.proofs.Readings.TurnsMoveOn.{eols_here_counted}
pub use Rattle.fax_reading.specs.Answers.{meaning_after}
pub use Rattle.fax_bits.specs.Bits.{AreWholeBytes, Bits, bits_in, bits_of, bits_of_byte, low_bits}
pub use Rattle.fax_bits.specs.CodeLists.{mode_codes}
pub use Rattle.fax_bits.specs.CodeReading.{Has}
pub use Rattle.fax_reading.specs.Context.{Context}
pub use Rattle.fax_reading.specs.Encodings.{ClosesWithEols, EncodesLine, EncodesLine1D, EncodesLine2D, EncodesRows}
pub use Rattle.fax_reading.specs.Encodings.{EncodesRowsWithEols, IsPicture, PictureT6, eol, padding, tag_of}
pub use Rattle.fax_bits.specs.EndOfLine.{after_eol, all_eols, eols, eols_with_tags, one_more, pass_last_tag, past_tag}
pub use Rattle.fax_bits.specs.EndOfLine.{tagged_eols}
pub use Rattle.fax_reading.specs.Locality.{EndAlike, IsEolAt}
pub use Rattle.fax_reading.specs.LocalityByK.{ComeBefore1D, IsTaggedBody, RowsDiffer, SameBut}
pub use Rattle.fax_reading.specs.Pictures.{BeginsWithPictureT4, BeginsWithPictureT6, BeginsWithRowsAndEolsT4, BeginsWithRowsT4}
pub use Rattle.fax_reading.specs.Pictures.{BeginsWithRowsT6, IsClosedPicture}
pub use Rattle.fax_reading.specs.PlainReading.{Ending, Reading, end_of, ending_after, eols_here, first_gap, plain}
pub use Rattle.fax_reading.specs.Rows.{AreChanges, AscendFrom, HaveWidth, Row, a1, a2, b1, b2, changes, opposite, pixels}
pub use Rattle.fax_reading.specs.Rows.{white_row}
pub use Rattle.fax_reading.specs.Settings.{AreSettings}
pub use Rattle.fax_bits.specs.declared.bit_reader.BitOrder.{BitOrder}
pub use Rattle.fax_bits.specs.declared.bit_reader.BitOrder.TheVariants.{HighestFirst, LowestFirst}
pub use Rattle.fax_bits.specs.declared.codes.Color.{Color}
pub use Rattle.fax_bits.specs.declared.codes.Color.TheVariants.{White}
pub use Rattle.fax_bits.specs.declared.codes.Mode.{Mode}
pub use Rattle.fax_bits.specs.declared.codes.Mode.TheVariants.{Horizontal, Vertical}
pub use Rattle.fax_bits.specs.declared.error.DecodeError.{DecodeError}
pub use Rattle.fax_bits.specs.declared.settings.DecodeSettings.{DecodeSettings}
pub use Rattle.fax_bits.specs.declared.settings.EncodingMode.{EncodingMode}
pub use Rattle.fax_bits.specs.declared.settings.EncodingMode.TheVariants.{Group3_1D, Group3_2D, Group4}
pub use Rattle.std.proofs.Common.{Bool, Err, IfOk, IfSome, List, OnOk, Result, Some, [], ap, append_assoc, arith, below_more}
pub use Rattle.std.proofs.Common.{cond, drop, eqb, false, get_or, inl, inr, leb, length, map, not, refl, vec_len, replicate}
pub use Rattle.std.proofs.Common.{rules, set, subst, suc, sym, take, true, zero, ℕ, ◌%◌, ◌&&◌, ◌*◌, ◌++◌, ◌+◌, ◌-◌, ◌/◌, ◌<◌, ◌^◌}
pub use Rattle.std.proofs.Common.{◌↔◌, ◌∙◌, ◌∷◌, ◌≡◌, ◌≢◌, ◌≤◌, ◌⊎◌}
pub use Rattle.std.proofs.Math.Nat.{div-mul-le_self}
pub use Rattle.std.proofs.Math.Seq.{drop-append_seam, take-append_seam}
pub use Rattle.std.proofs.lemmas.Bool.{agree_below_at, and_parts, cases_eq, cases_lt, eqb-true, false≢true, le-leb}
pub use Rattle.std.proofs.lemmas.Grind.{flat_map-append}
pub use Rattle.std.proofs.lemmas.List.{append-nil, drop-drop, get_or-map, get_or-set_other, get_or-set_same, get_or_default}
pub use Rattle.std.proofs.lemmas.List.{length-append, length-drop, length-map, length-replicate, length-set, length-take}
pub use Rattle.std.proofs.lemmas.List.{nil_from_length, replicate-append-replicate, take-append-drop, take_rest}
pub use Rattle.std.proofs.lemmas.List.Elements.{All-cons, All-head, All-nil, All-tail}
pub use Rattle.std.proofs.lemmas.Nat.{pow-add}
pub use Rattle.std.proofs.lemmas.Option.{slice_get-get_or}
pub use Rattle.std.proofs.lemmas.Result.{IfOk-weaker, err_from_is_err_and}
pub use Rattle.std.specs.List.{fold}
pub use Rattle.std.specs.Prelude.{All, Ok, Vec, flat_map}
pub use Rattle.fax_encode.specs.Shortest.{ShortestPicturesT6, shortest_lines_2d}
unfoldable pub use Rattle.fax_encode.specs.Shortest.{shortest_line_2d}
