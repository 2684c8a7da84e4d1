-- The names of std and of the definitions that proofs cite.
pub use Rattle.fax_reading.specs.Answers.{DrawsLine, DrawsStep, HasBlack, IsFault, IsRepairable, OnAnswer, RepairStoresChange}
pub use Rattle.fax_reading.specs.Answers.{Step, StopsAtChange, StoresChange, front_after, front_of, line_from_1d, meaning_after}
pub use Rattle.fax_reading.specs.Answers.{pen_of, step_of_mode, step_of_run, words_of_mode, words_of_run, TellsCut, breaks}
pub use Rattle.fax_reading.specs.Answers.{is_broken, strict_step_of_mode, strict_step_of_run}
pub use Rattle.fax_bits.specs.Bits.{AreWholeBytes, Bits, BitsAt, IsPrefix, bit_of, bits_in, bits_of_byte, here, low_bits}
pub use Rattle.fax_bits.specs.CodeLists.{Code, mode_codes}
pub use Rattle.fax_bits.specs.CodeReading.{Has, is_prefix_free, leading_zeros, read_code}
pub use Rattle.fax_reading.specs.Context.{Context, Held, Repairs, continued, fresh, no_repairs, passed_changes, redrawn}
pub use Rattle.fax_reading.specs.Context.{right_of_painted, with_missed, exceeds, painted_front}
pub use Rattle.fax_reading.specs.Continuations.{LineIsSettled, LinesSettle, StaysAsRead, is_short, line_before}
pub use Rattle.fax_reading.specs.Continuations.{row_continued}
pub use Rattle.fax_reading.specs.Damage.{Damaged, damage_of, damaged_by_turn, missed_after, missed_by_turn, misses_by_line}
pub use Rattle.fax_reading.specs.Damage.{repaired_by_turn, repaired_in, repairs_by_line, cut_by_turn, cut_in, cuts_by_line}
pub use Rattle.fax_reading.specs.Damage.{cuts_run, start_in}
pub use Rattle.fax_reading.specs.Decoding.{cuts_with, cut_since, FailsHere, SinkState, StopsShort, TakesOneRow, TakesRows}
pub use Rattle.fax_reading.specs.Decoding.{gap_said, repairs_after, repairs_with, with_row_taken, context_at, missed_since}
pub use Rattle.fax_reading.specs.Encodings.{ClosesWithEols, EncodesLine, EncodesLine1D, EncodesLine2D, EncodesRows}
pub use Rattle.fax_reading.specs.Encodings.{EncodesRowsWithEols, IsPicture, PictureT4, PictureT6, Spells, eol, padding, tag_of}
pub use Rattle.fax_bits.specs.EndOfLine.{after_eol, all_eols, eols, eols_with_tags, next_eol, one_more, pass_last_tag, past_tag}
pub use Rattle.fax_bits.specs.EndOfLine.{tagged_eols}
pub use Rattle.fax_bits.specs.Faults.{kind_of, misses_end}
pub use Rattle.fax_reading.specs.Laws.{AfterEofb, AreWords, BytesBeginWithAnyBits, ComesToEofb, EndBeforeEol}
pub use Rattle.fax_reading.specs.Laws.{EveryPictureHasAnEncoding, HoldsZeros, IsWord, OnePictureT4, OnePictureT6}
pub use Rattle.fax_reading.specs.Laws.{PicturesAreUndamaged, PicturesComeToEofb, ReadsClosedPictures, ReadsLimitedPictureT4}
pub use Rattle.fax_reading.specs.Laws.{ReadsLimitedPictures, ReadsLimitedRowsT4, ReadsLimitedRowsT6, ReadsPictureT4}
pub use Rattle.fax_reading.specs.Laws.{ReadsPictureT6, RowLimit, StrictIsUndamaged, StrictThenLenient, Synchronised}
pub use Rattle.fax_reading.specs.Laws.{add_row_alone, each_word, for_t6, gap_and_row, joined, row_after}
pub use Rattle.fax_reading.specs.Lines.{Drawing, Line, Pen, draw_1d, draw_2d, draw_mode, draw_run, drawn, finds, found_1d}
pub use Rattle.fax_reading.specs.Lines.{found_2d, go_on, line_1d, line_2d, line_found, mode_here, painted, painted_to, place_by}
pub use Rattle.fax_reading.specs.Lines.{place_from, run_here, start, tag_at, turn_following, unless_fault, unless_full}
pub use Rattle.fax_reading.specs.Lines.{words_after}
pub use Rattle.fax_reading.specs.Lines.{words_drawn, ◌>>=◌}
pub use Rattle.fax_reading.specs.LinesGoOn.{GoesOnFrom, LacksWord, LinePart, LinesGoOn, OpenRun, begin_line, begin_step}
pub use Rattle.fax_reading.specs.LinesGoOn.{after_run, draw_step, finish_run, finish_step, left_of, line_after_turn}
pub use Rattle.fax_reading.specs.LinesGoOn.{line_from_part, mode_added, part_before, read_on, rest_of_run, run_summed, sum_with}
pub use Rattle.fax_reading.specs.LinesGoOn.{word_added, word_here}
pub use Rattle.fax_reading.specs.Locality.{ComesToLine, DamageStaysInRow, Descends, EndAlike, EndsAt, EndsBefore, IsEol, IsEolAt}
pub use Rattle.fax_reading.specs.Locality.{IsLocal, IsLocalByTests, IsStart, LinesByEols, LocalByTests, Locality, OneRowDiffers}
pub use Rattle.fax_reading.specs.Locality.{StartsAre, StaysBefore, begins_line, later_starts, row_at, row_of, starts}
pub use Rattle.fax_reading.specs.LocalityByK.{ComeBefore1D, ComesBefore1D, DamageEndsAt1D, EncodedLinesAreBodies, IsFollowedBy}
pub use Rattle.fax_reading.specs.LocalityByK.{IsLine2D, IsTagOfLine, IsTaggedBody, LocalityByK, ModesEndBefore, ReadsModes}
pub use Rattle.fax_reading.specs.LocalityByK.{RowsDiffer, after_first_run, after_mode, after_read, after_second_run}
pub use Rattle.fax_reading.specs.LocalityByK.{after_word}
pub use Rattle.fax_reading.specs.Pictures.{Allows, IsClosedPicture, IsLimitedPicture}
pub use Rattle.fax_reading.specs.PlainReading.{Ending, Gap, Move, Progress, Reading, add_row, after_line, aligned, at_end}
pub use Rattle.fax_reading.specs.PlainReading.{at_front, at_gap, after_eols, aligned_after_row, bytes_before, end_of}
pub use Rattle.fax_reading.specs.PlainReading.{ending_after}
pub use Rattle.fax_reading.specs.PlainReading.{ending_from, ends_with, eols_by, eols_here, failed_at, is_end_of_block, first_gap}
pub use Rattle.fax_reading.specs.PlainReading.{first_line, from_next_eol, gap_after_row, is_over, limit_met, line_by, line_here}
pub use Rattle.fax_reading.specs.PlainReading.{line_of_turn, lines_of, misses_eol, missing_eol, move_on, nothing_read, pass_gap}
pub use Rattle.fax_reading.specs.PlainReading.{plain, row_before, row_of_line, turns_after, turns_from, turns_of, whole_reading}
pub use Rattle.fax_reading.specs.PlainReading.{with_row}
pub use Rattle.fax_bits.specs.Repetition.{Reaches, Turn, gathered, repeated}
pub use Rattle.fax_reading.specs.Rows.{too_many_pixels}
pub use Rattle.fax_reading.specs.Rows.{AreChanges, AscendFrom, HaveWidth, Row, a1, a2, b1, b2, changes, is_black, is_change}
pub use Rattle.fax_reading.specs.Rows.{last_pixel, least_below, opposite, paint, pixel, pixel_before, pixels, pixels_from}
pub use Rattle.fax_reading.specs.Rows.{repaired, right_of, white_row}
pub use Rattle.fax_reading.specs.RowsKept.{AreInStep, ComesTo, EndsByWords, IsInStepFrom, MakesNoRtc, PutsInStep, RowsBefore}
pub use Rattle.fax_reading.specs.RowsKept.{RowsAfter, RowsFollow, TellsStep}
pub use Rattle.fax_bits.specs.Runs.{codes_of, read_run, run_from, run_of_word, run_turn}
pub use Rattle.fax_reading.specs.Settings.{AreSettings}
pub use Rattle.fax_bits.specs.Ticks.{looked, looked_ahead, run_found, run_gives, tag_tests, word_found}
pub use Rattle.fax_reading.specs.UsualModes.{AreEnded, GoesOn2d, IsB1, IsNear, TurnsFrom, changes_in}
pub use Rattle.fax_reading.specs.UsualRuns.{GoesOn}
pub use Rattle.fax_reading.specs.Work.{IsPaidUpTo, found_here, mode_found, most_for_lines, runs_found, runs_found_after}
pub use Rattle.fax_reading.specs.Work.{second_run_found}
pub use Rattle.fax_bits.specs.declared.bit_reader.BitOrder.{BitOrder}
pub use Rattle.fax_bits.specs.declared.bit_reader.BitOrder.TheVariants.{HighestFirst, LowestFirst}
pub use Rattle.fax_bits.specs.declared.codes.Color.{Color}
pub use Rattle.fax_bits.specs.declared.codes.Color.TheVariants.{Black, White}
pub use Rattle.fax_bits.specs.declared.codes.Mode.{Mode}
pub use Rattle.fax_bits.specs.declared.codes.Mode.TheVariants.{Horizontal, Pass, Vertical}
pub use Rattle.fax_bits.specs.declared.error.DecodeError.{DecodeError}
pub use Rattle.fax_bits.specs.declared.error.DecodeError.TheVariants.{InvalidCode, OutOfMemory, Overflow, Refused, UnexpectedEof}
pub use Rattle.fax_bits.specs.declared.settings.DecodeSettings.{DecodeSettings}
pub use Rattle.fax_bits.specs.declared.settings.EncodingMode.{EncodingMode}
pub use Rattle.fax_bits.specs.declared.settings.EncodingMode.TheVariants.{Group3_1D, Group3_2D, Group4}
pub use Rattle.std.proofs.Common.{Bool, Err, IfOk, IsTrue, List, None, Ok, Option, Result, Some, [], add-one, add_assoc, ap}
pub use Rattle.std.proofs.Common.{append-nil, append_assoc, arith, cond, drop, eqb, false, get_or, inl, inr, is_some, leb, length}
pub use Rattle.std.proofs.Common.{length-append, length-drop, ltb, map, min, negsuc, not, pos, refl, replicate, reverse, set}
pub use Rattle.std.proofs.Common.{slice_get, subst, suc, sym, take, take_all, true, w32, zero, ℕ, ◌%◌, ◌&&◌, ◌*◌, ◌++◌, ◌+ℤ◌, ◌+◌}
pub use Rattle.std.proofs.Common.{◌-◌, ◌/◌, ◌<◌, ◌^◌, ◌||◌, ◌↔◌, ◌∙◌, ◌∷◌, ◌≡◌, ◌≢◌, ◌≤◌, ◌⊎◌}
pub use Rattle.std.proofs.Math.Bool.{and-false}
pub use Rattle.std.proofs.Math.IntN.{nat_abs}
pub use Rattle.std.proofs.lemmas.Bool.{agree_below_at, and_cases, and_from, and_parts, and_right, cases_Bool, cases_eq, cases_lt}
pub use Rattle.std.proofs.lemmas.Bool.{cond-false, cond-true, eq-eqb, eqb-false, eqb-true, false≢true, le-leb, le-ltb, leb-true}
pub use Rattle.std.proofs.lemmas.Bool.{lt-leb, lt-ltb, ltb-true, ne_eqb, not-false, not-true, not_from_false, not_from_true}
pub use Rattle.std.proofs.lemmas.Bool.{or_from, or_left, or_parts, or_right}
pub use Rattle.std.proofs.lemmas.Grind.{common_steps, get_or_default_zero}
pub use Rattle.std.proofs.lemmas.Int.{ints}
pub use Rattle.std.proofs.lemmas.List.{append_cancel_left, append_cancel_right, drop-drop, drop-map, drop_at, get_or-append_right}
pub use Rattle.std.proofs.lemmas.List.{get_or-drop, get_or-replicate, get_or_append_left, get_or_past, length-replicate}
pub use Rattle.std.proofs.lemmas.List.{length-reverse, length-take-le, replicate-append-replicate, reverse-reverse, set_at}
pub use Rattle.std.proofs.lemmas.List.{take-append-drop}
pub use Rattle.std.proofs.lemmas.List.Concat.{flat_map-cons}
pub use Rattle.std.proofs.lemmas.List.Elements.{All-append, All-cons, All-head, All-nil, All-same, All-tail, All-weaker}
pub use Rattle.std.proofs.lemmas.List.Elements.{Contains-append_cases, Contains-append_left, Contains-append_right}
pub use Rattle.std.proofs.lemmas.List.Sums.{sum_by-append, sum_by-take-drop, sum_by-take-le, sum_by_more}
pub use Rattle.std.proofs.lemmas.Nat.Bits.{bit_at_cat_high}
pub use Rattle.std.proofs.lemmas.Option.{get_or_from_slice_get, none-some, slice_get_within}
pub use Rattle.std.specs.Int.{FitsUnsigned}
pub use Rattle.std.specs.List.{filter, find, fold, range_with_len}
pub use Rattle.std.specs.Option.{unwrap_or}
pub use Rattle.std.specs.Prelude.{All, Contains, IfErr, IsOk, OnErr, OnOk, SomeIff, flat_map, sum_by, ℤ}
pub use mathlib.Core.Bool.{beq}
