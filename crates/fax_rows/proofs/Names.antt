-- The names of std and of the definitions that proofs cite.
pub use Rattle.fax_bits.specs.CodeLists.{mode_codes}
pub use Rattle.fax_bits.specs.CodeReading.{Has, read_code}
pub use Rattle.fax_bits.specs.Runs.{codes_of}
pub use Rattle.fax_bits.specs.Window.{moved}
pub use Rattle.fax_bits.specs.declared.codes.Color.{Color}
pub use Rattle.fax_bits.specs.declared.codes.Mode.TheVariants.{Vertical}
pub use Rattle.fax_reading.specs.Answers.{DrawsLine, IsFault, OnAnswer, front_of}
pub use Rattle.fax_bits.specs.Faults.{kind_of, no_memory}
pub use Rattle.fax_reading.specs.Answers.{meaning_after, Step}
pub use Rattle.fax_bits.specs.Bits.{AreWholeBytes, Bits, BitsAt, IsPrefix, here}
pub use Rattle.fax_reading.specs.Context.{Context, Held, Repairs, fresh, no_repairs, redrawn}
pub use Rattle.fax_reading.specs.Damage.{Damaged, fault_in, missed_by_turn, missed_before, misses_by_line, repaired_by_turn}
pub use Rattle.fax_reading.specs.Damage.{repaired_in, repairs_by_line, cut_by_turn, cut_in, cuts_by_line, cuts_run, start_in}
pub use Rattle.fax_reading.specs.Damage.{strict_line_of_turn}
pub use Rattle.fax_reading.specs.Decoding.{cut_since, DecodesRows, SinkState, StopsShort, TakesOneRow}
pub use Rattle.fax_reading.specs.Decoding.{gap_said, leaving, repairs_after, repairs_with, with_row_taken, context_at}
pub use Rattle.fax_reading.specs.Decoding.{damage_since, missed_since}
pub use Rattle.fax_bits.specs.EndOfLine.{after_eol, all_eols, next_eol, tagged_eols}
pub use Rattle.fax_reading.specs.Encodings.{Spells}
pub use Rattle.fax_reading.specs.Lines.{Line, line_found}
pub use Rattle.fax_reading.specs.Lines.{Pen, draw_2d, drawn, found_1d, line_1d, line_2d, turn_following, words_after, words_drawn}
pub use Rattle.fax_reading.specs.PlainReading.{Ending, Gap, Progress, Reading, add_row, at_end, at_front, at_gap}
pub use Rattle.fax_reading.specs.PlainReading.{after_eols, end_of, end_of_row, end_of_turn, ending_after, ending_from}
pub use Rattle.fax_reading.specs.PlainReading.{ends_with, eols_by, eols_here, failed_at, first_gap, first_line, from_next_eol}
pub use Rattle.fax_reading.specs.PlainReading.{gap_after_row, is_over, limit_met}
pub use Rattle.fax_reading.specs.PlainReading.{line_here, line_of_turn, line_starts, lines_of, misses_eol, move_on}
pub use Rattle.fax_reading.specs.PlainReading.{plain, row_before, row_ends, row_of_line, start_of_turn}
pub use Rattle.fax_reading.specs.PlainReading.{turns_of, whole_reading, with_row}
pub use Rattle.fax_bits.specs.Repetition.{Reaches, Turn}
pub use Rattle.fax_reading.specs.Rows.{Row, changes}
pub use Rattle.fax_reading.specs.Rows.{pixels}
pub use Rattle.fax_reading.specs.UsualModes.{GoesOn2d}
pub use Rattle.fax_reading.specs.UsualRuns.{GoesOn, IsRunHere, IsWordHere, pen_at}
pub use Rattle.fax_rows.specs.RowsRead.{DamageIsCounted, HasEnded, HasFailed, IsPaid, IsStanding, IsStandingAtLine, Misses}
pub use Rattle.fax_rows.specs.RowsRead.{MissesAreCounted, MissesAfterRow, PaidAtLine, PaidAfterRow, ReachesNextLine}
pub use Rattle.fax_rows.specs.RowsRead.{ReaderStands, ReadsNext, RowsRead, StandsAtLine, StandsAfterRow, WorkIsPaid, ended}
pub use Rattle.fax_rows.specs.RowsRead.{is_at_line, line_after, IsWhole, MissIsReported, row_came, seen, stand_after}
pub use Rattle.fax_rows.specs.RowsRead.{start_after}
pub use Rattle.fax_reading.specs.Space.{most_room, most_stored, room_for}
pub use Rattle.fax_bits.specs.Ticks.{looked, looked_ahead, tag_tests}
pub use Rattle.fax_reading.specs.Work.{CountsWork, found_here, most_counted, words_of, words_of_turn}
pub use Rattle.fax_bits.specs.declared.codes.Color.TheVariants.{White, Black}
pub use Rattle.fax_bits.specs.declared.error.DecodeError.{DecodeError}
pub use Rattle.fax_bits.specs.declared.error.DecodeError.TheVariants.{InvalidCode, OutOfMemory, Refused}
pub use Rattle.fax_rows.specs.declared.row_reader.Stand.{Stand}
pub use Rattle.fax_rows.specs.declared.row_reader.Stand.TheVariants.{AtEnd, AtFault, AtLine, AfterRow}
pub use Rattle.fax_bits.specs.declared.settings.DecodeSettings.{DecodeSettings}
pub use Rattle.fax_bits.specs.declared.settings.EncodingMode.{EncodingMode}
pub use Rattle.fax_bits.specs.declared.settings.EncodingMode.TheVariants.{Group3_1D, Group3_2D, Group4}
pub use Rattle.std.proofs.Common.{Bool, Err, IfOk, List, None, Ok, Option, Result, Some, [], ap, append-nil}
pub use Rattle.std.proofs.Common.{append_assoc, arith, cond, drop, eqb, false, get_or, inl, inr, is_some, leb, length}
pub use Rattle.std.proofs.Common.{length-append, length-drop, map, max, min, refl, rules}
pub use Rattle.std.proofs.Common.{slice_get, subst, suc, sym, take, true, zero, ℕ, ◌&&◌, ◌*◌, ◌++◌}
pub use Rattle.std.proofs.Common.{◌+◌, ◌-◌, ◌<◌, ◌||◌, ◌∙◌, ◌∷◌, ◌≡◌, ◌≢◌, ◌≤◌, ◌⊎◌, pos, ◌%◌, ◌/◌}
pub use Rattle.std.proofs.lemmas.Bool.{cond-false, cond-true, eq-eqb, false≢true}
pub use Rattle.std.proofs.lemmas.Bool.{ne_eqb, le-leb}
pub use Rattle.std.proofs.lemmas.Grind.{common_steps}
pub use Rattle.std.proofs.lemmas.List.{drop-drop}
pub use Rattle.std.proofs.lemmas.List.{map-append}
pub use Rattle.std.proofs.lemmas.List.Sums.{fold-append}
pub use Rattle.std.proofs.lemmas.Result.{IfOk-weaker, err_from_is_err_and, on_err_weaker, on_ok_weaker}
pub use Rattle.std.specs.Prelude.{IfErr, IsOkUnless, OnErr, OnOk, sum_by}
