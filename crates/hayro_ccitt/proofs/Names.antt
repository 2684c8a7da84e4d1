-- The names of std and of the definitions that proofs cite.
pub use Rattle.hayro_ccitt.specs.Answers.{DrawsLine, IsFault, OnAnswer}
pub use Rattle.hayro_ccitt.specs.Answers.{meaning_after, words_from_1d}
pub use Rattle.hayro_ccitt.specs.Bits.{AreWholeBytes, Bits, BitsAt, bits_in, bits_of, here}
pub use Rattle.hayro_ccitt.specs.CodeLists.{mode_codes}
pub use Rattle.hayro_ccitt.specs.CodeReading.{Has, read_code}
pub use Rattle.hayro_ccitt.specs.Context.{Context, Held, right_of_painted}
pub use Rattle.fax_rows.specs.Contract.{Decodes}
pub use Rattle.hayro_ccitt.specs.Damage.{Damaged, fault_in, missed_before, misses_by_line}
pub use Rattle.hayro_ccitt.specs.Damage.{repairs_by_line, cut_in, cuts_by_line}
pub use Rattle.hayro_ccitt.specs.Decoding.{CountsDamage, SinkState, StopsShort}
pub use Rattle.hayro_ccitt.specs.Decoding.{TakesRows}
pub use Rattle.hayro_ccitt.specs.Encodings.{EncodesLine, EncodesLine1D, EncodesLine2D, EncodesRows, EncodesRowsWithEols, Spells}
pub use Rattle.hayro_ccitt.specs.Encodings.{eol, padding, tag_of}
pub use Rattle.hayro_ccitt.specs.EndOfLine.{after_eol, all_eols, next_eol, tagged_eols}
pub use Rattle.hayro_ccitt.specs.Lines.{Line, found_1d, line_1d}
pub use Rattle.hayro_ccitt.specs.Locality.{DamageStaysInRow, EndsBefore, IsLocal}
pub use Rattle.hayro_ccitt.specs.LocalityByK.{ComesBefore1D, DamageEndsAt1D, ReadsModes, after_mode}
pub use Rattle.hayro_ccitt.specs.Pictures.{Allows, IsClosedPicture, IsLimitedPicture}
pub use Rattle.hayro_ccitt.specs.PlainReading.{Ending, Gap, Progress, add_row, aligned, at_end, at_front, at_gap}
pub use Rattle.hayro_ccitt.specs.PlainReading.{end_of}
pub use Rattle.hayro_ccitt.specs.PlainReading.{eols_here, failed_at, first_gap}
pub use Rattle.hayro_ccitt.specs.PlainReading.{gap_after_row, is_over, limit_met}
pub use Rattle.hayro_ccitt.specs.PlainReading.{line_here, line_starts, lines_of, misses_eol, move_on}
pub use Rattle.hayro_ccitt.specs.PlainReading.{plain, row_before, row_ends, row_of_line}
pub use Rattle.hayro_ccitt.specs.PlainReading.{whole_reading, with_row}
pub use Rattle.hayro_ccitt.specs.Repetition.{Reaches, Turn}
pub use Rattle.hayro_ccitt.specs.Rows.{AreChanges, HaveWidth, Row, a1, a2, b1, b2, is_black, is_change}
pub use Rattle.hayro_ccitt.specs.Rows.{opposite, pixel, pixel_before, pixels, repaired, right_of, white_row}
pub use Rattle.hayro_ccitt.specs.RowsKept.{EndsByWords, IsInStepFrom, RowsBeforeStay, RowsAfterStay, RowsFollow, TellsStep}
pub use Rattle.fax_rows.specs.RowsRead.{HasEnded, HasFailed}
pub use Rattle.fax_rows.specs.RowsRead.{ReaderStands, ReadsNext, RowsRead, StandsAtLine, StandsAfterRow, ended}
pub use Rattle.fax_rows.specs.RowsRead.{MissIsReported}
pub use Rattle.hayro_ccitt.specs.Runs.{codes_of, read_run, run_from}
pub use Rattle.hayro_ccitt.specs.Settings.{AreSettings}
pub use Rattle.hayro_ccitt.specs.Space.{most_room}
pub use Rattle.hayro_ccitt.specs.Ticks.{looked}
pub use Rattle.hayro_ccitt.specs.Work.{CountsWork, mode_found, most_for_lines}
pub use Rattle.fax_bits.specs.declared.bit_reader.BitOrder.TheVariants.{HighestFirst, LowestFirst}
pub use Rattle.fax_bits.specs.declared.codes.Color.{Color}
pub use Rattle.fax_bits.specs.declared.codes.Color.TheVariants.{Black, White}
pub use Rattle.fax_bits.specs.declared.codes.Mode.{Mode}
pub use Rattle.fax_bits.specs.declared.codes.Mode.TheVariants.{Horizontal, Pass, Vertical}
pub use Rattle.fax_bits.specs.declared.error.DecodeError.{DecodeError}
pub use Rattle.fax_bits.specs.declared.error.DecodeError.TheVariants.{OutOfMemory, Refused}
pub use Rattle.fax_rows.specs.declared.row_reader.Stand.{Stand}
pub use Rattle.fax_rows.specs.declared.row_reader.Stand.TheVariants.{AtEnd, AtFault, AtLine, AfterRow}
pub use Rattle.fax_bits.specs.declared.settings.DecodeSettings.{DecodeSettings}
pub use Rattle.fax_bits.specs.declared.settings.EncodingMode.{EncodingMode}
pub use Rattle.fax_bits.specs.declared.settings.EncodingMode.TheVariants.{Group3_1D, Group3_2D, Group4}
pub use Rattle.std.proofs.Common.{Bool, Err, IfOk, IsTrue, List, None, Ok, Option, Result, SFits, Some, [], ap, append-nil}
pub use Rattle.std.proofs.Common.{append_assoc, arith, cond, drop, eqb, false, get_or, inl, inr, is_some, leb, length}
pub use Rattle.std.proofs.Common.{length-append, length-drop, max, min, not, of_z, pos, refl, replicate, rules}
pub use Rattle.std.proofs.Common.{subst, suc, sym, take, take_all, to_z, true, w32, w8, zero, ℕ, ◌%◌, ◌&&◌, ◌*◌, ◌++◌}
pub use Rattle.std.proofs.Common.{◌+ℤ◌, ◌+◌, ◌-◌, ◌/◌, ◌<◌, ◌||◌, ◌↔◌, ◌∙◌, ◌∷◌, ◌≡◌, ◌≢◌, ◌≤◌, ◌⊎◌}
pub use Rattle.std.proofs.Math.Facts.{to_z-of_z}
pub use Rattle.std.proofs.lemmas.Bool.{cases_lt, cond-false, cond-true, false≢true, le-leb, le-ltb}
pub use Rattle.std.proofs.lemmas.Bool.{leb-true, lt-ltb}
pub use Rattle.std.proofs.lemmas.Grind.{common_steps}
pub use Rattle.std.proofs.lemmas.List.{append_cancel_left, drop-drop, get_or-append_right, get_or-replicate, get_or-take}
pub use Rattle.std.proofs.lemmas.List.{length-replicate}
pub use Rattle.std.proofs.lemmas.List.Concat.{length-flat_map}
pub use Rattle.std.proofs.lemmas.List.Elements.{All-cons, All-head, All-tail}
pub use Rattle.std.proofs.lemmas.Result.{IfErr-weaker, IfOk-weaker, err_from_is_err_and}
pub use Rattle.std.specs.Prelude.{IfErr, IfSome, IsOk, OnErr, OnOk, flat_map, sum_by, ℤ}
pub use mathlib.Core.Bool.{beq}
