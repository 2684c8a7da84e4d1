-- The names of std and of the definitions that proofs cite.
pub use Rattle.fax_encode.specs.Laws.{RowsArePacked}
pub use Rattle.fax_encode.specs.Packed.{Bitmap, packed, with_packed_row}
pub use Rattle.fax_program.specs.Devices.{AppendsFront, WasRead}
pub use Rattle.faxrows_lib.specs.Arguments.{arguments_of}
pub use Rattle.fax_program.specs.declared.fault.RunFault.{RunFault}
pub use Rattle.fax_program.specs.declared.fault.RunFault.TheVariants.{BadArguments, Read, TooLong, Write, Memory as FaultOfMemory}
pub use Rattle.fax_conforms.specs.ByProcedure.{ConformsIn}
pub use Rattle.fax_conforms.specs.Checks.{IsViolationIn}
pub use Rattle.fax_conforms.specs.declared.grades.Grade.{Grade}
pub use Rattle.fax_conforms.specs.declared.stops.Violation.{Violation}
pub use Rattle.faxrows_lib.specs.CheckText.{IsCheck, done_of_check, end_with_rule, line_of_check, line_of_violation}
pub use Rattle.faxrows_lib.specs.DamageText.{IsDamageText, IsDamageWithoutMemory, damage_after, damage_lines, damage_of_row}
pub use Rattle.faxrows_lib.specs.DamageText.{end_with_fault, last_line_of_damage, line_of_damage, line_of_miss, miss_of_row}
pub use Rattle.faxrows_lib.specs.DamageText.{line_of_cut}
pub use Rattle.faxrows_lib.specs.DamageText.{number_and, numbered, repair_of_row, whole_damage}
pub use Rattle.faxrows_lib.specs.Output.{FailsByWriter, PassesOn, PutsText, Used, WritesText, bytes_after, bytes_before, used}
pub use Rattle.faxrows_lib.specs.PackedRuns.{IsPackedOf, answer_of}
pub use Rattle.faxrows_lib.specs.ProgramRuns.{HasInput, LacksInput, RunsProgram}
pub use Rattle.faxrows_lib.specs.Runs.{EndsAfter, IsRowsText, IsTextOfEnd, IsTextOfWant, OnKnown, Outcome, done_of}
pub use Rattle.faxrows_lib.specs.Runs.{done_of_kind, outcome_of}
pub use Rattle.faxrows_lib.specs.Runs.{rows_of, text_after, whole_text}
pub use Rattle.faxrows_lib.specs.RunsByRow.{EndsByRow, IsTextByRow, IsTextWithoutMemory}
pub use Rattle.faxrows_lib.specs.RowsFed.{FeedsNone, FeedsPiece, HasPut, IsBegunBy, IsNewFeed, IsReadToEnd, IsUnderWay, PutsRows}
pub use Rattle.faxrows_lib.specs.RunsAsRead.{MayBe, OnData, RunsAsRead, WritesAsRead}
pub use Rattle.faxrows_lib.specs.Text.{line_of_outcome, line_of_row, lines_of_rows, text_of, text_of_change}
pub use Rattle.faxrows_lib.specs.declared.arguments.Arguments.{Arguments}
pub use Rattle.faxrows_lib.specs.declared.program.Done.{Done}
pub use Rattle.faxrows_lib.specs.declared.program.Done.TheVariants.{Faulty, Good, Memory}
pub use Rattle.hayro_ccitt.specs.Answers.{IsFault, meaning_after}
pub use Rattle.hayro_ccitt.specs.Bits.{Bits, BitsFit, bits_in, bits_of}
pub use Rattle.hayro_ccitt.specs.BitOrder.{BitOrder}
pub use Rattle.hayro_ccitt.specs.Context.{Context, Held}
pub use Rattle.hayro_ccitt.specs.Faults.{kind_of}
pub use Rattle.hayro_ccitt.specs.Damage.{cut_in, cuts_by_line, fault_in, misses_by_line, missed_before, repairs_by_line, start_in}
pub use Rattle.hayro_ccitt.specs.Decoding.{SinkState, StopsShort, TakesRows}
pub use Rattle.hayro_ccitt.specs.PlainReading.{failed_at, line_starts, lines_of, plain}
pub use Rattle.hayro_ccitt.specs.Rows.{HaveWidth, Row, changes}
pub use Rattle.hayro_ccitt.specs.Answers.{PaintsBlack}
pub use Rattle.hayro_ccitt.specs.RowFeeds.{ComeNext, Feeding, FeedsNext, IsFeedOf, KeepsBits, StandsIn, fed_bits, fed_end}
pub use Rattle.hayro_ccitt.specs.RowFeeds.{completed, fed_over, offset_of}
pub use Rattle.hayro_ccitt.specs.Fed.{Fed}
pub use Rattle.hayro_ccitt.specs.RowsRead.{ReaderStands, ended}
pub use Rattle.hayro_ccitt.specs.RowsRead.{HasFailed, ReadsNext, RowsRead, at_end_of_rows}
pub use Rattle.hayro_ccitt.specs.BitOrder.TheVariants.{HighestFirst, LowestFirst}
pub use Rattle.hayro_ccitt.specs.DecodeError.{DecodeError}
pub use Rattle.hayro_ccitt.specs.DecodeError.TheVariants.{InvalidCode, OutOfMemory, Overflow, Refused}
pub use Rattle.hayro_ccitt.specs.DecodeError.TheVariants.{UnexpectedEof}
pub use Rattle.hayro_ccitt.specs.DecodeSettings.{DecodeSettings}
pub use Rattle.hayro_ccitt.specs.EncodingMode.TheVariants.{Group3_1D, Group3_2D, Group4}
pub use Rattle.std.proofs.Common.{Bool, cond, Err, IfOk, IfSome, List, None, Ok, OnErr, OnOk, Option, Result, Some, [], ap}
pub use Rattle.std.proofs.Common.{append-nil}
pub use Rattle.std.proofs.Common.{append_assoc, arith, drop, drop_of_length-le, false, get_or, inl, inr, length, length-append}
pub use Rattle.std.proofs.Common.{length-drop, map, refl, rules, set, string_bytes, subst, suc, sym, take, take-append-drop}
pub use Rattle.std.proofs.Common.{take_all, true, zero, ℕ, ◌*◌, ◌++◌, ◌+◌, ◌-◌, ◌/◌, ◌<◌, ◌^◌, ◌∙◌, ◌∷◌, ◌≡◌, ◌≢◌, ◌≤◌, ◌↔◌}
pub use Rattle.std.proofs.KnownBytes.{Appends-nil, Appends-trans}
pub use Rattle.std.proofs.lemmas.Fmt.{decimal_digit, decimal_nonempty, decimal_step, length-decimal-le}
pub use Rattle.std.proofs.lemmas.Grind.{drop-set_at, flat_map-append}
pub use Rattle.std.proofs.lemmas.List.{drop-set, get_or-map, length-map, take-append-le, take-map, take-take, take_more}
pub use Rattle.std.proofs.lemmas.List.Elements.{All-take}
pub use Rattle.std.proofs.lemmas.Result.{IfErr-at_err, IfOk-weaker, on_err_weaker, on_ok_weaker}
pub use Rattle.std.specs.Fmt.{decimal}
pub use Rattle.std.specs.Io.{StartsWith}
pub use Rattle.std.specs.Io.KnownBytes.{Appends}
pub use Rattle.std.specs.List.{fold}
pub use Rattle.std.specs.Prelude.{IfErr, IsErr, IsOk, codes, flat_map}
