-- The names of std and of the definitions that proofs cite.
pub use Rattle.fax_reading.specs.Answers.{IsFault, front_of}
pub use Rattle.fax_bits.specs.Faults.{no_memory}
pub use Rattle.fax_reading.specs.Answers.{meaning_after}
pub use Rattle.fax_bits.specs.Bits.{Bits, BitsAt, bits_in, here}
pub use Rattle.fax_bits.specs.CodeLists.{mode_codes}
pub use Rattle.fax_bits.specs.CodeReading.{read_code}
pub use Rattle.fax_reading.specs.Context.{ArePassed, Context, Held, redrawn, right_of_painted}
pub use Rattle.fax_reading.specs.Damage.{missed_before}
pub use Rattle.fax_reading.specs.Decoding.{SinkState}
pub use Rattle.fax_reading.specs.Decoding.{gap_said}
pub use Rattle.fax_bits.specs.EndOfLine.{after_eol, all_eols, next_eol}
pub use Rattle.fax_reading.specs.Lines.{Line, line_1d, line_2d}
pub use Rattle.fax_reading.specs.Lines.{start}
pub use Rattle.fax_reading.specs.PlainReading.{Gap, Progress, at_end, at_front, at_gap}
pub use Rattle.fax_reading.specs.PlainReading.{eols_by, eols_here}
pub use Rattle.fax_reading.specs.PlainReading.{gap_after_row, limit_met}
pub use Rattle.fax_reading.specs.PlainReading.{line_by, line_here, lines_of, misses_eol}
pub use Rattle.fax_reading.specs.PlainReading.{row_of_line}
pub use Rattle.fax_bits.specs.Repetition.{Turn}
pub use Rattle.fax_reading.specs.Rows.{too_many_pixels}
pub use Rattle.fax_reading.specs.Rows.{Row, b1, b2, changes, is_black}
pub use Rattle.fax_reading.specs.Rows.{opposite, paint, pixels, right_of}
pub use Rattle.fax_rows.specs.RowsRead.{IsPaid, IsStanding, IsStandingAtLine}
pub use Rattle.fax_rows.specs.RowsRead.{PaidAtLine, ReachesNextLine}
pub use Rattle.fax_rows.specs.RowsRead.{ReadsNext, RowsRead, ended}
pub use Rattle.fax_rows.specs.RowsRead.{is_at_line, line_after, MissIsReported, row_came, seen, stand_after}
pub use Rattle.fax_bits.specs.Runs.{codes_of}
pub use Rattle.fax_reading.specs.Work.{found_here, most_counted}
pub use Rattle.fax_bits.specs.declared.bit_reader.BitOrder.TheVariants.{HighestFirst, LowestFirst}
pub use Rattle.fax_bits.specs.declared.codes.Color.{Color}
pub use Rattle.fax_bits.specs.declared.codes.Color.TheVariants.{White}
pub use Rattle.fax_bits.specs.declared.codes.Mode.{Mode}
pub use Rattle.fax_bits.specs.declared.codes.Mode.TheVariants.{Pass, Vertical}
pub use Rattle.fax_bits.specs.declared.error.DecodeError.{DecodeError}
pub use Rattle.fax_bits.specs.declared.error.DecodeError.TheVariants.{InvalidCode}
pub use Rattle.fax_rows.specs.declared.row_reader.Stand.{Stand}
pub use Rattle.fax_rows.specs.declared.row_reader.Stand.TheVariants.{AtEnd, AtFault, AtLine, AfterRow}
pub use Rattle.fax_bits.specs.declared.settings.DecodeSettings.{DecodeSettings}
pub use Rattle.fax_bits.specs.declared.settings.EncodingMode.{EncodingMode}
pub use Rattle.fax_bits.specs.declared.settings.EncodingMode.TheVariants.{Group3_1D, Group3_2D, Group4}
pub use Rattle.std.proofs.Common.{Bool, Err, List, None, Ok, Option, Result, SFits, Some, [], ap, append-nil}
pub use Rattle.std.proofs.Common.{append_assoc, arith, cond, drop, eqb, false, get_or, inl, inr, is_some, leb, length}
pub use Rattle.std.proofs.Common.{length-append, length-drop, ltb, max, min, not, of_z, pos, refl, replicate, rules}
pub use Rattle.std.proofs.Common.{subst, suc, sym, take, to_z, true, w8, zero, ℕ, ◌&&◌, ◌*◌, ◌++◌}
pub use Rattle.std.proofs.Common.{◌+ℤ◌, ◌+◌, ◌-◌, ◌/◌, ◌<◌, ◌||◌, ◌∙◌, ◌∷◌, ◌≡◌, ◌≢◌, ◌≤◌, ◌⊎◌}
pub use Rattle.std.proofs.Math.Facts.{to_z-of_z}
pub use Rattle.std.proofs.lemmas.Bool.{and_parts, cases_lt, false≢true, le-leb}
pub use Rattle.std.proofs.lemmas.Bool.{lt-ltb, ne_eqb}
pub use Rattle.std.proofs.lemmas.Grind.{common_steps}
pub use Rattle.std.proofs.lemmas.List.{drop-drop}
pub use Rattle.std.proofs.lemmas.List.{length-replicate}
pub use Rattle.std.proofs.lemmas.Result.{IfErr-weaker, err_from_is_err_and, on_err_weaker}
pub use Rattle.std.specs.Prelude.{IfErr, OnErr, ℤ}
