-- The names of std and of the definitions that proofs cite.
pub use Rattle.fax_reading.specs.Answers.{DrawsLine, DrawsStep, IsFault, Step, front_of, line_from_1d, line_from_2d, pen_of}
pub use Rattle.fax_reading.specs.Answers.{step_of_mode, step_of_run, words_from_1d, words_from_2d, words_of_mode, TellsCut}
pub use Rattle.fax_reading.specs.Answers.{strict_step_of_mode, strict_step_of_run}
pub use Rattle.fax_bits.specs.Bits.{Bits, BitsAt, here}
pub use Rattle.fax_bits.specs.CodeLists.{mode_codes}
pub use Rattle.fax_bits.specs.CodeReading.{read_code, word_at}
pub use Rattle.fax_reading.specs.Context.{ArePassed, Context, Held, redrawn, right_of_painted, exceeds, painted_front}
pub use Rattle.fax_lines.specs.ContextView.{context_of}
pub use Rattle.fax_lines.specs.DrawnModes.{CanDraw, Draws}
pub use Rattle.fax_reading.specs.Lines.{Line, Pen, draw_mode, draw_run, line_1d, line_2d, start}
pub use Rattle.fax_reading.specs.Lines.{turn_following, words_after}
pub use Rattle.fax_bits.specs.LookUps.{is_short, pair_entry, mode_in, padded}
pub use Rattle.fax_reading.specs.PlainReading.{line_here}
pub use Rattle.fax_bits.specs.Repetition.{Turn}
pub use Rattle.fax_reading.specs.Rows.{AreChanges, AscendFrom, Row, b1, b2, changes, is_black, opposite, paint, pixels, right_of}
pub use Rattle.fax_bits.specs.Runs.{codes_of, read_run, run_from}
pub use Rattle.fax_reading.specs.Space.{most_room, most_stored, room_for}
pub use Rattle.fax_bits.specs.Ticks.{run_found}
pub use Rattle.fax_reading.specs.UsualModes.{GoesOn2d, IsB1, IsNear, IsStroke, TurnsFrom, changes_in, row_in}
pub use Rattle.fax_reading.specs.UsualRuns.{GoesOn, IsOpen, IsReached, IsRunHere, IsShort, IsWordHere, pen_at}
pub use Rattle.fax_lines.specs.TwoRunsHere.{AreTwoRunsHere, CanFollow}
pub use Rattle.fax_bits.specs.Window.{AtHand, moved}
pub use Rattle.fax_reading.specs.Work.{found_here}
pub use Rattle.fax_bits.specs.declared.codes.Color.{Color}
pub use Rattle.fax_bits.specs.declared.codes.Color.TheVariants.{Black, White}
pub use Rattle.fax_bits.specs.declared.codes.Mode.{Mode}
pub use Rattle.fax_bits.specs.declared.codes.Mode.TheVariants.{Horizontal, Pass, Vertical}
pub use Rattle.fax_bits.specs.declared.error.DecodeError.{DecodeError}
pub use Rattle.fax_lines.specs.declared.modes.CodingLine.{CodingLine}
pub use Rattle.fax_lines.specs.declared.modes.Stroke.{Stroke}
pub use Rattle.fax_bits.specs.declared.settings.DecodeSettings.{DecodeSettings}
pub use Rattle.fax_bits.specs.declared.settings.EncodingMode.TheVariants.{Group3_1D}
pub use Rattle.fax_lines.specs.declared.run_pairs.TwoRuns.{TwoRuns}
pub use Rattle.std.proofs.Common.{Bool, Err, List, None, Ok, Option, Result, SFits, Some, [], ap, append-nil, append_assoc, arith}
pub use Rattle.std.proofs.Common.{cond, drop, eqb, false, get_or, inl, inr, is_some, length, length-append, length-drop, map}
pub use Rattle.std.proofs.Common.{max, min, negsuc, pos, refl, replicate, rules, subst, suc, sym, take, to_z, true, w32, w8, zero}
pub use Rattle.std.proofs.Common.{ℕ, ◌%◌, ◌&&◌, ◌*◌, ◌++◌, ◌+ℤ◌, ◌+◌, ◌-◌, ◌/◌, ◌<◌, ◌||◌, ◌∙◌, ◌∷◌, ◌≡◌, ◌≢◌, ◌≤◌, ◌⊎◌}
pub use Rattle.std.proofs.Math.Facts.{to_z-of_z}
pub use Rattle.std.proofs.lemmas.Bool.{and_parts, cases_lt, eq-eqb, eqb-true, le-ltb, leb-true, lt-ltb}
pub use Rattle.std.proofs.lemmas.Bool.{ltb-true}
pub use Rattle.std.proofs.lemmas.Grind.{common_steps, get_or_default_zero}
pub use Rattle.std.proofs.lemmas.Int.{ints}
pub use Rattle.std.proofs.lemmas.List.{drop-drop, get_or-append_right, get_or-replicate, length-replicate}
pub use Rattle.std.proofs.lemmas.Nat.{and_mask}
pub use Rattle.std.proofs.lemmas.Option.{none-some}
pub use Rattle.std.proofs.lemmas.Result.{err_from_is_err_and, on_err_weaker, on_ok_weaker}
pub use Rattle.std.specs.Prelude.{ℤ}
