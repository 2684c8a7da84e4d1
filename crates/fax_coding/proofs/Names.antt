-- The names of std and of the definitions that proofs cite.
pub use Rattle.fax_words.specs.Chosen.{Place, bits_at, chosen_from, chosen_line_1d, chosen_line_2d, chosen_lines_1d}
pub use Rattle.fax_words.specs.Chosen.{chosen_lines_2d, chosen_mode, chosen_rest, chosen_run, chosen_runs, is_coded, is_near}
pub use Rattle.fax_words.specs.Chosen.{next_place, place_after, return_to_control, runs_of_mode, vertical_mode, word_of}
pub use Rattle.fax_words.specs.Chosen.{word_of_length, word_of_mode}
pub use Rattle.fax_coding.specs.Coding.{AreAllLeft, AreLeft, IsAbove, IsNear, color_after, place_of}
pub use Rattle.fax_words.specs.Writing.{IsWord, all_bits}
pub use Rattle.fax_words.specs.declared.words.Word.{Word}
pub use Rattle.fax_bits.proofs.BitReading.BitLists.{length-low_bits}
pub use Rattle.fax_reading.proofs.PixelRows.B1ByParity.{rising, turned_before, turns_before, turns_by, turns_next, turns_second}
pub use Rattle.fax_reading.proofs.PixelRows.ChangePlaces.{a1_next, a2_least, a2_next, b2_above}
pub use Rattle.fax_reading.proofs.PixelRows.ChangesAndPixels.{AreChanges-changes, AscendFrom-wider, changes-pixels, length-pixels}
pub use Rattle.fax_reading.proofs.PixelRows.ChangesAndPixels.{pixels-changes, pixels_from-first}
pub use Rattle.fax_reading.proofs.PixelRows.ReferencePlaces.{IsSplit, a1_is, b1_is, b2_after_b1, in_list_if_below, next_change}
pub use Rattle.fax_reading.proofs.PixelRows.ReferencePlaces.{turned}
pub use Rattle.fax_bits.proofs.Repetition.Gathered.{gathered_turn}
pub use Rattle.fax_bits.proofs.Repetition.Repeated.{Shrinks}
pub use Rattle.fax_bits.specs.Bits.{Bits, low_bits}
pub use Rattle.fax_bits.specs.CodeLists.{Code, mode_codes}
pub use Rattle.fax_bits.specs.CodeReading.{Has}
pub use Rattle.fax_reading.specs.Encodings.{ClosesWithEols, EncodesLine1D, EncodesLine2D, EncodesRows, EncodesRowsWithEols}
pub use Rattle.fax_reading.specs.Encodings.{Spells, eol, padding}
pub use Rattle.fax_bits.specs.Repetition.{Turn}
pub use Rattle.fax_reading.specs.Rows.{AreChanges, AscendFrom, Row, a1, a2, b1, b2, changes, is_black, is_change, least_below}
pub use Rattle.fax_reading.specs.Rows.{opposite, pixels, pixels_from}
pub use Rattle.fax_bits.specs.Runs.{codes_of}
pub use Rattle.fax_reading.specs.UsualModes.{TurnsFrom}
pub use Rattle.fax_bits.specs.declared.codes.Color.{Color}
pub use Rattle.fax_bits.specs.declared.codes.Color.TheVariants.{Black, White}
pub use Rattle.fax_bits.specs.declared.codes.Mode.{Mode}
pub use Rattle.fax_bits.specs.declared.codes.Mode.TheVariants.{Horizontal, Pass, Vertical}
pub use Rattle.fax_bits.specs.declared.settings.EncodingMode.TheVariants.{Group3_1D, Group4}
pub use Rattle.std.proofs.Common.{Bool, List, OnOk, [], ap, append_assoc, arith, cond, drop, eqb, false, get_or, inl, inr, leb}
pub use Rattle.std.proofs.Common.{length, ltb, not, refl, replicate, subst, suc, sym, true, zero, ℕ, ◌%◌, ◌&&◌, ◌*◌, ◌++◌, ◌+◌}
pub use Rattle.std.proofs.Common.{◌-◌, ◌/◌, ◌<◌, ◌^◌, ◌||◌, ◌∙◌, ◌∷◌, ◌≡◌, ◌≢◌, ◌≤◌, ◌⊎◌}
pub use Rattle.std.proofs.lemmas.Bool.{agree_below_at, and_parts, cases_lt, eqb-true, false≢true, le-leb, le-ltb, leb-true}
pub use Rattle.std.proofs.lemmas.Bool.{lt-ltb, ltb-true}
pub use Rattle.std.proofs.lemmas.Grind.{get_or_default_zero}
pub use Rattle.std.proofs.lemmas.Int.{ints}
pub use Rattle.std.proofs.lemmas.List.{append-nil, get_or_default, get_or_past, length-append, length-replicate, nil_from_length}
pub use Rattle.std.proofs.lemmas.List.Elements.{All-head, All-tail}
pub use Rattle.std.proofs.lemmas.Nat.{le_or_l, le_or_r, one_shl}
pub use Rattle.std.specs.Int.RustNames.{bit_or}
pub use Rattle.std.specs.Prelude.{All, flat_map, negsuc, pos, ℤ, ◌+ℤ◌}
pub use Rattle.fax_coding.specs.Shortest.{ShortestLines, ShortestRuns, first_makeup, other_modes, shorter, shortest_of}
pub use Rattle.fax_coding.specs.Shortest.{shortest_runs_of_mode}
unfoldable pub use Rattle.fax_coding.specs.Shortest.{shortest_from, shortest_line_2d, shortest_run, shortest_words}
