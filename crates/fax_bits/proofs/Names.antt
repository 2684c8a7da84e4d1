-- The names of std and of the definitions that proofs cite.
pub use Rattle.fax_bits.specs.Bits.{AreWholeBytes, Bits, BitsAt, aligned, at_end, bit_of, bits_in, bits_of, bits_of_byte}
pub use Rattle.fax_bits.specs.Bits.{here, low_bits}
pub use Rattle.fax_bits.specs.CodeLists.{Code, black_codes, mode_codes, numbered, white_codes}
pub use Rattle.fax_bits.specs.CodeReading.{Has, IsCut, NoneStands, PrefixFree, ReadsCodes, Stands, after, agreement, apart}
pub use Rattle.fax_bits.specs.CodeReading.{is_cut, is_prefix, is_prefix_free, leading_zeros, read_code, word_at}
pub use Rattle.fax_bits.specs.EndOfLine.{after_eol, all_eols, eols, eols_with_tags, next_eol, one_more, pass_last_tag}
pub use Rattle.fax_bits.specs.EndOfLine.{past_tag, tagged_eols}
pub use Rattle.fax_bits.specs.Faults.{ByKind, ErrorKind, IsFault, is_memory, kind_of, misses_end, no_memory}
pub use Rattle.fax_bits.specs.LookUps.{AreEntriesOf, lookup_bits}
pub use Rattle.fax_bits.specs.LookUps.{AreEntries, ArePairs, ColorEntries, entries_of, entry_of, is_row, longest_agreement}
pub use Rattle.fax_bits.specs.LookUps.{mode_in, padded, pair_entry, run_or_none, telling_bits, index_bits}
pub use Rattle.fax_bits.specs.LookUps.{with_table_row, with_table_rows}
pub use Rattle.fax_bits.specs.Ones.{holds_one}
pub use Rattle.fax_bits.specs.Repetition.{Reaches, Turn, gathered, repeated}
pub use Rattle.fax_bits.specs.Runs.{codes_of, run_from, run_of_word, run_turn}
pub use Rattle.fax_bits.specs.Ticks.{looked, looked_at_tag, missed, run_found, run_gives, word_found}
pub use Rattle.fax_bits.specs.WhiteWords.{IsWhiteWord}
pub use Rattle.fax_bits.specs.Window.{AtHand, IsFilled, moved, place_in_word}
pub use Rattle.fax_bits.specs.Words.{AreWords, HoldsZeros, IsWord, each_word, joined}
pub use Rattle.fax_bits.specs.WordsHere.{IsRunHere, IsWordHere, RunGoesOn}
pub use Rattle.fax_bits.specs.declared.bit_reader.BitOrder.{BitOrder}
pub use Rattle.fax_bits.specs.declared.bit_reader.BitOrder.TheVariants.{HighestFirst, LowestFirst}
pub use Rattle.fax_bits.specs.declared.bit_reader.BitReader.TheInside.{Inside}
pub use Rattle.fax_bits.specs.declared.bit_reader.TheConstants.{TURNED_DOWN, TURNED_UP}
pub use Rattle.fax_bits.specs.declared.codes.Color.{Color}
pub use Rattle.fax_bits.specs.declared.codes.Color.TheVariants.{Black, White}
pub use Rattle.fax_bits.specs.declared.codes.Mode.{Mode}
pub use Rattle.fax_bits.specs.declared.codes.Mode.TheVariants.{Horizontal, Pass, Vertical}
pub use Rattle.fax_bits.specs.declared.entries.TheConstants.{BLACK_ENTRIES, WHITE_ENTRIES}
pub use Rattle.fax_bits.specs.declared.error.DecodeError.{DecodeError}
pub use Rattle.fax_bits.specs.declared.error.DecodeError.TheVariants.{InvalidCode, OutOfMemory, Overflow, Refused, UnexpectedEof}
pub use Rattle.fax_bits.specs.declared.mode_groups.TheConstants.{GROUPS}
pub use Rattle.fax_bits.specs.declared.pairs.TheConstants.{BLACK_PAIRS, WHITE_PAIRS}
pub use Rattle.fax_bits.specs.declared.tables.TheConstants.{BLACK_MAKEUP, BLACK_TERMINATING, COMMON_MAKEUP, WHITE_MAKEUP}
pub use Rattle.fax_bits.specs.declared.tables.TheConstants.{WHITE_TERMINATING}
pub use Rattle.std.proofs.Common.{Bool, Err, List, None, Ok, Option, Result, Some, [], ap, append-nil, append_assoc, arith}
pub use Rattle.std.proofs.Common.{bit_and, bit_or, cond, drop, eqb, false, get_or, if◌then◌else◌, inl, inr, is_some, leb}
pub use Rattle.std.proofs.Common.{length, length-append, length-drop, ltb, map, max, min, negsuc, not, option_map, pos}
pub use Rattle.std.proofs.Common.{pow_pos, refl, replicate, rules, slice_get, subst, suc, sym, take, true, zero, ℕ, ◌%◌}
pub use Rattle.std.proofs.Common.{◌&&◌, ◌*◌, ◌++◌, ◌+◌, ◌-◌, ◌/◌, ◌<◌, ◌^◌, ◌||◌, ◌∙◌, ◌∷◌, ◌≡◌, ◌≢◌, ◌≤◌, ◌⊎◌}
pub use Rattle.std.proofs.Math.Nat.{div-div-eq-div-mul, mod-eq_of_lt, pow-le-pow_right, pow-suc}
pub use Rattle.std.proofs.lemmas.Bool.{agree_below_at, and_from, and_parts, cases_eq, cases_lt, cond-false, cond-true, eq-eqb}
pub use Rattle.std.proofs.lemmas.Bool.{eqb-true, false≢true, le-leb, le-ltb, leb-true, lt-leb, lt-ltb, ltb-true, ne_eqb, not-true}
pub use Rattle.std.proofs.lemmas.Bool.{or_cases, or_parts}
pub use Rattle.std.proofs.lemmas.Grind.{common_steps}
pub use Rattle.std.proofs.lemmas.List.{drop-drop, drop_at, drop_min, get_or-drop, get_or-take, get_or_append_left, get_or_past}
pub use Rattle.std.proofs.lemmas.List.{length-replicate, length-take, replicate-append-replicate, take_all, take_rest}
pub use Rattle.std.proofs.lemmas.List.FromFn.{get_or-map-range_with_len}
pub use Rattle.std.proofs.lemmas.Nat.{and_mask, div_below, leading_le, leading_length, leading_top, mod-pow-add, mul-le}
pub use Rattle.std.proofs.lemmas.Nat.{one_shl, pow-add, shl_whole, shr-shr}
pub use Rattle.std.proofs.lemmas.Nat.Bits.{bit_at-lt, bit_at-trailing_zeros, bit_at-zero, bit_at_above, bit_at_cat_high}
pub use Rattle.std.proofs.lemmas.Nat.Bits.{bit_at_cat_low, bit_at_or}
pub use Rattle.std.proofs.lemmas.Option.{slice_get-get_or, slice_get_within}
pub use Rattle.std.proofs.lemmas.Result.{err_from_is_err_and}
pub use Rattle.std.specs.Int.{bit_at, from_be_bytes, w64}
pub use Rattle.std.specs.List.{list_all, range_with_len}
pub use Rattle.std.specs.Prelude.{IfSome, SomeIff}
pub use lib.Count.{count_leading_zeros, count_trailing_zeros}
pub use lib.Lanes.{digits_l, number_l}
pub use mathlib.Core.Bool.{beq}
