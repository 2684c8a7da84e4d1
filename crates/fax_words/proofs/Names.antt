-- The names of std and of the definitions that proofs cite.
pub use Rattle.fax_words.specs.Chosen.{chosen_rest, chosen_run, chosen_runs, filled_up, word_of_length}
pub use Rattle.fax_words.specs.Writing.{IsWord, Written, all_bits}
pub use Rattle.fax_words.specs.declared.words.Word.{Word}
pub use Rattle.fax_bits.proofs.BitReading.BitLists.{drop_some, length-bits_of, length-low_bits}
pub use Rattle.fax_bits.proofs.BitReading.WordRanges.{low_bits-append, low_bits_below}
pub use Rattle.fax_reading.proofs.PixelRows.ChangesAndPixels.{AscendFrom-wider}
pub use Rattle.fax_bits.specs.Bits.{Bits, bit_of, bits_of, bits_of_byte, low_bits}
pub use Rattle.fax_reading.specs.Encodings.{padding}
pub use Rattle.fax_reading.specs.Rows.{AscendFrom, opposite}
pub use Rattle.fax_bits.specs.declared.bit_reader.BitOrder.TheVariants.{HighestFirst}
pub use Rattle.fax_bits.specs.declared.codes.Color.{Color}
pub use Rattle.fax_bits.specs.declared.codes.Color.TheVariants.{Black, White}
pub use Rattle.fax_bits.specs.declared.tables.TheConstants.{BLACK_MAKEUP, BLACK_TERMINATING, COMMON_MAKEUP, WHITE_MAKEUP}
pub use Rattle.fax_bits.specs.declared.tables.TheConstants.{WHITE_TERMINATING}
pub use Rattle.std.proofs.Common.{Bool, List, OnOk, [], ap, append_assoc, arith, drop, eqb, false, get_or, leb, length, ltb, refl}
pub use Rattle.std.proofs.Common.{vec_len, replicate, subst, suc, sym, take, true, zero, ℕ, ◌%◌, ◌&&◌, ◌*◌, ◌++◌, ◌+◌, ◌-◌, ◌/◌}
pub use Rattle.std.proofs.Common.{◌<◌, ◌^◌, ◌∙◌, ◌∷◌, ◌≡◌, ◌≤◌}
pub use Rattle.std.proofs.Math.Nat.{mul-mod_left}
pub use Rattle.std.proofs.Math.Seq.{take-append_seam, take-length}
pub use Rattle.std.proofs.lemmas.Bool.{agree_below_at, and_parts, eqb-false, eqb-true, le-ltb, leb-true, lt-ltb, ltb-true}
pub use Rattle.std.proofs.lemmas.Grind.{flat_map-append}
pub use Rattle.std.proofs.lemmas.List.{append-nil, length-append, length-drop, length-take, nil_from_length, take-append-drop}
pub use Rattle.std.proofs.lemmas.Nat.{mod-pow-add, mul-add-lt, one_shl, or_shifted, pow-add, shl-shr, shl_whole}
pub use Rattle.std.proofs.lemmas.Nat.Bits.{bit_at_above}
pub use Rattle.std.proofs.lemmas.Option.{slice_get-get_or}
pub use Rattle.std.specs.Int.{to_be_bytes, w64}
pub use Rattle.std.specs.Int.Bits.{or_zero_r}
pub use Rattle.std.specs.Int.RustNames.{bit_or}
pub use Rattle.std.specs.Prelude.{flat_map}
