-- The names of std and of the definitions that proofs cite.
pub use Rattle.fax_words.specs.Chosen.{filled_up, rows_of, AreRows}
pub use Rattle.fax_bitmap.specs.Packed.{bytes_of_row, in_black, rows_shown, shown}
pub use Rattle.fax_bitmap.specs.Painting.{StandsAt, TurnsBlack, plain_pixels, then_white, under}
unfoldable pub use Rattle.fax_bitmap.specs.Painting.{joined_pixels, turned_after, turned_at_all, turned_from}
pub use Rattle.fax_bitmap.specs.Scanning.{differences, ones_from}
pub use Rattle.fax_bitmap.specs.declared.painting.Brush.{Brush}
pub use Rattle.fax_bitmap.specs.declared.pixel_words.TheConstants.{ONES_BEFORE, ONES_FROM}
pub use Rattle.fax_bits.proofs.BitReading.BitLists.{length-bits_of, length-low_bits}
pub use Rattle.fax_bits.proofs.BitReading.WordRanges.{low_bits_below}
pub use Rattle.fax_bits.proofs.BitReading.ZerosPassed.{one_times, some_number}
pub use Rattle.fax_reading.proofs.PixelRows.ChangesAndPixels.{AreChanges-changes, changes-recursive, last_pixel-same}
pub use Rattle.fax_reading.proofs.PixelRows.ChangesAndPixels.{length-pixels, pixels-changes}
pub use Rattle.fax_reading.proofs.PixelRows.RowChanges.{changes_from, changes_from-append, changes_from-same}
pub use Rattle.fax_bits.specs.Bits.{Bits, bit_of, bits_of, bits_of_byte, low_bits}
pub use Rattle.fax_reading.specs.Rows.{AreChanges, AscendFrom, Row, changes, last_pixel, pixels, pixels_from, white_row}
pub use Rattle.fax_bits.specs.declared.bit_reader.BitOrder.TheVariants.{HighestFirst}
pub use Rattle.fax_bits.specs.declared.codes.Color.TheVariants.{Black, White}
pub use Rattle.std.proofs.Common.{Bool, List, OnOk, [], add-one, ap, append_assoc, arith, cond, drop, eqb, false, get_or, inl}
pub use Rattle.std.proofs.Common.{inr, length, map, nat_eq, not, refl, vec_capacity, vec_len, replicate, rules, set, subst, suc}
pub use Rattle.std.proofs.Common.{sym, take, take_all, true, zero, ℕ, ◌%◌, ◌*◌, ◌++◌, ◌+◌, ◌-◌, ◌/◌, ◌<◌, ◌==◌, ◌^◌, ◌∙◌, ◌∷◌}
pub use Rattle.std.proofs.Common.{◌≡◌, ◌≤◌}
pub use Rattle.std.proofs.Math.Pow.{pow_mono}
pub use Rattle.std.proofs.Math.Nat.{div-eq-sub-div, div-eq_of_lt, pow-suc}
pub use Rattle.std.proofs.Math.Seq.{drop-append-add, take-add, take-append-add, take-append_seam}
pub use Rattle.std.proofs.lemmas.Bool.{agree_below_at, and_parts, cases_lt, eqb-true}
pub use Rattle.std.proofs.lemmas.Grind.{flat_map-append}
pub use Rattle.std.proofs.lemmas.List.{append-nil, drop-drop, drop_all, drop_more, get_or-drop, get_or_default, get_or_past}
pub use Rattle.std.proofs.lemmas.List.{length-append, length-drop, length-map, length-replicate, length-set, length-take}
pub use Rattle.std.proofs.lemmas.List.{map-append, replicate-append-replicate, drop-append-le, drop-replicate, length-take-le}
pub use Rattle.std.proofs.lemmas.List.{take-append-drop, take-append-le, take-replicate, take_rest}
pub use Rattle.std.proofs.lemmas.List.Edits.{fill_by_more}
pub use Rattle.std.proofs.lemmas.List.Elements.{All-push}
pub use Rattle.std.proofs.lemmas.List.FromFn.{fill_by_all, get_or-map-range_with_len}
pub use Rattle.std.proofs.lemmas.Nat.{be_bytes_8, leading_length, leading_top, one_shl, and-not, or_shifted}
pub use Rattle.std.proofs.lemmas.Nat.Bits.{and_pow, bit_at-lt, bit_at-suc, bit_at_above, bit_at_cat_high, bit_at_cat_low}
pub use Rattle.std.proofs.lemmas.Nat.Bits.{bit_at_ones, bit_at_ones_above, bit_at_xor}
pub use Rattle.std.proofs.lemmas.Result.{on_ok_weaker}
pub use Rattle.std.proofs.lemmas.Slice.{take-put_mid}
pub use Rattle.std.specs.Int.{bit_at, from_be_bytes, w64}
pub use Rattle.std.specs.Int.Bits.{and_comm}
pub use Rattle.std.specs.Int.RustNames.{bit_and, bit_or, bit_xor}
pub use Rattle.std.specs.List.{range_with_len}
pub use borrow.Rule.Slice.PartMut.{put_mid}
pub use lib.Count.{count_leading_zeros}
pub use mathlib.Core.Bool.{beq}
