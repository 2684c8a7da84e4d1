use Rattle.std.proofs.Common.{◌≡◌, length, rules, true}
use Rattle.c_rows.proofs.WhiteRows.{white_bytes}
use Rattle.c_rows.proofs.packed_rows.pack_black_as_0.Goals as goal

pub returns-then-is_empty : goal.returns-then-is_empty
returns-then-is_empty c =
    let none : length c.args.changes.now ≡ 0 = search rules in
    record {
      packed = white_bytes true c.args.columns c.args.changes.now c.args.row.now c.fill_apart.new.bytes c.white_byte.result
          none c.requires.fits.room c.white_byte.ensures c.fill_apart.ensures;
    }
