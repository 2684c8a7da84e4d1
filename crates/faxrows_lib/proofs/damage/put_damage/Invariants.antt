use Rattle.faxrows_lib.proofs.Names.{◌≡◌, ◌≢◌, ◌≤◌, ◌-◌, [], length, Some, Err, DecodeError, PassesOn, rows_of}
use Rattle.faxrows_lib.proofs.DamageTexts.{damage_so_far}
use Rattle.faxrows_lib.proofs.damage.put_damage.Given as goal

-- the lines came, but for that of the EOL after the last row
abbrev pub invariant-loop-rows : goal.invariant-loop-rows
invariant-loop-rows g l = record {
  settings : l.rows.settings ≡ l.fn.rows.settings;
  bits : l.rows.bits ≡ l.fn.rows.bits;
  within : l.rows.taken ≤ length (rows_of l.fn.rows.settings l.fn.rows.bits);
  lines : PassesOn (g.W.Write.contents l.fn.writer.0) (g.W.Write.contents l.writer.0) []
      (damage_so_far l.fn.rows.settings l.fn.rows.bits l.rows.taken) l.waiting.items;
  flag : l.writer.1 ≡ l.fn.writer.1;
  unfailed : (error : DecodeError) → l.rows.end ≢ Some (Err error);
}

-- the rows that are left
abbrev pub decreases-loop-rows : goal.decreases-loop-rows
decreases-loop-rows g l = length (rows_of l.fn.rows.settings l.fn.rows.bits) - l.rows.taken
