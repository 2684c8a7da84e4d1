use Rattle.std.proofs.Common.{◌≡◌, ◌≤◌, ◌-◌, length, replicate, drop}
use Rattle.fax_bitmap.proofs.pixel_words.fill_by_pieces.Given as goal

-- the bytes after those that are left are filled
abbrev pub invariant-pieces : goal.invariant-pieces
invariant-pieces l = (length l.bytes ≡ length l.fn.bytes) × (l.left ≤ length l.bytes)
    × (drop l.left l.bytes ≡ replicate (length l.bytes - l.left) l.fn.byte)

abbrev pub decreases-pieces : goal.decreases-pieces
decreases-pieces l = l.left
