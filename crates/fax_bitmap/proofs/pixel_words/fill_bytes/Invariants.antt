use Rattle.fax_bitmap.proofs.Names.{◌≡◌, ◌≤◌, ◌-◌, length, replicate, take}
use Rattle.fax_bitmap.proofs.pixel_words.fill_bytes.Given as goal

-- the bytes so far are filled
abbrev pub invariant-bytes : goal.invariant-bytes
invariant-bytes l =
    (length l.bytes ≡ length l.fn.bytes) × (l.at ≤ length l.bytes) × (take l.at l.bytes ≡ replicate l.at l.fn.byte)

abbrev pub decreases-bytes : goal.decreases-bytes
decreases-bytes l = length l.bytes - l.at
