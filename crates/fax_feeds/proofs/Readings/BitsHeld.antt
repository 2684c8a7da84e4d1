-- Rows from data that comes in pieces: the bits that a feed holds once more bytes are fed.
use Rattle.fax_feeds.proofs.Names.{common_steps}
use Rattle.fax_feeds.proofs.Names.{◌≡◌, ◌++◌, ◌+◌, ◌*◌, ◌≤◌, ℕ, [], arith, length, max, drop, drop-drop, Bits}
use Rattle.fax_feeds.proofs.Names.{length-append, length-drop}
use Rattle.std.proofs.lemmas.List.{append-nil}
use Rattle.fax_feeds.specs.RowFeeds.{DropsRead, Feeding, HoldsMore}

-- what is after an offset of the bits that are left, once bytes before it are dropped and bits are appended
after_dropped : (kept next : Bits) (dropped offset : ℕ) → offset ≤ length (drop dropped kept)
    → drop offset (drop dropped kept ++ next) ≡ drop (dropped + offset) kept ++ next
after_dropped kept next dropped offset within = grind (arith, common_steps, drop-drop)

-- bytes that were read are dropped, and bits are appended to the whole bytes that are left
pub holds_more : {old mid new : Feeding} (next : Bits) (room bytes : ℕ) → DropsRead old mid → length mid.kept ≡ 8 * bytes
    → new ≡ record mid { kept = mid.kept ++ next; room = room }
    → 8 * room ≤ max (8 * mid.room) (2 * length (mid.kept ++ next)) → HoldsMore next old new
holds_more {old} {mid} {new} next room bytes drops whole is most =
    grind (arith, common_steps, after_dropped, length-append, length-drop)

-- the same without more bits
pub holds_none : {old mid new : Feeding} (bytes : ℕ) → DropsRead old mid → length mid.kept ≡ 8 * bytes → new ≡ mid
    → HoldsMore [] old new
holds_none {old} {mid} {new} bytes drops whole is = grind (arith, common_steps, holds_more, append-nil)
