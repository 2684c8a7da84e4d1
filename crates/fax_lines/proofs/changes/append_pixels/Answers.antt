use Rattle.fax_lines.proofs.Names.{common_steps}
use Rattle.fax_lines.proofs.Names.{◌≡◌, length, arith, append-nil}
use Rattle.fax_reading.proofs.PixelRows.ChangesAndPixels.{AreChanges-wider, AreChanges-push, pixels-same, pixels-push}
use Rattle.fax_reading.proofs.PixelRows.Painting.{last_pixel-agrees, last_pixel-differs, other_color}
use Rattle.fax_lines.proofs.changes.append_pixels.Goals.{else-count-gt0-via-then-count-gt0+else-last_is_white-is_white}
use Rattle.fax_lines.proofs.changes.append_pixels.Goals.{else-count-gt0-via-else-count-gt0}
use Rattle.fax_lines.proofs.changes.append_pixels.Goals as goal

pub returns-in_err-try_push_change-clause-memory : goal.returns-in_err-try_push_change-clause-memory
returns-in_err-try_push_change-clause-memory c =
    let a = c.args in
    let len : c.len.result ≡ length a.changes.now.items = omega (arith, c.len.ensures, a.changes.now.ok.0) in
    let even = rw len at c.is_multiple_of-last_is_white.ensures in
    let differs = last_pixel-differs a.painted a.changes.now.items a.color _ _ c.requires even c.is_white.ensures
    c.if-last_is_white-is_white.true in
    λ e. (c.if-count-gt0.true, other_color _ _ differs)

pub returns-in_ok-try_push_change-clause-lawful : goal.returns-in_ok-try_push_change-clause-lawful
returns-in_ok-try_push_change-clause-lawful c =
    let a = c.args in
    rw c.in_ok-try_push_change.ensures.items
    (AreChanges-push a.painted a.count a.changes.now.items c.if-count-gt0.true c.requires)

pub returns-in_ok-try_push_change-clause-painted : goal.returns-in_ok-try_push_change-clause-painted
returns-in_ok-try_push_change-clause-painted c =
    let a = c.args in
    let len : c.len.result ≡ length a.changes.now.items = omega (arith, c.len.ensures, a.changes.now.ok.0) in
    let even = rw len at c.is_multiple_of-last_is_white.ensures in
    let differs = last_pixel-differs a.painted a.changes.now.items a.color _ _ c.requires even c.is_white.ensures
    c.if-last_is_white-is_white.true in
    rw (c.in_ok-try_push_change.ensures.items, ← differs) (pixels-push a.painted a.count a.changes.now.items c.requires)

pub returns-else-count-gt0-clause-lawful : goal.returns-else-count-gt0-clause-lawful
returns-else-count-gt0-clause-lawful c = AreChanges-wider c.args.painted _ c.args.changes.now.items (omega arith) c.requires

pub returns-else-count-gt0-clause-painted : goal.returns-else-count-gt0-clause-painted
returns-else-count-gt0-clause-painted c =
    let a = c.args in
    let len : c.len.result ≡ length a.changes.now.items = omega (arith, c.len.ensures, a.changes.now.ok.0) in
    let even = rw len at c.is_multiple_of-last_is_white.ensures in
    elim c.else-count-gt0.branch [
      | else-count-gt0-via-then-count-gt0+else-last_is_white-is_white w ↦
          let same = last_pixel-agrees a.painted a.changes.now.items a.color _ _ c.requires even w.is_white.ensures
          w.if-last_is_white-is_white.false in
          rw (← same) (pixels-same a.painted a.count a.changes.now.items c.requires)
      | else-count-gt0-via-else-count-gt0 w ↦
          grind (arith, common_steps, append-nil)
    ]
