use Rattle.std.proofs.Common.{◌≡◌, ◌≤◌, ◌-◌, length}
use Rattle.fax_callers.specs.Pages.{PagesEnd}
use Rattle.fax_callers.proofs.pages_by.page_ends_by.Given as goal

abbrev pub invariant-loop-begin : goal.invariant-loop-begin
invariant-loop-begin l = PagesEnd l.fn.settings l.order l.«data» 0 l.ends.items l.begin × (l.begin ≤ length l.«data»)
    × (l.ctx.held.settings ≡ l.fn.settings)

abbrev pub decreases-loop-begin : goal.decreases-loop-begin
decreases-loop-begin l = length l.«data» - l.begin
