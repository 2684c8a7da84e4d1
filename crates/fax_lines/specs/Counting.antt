-- What a call leaves of a context.
use Rattle.std.specs.Prelude.{◌≡◌, ◌≤◌}
use Rattle.fax_reading.specs.Context.{Context}

-- It holds what it held, in lists that have as much room, and counts no fewer ticks.
pub record OnlyCounts (before after : Context) : Type 0 where
  pub held : after.held ≡ before.held
  pub counts : before.ticks ≤ after.ticks
  pub space : after.space ≡ before.space
