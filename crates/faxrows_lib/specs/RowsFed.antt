-- Rows that are put while data is fed: not part of the trusted specification.
use Rattle.std.specs.Prelude.{◌≡◌, ◌≢◌, ◌≤◌, ◌<◌, ◌+◌, ◌-◌, ◌*◌, ◌^◌, ℕ, Bool, true, false, List, [], ◌++◌, length, take, None}
use Rattle.std.specs.Prelude.{Option}
use Rattle.std.specs.Prelude.{IfSome, Result, IfOk, OnOk, OnErr}
use Rattle.std.specs.Io.KnownBytes.{Consumes, IsAtEnd}
use Rattle.hayro_ccitt.specs.BitOrder.{BitOrder}
use Rattle.hayro_ccitt.specs.Bits.{AreWholeBytes, Bits, BitsFit, bits_in}
use Rattle.hayro_ccitt.specs.DecodeSettings.{DecodeSettings}
use Rattle.hayro_ccitt.specs.RowFeeds.{ComeNext, Feeding, IsFeedOf, KeepsBits, fed_bits}
use Rattle.fax_program.specs.Devices.{AppendsFront}
use Rattle.fax_program.specs.declared.fault.RunFault.{RunFault}
use Rattle.fax_program.specs.declared.fault.RunFault.TheVariants.{BadArguments, Memory, Read, TooLong, Write}
use Rattle.faxrows_lib.specs.Output.{PassesOn, Used, bytes_before, bytes_after}
use Rattle.faxrows_lib.specs.Runs.{Outcome, rows_of}
use Rattle.faxrows_lib.specs.RunsByRow.{EndsByRow}
use Rattle.faxrows_lib.specs.Text.{lines_of_rows}

-- the rows so far are those of a reading of these bits, and their lines came; from where the writer stood at first
pub record HasPut (start now : Option (List ℕ)) (whole : Bits) (feed : Feeding) (waits : List ℕ) : Type 0 where
  pub tried : ℕ
  pub is_feed : IsFeedOf whole tried feed
  pub within : feed.ctx.held.taken ≤ length (rows_of feed.ctx.held.settings whole)
  pub lines : PassesOn start now [] (lines_of_rows (take feed.ctx.held.taken (rows_of feed.ctx.held.settings whole))) waits

-- What a call leaves that puts each row that no data that follows can change: more data is needed, or the reading has ended; or
-- the writer failed, and has a front of the lines of all rows.
pub record PutsRows {W : Type 0} (writer : Used W) (old new : Feeding) (waited waits : List ℕ)
    (result : Result (Option Outcome) RunFault) : Type 0 where
  pub keeps : KeepsBits old new
  pub settings : OnOk result (new.ctx.held.settings ≡ old.ctx.held.settings)
  pub more : IfOk result (λ end. end ≡ None → new.finished ≡ false)
  pub put : OnOk result ((start : Option (List ℕ)) (whole : Bits) → HasPut start (bytes_before writer) whole old waited
      → HasPut start (bytes_after writer) whole new waits)
  pub ends : IfOk result (λ end. IfSome end (λ outcome. (start : Option (List ℕ)) (whole : Bits)
      → HasPut start (bytes_before writer) whole old waited
      → EndsByRow old.ctx.held.settings whole new.ctx.held.taken outcome))
  pub front : OnErr result ((start : Option (List ℕ)) (whole : Bits) → HasPut start (bytes_before writer) whole old waited
      → AppendsFront start (bytes_after writer) (lines_of_rows (rows_of old.ctx.held.settings whole)))

-- what a call leaves that feeds what a reader has next, or finishes the data at its end
pub record FeedsPiece (before after : Option (List ℕ)) (old new : Feeding) : Type 0 where
  pub bytes : List ℕ
  pub consumed : Consumes before after bytes
  pub same : (new.ctx ≡ old.ctx) × (new.rows ≡ old.rows) × (new.order ≡ old.order)
  pub counts : fed_bits new ≡ fed_bits old + 8 * length bytes
  pub fed : new.finished ≡ false → (0 < length bytes) × (fed_bits new + 64 < 2 ^ 64)
      × ((whole : Bits) (tried : ℕ) → IsFeedOf whole tried old → ComeNext whole old (bits_in old.order bytes)
      → IsFeedOf whole tried new)
  pub ends : new.finished ≡ true → (bytes ≡ []) × IsAtEnd after
      × ((whole : Bits) (tried : ℕ) → IsFeedOf whole tried old → length whole ≡ fed_bits old → IsFeedOf whole tried new)

-- what it leaves if it fails: nothing was read, or what was read can't be fed
pub record FeedsNone (before after : Option (List ℕ)) (old : Feeding) (fault : RunFault) : Type 0 where
  pub bytes : List ℕ
  pub consumed : Consumes before after bytes
  pub none : fault ≡ Read → bytes ≡ []
  pub fit : fault ≡ Memory → fed_bits old + 8 * length bytes + 64 < 2 ^ 64
  pub too_long : fault ≡ TooLong → 2 ^ 64 - 72 < fed_bits old + 8 * length bytes
  pub only : (fault ≢ Write) × (fault ≢ BadArguments)

-- nothing was fed yet, and nothing was read
pub record IsNewFeed (feed : Feeding) : Type 0 where
  pub none_fed : fed_bits feed ≡ 0
  pub none_read : feed.ctx.held.taken ≡ 0
  pub unfinished : feed.finished ≡ false
  pub reads : (whole : Bits) → AreWholeBytes whole → length whole + 64 < 2 ^ 64 → IsFeedOf whole 0 feed

-- these bytes were fed so far, and the data begins with them, and is no more if it is finished
pub record IsBegunBy (input : List ℕ) (finished : Bool) (whole : List ℕ) : Type 0 where
  pub more : List ℕ
  pub begins : whole ≡ input ++ more
  pub none : finished ≡ true → more ≡ []
  pub fit : BitsFit whole

-- what was read was fed, and the rows so far were put, of whatever data it is a beginning
pub record IsUnderWay {R : Type 0} (settings : DecodeSettings) (order : BitOrder) (reader : Used R)
    (start now : Option (List ℕ)) (feed : Feeding) (waits : List ℕ) : Type 0 where
  pub input : List ℕ
  pub consumed : Consumes (bytes_before reader) (bytes_after reader) input
  pub counted : fed_bits feed ≡ 8 * length input
  pub fit : BitsFit input
  pub settings_are : feed.ctx.held.settings ≡ settings
  pub order_is : feed.order ≡ order
  pub at_end : feed.finished ≡ true → IsAtEnd (bytes_after reader)
  pub put : (whole : List ℕ) → IsBegunBy input feed.finished whole → HasPut start now (bits_in order whole) feed waits

-- and the reading ended like this
pub record IsReadToEnd {R : Type 0} (settings : DecodeSettings) (order : BitOrder) (reader : Used R)
    (start now : Option (List ℕ)) (feed : Feeding) (waits : List ℕ) (outcome : Outcome) : Type 0 where
  pub so_far : IsUnderWay settings order reader start now feed waits
  pub ends : (whole : List ℕ) → IsBegunBy so_far.input feed.finished whole
      → EndsByRow settings (bits_in order whole) feed.ctx.held.taken outcome
