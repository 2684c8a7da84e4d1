-- Data that is read and fed in pieces, and the rows that are put meanwhile.
use Rattle.faxrows_lib.proofs.Names.{◌≡◌, ◌≢◌, ◌+◌, ◌*◌, ◌<◌, ◌≤◌, ◌^◌, ◌↔◌, ◌++◌, ◌∙◌, ℕ, Bool, true, false, List, [], Option}
use Rattle.faxrows_lib.proofs.Names.{Result, Ok}
use Rattle.faxrows_lib.proofs.Names.{◌-◌, cond, KeepsBits, Err, IfSome, Some, None, arith, refl, sym, ap, subst, append-nil}
use Rattle.faxrows_lib.proofs.Names.{append_assoc, length}
use Rattle.faxrows_lib.proofs.Names.{length-append, drop, take, Appends, Appends-trans, AppendsFront, Bits, BitsFit, bits_in}
use Rattle.faxrows_lib.proofs.Names.{BitOrder, Context, DecodeSettings, Outcome, RunFault, BadArguments, Read, TooLong, Write}
use Rattle.faxrows_lib.proofs.Names.{FaultOfMemory, ComeNext, Feeding, IsFeedOf, fed_bits, EndsByRow, PassesOn, Used}
use Rattle.faxrows_lib.proofs.Names.{FeedsNone, FeedsPiece, HasPut, IsBegunBy, IsNewFeed, IsReadToEnd, IsUnderWay, PutsRows}
use Rattle.faxrows_lib.proofs.Names.{MayBe, OnData, WritesAsRead, bytes_after, bytes_before, lines_of_rows, rows_of, used}
use Rattle.std.proofs.KnownBytes.{Appends-nil, Consumes-nil, Consumes-trans}
use Rattle.std.proofs.Math.Seq.{drop-append_seam}
use Rattle.std.proofs.lemmas.List.Concat.{flat_map-append}
use Rattle.std.specs.Io.KnownBytes.{Consumes, IsAtEnd}
use Rattle.faxrows_lib.proofs.Names.{Arguments, RunsAsRead, arguments_of}
use Rattle.hayro_ccitt.specs.Bits.{AreWholeBytes, bits_of_byte}
use Rattle.hayro_ccitt.proofs.BitReading.BitLists.{bits_are_whole, length-bits_in}

-- ---- Bits of bytes

-- the bits after those of the first bytes
bits_after : (order : BitOrder) (first next more : List ℕ)
    → drop (8 * length first) (bits_in order ((first ++ next) ++ more)) ≡ bits_in order next ++ bits_in order more
bits_after order first next more =
    let rest = bits_in order next ++ bits_in order more in
    let bits : bits_in order ((first ++ next) ++ more) ≡ bits_in order first ++ rest =
    ap (bits_in order) (append_assoc first next more) ∙ flat_map-append (bits_of_byte order) first (next ++ more)
    ∙ ap (λ (b : Bits). bits_in order first ++ b) (flat_map-append (bits_of_byte order) next more) in
    ap (drop (8 * length first)) bits ∙ ap (λ (n : ℕ). drop n (bits_in order first ++ rest)) (sym (length-bits_in order first))
    ∙ drop-append_seam (bits_in order first) rest

-- what waited was written
lines_flushed : (start now later : Option (List ℕ)) (text waits : List ℕ) → PassesOn start now [] text waits
    → Appends now later waits → PassesOn start later [] text []
lines_flushed start now later text waits passes wrote = (
  passes.0 ++ waits,
  Appends-trans start now later passes.0 waits passes.1 wrote,
  passes.2 ∙ sym (append-nil (passes.0 ++ waits)),
)

-- and is all that was written
lines_written : (start now : Option (List ℕ)) (text : List ℕ) → PassesOn start now [] text [] → Appends start now text
lines_written start now text passes =
    subst (Appends start now) (sym (append-nil passes.0) ∙ sym passes.2) passes.1

-- ---- What was read

module _ {R : Type 0} {settings : DecodeSettings} {order : BitOrder} {reader : Used R} {start now : Option (List ℕ)}
    {feed : Feeding} {waits : List ℕ} (way : IsUnderWay settings order reader start now feed waits) where
  -- the data may be no more than what was read
  pub none_more : IsBegunBy way.input feed.finished way.input
  none_more = record { more = []; begins = sym (append-nil way.input); none = λ last. refl; fit = way.fit }

  pub some_feed : (whole : Bits) × (tried : ℕ) × IsFeedOf whole tried feed
  some_feed = let put = way.put way.input none_more in (bits_in order way.input, put.tried, put.is_feed)

  -- whatever the reader may have had, it begins with what was fed
  pub may_begin : (whole : List ℕ) → MayBe way.input (bytes_after reader) whole → IsBegunBy way.input feed.finished whole
  may_begin whole may = record {
    more = may.more;
    begins = may.begins;
    none = λ last. may.ends (way.at_end last);
    fit = may.fit;
  }

  pub way_flushed : {later : Option (List ℕ)} → Appends now later waits
      → IsUnderWay settings order reader start later feed []
  way_flushed {later} wrote = record {
    input = way.input;
    consumed = way.consumed;
    counted = way.counted;
    fit = way.fit;
    settings_are = way.settings_are;
    order_is = way.order_is;
    at_end = way.at_end;
    put = λ whole begun. let put = way.put whole begun in record {
      tried = put.tried;
      is_feed = put.is_feed;
      within = put.within;
      lines = lines_flushed start now later _ waits put.lines wrote;
    };
  }

-- a call that feeds nothing
pub fed_bits_kept : {old new : Feeding} → KeepsBits old new → fed_bits new ≡ fed_bits old
fed_bits_kept keeps = omega (arith, keeps.dropped, ap length keeps.kept)

-- rows were put
abbrev pub way_put : {R W : Type 0} {settings : DecodeSettings} {order : BitOrder} {reader : Used R} {start : Option (List ℕ)}
    {writer : Used W} {old new : Feeding} {waited waits : List ℕ} {end : Option Outcome}
    → IsUnderWay settings order reader start (bytes_before writer) old waited → PutsRows writer old new waited waits (Ok end)
    → IsUnderWay settings order reader start (bytes_after writer) new waits
way_put {order = order} {start = start} {old = old} {new = new} way puts = record {
  input = way.input;
  consumed = way.consumed;
  counted = fed_bits_kept puts.keeps ∙ way.counted;
  fit = way.fit;
  settings_are = puts.settings ∙ way.settings_are;
  order_is = puts.keeps.order ∙ way.order_is;
  at_end = λ last. way.at_end (sym puts.keeps.finished ∙ last);
  put = λ whole begun. puts.put start (bits_in order whole)
      (way.put whole (subst (λ (b : Bool). IsBegunBy way.input b whole) puts.keeps.finished begun));
}

-- a piece was fed, or the data is finished
module _ {R : Type 0} {settings : DecodeSettings} {order : BitOrder} (bytes : R → Option (List ℕ)) (first mid last : R × Bool)
    {start now : Option (List ℕ)} {old new : Feeding} (way : IsUnderWay settings order (used bytes first mid) start now old [])
    (unfinished : old.finished ≡ false) where
  module _ (piece : FeedsPiece (bytes mid.0) (bytes last.0) old new) where
    counted_so : fed_bits new ≡ 8 * length (way.input ++ piece.bytes)
    counted_so = omega (arith, piece.counts, way.counted, length-append way.input piece.bytes)

    -- the data begins with what was read before, too
    before_piece : {b : Bool} {whole : List ℕ} → IsBegunBy (way.input ++ piece.bytes) b whole
        → IsBegunBy way.input old.finished whole
    before_piece {b} {whole} begun = record {
      more = piece.bytes ++ begun.more;
      begins = begun.begins ∙ append_assoc way.input piece.bytes begun.more;
      none = λ last. let never : false ≡ true = sym unfinished ∙ last in cc;
      fit = begun.fit;
    }

    -- the rows so far are the same
    same_put : {whole : Bits} (put : HasPut start now whole old []) → IsFeedOf whole put.tried new
        → HasPut start now whole new []
    same_put {whole} put feed = record {
      tried = put.tried;
      is_feed = feed;
      within = subst (λ (x : Context). x.held.taken ≤ length (rows_of x.held.settings whole)) (sym piece.same.0) put.within;
      lines = subst (λ (x : Context). PassesOn start now []
          (lines_of_rows (take x.held.taken (rows_of x.held.settings whole))) []) (sym piece.same.0) put.lines;
    }

    comes_next : {b : Bool} {whole : List ℕ} → IsBegunBy (way.input ++ piece.bytes) b whole
        → ComeNext (bits_in order whole) old (bits_in old.order piece.bytes)
    comes_next {b} {whole} begun = record {
      rest = bits_in order begun.more;
      bits = ap (λ (n : ℕ). drop n (bits_in order whole)) way.counted
          ∙ ap (λ (w : List ℕ). drop (8 * length way.input) (bits_in order w)) begun.begins
          ∙ bits_after order way.input piece.bytes begun.more
          ∙ ap (λ (o : BitOrder). bits_in o piece.bytes ++ bits_in order begun.more) (sym way.order_is);
      bytes = bits_are_whole order begun.more;
    }

    all_fed : {whole : List ℕ} → piece.bytes ≡ [] → (begun : IsBegunBy (way.input ++ piece.bytes) new.finished whole)
        → begun.more ≡ [] → length (bits_in order whole) ≡ fed_bits old
    all_fed {whole} empty begun none = omega (
      arith,
      length-bits_in order whole,
      ap length begun.begins,
      length-append (way.input ++ piece.bytes) begun.more,
      length-append way.input piece.bytes,
      ap length empty,
      ap length none,
      way.counted,
    )

    fits_so : (b : Bool) → new.finished ≡ b → BitsFit (way.input ++ piece.bytes)
    fits_so false e = omega (arith, counted_so, (piece.fed e).1)
    fits_so true e = omega (arith, way.fit, length-append way.input piece.bytes, ap length (piece.ends e).0)

    put_so : (b : Bool) → new.finished ≡ b → (whole : List ℕ) → IsBegunBy (way.input ++ piece.bytes) new.finished whole
        → HasPut start now (bits_in order whole) new []
    put_so false e whole begun =
        let put = way.put whole (before_piece begun) in
        same_put put ((piece.fed e).2 (bits_in order whole) put.tried put.is_feed (comes_next begun))
    put_so true e whole begun =
        let put = way.put whole (before_piece begun) in
        let ends = piece.ends e in
        same_put put (ends.2 (bits_in order whole) put.tried put.is_feed (all_fed ends.0 begun (begun.none e)))

    pub way_fed : IsUnderWay settings order (used bytes first last) start now new []
    way_fed = record {
      input = way.input ++ piece.bytes;
      consumed = Consumes-trans _ _ _ _ _ way.consumed piece.consumed;
      counted = counted_so;
      fit = fits_so new.finished refl;
      settings_are = ap (λ (x : Context). x.held.settings) piece.same.0 ∙ way.settings_are;
      order_is = piece.same.2 ∙ way.order_is;
      at_end = λ e. (piece.ends e).1;
      put = put_so new.finished refl;
    }

-- fewer bits can still be fed
pub less_to_feed : {R : Type 0} {settings : DecodeSettings} {order : BitOrder} {reader : Used R}
    {start now before after : Option (List ℕ)} {old mid new : Feeding} {waits : List ℕ}
    → IsUnderWay settings order reader start now old waits → fed_bits mid ≡ fed_bits old → old.finished ≡ false
    → FeedsPiece before after mid new
    → cond new.finished 0 (2 ^ 64 - fed_bits new) < cond old.finished 0 (2 ^ 64 - fed_bits old)
less_to_feed {old = old} {new = new} way same unfinished piece =
    subst (λ (b : Bool). cond new.finished 0 (2 ^ 64 - fed_bits new) < cond b 0 (2 ^ 64 - fed_bits old)) (sym unfinished)
    (by_end new.finished refl)
  where
    by_end : (b : Bool) → new.finished ≡ b → cond b 0 (2 ^ 64 - fed_bits new) < 2 ^ 64 - fed_bits old
    by_end true e = omega (arith, way.fit, way.counted)
    by_end false e = omega (arith, way.fit, way.counted, (piece.fed e).0, (piece.fed e).1, piece.counts, same)

-- ---- What a call returns

not_both : {b : Bool} → b ≡ true → b ≡ false → ⊥
not_both is isnt = let never : true ≡ false = sym is ∙ isnt in cc

module _ {R W T : Type 0} (IsText : DecodeSettings → Bits → T → List ℕ → Type 0) {settings : DecodeSettings} {order : BitOrder}
    {reader : Used R} (writer : Used W) {start now : Option (List ℕ)} {feed : Feeding} {waits : List ℕ}
    (way : IsUnderWay settings order reader start now feed waits) (read : reader.after.1 ≡ reader.before.1) where
  on_data : (P : Bits → Type 0) → ((whole : List ℕ) → IsBegunBy way.input feed.finished whole → P (bits_in order whole))
      → OnData order reader P
  on_data P holds = (way.input, way.consumed, λ whole may. holds whole (may_begin way whole may))

  -- a text was written
  pub text_as_read : (value : T) → ((whole : List ℕ) → IsBegunBy way.input feed.finished whole → (text : List ℕ)
      × IsText settings (bits_in order whole) value text × Appends (bytes_before writer) (bytes_after writer) text)
      → writer.after.1 ≡ writer.before.1 → WritesAsRead IsText settings order reader writer (Ok value)
  text_as_read value texts kept = record {
    written = on_data (λ bits. (text : List ℕ) × IsText settings bits value text
        × Appends (bytes_before writer) (bytes_after writer) text) texts;
    front = λ e. cc;
    rows = tt;
    fit = λ e. (way.input, way.consumed, way.fit);
    too_long = λ e. cc;
    read = λ unfailed. (λ e. cc, λ failed. absurd (not_both failed (read ∙ unfailed)));
    write = λ unfailed. (λ e. cc, λ failed. absurd (not_both failed (kept ∙ unfailed)));
    not_arguments = λ e. cc;
  }

  -- a front of one was
  pub front_as_read : (fault : RunFault) → fault ≡ Write → ((whole : List ℕ)
      → IsBegunBy way.input feed.finished whole → (value : T)
      × (text : List ℕ) × IsText settings (bits_in order whole) value text
      × AppendsFront (bytes_before writer) (bytes_after writer) text)
      → writer.after.1 ≡ true → WritesAsRead IsText settings order reader writer (Err fault)
  front_as_read fault only fronts failed = record {
    written = tt;
    front = λ e. on_data (λ bits. (value : T) × (text : List ℕ) × IsText settings bits value text
        × AppendsFront (bytes_before writer) (bytes_after writer) text) fronts;
    rows = λ other. absurd (other only);
    fit = λ e. (way.input, way.consumed, way.fit);
    too_long = λ e. let never : Write ≡ TooLong = sym only ∙ fault_of e in cc;
    read = λ unfailed. (
      λ e. let never : Write ≡ Read = sym only ∙ fault_of e in cc,
      λ so. absurd (not_both so (read ∙ unfailed)),
    );
    write = λ unfailed. (λ e. failed, λ so. ap Err only);
    not_arguments = λ e. let never : Write ≡ BadArguments = sym only ∙ fault_of e in cc;
  }
    where
      fault_of : {other : RunFault} → ◌≡◌ {A = Result T RunFault} (Err fault) (Err other) → fault ≡ other
      fault_of e = cc

-- more bytes were read than offsets count
too_many : (a b : Option (List ℕ)) (input : List ℕ) → Consumes a b input → 2 ^ 64 - 72 < 8 * length input
    → IfSome a (λ known. ¬ (BitsFit known))
too_many None b input read long = tt
too_many (Some known) None input read long = absurd read
too_many (Some known) (Some rest) input read long = λ fit. omega (arith, ap length read, length-append input rest, fit, long)

-- nothing was fed, or what was read couldn't be: the lines of the rows so far were written
module _ {R W T : Type 0} (IsText : DecodeSettings → Bits → T → List ℕ → Type 0) {settings : DecodeSettings} {order : BitOrder}
    (bytes : R → Option (List ℕ)) (first mid last : R × Bool) (writer : Used W) {old : Feeding}
    (way : IsUnderWay settings order (used bytes first mid) (bytes_before writer) (bytes_after writer) old [])
    (unfinished : old.finished ≡ false) (fault : RunFault) (none : FeedsNone (bytes mid.0) (bytes last.0) old fault) where
  long : length (way.input ++ none.bytes) ≡ length way.input + length none.bytes
  long = length-append way.input none.bytes

  consumed : Consumes (bytes first.0) (bytes last.0) (way.input ++ none.bytes)
  consumed = Consumes-trans _ _ _ _ _ way.consumed none.consumed

  fits_by : (fault : RunFault) → FeedsNone (bytes mid.0) (bytes last.0) old fault → ((fault ≡ Read) → none.bytes ≡ [])
      → (fault ≡ FaultOfMemory → fed_bits old + 8 * length none.bytes + 64 < 2 ^ 64) → fault ≢ TooLong
      → BitsFit (way.input ++ none.bytes)
  fits_by Read given empty fit other = omega (arith, way.fit, long, ap length (empty refl))
  fits_by FaultOfMemory given empty fit other = omega (arith, fit refl, long, way.counted)
  fits_by TooLong given empty fit other = absurd (other refl)
  fits_by Write given empty fit other = absurd (given.only.0 refl)
  fits_by BadArguments given empty fit other = absurd (given.only.1 refl)

  fault_is : {S : Type 0} {other : RunFault} → ◌≡◌ {A = Result S RunFault} (Err fault) (Err other) → fault ≡ other
  fault_is e = cc

  rows_there : (whole : List ℕ) → MayBe (way.input ++ none.bytes) (bytes last.0) whole
      → (rows : ℕ) × Appends (bytes_before writer) (bytes_after writer)
      (lines_of_rows (take rows (rows_of settings (bits_in order whole))))
  rows_there whole may =
      let put = way.put whole (record {
        more = none.bytes ++ may.more;
        begins = may.begins ∙ append_assoc way.input none.bytes may.more;
        none = λ finished. absurd (not_both finished unfinished);
        fit = may.fit;
      }) in (
        old.ctx.held.taken,
        subst (λ (s : DecodeSettings). Appends (bytes_before writer) (bytes_after writer)
            (lines_of_rows (take old.ctx.held.taken (rows_of s (bits_in order whole))))) way.settings_are
            (lines_written (bytes_before writer) (bytes_after writer) _ put.lines),
      )

  pub rows_as_read : mid.1 ≡ first.1 → writer.after.1 ≡ writer.before.1
      → (mid.1 ≡ false → (◌≡◌ {A = Result (Unit {0}) RunFault} (Err fault) (Err Read) ↔ (last.1 ≡ true)))
      → WritesAsRead {T = T} IsText settings order (used bytes first last) writer (Err fault)
  rows_as_read kept written read = record {
    written = tt;
    front = λ e. absurd (none.only.0 (fault_is e));
    rows = λ other. (way.input ++ none.bytes, consumed, rows_there);
    fit = λ other. (way.input ++ none.bytes, consumed, fits_by fault none none.none none.fit (λ is. other (ap Err is)));
    too_long = λ e. too_many _ _ (way.input ++ none.bytes) consumed
        (omega (arith, none.too_long (fault_is e), way.counted, long));
    read = λ unfailed. (
      λ e. (read (kept ∙ unfailed)).0 (ap Err (fault_is e)),
      λ so. ap Err (fault_is ((read (kept ∙ unfailed)).1 so)),
    );
    write = λ unfailed. (
      λ e. absurd (none.only.0 (fault_is e)),
      λ so. absurd (not_both so (written ∙ unfailed)),
    );
    not_arguments = λ e. none.only.1 (fault_is e);
  }

-- nothing was read or written
pub nothing_as_read : {R W T : Type 0} (IsText : DecodeSettings → Bits → T → List ℕ → Type 0) (settings : DecodeSettings)
    (order : BitOrder) (reader : Used R) (writer : Used W) → reader.after ≡ reader.before → writer.after ≡ writer.before
    → WritesAsRead {T = T} IsText settings order reader writer (Err FaultOfMemory)
nothing_as_read IsText settings order reader writer unread unwritten = record {
  written = tt;
  front = λ e. cc;
  rows = λ other. (
    [],
    nothing_read,
    λ whole may. (
      0,
      subst (λ (w : _). Appends (bytes_before writer) (writer.bytes w.0) []) (sym unwritten) (Appends-nil (bytes_before writer)),
    ),
  );
  fit = λ e. ([], nothing_read, omega arith);
  too_long = λ e. cc;
  read = λ unfailed. (λ e. cc, λ so. absurd (not_both so (ap (λ (r : _). r.1) unread ∙ unfailed)));
  write = λ unfailed. (λ e. cc, λ so. absurd (not_both so (ap (λ (w : _). w.1) unwritten ∙ unfailed)));
  not_arguments = λ e. cc;
}
  where
    nothing_read : Consumes (bytes_before reader) (bytes_after reader) []
    nothing_read = subst (λ (r : _). Consumes (bytes_before reader) (reader.bytes r.0) []) (sym unread)
        (Consumes-nil (bytes_before reader))

-- ---- The first state

-- nothing was fed, and nothing was read
pub new_feed : {feed : Feeding} → (feed.kept ≡ []) × (feed.dropped ≡ 0) × (feed.finished ≡ false) → feed.ctx.held.taken ≡ 0
    → ((whole : Bits) → AreWholeBytes whole → length whole + 64 < 2 ^ 64 → IsFeedOf whole 0 feed) → IsNewFeed feed
new_feed none taken reads = record {
  none_fed = omega (arith, ap length none.0, none.1);
  none_read = taken;
  unfinished = none.2;
  reads = reads;
}

-- nothing is under way yet
pub way_begun : {R : Type 0} (bytes : R → Option (List ℕ)) (reader : R × Bool) (start : Option (List ℕ)) {feed : Feeding}
    {waits : List ℕ} → IsNewFeed feed → waits ≡ []
    → IsUnderWay feed.ctx.held.settings feed.order (used bytes reader reader) start start feed waits
way_begun bytes reader start {feed} {waits} new empty = record {
  input = [];
  consumed = Consumes-nil (bytes reader.0);
  counted = new.none_fed;
  fit = omega arith;
  settings_are = refl;
  order_is = refl;
  at_end = λ e. absurd (not_both e new.unfinished);
  put = λ whole begun. record {
    tried = 0;
    is_feed = new.reads (bits_in feed.order whole) (bits_are_whole feed.order whole)
        (omega (arith, length-bits_in feed.order whole, begun.fit));
    within = omega (arith, new.none_read);
    lines = subst (λ (n : ℕ). PassesOn start start []
        (lines_of_rows (take n (rows_of feed.ctx.held.settings (bits_in feed.order whole)))) waits) (sym new.none_read)
        ([], Appends-nil start, sym empty);
  };
}

-- ---- A run

-- a feed reads as the args mean
pub as_meant : {R W T : Type 0} (IsText : DecodeSettings → Bits → T → List ℕ → Type 0) {reader : Used R} {writer : Used W}
    {settings meant : DecodeSettings} {order meant_order : BitOrder} (result : Result T RunFault) → settings ≡ meant
    → order ≡ meant_order → WritesAsRead IsText settings order reader writer result
    → WritesAsRead IsText meant meant_order reader writer result
as_meant IsText {reader} {writer} {settings} {meant} {order} {meant_order} result same_settings same_order writes =
    subst (λ (o : BitOrder). WritesAsRead IsText meant o reader writer result) same_order
    (subst (λ (s : DecodeSettings). WritesAsRead IsText s order reader writer result) same_settings writes)

module _ {R W T : Type 0} (IsText : DecodeSettings → Bits → T → List ℕ → Type 0) (args : List (List ℕ)) (reader : Used R)
    (writer : Used W) where
  -- whose args mean these arguments
  pub good_args : (arguments : Arguments) (result : Result T RunFault) → arguments_of args ≡ Some arguments
      → WritesAsRead IsText arguments.settings arguments.order reader writer result
      → RunsAsRead IsText args reader writer result
  good_args arguments result e writes = record {
    bad_arguments = (λ is. absurd (writes.not_arguments is), λ none. let never = sym e ∙ none in cc);
    unused = λ is. absurd (writes.not_arguments is);
    writes = subst (λ (meant : Option Arguments). IfSome meant (λ meant. WritesAsRead IsText meant.settings meant.order
        reader writer result)) (sym e) writes;
  }
