-- What a run of the program does, from what its parts do.
use Rattle.faxrows_lib.proofs.Names.{◌≡◌, true, false, List, ℕ, Option, Result, Ok, Err, IfErr, OnOk, OnErr, refl, sym, ap}
use Rattle.faxrows_lib.proofs.Names.{subst}
use Rattle.faxrows_lib.proofs.Names.{◌∙◌, Arguments, Appends, AppendsFront, Bits, BitsFit, DecodeSettings, IfSome, RunFault}
use Rattle.faxrows_lib.proofs.Names.{Write, arguments_of, bits_in}
use Rattle.faxrows_lib.proofs.Names.{HasInput, OnKnown, RunsProgram, Used, WritesText, bytes_after, bytes_before}
use Rattle.faxrows_lib.proofs.Texts.{on_input, on_known}

-- ---- What a call writes

-- a text was written, and the writer has not failed
pub wrote : {W T : Type 0} (IsText : T → List ℕ → Type 0) (writer : Used W) (value : T) (text : List ℕ) → IsText value text
    → Appends (bytes_before writer) (bytes_after writer) text → writer.after.1 ≡ writer.before.1
    → WritesText IsText writer (Ok value)
wrote IsText writer value text is grew flag =
    record { written = (text, is, grew); front = tt; flag = flag; failed = tt; only = tt }

-- a front of one was, and the writer has failed
pub wrote_front : {W T : Type 0} (IsText : T → List ℕ → Type 0) (writer : Used W) (fault : RunFault) (value : T) (text : List ℕ)
    → IsText value text → AppendsFront (bytes_before writer) (bytes_after writer) text → writer.after.1 ≡ true → fault ≡ Write
    → WritesText IsText writer (Err fault)
wrote_front IsText writer fault value text is front failed only =
    record { written = tt; front = (value, text, is, front); flag = tt; failed = failed; only = only }

-- this text was written, or a front of it
pub writes_this : {W : Type 0} (text : List ℕ) (writer : Used W) (result : Result (Unit {0}) RunFault)
    → OnOk result (Appends (bytes_before writer) (bytes_after writer) text)
    → OnErr result (AppendsFront (bytes_before writer) (bytes_after writer) text)
    → OnOk result (writer.after.1 ≡ writer.before.1) → OnErr result (writer.after.1 ≡ true)
    → IfErr result (λ fault. fault ≡ Write) → WritesText (λ _ other. other ≡ text) writer result
writes_this text writer (Ok done) ok front flag failed only = wrote _ writer done text refl ok flag
writes_this text writer (Err fault) ok front flag failed only = wrote_front _ writer fault tt text refl front failed only

-- of texts that are others too
pub writes_weaker : {W T : Type 0} (IsText IsOther : T → List ℕ → Type 0) (writer : Used W) (result : Result T RunFault)
    → ((value : T) (text : List ℕ) → IsText value text → IsOther value text) → WritesText IsText writer result
    → WritesText IsOther writer result
writes_weaker IsText IsOther writer (Ok value) on writes = wrote IsOther writer value writes.written.0
    (on value writes.written.0 writes.written.1) writes.written.2 writes.flag
writes_weaker IsText IsOther writer (Err fault) on writes = wrote_front IsOther writer fault writes.front.0 writes.front.1
    (on writes.front.0 writes.front.1 writes.front.2) writes.front.3 writes.failed writes.only

-- ---- A run

module _ {R W T : Type 0} (IsText : DecodeSettings → Bits → T → List ℕ → Type 0) (args : List (List ℕ)) (reader : Used R)
    (writer : Used W) where
  module _ (arguments : Arguments) (input : List ℕ) (has : HasInput args reader arguments input) where
    -- there are at most as many bits as offsets
    fits : IfSome (bytes_before reader) BitsFit
    fits = on_input _ input BitsFit has.all has.fit

    -- its arguments mean something
    meant : arguments_of args ≡ Option.None → ⊥
    meant none = let e : Option.Some arguments ≡ Option.None = sym has.arguments_are ∙ none in cc

    -- a statement about what was read is one about what is known
    known : (P : DecodeSettings → Bits → Type 0) (settings : DecodeSettings) (bits : Bits) → settings ≡ arguments.settings
        → bits ≡ bits_in arguments.order input → P settings bits → OnKnown (arguments_of args) (bytes_before reader) P
    known P settings bits kept same holds =
        on_known _ arguments settings _ input P has.arguments_are kept has.all (subst (P settings) same holds)

    -- it wrote a text of the settings and the bits, or a front of one
    pub with_text : (settings : DecodeSettings) (bits : Bits) (result : Result T RunFault) → settings ≡ arguments.settings
        → bits ≡ bits_in arguments.order input → WritesText (IsText settings bits) writer result
        → RunsProgram IsText args reader writer result
    with_text settings bits (Ok value) kept same writes = record {
      bad_arguments = (λ e. cc, λ none. absurd (meant none));
      unread = λ e. cc;
      unwritten = tt;
      written = known (λ s b. (text : List ℕ) × IsText s b value text × Appends (bytes_before writer) (bytes_after writer) text)
          settings bits kept same writes.written;
      front = λ e. cc;
      input = record {
        drained = has.drained;
        fit = fits;
        fit_write = λ e. cc;
        fit_so_far = λ e. has.fit_so_far;
        too_long = λ e. cc;
      };
      read = λ unfailed. (λ e. cc, λ failed. let both : true ≡ false = sym failed ∙ has.read unfailed in cc);
      write = λ unfailed. (λ e. cc, λ failed. let both : true ≡ false = sym failed ∙ writes.flag ∙ unfailed in cc);
    }
    with_text settings bits (Err fault) kept same writes = record {
      bad_arguments = (λ e. let f : fault ≡ Write = writes.only in cc, λ none. absurd (meant none));
      unread = λ e. let f : fault ≡ Write = writes.only in cc;
      unwritten = λ other. absurd (other writes.only);
      written = tt;
      front = λ e. known (λ s b. (value : T) × (text : List ℕ) × IsText s b value text
          × AppendsFront (bytes_before writer) (bytes_after writer) text) settings bits kept same writes.front;
      input = record {
        drained = tt;
        fit = tt;
        fit_write = λ e. fits;
        fit_so_far = λ e. has.fit_so_far;
        too_long = λ e. let f : fault ≡ Write = writes.only in cc;
      };
      read = λ unfailed. (
        λ e. let f : fault ≡ Write = writes.only in cc,
        λ failed. let both : true ≡ false = sym failed ∙ has.read unfailed in cc,
      );
      write = λ unfailed. (λ e. writes.failed, λ failed. ap Err writes.only);
    }
