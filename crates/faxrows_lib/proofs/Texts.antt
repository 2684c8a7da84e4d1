-- What a run writes, from what decoding returns.
use Rattle.faxrows_lib.proofs.Names.{◌≡◌, ℕ, List, [], ◌∷◌, ◌++◌, refl, sym, ap, ◌∙◌, subst, take, length, map, take_all, arith}
use Rattle.faxrows_lib.proofs.Names.{append_assoc, append-nil, Option, None, Some, Ok, Err, IfSome, fold, take-map}
use Rattle.faxrows_lib.proofs.Names.{length-map, DecodeError, DecodeSettings, IsFault, done_of_kind, kind_of}
use Rattle.faxrows_lib.proofs.Names.{Done, Faulty, Good, IsRowsText, IsTextOfWant}
use Rattle.faxrows_lib.proofs.Names.{meaning_after, Bits, bits_in, Held, SinkState, TakesRows, StopsShort, plain, lines_of, Row}
use Rattle.faxrows_lib.proofs.Names.{changes, Arguments, Memory, Outcome, OnKnown, EndsAfter, IsTextOfEnd, rows_of, outcome_of}
use Rattle.faxrows_lib.proofs.Names.{text_after}
use Rattle.faxrows_lib.proofs.Names.{whole_text, done_of, line_of_row, lines_of_rows}
use Rattle.hayro_ccitt.proofs.ErrorKinds.{at_fault_kind, by_kind, fault_kind, of_fault_kind}

-- the lines added one by one are the lines of all
fold_lines : (text : List ℕ) (rows : List (List ℕ)) → fold (λ t row. t ++ line_of_row row) text rows ≡ text ++ lines_of_rows rows
fold_lines text [] = sym (append-nil text)
fold_lines text (row ∷ rows) =
    fold_lines (text ++ line_of_row row) rows ∙ append_assoc text (line_of_row row) (lines_of_rows rows)

-- the rows of some data were accepted, each by a step
abbrev pub Takes : {M : Type 0} → (M → List ℕ → M) → DecodeSettings → Bits → SinkState M → SinkState M → Held → Outcome → Type 0
Takes step settings bits before after held outcome =
    TakesRows (plain settings bits).rows (plain settings bits).outcome
    (plain settings bits).has_eols step before after held outcome

-- and as lines of text
abbrev pub TakesLines : DecodeSettings → Bits → SinkState (List ℕ) → SinkState (List ℕ) → Held → Outcome → Type 0
TakesLines = Takes (λ text row. text ++ line_of_row row)

-- the sink's text is the lines of the accepted rows
pub sink_text : (settings : DecodeSettings) (bits : Bits) (before after : SinkState (List ℕ)) (held : Held) (outcome : Outcome)
    → before.meaning ≡ [] → TakesLines settings bits before after held outcome
    → after.meaning ≡ lines_of_rows (take held.taken (rows_of settings bits))
sink_text settings bits before after held outcome empty takes =
    takes.meaning
    ∙ ap (λ text. meaning_after (λ t row. t ++ line_of_row row) text (take held.taken (plain settings bits).rows)) empty
    ∙ fold_lines [] (map changes (take held.taken (plain settings bits).rows))
    ∙ ap lines_of_rows (sym (take-map changes held.taken (plain settings bits).rows))

-- as many rows were accepted as their changes are listed
all_changes : (rows : List Row) (taken : ℕ) → taken ≡ length rows → taken ≡ length (map changes rows)
all_changes rows taken e = e ∙ sym (length-map rows changes)

-- decoding ends as it may after the accepted rows
pub ends_after : {M : Type 0} (step : M → List ℕ → M) (settings : DecodeSettings) (bits : Bits) (before after : SinkState M)
    (held : Held) (outcome : Outcome) → Takes step settings bits before after held outcome → StopsShort (plain settings bits).rows
    (lines_of settings bits) before after held outcome → EndsAfter settings bits held.taken outcome
ends_after step settings bits before after held (Ok n) takes short = (all_changes _ held.taken takes.all, takes.ok)
ends_after step settings bits before after held (Err e) takes short =
    by_kind (λ e. Takes step settings bits before after held (Err e) → StopsShort {A = ℕ} (plain settings bits).rows
    (lines_of settings bits) before after held (Err e) → EndsAfter settings bits held.taken (Err e))
    (λ e fault takes short. of_fault_kind (kind_of e) _ _ _ fault (all_changes _ held.taken (takes.all fault), takes.fault fault))
    (λ takes short. (rw (length-map (plain settings bits).rows changes) takes.taken, short.memory refl))
    (λ takes short. rw (length-map (plain settings bits).rows changes) (short.refused refl)) e takes short

-- with all rows and the result of the plain reading, the whole text is written
pub all_text : (settings : DecodeSettings) (bits : Bits) (taken : ℕ) (outcome : Outcome) → taken ≡ length (rows_of settings bits)
    → outcome_of settings bits ≡ outcome → text_after settings bits taken outcome ≡ whole_text settings bits
all_text settings bits taken outcome all same = rw (same, take_all taken (rows_of settings bits) (omega arith)) refl

-- a run that wrote a fault of the data is faulty
pub done_at_fault : (e : DecodeError) → IsFault e → done_of (Err e) ≡ Faulty
done_at_fault e fault = ap done_of_kind (fault_kind (kind_of e) fault)

-- What a run wrote after some rows: `after` of the outcome, which is `whole` after all rows and with the result of the plain
-- reading, and a text that is cut after an allocation failure or a refusal.
pub end_of_run : (settings : DecodeSettings) (bits : Bits) (taken : ℕ) (after : Outcome → List ℕ) (whole : List ℕ)
    (IsCut : List ℕ → Type 0) → ((outcome : Outcome) → taken ≡ length (rows_of settings bits)
    → outcome_of settings bits ≡ outcome → after outcome ≡ whole) → (outcome : Outcome) → EndsAfter settings bits taken outcome
    → (done_of outcome ≡ Memory → IsCut (after outcome))
    → IsTextOfEnd (done_of outcome) (outcome_of settings bits) whole IsCut (after outcome)
end_of_run settings bits taken after whole IsCut all (Ok n) ends cut = (rw (ends.1) refl, all (Ok n) ends.0 ends.1)
end_of_run settings bits taken after whole IsCut all (Err e) ends cut =
    by_kind (λ e. EndsAfter settings bits taken (Err e) → (done_of (Err e) ≡ Memory → IsCut (after (Err e)))
    → IsTextOfEnd (done_of (Err e)) (outcome_of settings bits) whole IsCut (after (Err e)))
    (λ e fault ends cut. let at : (taken ≡ length (rows_of settings bits)) × (outcome_of settings bits ≡ Err e) =
    at_fault_kind (kind_of e) _ _ _ fault ends in
    subst (λ (done : Done). IsTextOfEnd done (outcome_of settings bits) whole IsCut (after (Err e))) (sym (done_at_fault e fault))
    (rw (at.1) refl, all (Err e) at.0 at.1))
    (λ ends cut. cut refl) (λ ends cut. cut refl) e ends cut

-- the whole text is one of some end
pub whole_end : (outcome : Outcome) (whole : List ℕ) (IsCut : List ℕ → Type 0)
    → (done : Done) × IsTextOfEnd done outcome whole IsCut whole
whole_end (Ok n) whole IsCut = (Good, (refl, refl))
whole_end (Err e) whole IsCut = (Faulty, (refl, refl))

-- a statement about the bytes that were read is one about the bytes that the reader specifies
pub on_input : (known : Option (List ℕ)) (input : List ℕ) (P : List ℕ → Type 0) → IfSome known (λ xs. input ≡ xs) → P input
    → IfSome known P
on_input None input P same p = tt
on_input (Some xs) input P same p = subst P same p

-- a statement about the settings and the bits of a run is one about what is known of them
pub on_known : (meant : Option Arguments) (arguments : Arguments) (settings : DecodeSettings) (known : Option (List ℕ))
    (input : List ℕ) (P : DecodeSettings → Bits → Type 0) → meant ≡ Some arguments → settings ≡ arguments.settings
    → IfSome known (λ xs. input ≡ xs) → P settings (bits_in arguments.order input) → OnKnown meant known P
on_known None arguments settings known input P e kept same p = cc
on_known (Some meant) arguments settings known input P e kept same p =
    let same_arguments : arguments ≡ meant = cc in
    let of_arguments : P arguments.settings (bits_in arguments.order input) =
    subst (λ (s : DecodeSettings). P s (bits_in arguments.order input)) kept p in
    on_input known input (λ xs. P meant.settings (bits_in meant.order xs)) same
    (subst (λ (a : Arguments). P a.settings (bits_in a.order input)) same_arguments of_arguments)

-- the text of the accepted rows is one of the end
pub is_rows_text : (settings : DecodeSettings) (bits : Bits) (taken : ℕ) (outcome : Outcome)
    → EndsAfter settings bits taken outcome → IsRowsText settings bits (done_of outcome) (text_after settings bits taken outcome)
is_rows_text settings bits taken outcome ends =
    end_of_run settings bits taken (text_after settings bits taken) (whole_text settings bits) (IsTextOfWant settings bits)
    (all_text settings bits taken) outcome ends (λ want. (taken, outcome, ends, want, refl))
