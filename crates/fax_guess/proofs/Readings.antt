-- What decoding leaves is what the reading says.
use Rattle.std.proofs.Common.{arith, ◌≡◌, ◌∙◌, ◌≤◌, ◌-◌, ◌*◌, List, [], ◌∷◌, ℕ, zero, suc, length, get_or, map, refl, sym, Ok}
use Rattle.std.proofs.Common.{Err}
use Rattle.std.specs.Option.{unwrap_or}
use Rattle.std.specs.Prelude.{Result}
use Rattle.hayro_ccitt.specs.DecodeError.{DecodeError}
use Rattle.hayro_ccitt.specs.DecodeSettings.{DecodeSettings}
use Rattle.hayro_ccitt.specs.Answers.{OnAnswer}
use Rattle.hayro_ccitt.specs.BitOrder.{BitOrder}
use Rattle.hayro_ccitt.specs.BitOrder.TheVariants.{HighestFirst, LowestFirst}
use Rattle.hayro_ccitt.specs.Bits.{Bits, bits_in}
use Rattle.hayro_ccitt.specs.Context.{Held}
use Rattle.hayro_ccitt.specs.Contract.{Decodes}
use Rattle.hayro_ccitt.specs.Decoding.{SinkState}
use Rattle.hayro_ccitt.specs.PlainReading.{Progress, end_of_row, end_of_turn, failed_at, plain, start_of_turn, turns_of}
use Rattle.hayro_ccitt.specs.Rows.{Row}

-- the rows that were taken, of an answer
pub rows_taken : {M : Type 0} (settings : DecodeSettings) (bits : Bits) (step : M → List ℕ → M) (before after : SinkState M)
    (held : Held) (ticks : ℕ) (answer : Result ℕ DecodeError) → Decodes settings bits step before after held ticks answer
    → (rows : ℕ) → rows ≡ held.taken → OnAnswer answer (rows ≡ length (plain settings bits).rows)
rows_taken settings bits step before after held ticks (Ok n) left rows taken = taken ∙ left.reading.all
rows_taken settings bits step before after held ticks (Err error) left rows taken = λ fault. taken ∙ left.reading.all fault

-- how it ended
pub end_taken : {M : Type 0} (settings : DecodeSettings) (bits : Bits) (step : M → List ℕ → M) (before after : SinkState M)
    (held : Held) (ticks : ℕ) (answer : Result ℕ DecodeError) → Decodes settings bits step before after held ticks answer
    → OnAnswer answer (answer ≡ (plain settings bits).outcome)
end_taken settings bits step before after held ticks (Ok n) left = sym left.reading.ok
end_taken settings bits step before after held ticks (Err error) left = λ fault. sym (left.reading.fault fault)

-- a number of some, which are all at most so many
most_of : {A : Type 0} (f : A → ℕ) (most : ℕ) → ((x : A) → f x ≤ most) → (xs : List A) (n d : ℕ) → d ≤ most
    → get_or (map f xs) n d ≤ most
most_of f most each [] n d less = less
most_of f most each (x ∷ xs) zero d less = each x
most_of f most each (x ∷ xs) (suc n) d less = most_of f most each xs n d less

end_within : (bits : Bits) (turn : Progress) (row : Result (Row × Bits) DecodeError) → end_of_row bits turn row ≤ length bits
end_within bits turn (Ok (row, rest)) = omega arith
end_within bits turn (Err fault) = omega arith

-- A reading fails within its bits.
failed_within : (settings : DecodeSettings) (bits : Bits) (taken : ℕ) → failed_at settings bits taken ≤ length bits
failed_within settings bits taken =
    most_of (start_of_turn bits) (length bits) (λ turn. omega arith) (turns_of settings bits) taken _
    (most_of (end_of_turn settings bits) (length bits) (λ turn. end_within bits turn _) (turns_of settings bits) (taken - 1) 0
    (omega arith))

-- where it failed, or nowhere
pub start_within : {M : Type 0} (settings : DecodeSettings) (bits : Bits) (step : M → List ℕ → M) (before after : SinkState M)
    (held : Held) (ticks : ℕ) (answer : Result ℕ DecodeError) → Decodes settings bits step before after held ticks answer
    → unwrap_or held.fault_start 0 ≤ length bits
start_within settings bits step before after held ticks (Ok n) left = rw left.no_fault (omega arith)
start_within settings bits step before after held ticks (Err error) left =
    rw left.fault_start (failed_within settings bits held.taken)

pub length-bits_in : (order : BitOrder) (bytes : List ℕ) → length (bits_in order bytes) ≡ 8 * length bytes
length-bits_in order [] = refl
length-bits_in HighestFirst (b ∷ bytes) = omega (arith, length-bits_in HighestFirst bytes)
length-bits_in LowestFirst (b ∷ bytes) = omega (arith, length-bits_in LowestFirst bytes)
