-- What words and EOLs count is paid by the bits that they consume.
use Rattle.hayro_ccitt.proofs.Names.{◌≡◌, ℕ, ◌+◌, ◌<◌, ◌≤◌, Ok, Result, length, ap, arith, Bits, Color, Mode, mode_codes}
use Rattle.hayro_ccitt.proofs.Names.{read_code, read_run, after_eol, None, Option, sym, ◌∙◌, Err, subst, EncodingMode}
use Rattle.hayro_ccitt.proofs.Names.{tag_of, ◌++◌, append_cancel_left, length-append}
use Rattle.hayro_ccitt.specs.DecodeError.{DecodeError}
use Rattle.hayro_ccitt.specs.Ticks.{looked, missed, run_found}
use Rattle.hayro_ccitt.proofs.BitReading.ZeroRuns.{looked_eol}
use Rattle.hayro_ccitt.proofs.CodeWords.ReadRuns.{read_code_shorter, run_shorter}
use Rattle.hayro_ccitt.proofs.CodeWords.WordsFound.{run_stands, RunEnds}
use Rattle.hayro_ccitt.proofs.DrawingLines.ReadLines.{modes_not_empty}
use Rattle.hayro_ccitt.proofs.EncodedPictures.PicturesT4.{eol_stands}
use Rattle.hayro_ccitt.proofs.Work.WordsPay.{stands_count}
use Rattle.fax_conforms.specs.Conforming.{EolStands, TaggedEolStands}
use Rattle.fax_conforms.specs.declared.stops.Stop.{Stop}
use Rattle.fax_conforms.specs.Work.{IsPaid}
use Rattle.fax_conforms.proofs.EolsHere.{one_eol}
use Rattle.fax_conforms.proofs.Stopped.{if_ok}

-- a mode has bits
pub mode_has_bits : (here : Bits) (mode : Mode) (rest : Bits) → read_code mode_codes here ≡ Ok (mode, rest)
    → length rest < length here
mode_has_bits here mode rest e = read_code_shorter mode_codes here mode rest modes_not_empty e

-- so has a run
pub run_has_bits : (color : Color) (here : Bits) (n : ℕ) (rest : Bits) → read_run color here ≡ Ok (n, rest)
    → length rest < length here
run_has_bits color here n rest e = run_shorter color 0 here n rest e

-- a run has no more words than bits
pub run_is_paid : (color : Color) (here : Bits) (n : ℕ) (rest : Bits) → read_run color here ≡ Ok (n, rest)
    → length (run_found color (0, here)) + length rest ≤ length here
run_is_paid color here n rest e =
    let stands = run_stands color 0 here in
    let same : rest ≡ stands.0 = subst (λ (r : Result (ℕ × Bits) DecodeError). RunEnds r stands.0) e stands.2 in
    omega (arith, ap length same, stands_count here (run_found color (0, here)) stands.0 stands.1)

-- even if it fails
pub run_words_few : (color : Color) (here : Bits) → length (run_found color (0, here)) ≤ length here
run_words_few color here =
    let stands = run_stands color 0 here in
    omega (arith, stands_count here (run_found color (0, here)) stands.0 stands.1)

-- one word at most is missed
pub missed_one : {T : Type 0} (r : Result T DecodeError) → missed r ≤ 1
missed_one (Ok x) = omega arith
missed_one (Err DecodeError.UnexpectedEof) = omega arith
missed_one (Err DecodeError.InvalidCode) = omega arith
missed_one (Err DecodeError.Overflow) = omega arith
missed_one (Err DecodeError.OutOfMemory) = omega arith
missed_one (Err DecodeError.Refused) = omega arith

-- an EOL counts its bits
pub eol_is_paid : (here rest : Bits) → EolStands here rest → looked here + length rest ≡ length here
eol_is_paid here rest (fill, is) = looked_eol 0 here rest (ap (after_eol 0) is ∙ eol_stands fill rest)

-- where there is none, no EOL stands
pub no_eol_stands : (here rest : Bits) → after_eol 0 here ≡ None → EolStands here rest → ⊥
no_eol_stands here rest none (fill, is) =
    let e : Option.Some rest ≡ None = sym (eol_stands fill rest) ∙ ap (after_eol 0) (sym is) ∙ none in absurd cc

-- ---- The same of one with its tag.
pub tagged_eol_paid : (encoding : EncodingMode) (here rest : Bits) → TaggedEolStands encoding here rest
    → looked here + length (tag_of encoding) + length rest ≤ length here
tagged_eol_paid encoding here rest stands =
    omega (arith, eol_is_paid here (tag_of encoding ++ rest) stands, length-append (tag_of encoding) rest)

pub no_tag_without_eol : (encoding : EncodingMode) (here rest : Bits) → after_eol 0 here ≡ None
    → TaggedEolStands encoding here rest → ⊥
no_tag_without_eol encoding here rest none stands = no_eol_stands here (tag_of encoding ++ rest) none stands

pub tagged_eol_alone : (encoding : EncodingMode) (here x y : Bits) → TaggedEolStands encoding here x
    → TaggedEolStands encoding here y → x ≡ y
tagged_eol_alone encoding here x y one two =
    append_cancel_left (tag_of encoding) x y (one_eol here (tag_of encoding ++ x) (tag_of encoding ++ y) one two)

pub tag_short : (encoding : EncodingMode) → length (tag_of encoding) ≤ 1
tag_short EncodingMode.Group4 = omega arith
tag_short EncodingMode.Group3_1D = omega arith
tag_short EncodingMode.Group3_2D = omega arith

-- ---- What a part of a line counts.
-- what is counted before it is paid too, and something may be spare
pub paid_after : {T : Type 0} (r : Result T Stop) (start before after had more spare : ℕ) (left other : T → ℕ)
    → IsPaid r before after had left → start ≤ before → before + had + spare ≤ start + more
    → ((x : T) → other x ≤ left x + spare) → IsPaid r start after more other
paid_after r start before after had more spare left other part le enough same = record {
  counts = omega (arith, part.counts, le);
  paid = if_ok r _ _ part.paid (λ x paid. omega (arith, paid, same x, enough));
  at_most = omega (arith, part.at_most, enough);
}

-- what ends early
pub unpaid : {T : Type 0} (r : Result T Stop) (stop : Stop) (before after had : ℕ) (left : T → ℕ) → r ≡ Err stop → before ≤ after
    → after ≤ before + had + 7 → IsPaid r before after had left
unpaid r stop before after had left is le few = rw is (record { counts = le; paid = tt; at_most = few })
