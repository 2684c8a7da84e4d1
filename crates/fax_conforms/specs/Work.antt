-- What a check counts: the words that it looks for, the bits that it looks at for an EOL, a tag or padding, and the changes of
-- reference rows that it examines.
use Rattle.std.specs.Prelude.{◌≡◌, ℕ, ◌+◌, ◌*◌, ◌≤◌, List, length, None, Result, IfOk}
use Rattle.hayro_ccitt.specs.Bits.{Bits}
use Rattle.hayro_ccitt.specs.EncodingMode.{EncodingMode}
use Rattle.hayro_ccitt.specs.Encodings.{tag_of}
use Rattle.hayro_ccitt.specs.EndOfLine.{after_eol}
use Rattle.hayro_ccitt.specs.Ticks.{looked}
use Rattle.fax_conforms.specs.Conforming.{TaggedEolStands}
use Rattle.fax_conforms.specs.declared.stops.Stop.{Stop}

-- The most that a check of data of this many bits counts: 128 ticks a bit, and 256 more.
abbrev pub most_for_check : ℕ → ℕ
most_for_check bits = 128 * bits + 256

-- ---- auxiliary: what pays for a part of a line

-- There are a tick for each change of the reference row that isn't passed, two for each change of the row so far, which the next
-- line may pass, read and compared, and four for each bit that is left.
abbrev pub fund : ℕ → List ℕ → Bits → ℕ
fund unpassed changes here = unpassed + 2 * length changes + 4 * length here

-- A part of a line is read: what it counts is paid by what there was, and this is left. If it ends early, it counts at most seven
-- ticks more than there were.
pub record IsPaid {T : Type 0} (answer : Result T Stop) (before after had : ℕ) (left : T → ℕ) : Type 0 where
  pub counts : before ≤ after
  pub paid : IfOk answer (λ x. after + left x ≤ before + had)
  pub at_most : after ≤ before + had + 7

-- The end of a picture is looked for where a line may begin instead. So it counts no more than such a line has bits: up to the
-- first one, if no EOL is here; if one is here, up to the tag after it, and up to the first one after that, if no second EOL
-- follows.
pub record LooksForEnd (encoding : EncodingMode) (here : Bits) (before after : ℕ) : Type 0 where
  pub counts : before ≤ after
  pub no_eol : after_eol 0 here ≡ None → after ≤ before + looked here
  pub none : ((rest : Bits) → TaggedEolStands encoding here rest → ⊥) → after ≤ before + looked here + length (tag_of encoding)
  pub one : (rest : Bits) → TaggedEolStands encoding here rest → after_eol 0 rest ≡ None
      → after ≤ before + looked here + length (tag_of encoding) + looked rest
  pub at_most : after ≤ before + length here + 1
