-- What follows a place among bytes.
use Rattle.std.specs.Prelude.{◌≡◌, ◌+◌, ℕ, zero, suc, Bool, true, false, List, [], ◌∷◌, drop, slice_get, Some, None, ◌==◌}
use Rattle.std.proofs.Common.{inl, inr, ◌∙◌, ap, sym, arith, refl}
use Rattle.std.specs.List.{prefix_len}
use Rattle.std.proofs.lemmas.Bool.{cases_Bool}
use Rattle.std.proofs.lemmas.Grind.{common_steps}
use Rattle.paid_cursor.specs.Places.{Place, moved, paid, rest_of}
use Rattle.std.proofs.lemmas.List.{drop_more, drop-drop}
use Rattle.std.proofs.lemmas.Option.{slice_get_within, get_or_from_slice_get}
use Rattle.pdf_values.specs.Tokens.{after_comment, after_space_in, after_space, ends_line, is_white_space}

-- from a place on, at which a byte is
pub rest_at : (bytes : List ℕ) (n byte : ℕ) → slice_get bytes n ≡ Some byte → drop n bytes ≡ byte ∷ drop (n + 1) bytes
rest_at bytes n byte is =
    drop_more bytes n 0 (slice_get_within bytes n byte is)
    ∙ ap (λ (b : ℕ). b ∷ drop (n + 1) bytes) (get_or_from_slice_get bytes n byte 0 is)

-- a place beyond which there is nothing
pub rest_none : (bytes : List ℕ) (n : ℕ) → slice_get bytes n ≡ None → drop n bytes ≡ []
rest_none [] zero is = refl
rest_none [] (suc n) is = refl
rest_none (byte ∷ bytes) zero is = absurd (cc is)
rest_none (byte ∷ bytes) (suc n) is = rest_none bytes n is

-- how many bytes pass a test, at a place where one does, where one doesn't, and at the end
pub prefix_more : (p : ℕ → Bool) (bytes : List ℕ) (n byte : ℕ) → slice_get bytes n ≡ Some byte → p byte ≡ true
    → prefix_len p (drop n bytes) ≡ 1 + prefix_len p (drop (n + 1) bytes)
prefix_more p bytes n byte is passes = rw (rest_at bytes n byte is, passes) refl

pub prefix_stops : (p : ℕ → Bool) (bytes : List ℕ) (n byte : ℕ) → slice_get bytes n ≡ Some byte → p byte ≡ false
    → prefix_len p (drop n bytes) ≡ 0
prefix_stops p bytes n byte is fails = rw (rest_at bytes n byte is, fails) refl

pub prefix_ends : (p : ℕ → Bool) (bytes : List ℕ) (n : ℕ) → slice_get bytes n ≡ None → prefix_len p (drop n bytes) ≡ 0
prefix_ends p bytes n is = rw (rest_none bytes n is) refl

-- a comment, where it goes on, where its line ends, and at the end
pub comment_more : (bytes : List ℕ) (n byte : ℕ) → slice_get bytes n ≡ Some byte → ends_line byte ≡ false
    → after_comment (drop (n + 1) bytes) ≡ after_comment (drop n bytes)
comment_more bytes n byte is more = rw (rest_at bytes n byte is, more) refl

pub comment_stops : (bytes : List ℕ) (n byte : ℕ) → slice_get bytes n ≡ Some byte → ends_line byte ≡ true
    → after_comment (drop n bytes) ≡ drop n bytes
comment_stops bytes n byte is stops = rw (rest_at bytes n byte is, stops) refl

pub comment_ends : (bytes : List ℕ) (n : ℕ) → slice_get bytes n ≡ None → after_comment (drop n bytes) ≡ drop n bytes
comment_ends bytes n is = rw (rest_none bytes n is) refl

-- white space is no percent sign
white_is_other : (byte : ℕ) → is_white_space byte ≡ true → (byte == 37) ≡ false
white_is_other byte white = grind (arith, common_steps)

-- space, where a byte is white, and where none is
pub space_more : (bytes : List ℕ) (n byte : ℕ) → slice_get bytes n ≡ Some byte → (byte == 37) ≡ false
    → is_white_space byte ≡ true
    → after_space (drop (n + 1) bytes) ≡ after_space (drop n bytes)
space_more bytes n byte is other white = rw (rest_at bytes n byte is, other, white) refl

pub space_stops : (bytes : List ℕ) (n byte : ℕ) → slice_get bytes n ≡ Some byte → (byte == 37) ≡ false
    → is_white_space byte ≡ false
    → after_space (drop n bytes) ≡ drop n bytes
space_stops bytes n byte is other black = rw (rest_at bytes n byte is, other, black) refl

pub space_ends : (bytes : List ℕ) (n : ℕ) → slice_get bytes n ≡ None → after_space (drop n bytes) ≡ drop n bytes
space_ends bytes n is = rw (rest_none bytes n is) refl

-- the end of a line is white
end_is_white : (byte : ℕ) → ends_line byte ≡ true → (rest : List ℕ) → after_space (byte ∷ rest) ≡ after_space rest
end_is_white byte ends rest =
    let white : is_white_space byte ≡ true = grind (arith, common_steps) in
    rw (white_is_other byte white, white) refl

-- space after a comment is that from within it
comment_in_space : (rest : List ℕ) → after_space (after_comment rest) ≡ after_space_in true rest
comment_in_space [] = refl
comment_in_space (byte ∷ rest) = elim (cases_Bool (ends_line byte)) [
  | inl ends ↦ rw ends (end_is_white byte ends rest)
  | inr more ↦ rw more (comment_in_space rest)
]

-- space, where a comment begins
pub space_comment : (bytes : List ℕ) (n : ℕ) → slice_get bytes n ≡ Some 37
    → after_space (after_comment (drop (n + 1) bytes)) ≡ after_space (drop n bytes)
space_comment bytes n is = rw (rest_at bytes n 37 is) (comment_in_space (drop (n + 1) bytes))

-- what follows once some bytes are passed
pub rest_moved : (old new : Place) (count : ℕ) → new ≡ paid count (moved count old) → rest_of new ≡ drop count (rest_of old)
rest_moved old new count same = rw same (sym (drop-drop count old.place old.bytes))

-- a byte of a comment is passed
pub comment_step : (old new : Place) (byte : ℕ) → new ≡ paid 1 (moved 1 old) → slice_get old.bytes old.place ≡ Some byte
    → ends_line byte ≡ false → after_comment (rest_of new) ≡ after_comment (rest_of old)
comment_step old new byte same is more = rw same (comment_more old.bytes old.place byte is more)

-- a byte of white space is passed
pub space_step : (old new : Place) (byte : ℕ) → new ≡ paid 1 (moved 1 old) → slice_get old.bytes old.place ≡ Some byte
    → is_white_space byte ≡ true → after_space (rest_of new) ≡ after_space (rest_of old)
space_step old new byte same is white =
    let other : (byte == 37) ≡ false = white_is_other byte white in
    rw same (space_more old.bytes old.place byte is other white)

-- a comment is passed
pub comment_passed : (old new : Place) → rest_of new ≡ after_comment (drop 1 (rest_of old))
    → slice_get old.bytes old.place ≡ Some 37
    → after_space (rest_of new) ≡ after_space (rest_of old)
comment_passed old new passed is =
    let one : drop 1 (rest_of old) ≡ drop (old.place + 1) old.bytes = drop-drop 1 old.place old.bytes in
    rw (passed, one) (space_comment old.bytes old.place is)

pub ruleset passing = (
  prefix_more,
  prefix_stops,
  prefix_ends,
  comment_more,
  comment_stops,
  comment_ends,
  space_more,
  space_stops,
  space_ends,
  space_comment,
)
