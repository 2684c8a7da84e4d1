-- Pixels painted at the end of a front, and what the tests of the code that paints them mean.
use Rattle.fax_reading.proofs.PixelRows.ChangesAndPixels.{last_pixel-pixels}
use Rattle.fax_reading.proofs.PixelRows.ChangesAndPixels.{turned_at-even}
use Rattle.fax_reading.proofs.Names.{◌≡◌, ◌≢◌, ℕ, ◌-◌, ◌%◌, ◌<◌, ◌≤◌, ◌⊎◌, eqb, min, Bool, true, false, not, List, ◌++◌, length}
use Rattle.fax_reading.proofs.Names.{replicate, Ok, Err, arith, beq, lt-ltb, le-ltb, false≢true, Color, White, AreChanges, pixels}
use Rattle.fax_reading.proofs.Names.{is_black, paint, last_pixel, Held, StoresChange, common_steps, too_many_pixels}
use Rattle.fax_reading.proofs.PixelRows.ChangesAndPixels.{length-pixels}
use Rattle.std.specs.Bool.{IsTrue}

-- ---- The last pixel's colour, as the code tests it.

-- a test for even numbers computes to this
even_is : (even : Bool) (n : ℕ) → (IsTrue even → n % 2 ≡ 0) × (n % 2 ≡ 0 → IsTrue even) → even ≡ eqb (n % 2) 0
even_is even n test = grind (arith, common_steps)

-- a test for white says whether a pixel of the colour is black
is_black-not_white : (white : Bool) (color : Color) → (IsTrue white → color ≡ White) × (color ≡ White → IsTrue white)
    → is_black color ≡ not white
is_black-not_white white color test = grind (arith, common_steps)

-- where the tests agree, the last pixel has the colour
pub last_pixel-agrees : (painted : ℕ) (places : List ℕ) (color : Color) (even white : Bool) → AreChanges painted places
    → (IsTrue even → length places % 2 ≡ 0) × (length places % 2 ≡ 0 → IsTrue even) → (IsTrue white → color ≡ White)
    × (color ≡ White → IsTrue white) → not (beq even white) ≡ false → last_pixel false (pixels painted places) ≡ is_black color
last_pixel-agrees painted places color even white ascend is_even is_white agree =
    grind (arith, common_steps, even_is, false≢true, is_black-not_white, last_pixel-pixels, turned_at-even)

-- and else the other one
pub last_pixel-differs : (painted : ℕ) (places : List ℕ) (color : Color) (even white : Bool) → AreChanges painted places
    → (IsTrue even → length places % 2 ≡ 0) × (length places % 2 ≡ 0 → IsTrue even) → (IsTrue white → color ≡ White) ×
    (color ≡ White → IsTrue white) → not (beq even white) ≡ true → not (last_pixel false (pixels painted places)) ≡ is_black color
last_pixel-differs painted places color even white ascend is_even is_white differ =
    grind (arith, common_steps, even_is, false≢true, is_black-not_white, last_pixel-pixels, turned_at-even)

-- a colour that is the other one of a pixel isn't its own
pub other_color : (pixel color : Bool) → not pixel ≡ color → pixel ≢ color
other_color pixel color e same = grind (arith, common_steps)

-- ---- Painting into a row.

-- if the row isn't strict, or has room, no code is wrong
pub paint-fits : (strict : Bool) (columns width : ℕ) (places : List ℕ) (color : Color) (n : ℕ) → AreChanges width places
    → (strict ≡ false) ⊎ (n ≤ columns - width) → paint strict columns (pixels width places) color n
    ≡ Ok (pixels width places ++ replicate (min n (columns - width)) (is_black color))
paint-fits strict columns width places color n ascend fits = grind (arith, common_steps, false≢true, le-ltb, length-pixels)

-- a strict row without room is a wrong code
pub paint-strict : (strict : Bool) (columns width : ℕ) (places : List ℕ) (color : Color) (n : ℕ) → AreChanges width places
    → strict ≡ true → columns - width < n → paint strict columns (pixels width places) color n ≡ Err too_many_pixels
paint-strict strict columns width places color n ascend is_strict many = grind (arith, common_steps, length-pixels, lt-ltb)

-- pixels of the other colour that a row has room for store a change
pub StoresChange-painted : (held : Held) (count more : ℕ) → paint held.settings.strict held.settings.columns held.front held.color
    count ≡ Ok (held.front ++ replicate more (is_black held.color)) → 0 < more → last_pixel false held.front ≢ is_black held.color
    → StoresChange held count
StoresChange-painted held count more painted some differs = grind (arith, common_steps)
