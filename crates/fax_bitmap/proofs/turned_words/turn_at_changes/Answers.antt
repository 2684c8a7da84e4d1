use Rattle.fax_bitmap.proofs.Names.{◌≡◌, ◌+◌, ◌-◌, ◌*◌, ◌<◌, ◌≤◌, ◌++◌, ℕ, List, Bool, true, false, length, drop, replicate}
use Rattle.fax_bitmap.proofs.Names.{refl, sym, ap, ◌∙◌, arith, Bits, joined_pixels, length-pixels, pixels}
use Rattle.fax_bitmap.proofs.Names.{turned_at_all, turned_from}
use Rattle.fax_bitmap.proofs.Names.{[], AreChanges}
use Rattle.fax_bitmap.proofs.TurnedWords.{all_places_turned, change_inside, odd_ends_black}
use Rattle.fax_bitmap.proofs.TurnedWords.{even_ends_white, joined_zeros}
use Rattle.fax_bitmap.proofs.TurnedWords.{one_turned, plain_turned, turned_is_row}
use Rattle.fax_bitmap.proofs.turned_words.turn_at_changes.Goals as goal
use Rattle.fax_reading.proofs.PixelRows.ChangesAndPixels.{turned_at}

pub turn_following-requires : goal.turn_following-requires
turn_following-requires c = change_inside _ _ c.changes.done c.changes-test.true c.requires.changes c.changes.invariant.room
    c.requires.room

pub changes-preserved : goal.changes-preserved
changes-preserved c =
    let done : ℕ = c.changes.done in
    let changes : List ℕ = c.args.changes.now in
    let is = c.changes.invariant in
    let more = c.changes-test.true in
    let turned = c.turn_following.ensures in
    record {
      left = ap (turned_at_all (drop (done + 1) changes)) turned.turned
          ∙ sym (one_turned changes done (joined_pixels false c.changes.words) more) ∙ is.left;
      within = omega (arith, more);
      room = turned.length ∙ is.room;
    }

-- after the loop all changes are turned
abbrev AllTurned : ℕ → List ℕ → List ℕ → List ℕ → Type 0
AllTurned columns changes words now =
    joined_pixels false now ≡ pixels columns changes ++ replicate (64 * length words - columns) (turned_at false changes)

turned_all : (columns done : ℕ) (changes words now : List ℕ) → AreChanges columns changes → columns < 64 * length words
    → words ≡ replicate (length words) 0 → length changes ≤ done
    → turned_at_all (drop done changes) (joined_pixels false now) ≡ turned_at_all changes (joined_pixels false words)
    → AllTurned columns changes words now
turned_all columns done changes words now lawful room white all left =
    let total : 64 * length words ≡ 64 * length words - 0 = omega arith in
    sym (all_places_turned changes done (joined_pixels false now) all) ∙ left
    ∙ ap (λ (l : List ℕ). turned_at_all changes (joined_pixels false l)) white
    ∙ ap (turned_at_all changes) (joined_zeros (length words) ∙ ap (λ (n : ℕ). replicate n false) total)
    ∙ turned_is_row [] 0 0 columns (64 * length words) false changes refl (omega arith) (omega arith) (omega arith) lawful

pub returns-then-changes-eq1-clause-painted : goal.returns-then-changes-eq1-clause-painted
returns-then-changes-eq1-clause-painted c =
    let columns : ℕ = c.args.columns in
    let changes : List ℕ = c.args.changes.now in
    let words : List ℕ = c.args.words.now in
    let n : ℕ = 64 * length words - columns in
    let all : AllTurned columns changes words c.changes.words =
    turned_all columns c.changes.done changes words c.changes.words c.requires.changes c.requires.room c.requires.white
    (omega (arith, c.changes-test.false)) c.changes.invariant.left in
    let row : Bits = pixels columns changes in
    let black : joined_pixels false c.changes.words ≡ row ++ replicate n true =
    all ∙ ap (λ (b : Bool). row ++ replicate n b) (odd_ends_black changes c.if-changes-eq1.true) in
    c.turn_following-then-changes-eq1.ensures.turned ∙ ap (turned_from columns) black
    ∙ ap (λ (k : ℕ). turned_from k (row ++ replicate n true)) (sym (length-pixels columns changes c.requires.changes))
    ∙ plain_turned row n true

pub returns-else-changes-eq1-clause-painted : goal.returns-else-changes-eq1-clause-painted
returns-else-changes-eq1-clause-painted c =
    let changes : List ℕ = c.args.changes.now in
    let words : List ℕ = c.args.words.now in
    let is = c.changes.invariant in
    let all : AllTurned c.args.columns changes words c.changes.words =
    turned_all c.args.columns c.changes.done changes words c.changes.words c.requires.changes c.requires.room c.requires.white
    (omega (arith, c.changes-test.false)) is.left in
    all ∙ ap (λ (b : Bool). pixels c.args.columns changes ++ replicate (64 * length words - c.args.columns) b)
    (even_ends_white changes (omega (arith, c.if-changes-eq1.false)))
