use Rattle.fax_encode.proofs.Names.{◌≡◌, ◌*◌, ◌+◌, ◌<◌, ◌≤◌, ◌++◌, ℕ, List, length, take, drop, sym}
use Rattle.fax_encode.proofs.Names.{ap, ◌∙◌, subst, arith, bits_of}
use Rattle.fax_encode.proofs.Names.{Row, filled_up, bytes_of_row, shown, length-pixels, AreChanges}
use Rattle.fax_reading.specs.Rows.{pixels}
use Rattle.std.proofs.lemmas.List.{with_items_is}
use Rattle.fax_pictures.specs.Pictures.{ArePacked, Picture, with_row_at}
use Rattle.fax_pictures.proofs.PackedPictures.{inside_bytes, row_is_held, rows_counted}
use Rattle.fax_pictures.proofs.bitmap.Bitmap.paint_row.Goals.{After-paint_at}
use Rattle.fax_pictures.proofs.bitmap.Bitmap.paint_row.Goals as goal

-- what is held after a row was painted
painted : (columns rows index width : ℕ) (changes bytes new : List ℕ) → ArePacked columns rows bytes → index < rows
    → AreChanges columns changes → width ≡ bytes_of_row columns → bits_of new ≡ bits_of (take (index * width) bytes)
    ++ (filled_up (pixels columns changes) ++ bits_of (drop (index * width + bytes_of_row columns) bytes))
    → ArePacked columns rows new × (shown columns new ≡ with_row_at index (pixels columns changes) (shown columns bytes))
painted columns rows index width changes bytes new are lt lawful is bits =
    row_is_held columns rows index (pixels columns changes) bytes new are lt (length-pixels columns changes lawful)
    (subst (λ (k : ℕ). bits_of new ≡ bits_of (take (index * k) bytes)
    ++ (filled_up (pixels columns changes) ++ bits_of (drop (index * k + bytes_of_row columns) bytes))) is bits)

pub paint_at-requires-clause-within : goal.paint_at-requires-clause-within
paint_at-requires-clause-within c =
    let inside = c.self.inside in
    let count : length (shown inside.columns inside.bytes.items) ≡ inside.rows =
    rows_counted inside.columns inside.rows inside.bytes.items c.self.invariant in
    let lt : c.args.index < length (shown inside.columns inside.bytes.items) =
    subst (λ (p : Picture). c.args.index < length p.rows) (sym c.self.view_is) c.requires.within in
    let within : c.args.index * c.div_ceil.result + bytes_of_row inside.columns ≤ length inside.bytes.items =
    inside_bytes c.args.index inside.rows c.div_ceil.result inside.columns inside.bytes.items (omega (arith, lt, count))
    (omega (arith, c.div_ceil.ensures)) c.self.invariant.size in
    omega (arith, within, c.deref_mut.ensures.len, ap length c.deref_mut.ensures.value)

-- the picture after the row was painted
held_after : (c : After-paint_at) → ArePacked c.self.inside.columns c.self.inside.rows c.paint_at.new.bytes
    × (shown c.self.inside.columns c.paint_at.new.bytes
    ≡ with_row_at c.args.index (pixels c.self.inside.columns c.args.changes.now)
    (shown c.self.inside.columns c.self.inside.bytes.items))
held_after c =
    let inside = c.self.inside in
    let count : length (shown inside.columns inside.bytes.items) ≡ inside.rows =
    rows_counted inside.columns inside.rows inside.bytes.items c.self.invariant in
    let lt : c.args.index < length (shown inside.columns inside.bytes.items) =
    subst (λ (p : Picture). c.args.index < length p.rows) (sym c.self.view_is) c.requires.within in
    let lawful : AreChanges inside.columns c.args.changes.now =
    subst (λ (p : Picture). AreChanges p.columns c.args.changes.now) (sym c.self.view_is) c.requires.changes in
    let bits = subst (λ (l : List ℕ). bits_of c.paint_at.new.bytes ≡ bits_of (take (c.args.index * c.div_ceil.result) l)
    ++ (filled_up (pixels inside.columns c.args.changes.now)
    ++ bits_of (drop (c.args.index * c.div_ceil.result + bytes_of_row inside.columns) l))) c.deref_mut.ensures.value
    c.paint_at.ensures.painted in
    painted inside.columns inside.rows c.args.index c.div_ceil.result c.args.changes.now inside.bytes.items c.paint_at.new.bytes
    c.self.invariant (omega (arith, lt, count)) lawful (omega (arith, c.div_ceil.ensures)) bits

pub invariant_of-self : goal.invariant_of-self
invariant_of-self c =
    let inside = c.self.inside in
    let stored = with_items_is inside.bytes c.paint_at.new.bytes (c.paint_at.ensures.length ∙ c.deref_mut.ensures.len) in
    subst (ArePacked inside.columns inside.rows) (sym stored) (held_after (goal.at.invariant_of-self c).After-paint_at).0

pub returns : goal.returns
returns c =
    let inside = c.self.inside in
    let stored = with_items_is inside.bytes c.paint_at.new.bytes (c.paint_at.ensures.length ∙ c.deref_mut.ensures.len) in
    let picture : List Row → Picture = λ rows. record { columns = inside.columns; rows = rows } in
    ap picture (ap (shown inside.columns) stored ∙ (held_after (goal.at.returns c).After-paint_at).1)
    ∙ ap (λ (p : Picture). record {
      columns = p.columns;
      rows = with_row_at c.args.index (pixels p.columns c.args.changes.now) p.rows;
    }) c.self.view_is
