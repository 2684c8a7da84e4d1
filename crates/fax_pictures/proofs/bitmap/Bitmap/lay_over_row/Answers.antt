use Rattle.fax_encode.proofs.Names.{◌≡◌, ◌*◌, ◌+◌, ◌/◌, ◌%◌, ◌<◌, ◌≤◌, ◌++◌, ℕ, List, [], length, take, drop, get_or, sym, refl}
use Rattle.fax_encode.proofs.Names.{ap, ◌∙◌, subst, arith, bits_of, length-take, length-bits_of}
use Rattle.fax_encode.proofs.Names.{Row, filled_up, bytes_of_row, shown}
use Rattle.std.proofs.lemmas.List.{with_items_is}
use Rattle.fax_pictures.specs.Pictures.{ArePacked, Picture, laid_over, with_row_at}
use Rattle.fax_pictures.proofs.LaidLists.{length-laid_over}
use Rattle.fax_pictures.proofs.PackedPictures.{inside_bytes, laid_row, row_is_held, row_of_picture, rows_counted}
use Rattle.fax_pictures.proofs.bitmap.Bitmap.lay_over_row.Goals.{After-lay_at}
use Rattle.fax_pictures.proofs.bitmap.Bitmap.lay_over_row.Goals as goal

-- what is held after bytes were laid over a row
laid : (columns rows index width left : ℕ) (part bytes new : List ℕ) → ArePacked columns rows bytes → index < rows
    → left % 8 ≡ 0 → width ≡ bytes_of_row columns → bits_of new ≡ bits_of (take (index * width) bytes)
    ++ (filled_up (take columns (bits_of (laid_over (left / 8) part (take (bytes_of_row columns) (drop (index * width) bytes)))))
    ++ bits_of (drop (index * width + bytes_of_row columns) bytes))
    → ArePacked columns rows new × (shown columns new
    ≡ with_row_at index (laid_over left (bits_of part) (get_or (shown columns bytes) index [])) (shown columns bytes))
laid columns rows index width left part bytes new are lt whole is bits =
    let w : ℕ = bytes_of_row columns in
    let old : List ℕ = take w (drop (index * width) bytes) in
    let line : List ℕ = laid_over (left / 8) part old in
    let here = row_of_picture columns rows index width bytes old are (omega (arith, lt, rows_counted columns rows bytes are)) is
    (ap (λ (n : ℕ). take n (drop (index * width) bytes)) (sym is)) in
    let row : take columns (bits_of line) ≡ laid_over left (bits_of part) (get_or (shown columns bytes) index []) =
    laid_row columns left part line old (get_or (shown columns bytes) index []) whole here.0 refl here.1 in
    let long : length (take columns (bits_of line)) ≡ columns =
    omega (
      arith,
      length-take columns (bits_of line),
      length-bits_of line,
      length-laid_over (left / 8) part old,
      here.0,
    ) in
    let held = row_is_held columns rows index (take columns (bits_of line)) bytes new are lt long
    (subst (λ (k : ℕ). bits_of new ≡ bits_of (take (index * k) bytes)
    ++ (filled_up (take columns (bits_of line)) ++ bits_of (drop (index * k + w) bytes))) is bits) in
    (held.0, held.1 ∙ ap (λ (r : Row). with_row_at index r (shown columns bytes)) row)

pub lay_at-requires-clause-within : goal.lay_at-requires-clause-within
lay_at-requires-clause-within c =
    let inside = c.self.inside in
    let count : length (shown inside.columns inside.bytes.items) ≡ inside.rows =
    rows_counted inside.columns inside.rows inside.bytes.items c.self.invariant in
    let lt : c.args.index < length (shown inside.columns inside.bytes.items) =
    subst (λ (p : Picture). c.args.index < length p.rows) (sym c.self.view_is) c.requires.within in
    let within : c.args.index * c.div_ceil.result + bytes_of_row inside.columns ≤ length inside.bytes.items =
    inside_bytes c.args.index inside.rows c.div_ceil.result inside.columns inside.bytes.items (omega (arith, lt, count))
    (omega (arith, c.div_ceil.ensures)) c.self.invariant.size in
    omega (arith, within, c.deref_mut.ensures.len, ap length c.deref_mut.ensures.value)

-- the picture after bytes were laid over the row
laid_after : (c : After-lay_at) → ArePacked c.self.inside.columns c.self.inside.rows c.lay_at.new.bytes
    × (shown c.self.inside.columns c.lay_at.new.bytes
    ≡ with_row_at c.args.index (laid_over c.args.left (bits_of c.args.part.now)
    (get_or (shown c.self.inside.columns c.self.inside.bytes.items) c.args.index []))
    (shown c.self.inside.columns c.self.inside.bytes.items))
laid_after c =
    let inside = c.self.inside in
    let columns : ℕ = inside.columns in
    let w : ℕ = bytes_of_row columns in
    let start : ℕ = c.args.index * c.div_ceil.result in
    let count : length (shown columns inside.bytes.items) ≡ inside.rows =
    rows_counted columns inside.rows inside.bytes.items c.self.invariant in
    let lt : c.args.index < length (shown columns inside.bytes.items) =
    subst (λ (p : Picture). c.args.index < length p.rows) (sym c.self.view_is) c.requires.within in
    let bits = subst (λ (l : List ℕ). bits_of c.lay_at.new.bytes ≡ bits_of (take start l)
    ++ (filled_up (take columns (bits_of (laid_over (c.args.left / 8) c.args.part.now (take w (drop start l)))))
    ++ bits_of (drop (start + w) l))) c.deref_mut.ensures.value c.lay_at.ensures.laid in
    laid columns inside.rows c.args.index c.div_ceil.result c.args.left c.args.part.now inside.bytes.items c.lay_at.new.bytes
    c.self.invariant (omega (arith, lt, count)) c.requires.whole (omega (arith, c.div_ceil.ensures)) bits

pub invariant_of-self : goal.invariant_of-self
invariant_of-self c =
    let inside = c.self.inside in
    let stored = with_items_is inside.bytes c.lay_at.new.bytes (c.lay_at.ensures.length ∙ c.deref_mut.ensures.len) in
    subst (ArePacked inside.columns inside.rows) (sym stored) (laid_after (goal.at.invariant_of-self c).After-lay_at).0

pub returns : goal.returns
returns c =
    let inside = c.self.inside in
    let stored = with_items_is inside.bytes c.lay_at.new.bytes (c.lay_at.ensures.length ∙ c.deref_mut.ensures.len) in
    let picture : List Row → Picture = λ rows. record { columns = inside.columns; rows = rows } in
    ap picture (ap (shown inside.columns) stored ∙ (laid_after (goal.at.returns c).After-lay_at).1)
    ∙ ap (λ (p : Picture). record {
      columns = p.columns;
      rows = with_row_at c.args.index (laid_over c.args.left (bits_of c.args.part.now) (get_or p.rows c.args.index [])) p.rows;
    }) c.self.view_is
