-- A page of Group 4 without a row limit is given but a few bits beyond its end before it is known.
use Rattle.hayro_ccitt.proofs.Names.{◌≡◌, ℕ, suc, ◌+◌, ◌-◌, ◌*◌, ◌<◌, ◌≤◌, ◌&&◌, ◌||◌, ◌∙◌, Bool, true, false, []}
use Rattle.hayro_ccitt.proofs.Names.{◌∷◌, ◌++◌, inl, inr, Result, Ok, Err, refl, sym, ap, subst, arith, length, drop, cond, not}
use Rattle.hayro_ccitt.proofs.Names.{leb, eqb, cases_lt, false≢true, length-append, drop-drop, length-drop}
use Rattle.hayro_ccitt.proofs.Names.{zero, whole_reading, Bits, Row, Line, Context, Held, DecodeError, DecodeSettings}
use Rattle.hayro_ccitt.proofs.Names.{EncodingMode, Group4}
use Rattle.hayro_ccitt.proofs.Names.{Gap, Progress, Turn, Reaches, ReaderStands}
use Rattle.hayro_ccitt.proofs.Names.{add_row, at_front, at_gap, end_of, eols_here, first_gap, gap_after_row, is_over}
use Rattle.hayro_ccitt.proofs.Names.{limit_met}
use Rattle.hayro_ccitt.proofs.Names.{line_here, move_on, plain, row_before, row_of_line, with_row, misses_eol, repaired}
use Rattle.std.proofs.lemmas.List.{drop-append-le}
use Rattle.hayro_ccitt.specs.Continuations.{is_short}
use Rattle.hayro_ccitt.specs.GapsContinued.{eols_are_settled, gap_is_settled, first_gap_is_settled}
use Rattle.hayro_ccitt.specs.GapsContinued.{holds_one}
use Rattle.hayro_ccitt.specs.PlainReading.{Move, after_line, aligned_after_row, eols_of_end, is_end_of_block, nothing_read}
use Rattle.hayro_ccitt.specs.PlainReading.{pass_gap}
use Rattle.hayro_ccitt.specs.RowFeeds.{Feeding, IsOpenAt, IsPlainFeedOf, StandsIn, fed_bits}
use Rattle.hayro_ccitt.specs.Stand.{Stand}
use Rattle.hayro_ccitt.specs.Stand.TheVariants.{AtLine, AfterRow, AtEnd, AtFault}
use Rattle.hayro_ccitt.proofs.KeptRows.EqualFronts.{one_in_bits}
use Rattle.hayro_ccitt.proofs.KeptRows.EqualFronts.{line_again, one_in_whole, one_stays}
use Rattle.hayro_ccitt.proofs.Readings.FeedsPaid.{short_row}
use Rattle.hayro_ccitt.proofs.Readings.GapsAndRows.{gap_unsought}
use Rattle.hayro_ccitt.specs.FeedsKeepLittle.{left_by}
use Rattle.hayro_ccitt.proofs.Readings.OpenBits.{open_bits_of_gap}
use Rattle.hayro_ccitt.proofs.Readings.Repeated.{not_next}
use Rattle.hayro_ccitt.proofs.Readings.RowsAndGaps.{after_damage-is, unless_over, unmissed}
use Rattle.hayro_ccitt.proofs.Readings.TurnsMoveOn.{unless_over_next}
use Rattle.hayro_ccitt.proofs.Work.TurnsPaid.{after_shorter}
use Rattle.fax_callers.proofs.ReadsOnward.{EndsWithin, Leads, Leaves, counted_on, gap_lead, gap_leaves}
use Rattle.fax_callers.proofs.ReadsOnward.{reached_lead}

-- ---- What a turn leads to

leaves_lead : (settings : DecodeSettings) (n : ℕ) (move : Move) → Leaves n move → Leads settings n move
leaves_lead settings n (Turn.next after) le = inl le
leaves_lead settings n (Turn.done end) le = le

cond_leads : (settings : DecodeSettings) (n : ℕ) (b : Bool) (one two : Move) → (b ≡ true → Leads settings n one)
    → (b ≡ false → Leads settings n two) → Leads settings n (cond b one two)
cond_leads settings n true one two p q = p refl
cond_leads settings n false one two p q = q refl

-- a gap that leaves no more
short_gap : (settings : DecodeSettings) (n : ℕ) (run : Progress) (gap : Gap) → length (left_by run.rest gap) ≤ n
    → Leads settings n (at_gap run gap)
short_gap settings n run (Gap.line_at has_eols rest) le = inl le
short_gap settings n run (Gap.over (Ok rest)) le = le
short_gap settings n run (Gap.over (Err fault)) le = tt

module _ (settings : DecodeSettings) (wide : 0 < settings.columns) (four : settings.encoding ≡ Group4)
    (unlimited : settings.rows ≡ 0) where
  -- a line that is broken ends the reading
  broken_fails : (n : ℕ) (run : Progress) (front : Row) (fault : DecodeError) → run.has_eols ≡ false
      → Leaves n (after_line settings run (Line.broken front fault))
  broken_fails n run front fault unsought =
      subst (Leaves n) (sym (after_damage-is settings run front fault))
      (by_strict settings.strict run.has_eols unsought _ _ (λ e. tt))
    where
      by_strict : (strict has : Bool) → has ≡ false → (one two : Move) → (true ≡ true → Leaves n one)
          → Leaves n (cond (strict || not has) one two)
      by_strict true has e one two p = p refl
      by_strict false false e one two p = p refl
      by_strict false true e one two p = absurd (false≢true (sym e))

  -- no line is in zeros
  zeros_fail : (n : ℕ) (run : Progress) → run.has_eols ≡ false → holds_one run.rest ≡ false
      → Leaves n (move_on settings run)
  zeros_fail n run unsought none = by_line (line_here settings reference run.rest) refl
    where
      reference : Row
      reference = row_before settings.columns run.rows

      by_line : (line : Line) → line_here settings reference run.rest ≡ line → Leaves n (after_line settings run line)
      by_line (Line.broken front fault) e = broken_fails n run front fault unsought
      by_line (Line.whole row rest) e =
          let again = line_again settings.encoding settings.strict settings.columns reference run.rest row rest e in
          let one = one_in_whole settings.encoding settings.strict settings.columns reference again.0 rest row wide
          (ap (λ (b : Bits). line_here settings reference b) (sym again.1) ∙ e) in
          absurd (false≢true (sym none ∙ ap holds_one again.1
          ∙ one_stays again.0 rest (one_in_bits settings.encoding again.0 one)))

  -- the EOLs here aren't settled: but one was read, and zeros are left
  open_eols : (found : ℕ × Bits) → eols_are_settled settings.encoding settings.end_of_block found ≡ false
      → (is_end_of_block settings found.0 ≡ false) × (holds_one found.1 ≡ false)
  open_eols (count, rest) e =
      let by_four : (settings.end_of_block && leb 2 count || holds_one rest) ≡ false =
      subst (λ (m : EncodingMode). eols_are_settled m settings.end_of_block (count, rest) ≡ false) four e in
      let both = neither (settings.end_of_block && leb 2 count) (holds_one rest) by_four in
      (ap (λ (m : EncodingMode). settings.end_of_block && leb (eols_of_end m) count) four ∙ both.0, both.1)
    where
      neither : (a b : Bool) → (a || b) ≡ false → (a ≡ false) × (b ≡ false)
      neither true b e = absurd (false≢true (sym e))
      neither false b e = (refl, e)

  unmet : (taken : ℕ) → limit_met settings taken ≡ false
  unmet taken = ap (λ (n : ℕ). not (eqb n 0) && eqb n taken) unlimited

  -- after them the reading ends at the end of the data, or fails
  open_lead : (n : ℕ) (run : Progress) (found : ℕ × Bits) → run.has_eols ≡ false
      → eols_are_settled settings.encoding settings.end_of_block found ≡ false → Leads settings n (unless_over settings run found)
  open_lead n run (count, []) unsought e =
      cond_leads settings n (is_over settings (length run.rows) (count, [])) _ _ (λ f. omega arith) (λ f. inl (omega arith))
  open_lead n run (count, bit ∷ rest) unsought e =
      let open_end = open_eols (count, bit ∷ rest) e in
      cond_leads settings n (is_over settings (length run.rows) (count, bit ∷ rest)) _ _ (λ f.
      absurd (false≢true (sym (ap (λ (b : Bool). b || limit_met settings (length run.rows) || false) open_end.0
      ∙ ap (λ (b : Bool). b || false) (unmet (length run.rows))) ∙ f)))
      (λ f. inr (zeros_fail n (record run { rest = bit ∷ rest }) unsought open_end.1))

  -- a gap that the bits seen don't settle leaves no more than follows them, and twelve bits
  open_gap : (run : Progress) (seen more : Bits) → run.has_eols ≡ false → run.rest ≡ seen ++ more
      → gap_is_settled settings (length run.rows) false seen ≡ false
      → Leads settings (length more + 12) (pass_gap settings run)
  open_gap run seen more unsought split e = by_settled (gap_is_settled settings (length run.rows) false run.rest) refl
    where
      taken : ℕ
      taken = length run.rows

      by_settled : (b : Bool) → gap_is_settled settings taken false run.rest ≡ b
          → Leads settings (length more + 12) (pass_gap settings run)
      by_settled true settled =
          subst (λ (has : Bool). Leads settings (length more + 12) (at_gap run (gap_after_row settings taken has run.rest)))
          (sym unsought) (short_gap settings (length more + 12) run (gap_after_row settings taken false run.rest)
          (subst (λ (b : Bits). length (left_by b (gap_after_row settings taken false b)) ≤ length more + 12) (sym split)
          (omega (
            arith,
            open_bits_of_gap settings taken false seen more e
                (subst (λ (b : Bits). gap_is_settled settings taken false b ≡ true) split settled),
          ))))
      by_settled false unsettled =
          subst (Leads settings (length more + 12)) (sym (gap_unsought settings run unsought))
          (open_lead (length more + 12) run (eols_here settings run.rest) unsought (first_of _ _ _ unsettled))
        where
          first_of : (a strict b : Bool)
              → (a && (not (misses_eol settings taken false run.rest) || strict || b)) ≡ false → a ≡ false
          first_of false strict b e = refl
          first_of true strict b e =
              absurd (false≢true (sym e ∙ ap (λ (m : Bool). not m || strict || b) (unmissed settings taken run.rest)))

  -- so does a line that is short where the bits seen end
  short_line : (run : Progress) (seen more : Bits) → run.has_eols ≡ false → run.rest ≡ seen ++ more
      → is_short (line_here settings (row_before settings.columns run.rows) seen) ≡ true
      → Leads settings (length more + 12) (move_on settings run)
  short_line run seen more unsought split short =
      leaves_lead settings (length more + 12) (move_on settings run) (by_line (line_here settings reference run.rest) refl)
    where
      reference : Row
      reference = row_before settings.columns run.rows

      unaligned : DecodeSettings
      unaligned = record settings { rows_are_byte_aligned = false }

      by_line : (line : Line) → line_here settings reference run.rest ≡ line
          → Leaves (length more + 12) (after_line settings run line)
      by_line (Line.broken front fault) e = broken_fails (length more + 12) run front fault unsought
      by_line (Line.whole row rest) e =
          let there : row_of_line unaligned false (seen ++ more) (line_here unaligned reference (seen ++ more)) ≡ Ok (row, rest)
          = ap (row_of_line unaligned false (seen ++ more)) (ap (line_here settings reference) (sym split) ∙ e) in
          elim (short_row unaligned false reference seen more rest row short there) [
            | inl le ↦ gap_leaves settings (with_row run row (aligned_after_row settings run.has_eols rest)) (length more + 12)
                (omega (arith, le, after_shorter settings run.has_eols rest))
            | inr back ↦ absurd (false≢true back.0)
          ]

  -- ---- EOLs are never sought

  gap_keeps : (run t : Progress) → run.has_eols ≡ false → pass_gap settings run ≡ Turn.next t → t.has_eols ≡ false
  gap_keeps run t unsought e =
      let next = unless_over_next settings run t (eols_here settings run.rest) (sym (gap_unsought settings run unsought) ∙ e) in
      ap (λ (p : Progress). p.has_eols) (sym next) ∙ unsought

  line_keeps : (run t : Progress) (line : Line) → run.has_eols ≡ false → after_line settings run line ≡ Turn.next t
      → t.has_eols ≡ false
  line_keeps run t (Line.whole row rest) unsought e =
      gap_keeps (with_row run row (aligned_after_row settings run.has_eols rest)) t unsought e
  line_keeps run t (Line.broken front fault) unsought e =
      by_row (settings.strict || not run.has_eols) e
    where
      by_row : (b : Bool) → add_row settings run (cond b (Err fault) (Ok (
        repaired settings.columns front,
        aligned_after_row settings
            run.has_eols run.rest,
      ))) ≡ Turn.next t → t.has_eols ≡ false
      by_row true f = absurd (not_next _ t f)
      by_row false f = gap_keeps (with_row run (repaired settings.columns front)
          (aligned_after_row settings run.has_eols run.rest)) t unsought f

  reached_unsought : (first last : Progress) → Reaches (move_on settings) first last → first.has_eols ≡ false
      → last.has_eols ≡ false
  reached_unsought first last (Reaches.stays same) unsought = unsought
  reached_unsought first last (Reaches.moves state after end e reaches) unsought =
      reached_unsought after last reaches
      (line_keeps state after (line_here settings (row_before settings.columns state.rows) state.rest) unsought e)

  first_unsought : (bits : Bits) (first : Progress) → first_gap settings.encoding settings bits ≡ Turn.next first
      → first.has_eols ≡ false
  first_unsought bits first e =
      gap_keeps (at_front bits) first refl
      (subst (λ (m : EncodingMode). first_gap m settings bits ≡ Turn.next first) four e)

  -- ---- Where a reading waits

  module _ (bits seen more : Bits) (held : Held) (place : ℕ) (split : drop place bits ≡ seen ++ more) where
    stands_within : (stand : Stand) (ctx : Context) → ctx.held ≡ held → held.settings ≡ settings → IsOpenAt true stand ctx seen
        → ReaderStands stand settings bits held place → EndsWithin (length more + 12) (end_of settings bits).outcome
    stands_within AtLine ctx same by waits stands =
        let unsought = reached_unsought stands.first stands.so_far stands.reaches
        (first_unsought bits stands.first stands.begins) in
        reached_lead settings bits (length more + 12) wide stands.first stands.so_far stands.begins stands.reaches
        (short_line stands.so_far seen more unsought (sym stands.rest_is ∙ split)
        (subst (λ (h : Held). is_short (line_here settings h.reference seen) ≡ true) stands.held_is
        (subst (λ (s : DecodeSettings). is_short (line_here s held.reference seen) ≡ true) by
        (subst (λ (h : Held). is_short (line_here h.settings h.reference seen) ≡ true) same waits))))
    stands_within AfterRow ctx same by waits stands =
        let unsought = reached_unsought stands.first stands.so_far stands.reaches
        (first_unsought bits stands.first stands.begins) in
        let run : Progress = with_row stands.so_far stands.row (drop place bits) in
        let here = subst (λ (h : Held). gap_is_settled settings h.taken h.has_eols seen ≡ false) stands.held_is
        (subst (λ (s : DecodeSettings). gap_is_settled s held.taken held.has_eols seen ≡ false) by
        (subst (λ (h : Held). gap_is_settled h.settings h.taken h.has_eols seen ≡ false) same waits)) in
        reached_lead settings bits (length more + 12) wide stands.first stands.so_far stands.begins stands.reaches
        (subst (λ (r : Result (Row × Bits) DecodeError). Leads settings (length more + 12) (add_row settings stands.so_far r))
        (sym stands.row_is) (open_gap run seen more unsought split
        (subst (λ (has : Bool). gap_is_settled settings (length run.rows) has seen ≡ false) unsought here)))
    stands_within AtEnd ctx same by waits stands = absurd waits
    stands_within (AtFault error) ctx same by waits stands = absurd waits

    front_within : drop place bits ≡ bits → first_gap_is_settled settings.encoding settings seen ≡ false
        → EndsWithin (length more + 12) (end_of settings bits).outcome
    front_within all waits =
        gap_lead settings bits (length more + 12) wide (pass_gap settings (at_front bits))
        (ap (λ (m : EncodingMode). first_gap m settings bits) four)
        (open_gap (at_front bits) seen more refl (sym all ∙ split)
        (subst (λ (m : EncodingMode). first_gap_is_settled m settings seen ≡ false) four waits))

-- where bytes are read, there are columns
pub some_wide : (settings : DecodeSettings) (bits : Bits) (size : ℕ) → 0 < size → (plain settings bits).outcome ≡ Ok size
    → 0 < settings.columns
some_wide settings bits size some = by_columns settings.columns
  where
    by_columns : (n : ℕ) → (cond (eqb n 0) nothing_read (whole_reading bits (end_of settings bits))).outcome ≡ Ok size → 0 < n
    by_columns zero e = let none : 0 ≡ size = cc in absurd (omega (arith, none, some))
    by_columns (suc n) e = omega arith

-- ---- A feed that waits

-- The reading ends no more than twelve bits before the end of those that were fed.
pub waits_near : {bits : Bits} {tried : ℕ} (feed : Feeding) → IsPlainFeedOf bits tried feed → feed.place ≤ length feed.kept
    → IsOpenAt feed.begun feed.rows.stand feed.ctx (drop feed.place feed.kept) → feed.ctx.held.settings.encoding ≡ Group4
    → feed.ctx.held.settings.rows ≡ 0 → 0 < feed.ctx.held.settings.columns → (size given count : ℕ) → length bits ≡ 8 * size
    → fed_bits feed ≡ 8 * given → (plain feed.ctx.held.settings bits).outcome ≡ Ok count → given ≤ count + 1
waits_near {bits} {tried} feed is within waits four unlimited wide size given count whole fed outcome =
    elim (cases_lt (length bits) (length is.lie.more + 12)) [
      | inl few ↦ omega (arith, few, all)
      | inr enough ↦
          let ends = subst (λ (n : ℕ). EndsWithin n (end_of settings bits).outcome)
          (let sum : length is.lie.more + 12 ≡ length bits - (length bits - (length is.lie.more + 12)) = omega (arith, enough) in
          sum) (near feed.begun waits is.stands) in
          omega (
            arith,
            counted_on settings bits count (length bits - (length is.lie.more + 12)) size wide whole outcome ends,
            all,
            whole,
            fed,
          )
    ]
  where
    settings : DecodeSettings
    settings = feed.ctx.held.settings

    place : ℕ
    place = feed.dropped + feed.place

    split : drop place bits ≡ drop feed.place feed.kept ++ is.lie.more
    split = sym (drop-drop feed.place feed.dropped bits) ∙ ap (drop feed.place) is.lie.bits
        ∙ drop-append-le feed.place feed.kept is.lie.more within

    all : fed_bits feed + length is.lie.more ≡ length bits
    all = omega (
      arith,
      is.lie.within,
      ap length is.lie.bits,
      length-append feed.kept is.lie.more,
      length-drop feed.dropped bits,
    )

    first_gap_waits : (none : Bool) {settled : Bool} → (none || settled) ≡ false → settled ≡ false
    first_gap_waits true waits = absurd (false≢true (sym waits))
    first_gap_waits false waits = waits

    near : (begun : Bool) → IsOpenAt begun feed.rows.stand feed.ctx (drop feed.place feed.kept)
        → StandsIn begun tried feed.rows feed.ctx (record { bits = bits; place = place })
        → EndsWithin (length is.lie.more + 12) (end_of settings bits).outcome
    near true waits stands =
        stands_within settings wide four unlimited bits (drop feed.place feed.kept) is.lie.more feed.ctx.held place split
        feed.rows.stand feed.ctx refl refl waits stands.0
    near false waits front =
        front_within settings wide four unlimited bits (drop feed.place feed.kept) is.lie.more feed.ctx.held place split
        (ap (λ (n : ℕ). drop n bits) front.start) (first_gap_waits (eqb settings.columns 0) waits)
