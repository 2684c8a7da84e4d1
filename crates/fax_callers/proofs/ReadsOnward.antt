-- A reading ends no earlier than where it stands.
use Rattle.hayro_ccitt.proofs.Names.{◌≡◌, ◌≢◌, ◌⊎◌, inl, inr, ℕ, suc, ◌+◌, ◌-◌, ◌*◌, ◌/◌, ◌<◌, ◌≤◌, ◌||◌, ◌∙◌, Bool, true, false}
use Rattle.hayro_ccitt.proofs.Names.{[]}
use Rattle.hayro_ccitt.proofs.Names.{Option, None, Some, Result, Ok, Err, refl, sym, ap, subst, arith, length, drop, cond, not}
use Rattle.hayro_ccitt.proofs.Names.{min}
use Rattle.hayro_ccitt.proofs.Names.{length-drop, Bits, Row, Line, DecodeError, DecodeSettings, OutOfMemory}
use Rattle.hayro_ccitt.proofs.Names.{Ending, Progress, Turn, Reaches, HasFailed}
use Rattle.hayro_ccitt.proofs.Names.{add_row, end_of, eols_here, first_gap, is_over, misses_eol, next_eol}
use Rattle.hayro_ccitt.proofs.Names.{line_here, move_on, plain, row_before, whole_reading, with_row, ended}
use Rattle.hayro_ccitt.proofs.Names.{ReaderStands}
use Rattle.hayro_ccitt.specs.PlainReading.{Move, after_line, aligned_after_row, bytes_before, ends_with, ending_after, pass_gap}
use Rattle.hayro_ccitt.specs.Repetition.{repeated}
use Rattle.hayro_ccitt.specs.RowFeeds.{Feeding, IsFeedOf, StandsIn, offset_of}
use Rattle.hayro_ccitt.specs.DecodeError.TheVariants.{UnexpectedEof}
use Rattle.hayro_ccitt.specs.Stand.{Stand}
use Rattle.hayro_ccitt.specs.Stand.TheVariants.{AtLine, AfterRow, AtEnd, AtFault}
use Rattle.hayro_ccitt.proofs.ErrorKinds.{by_kind}
use Rattle.hayro_ccitt.proofs.BitReading.ConsecutiveEols.{next_eol_found}
use Rattle.hayro_ccitt.proofs.DrawingLines.ReadLines.{TookBits}
use Rattle.hayro_ccitt.proofs.Readings.Repeated.{after_turn, repeated_keeps, repeated_same, repeated_turn}
use Rattle.hayro_ccitt.proofs.Readings.PlainAnswers.{some_columns}
use Rattle.hayro_ccitt.proofs.Readings.RowsAndGaps.{after_damage-is, after_row, pass_gap-is, seek_eol}
use Rattle.hayro_ccitt.proofs.Readings.RowsAndGaps.{seek_from, unless_over}
use Rattle.hayro_ccitt.proofs.Readings.TurnsMoveOn.{eols_here_counted, left_below, left_to_read, line_by_took, move_shrinks}
use Rattle.hayro_ccitt.proofs.Work.TurnsPaid.{after_shorter}

-- ---- What is left after a turn

-- no more bits than this are left at the end
abbrev pub EndsWithin : ℕ → Result Bits DecodeError → Type 0
EndsWithin n (Ok rest) = length rest ≤ n
EndsWithin n (Err error) = Unit {0}

-- nor after a turn
abbrev pub Leaves : ℕ → Move → Type 0
Leaves n (Turn.next after) = length after.rest ≤ n
Leaves n (Turn.done end) = EndsWithin n end.outcome

-- nor after it or the next one
abbrev pub Leads : DecodeSettings → ℕ → Move → Type 0
Leads settings n (Turn.next after) = (length after.rest ≤ n) ⊎ Leaves n (move_on settings after)
Leads settings n (Turn.done end) = EndsWithin n end.outcome

cond_leaves : (n : ℕ) (b : Bool) (one two : Move) → Leaves n one → Leaves n two → Leaves n (cond b one two)
cond_leaves n true one two p q = p
cond_leaves n false one two p q = q

over_leaves : (settings : DecodeSettings) (run : Progress) (found : ℕ × Bits) (n : ℕ) → length found.1 ≤ n
    → Leaves n (unless_over settings run found)
over_leaves settings run (count, rest) n le =
    cond_leaves n (is_over settings (length run.rows) (count, rest)) (ends_with run (Ok rest))
    (Turn.next (record run { rest = rest })) le le

seek_leaves : (settings : DecodeSettings) (run : Progress) (next : Option Bits) → next_eol run.rest ≡ next
    → Leaves (length run.rest) (seek_from settings run next)
seek_leaves settings run None e = omega arith
seek_leaves settings run (Some found) e =
    over_leaves settings run (eols_here settings found) (length run.rest)
    (omega (arith, (eols_here_counted settings found).0, (next_eol_found run.rest found e).0))

row_leaves : (settings : DecodeSettings) (run : Progress) (n : ℕ) → length run.rest ≤ n → Leaves n (after_row settings run)
row_leaves settings run n le =
    cond_leaves n (misses_eol settings (length run.rows) run.has_eols run.rest) (seek_eol settings run)
    (unless_over settings run (eols_here settings run.rest)) (cond_leaves n settings.strict _ _ tt
    (more (seek_from settings run (next_eol run.rest)) (seek_leaves settings run (next_eol run.rest) refl)))
    (over_leaves settings run (eols_here settings run.rest) n (omega (arith, (eols_here_counted settings run.rest).0, le)))
  where
    more : (move : Move) → Leaves (length run.rest) move → Leaves n move
    more (Turn.next after) p = omega (arith, p, le)
    more (Turn.done end) p = ends end.outcome p
      where
        ends : (outcome : Result Bits DecodeError) → EndsWithin (length run.rest) outcome → EndsWithin n outcome
        ends (Ok rest) q = omega (arith, q, le)
        ends (Err error) q = tt

pub gap_leaves : (settings : DecodeSettings) (run : Progress) (n : ℕ) → length run.rest ≤ n → Leaves n (pass_gap settings run)
gap_leaves settings run n le = subst (Leaves n) (sym (pass_gap-is settings run)) (row_leaves settings run n le)

line_leaves : (settings : DecodeSettings) (run : Progress) (line : Line) → TookBits (length run.rest) line
    → Leaves (length run.rest) (after_line settings run line)
line_leaves settings run (Line.whole row rest) took =
    gap_leaves settings (with_row run row (aligned_after_row settings run.has_eols rest)) (length run.rest)
    (omega (arith, took, after_shorter settings run.has_eols rest))
line_leaves settings run (Line.broken front fault) took =
    subst (Leaves (length run.rest)) (sym (after_damage-is settings run front fault))
    (cond_leaves (length run.rest) (settings.strict || not run.has_eols) _ _ tt
    (row_leaves settings _ (length run.rest) (after_shorter settings run.has_eols run.rest)))

module _ (settings : DecodeSettings) (wide : 0 < settings.columns) where
  move_leaves : (run : Progress) → Leaves (length run.rest) (move_on settings run)
  move_leaves run =
      line_leaves settings run (line_here settings (row_before settings.columns run.rows) run.rest)
      (line_by_took settings.encoding settings.strict settings.columns (row_before settings.columns run.rows) run.rest wide)

  module _ (late : Ending) (is_late : (n : ℕ) → EndsWithin n late.outcome) where
    abbrev end_from : Progress → Ending
    end_from run = repeated (move_on settings) late (suc (left_to_read run)) run

    -- no more is left at the end than there are bits
    on_within : (n : ℕ) (after : Progress) → length after.rest ≤ n → EndsWithin n (end_from after).outcome
    on_within n after le =
        repeated_keeps (move_on settings) late (λ s. length s.rest ≤ n) (λ end. EndsWithin n end.outcome) (is_late n)
        (λ s t small e. next_small s t small (subst (Leaves (length s.rest)) e (move_leaves s)))
        (λ s end small e. done_small s end small (subst (Leaves (length s.rest)) e (move_leaves s)))
        (suc (left_to_read after)) after le
      where
        next_small : (s t : Progress) → length s.rest ≤ n → length t.rest ≤ length s.rest → length t.rest ≤ n
        next_small s t small le = omega (arith, small, le)

        done_small : (s : Progress) (end : Ending) → length s.rest ≤ n → EndsWithin (length s.rest) end.outcome
            → EndsWithin n end.outcome
        done_small s end small le = by_outcome end.outcome le
          where
            by_outcome : (outcome : Result Bits DecodeError) → EndsWithin (length s.rest) outcome → EndsWithin n outcome
            by_outcome (Ok rest) q = omega (arith, q, small)
            by_outcome (Err error) q = tt

    -- nor than after the next turn
    by_next_turn : (n : ℕ) (run : Progress) → EndsWithin n (after_turn end_from (move_on settings run)).outcome
        → EndsWithin n (end_from run).outcome
    by_next_turn n run =
        subst (λ (end : Ending). EndsWithin n end.outcome)
        (sym (repeated_turn (move_on settings) late left_to_read (move_shrinks settings wide) run))

    turns_leave : (n : ℕ) (run : Progress) → Leaves n (move_on settings run) → EndsWithin n (end_from run).outcome
    turns_leave n run p = by_next_turn n run (by_turn (move_on settings run) p)
      where
        by_turn : (move : Move) → Leaves n move → EndsWithin n (after_turn end_from move).outcome
        by_turn (Turn.next after) q = on_within n after q
        by_turn (Turn.done end) q = q

    -- nor than after one of the next two
    from_lead : (n : ℕ) (after : Progress) → (length after.rest ≤ n) ⊎ Leaves n (move_on settings after)
        → EndsWithin n (end_from after).outcome
    from_lead n after (inl le) = on_within n after le
    from_lead n after (inr leaves) = turns_leave n after leaves

    turns_lead : (n : ℕ) (run : Progress) → Leads settings n (move_on settings run) → EndsWithin n (end_from run).outcome
    turns_lead n run p = by_next_turn n run (by_turn (move_on settings run) p)
      where
        by_turn : (move : Move) → Leads settings n move → EndsWithin n (after_turn end_from move).outcome
        by_turn (Turn.next after) q = from_lead n after q
        by_turn (Turn.done end) q = q

    -- the end is that of each state that is led to
    same_end : (first last : Progress) → Reaches (move_on settings) first last → end_from first ≡ end_from last
    same_end first last (Reaches.stays same) = refl
    same_end first last (Reaches.moves state after end e reaches) =
        repeated_turn (move_on settings) late left_to_read (move_shrinks settings wide) state
        ∙ ap (after_turn end_from) e ∙ same_end after last reaches

-- ---- Where a reading stands

module _ (settings : DecodeSettings) (bits : Bits) (n : ℕ) (wide : 0 < settings.columns) where
  abbrev late : Progress → Ending
  late first = record { rows = first.rows; has_eols = first.has_eols; outcome = Err UnexpectedEof }

  first_end : (first : Progress) → repeated (move_on settings) (late first) (suc (left_to_read first)) first
      ≡ ending_after settings (Turn.next first)
  first_end first =
      repeated_same (move_on settings) (late first) left_to_read (move_shrinks settings wide) (suc (left_to_read first))
      (suc (suc (length first.rest))) first (omega arith) (left_below first)

  -- the end, if no more is left after a turn that is reached
  reached_end : (first so_far : Progress) → first_gap settings.encoding settings bits ≡ Turn.next first
      → Reaches (move_on settings) first so_far
      → EndsWithin n (repeated (move_on settings) (late first) (suc (left_to_read so_far)) so_far).outcome
      → EndsWithin n (end_of settings bits).outcome
  reached_end first so_far begins reaches =
      subst (λ (end : Ending). EndsWithin n end.outcome)
      (sym (same_end settings wide (late first) (λ m. tt) first so_far reaches) ∙ first_end first
      ∙ sym (ap (ending_after settings) begins))

  reached_within : (first so_far : Progress) → first_gap settings.encoding settings bits ≡ Turn.next first
      → Reaches (move_on settings) first so_far → Leaves n (move_on settings so_far) → EndsWithin n (end_of settings bits).outcome
  reached_within first so_far begins reaches leaves =
      reached_end first so_far begins reaches (turns_leave settings wide (late first) (λ m. tt) n so_far leaves)

  -- or after the next one
  pub reached_lead : (first so_far : Progress) → first_gap settings.encoding settings bits ≡ Turn.next first
      → Reaches (move_on settings) first so_far → Leads settings n (move_on settings so_far)
      → EndsWithin n (end_of settings bits).outcome
  reached_lead first so_far begins reaches leads =
      reached_end first so_far begins reaches (turns_lead settings wide (late first) (λ m. tt) n so_far leads)

  -- or after the first gap
  pub gap_lead : (gap : Move) → first_gap settings.encoding settings bits ≡ gap → Leads settings n gap
      → EndsWithin n (end_of settings bits).outcome
  gap_lead (Turn.next first) begins lead =
      subst (λ (end : Ending). EndsWithin n end.outcome) (first_end first ∙ sym (ap (ending_after settings) begins))
      (from_lead settings wide (late first) (λ m. tt) n first lead)
  gap_lead (Turn.done end) begins lead =
      subst (λ (end : Ending). EndsWithin n end.outcome) (sym (ap (ending_after settings) begins)) lead

-- the bytes read up to there are no more than those read up to the end
pub counted_on : (settings : DecodeSettings) (bits : Bits) (count place size : ℕ) → 0 < settings.columns → length bits ≡ 8 * size
    → (plain settings bits).outcome ≡ Ok count → EndsWithin (length bits - place) (end_of settings bits).outcome
    → min size ((place + 7) / 8) ≤ count
counted_on settings bits count place size wide whole outcome within = by_outcome (end_of settings bits).outcome within
    (sym (ap (λ (b : Bool). (cond b (record { rows = []; outcome = Ok 0; has_eols = false })
    (whole_reading bits (end_of settings bits))).outcome) (some_columns settings.columns (λ none. omega (arith, wide, none))))
    ∙ outcome)
  where
    by_outcome : (end : Result Bits DecodeError) → EndsWithin (length bits - place) end → bytes_before bits end ≡ Ok count
        → min size ((place + 7) / 8) ≤ count
    by_outcome (Ok rest) le e =
        let is : (length bits - length rest + 7) / 8 ≡ count = cc in omega (arith, is, le, whole)
    by_outcome (Err error) le e = absurd cc

module _ {bits : Bits} {tried : ℕ} {feed : Feeding} (is : IsFeedOf bits tried feed) (size : ℕ)
    (whole : length bits ≡ 8 * size) (memory : ended feed.rows.stand ≢ Some (Err OutOfMemory)) where
  abbrev place : ℕ
  place = offset_of feed

  abbrev settings : DecodeSettings
  settings = feed.ctx.held.settings

  at_stand : (count : ℕ) → (plain settings bits).outcome ≡ Ok count → (stand : Stand) → ended stand ≢ Some (Err OutOfMemory)
      → ReaderStands stand settings bits feed.ctx.held place → min size ((place + 7) / 8) ≤ count
  at_stand count outcome AtLine memory stands =
      counted_on settings bits count place size stands.wide whole outcome
      (reached_within settings bits (length bits - place) stands.wide stands.first stands.so_far stands.begins stands.reaches
      (subst (λ (n : ℕ). Leaves n (move_on settings stands.so_far))
      (sym (ap length stands.rest_is) ∙ length-drop place bits) (move_leaves settings stands.wide stands.so_far)))
  at_stand count outcome AfterRow memory stands =
      counted_on settings bits count place size stands.wide whole outcome
      (reached_within settings bits (length bits - place) stands.wide stands.first stands.so_far stands.begins stands.reaches
      (subst (λ (r : Result (Row × Bits) DecodeError). Leaves (length bits - place) (add_row settings stands.so_far r))
      (sym stands.row_is) (gap_leaves settings (with_row stands.so_far stands.row (drop place bits)) (length bits - place)
      (omega (arith, length-drop place bits)))))
  at_stand count outcome AtEnd memory stands =
      let same : (place + 7) / 8 ≡ count = let both = sym stands.0.count ∙ outcome in cc in omega (arith, same)
  at_stand count outcome (AtFault error) memory stands =
      by_kind (λ (e : DecodeError). e ≢ OutOfMemory → HasFailed settings bits feed.ctx.held.taken place e
      → min size ((place + 7) / 8) ≤ count)
      (λ e fault some failed. absurd (let both = sym (failed.fault fault) ∙ outcome in cc))
      (λ some failed. absurd (some refl)) (λ some failed. absurd (failed.not_refused refl)) error
      (λ e. memory (ap (λ (x : DecodeError). Some (Err x)) e)) stands.0

  -- no fewer bytes are read in all than were read so far
  pub read_within : (count : ℕ) → (plain settings bits).outcome ≡ Ok count → min size ((place + 7) / 8) ≤ count
  read_within count outcome = by_begun feed.begun is.stands
    where
      by_begun : (begun : Bool) → StandsIn begun tried feed.rows feed.ctx (record { bits = bits; place = place })
          → min size ((place + 7) / 8) ≤ count
      by_begun true stands = at_stand count outcome feed.rows.stand memory stands.0
      by_begun false front = omega (arith, front.start)
