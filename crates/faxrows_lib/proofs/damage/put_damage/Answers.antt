use Rattle.faxrows_lib.proofs.Names.{rules, ◌≡◌, ◌++◌, ◌-◌, ◌∙◌, [], true, false, length, refl, sym, Ok, Result, Bool, ℕ}
use Rattle.faxrows_lib.proofs.RowsInTurn.{ended_badly, ended_well}
use Rattle.faxrows_lib.proofs.Names.{Option, ap, subst, DecodeError, ReadsNext, AppendsFront, damage_lines, line_of_damage}
use Rattle.faxrows_lib.proofs.Names.{line_of_miss, PassesOn, rows_of}
use Rattle.faxrows_lib.proofs.{Outputs.front_following, Outputs.passes_both, RowsInTurn.Came, RowsInTurn.came}
use Rattle.faxrows_lib.proofs.{damage.put_damage.Given.Over, damage.put_damage.Goals.After-put_last_row}
use Rattle.faxrows_lib.proofs.{damage.put_damage.Goals.After-put_missed}
use Rattle.faxrows_lib.proofs.DamageTexts.{damage_more, damage_so_far, failed_there, front_of_damage, front_so_far, miss_reported}
use Rattle.faxrows_lib.proofs.DamageTexts.{unended_before}
use Rattle.faxrows_lib.proofs.damage.put_damage.Goals as goal

-- the line of the EOL that is missed after the last row
miss : (g : Over) (c : After-put_missed g)
    → damage_so_far c.args.rows.now.settings c.args.rows.now.bits c.loop-rows.rows.taken
    ++ line_of_miss (c.rows_read-read.result - 1) c.missed_eol.result
    ≡ damage_lines c.args.rows.now.settings c.args.rows.now.bits c.loop-rows.rows.taken
miss g c =
    let so_far = damage_so_far c.args.rows.now.settings c.args.rows.now.bits c.loop-rows.rows.taken in
    ap (λ (n : ℕ). so_far ++ line_of_miss (n - 1) c.missed_eol.result) c.rows_read-read.ensures
    ∙ ap (λ (m : Option ℕ). so_far ++ line_of_miss (c.loop-rows.rows.taken - 1) m) c.missed_eol.ensures
    ∙ miss_reported c.args.rows.now.settings c.args.rows.now.bits c.loop-rows.rows c.next_row-answer.new.self
    c.next_row-answer.result c.loop-rows.invariant.settings c.loop-rows.invariant.bits c.next_row-answer.ensures.reads

-- with it the lines of these rows came
rows_came : (g : Over) (c : After-put_missed g)
    → PassesOn (g.W.Write.contents c.loop-rows.writer.0) (g.W.Write.contents c.put_missed.new.writer.0) c.loop-rows.waiting.items
    (line_of_miss (c.rows_read-read.result - 1) c.missed_eol.result) c.put_missed.new.waiting.items
    → PassesOn (g.W.Write.contents c.args.writer.now.0) (g.W.Write.contents c.put_missed.new.writer.0) []
    (damage_lines c.args.rows.now.settings c.args.rows.now.bits c.loop-rows.rows.taken) c.put_missed.new.waiting.items
rows_came g c put =
    subst (λ l. PassesOn (g.W.Write.contents c.args.writer.now.0) (g.W.Write.contents c.put_missed.new.writer.0) [] l
    c.put_missed.new.waiting.items) (miss g c)
    (passes_both _ _ _ [] _ c.loop-rows.waiting.items _ c.put_missed.new.waiting.items c.loop-rows.invariant.lines put)

-- a row was read
reads : (g : Over) (c : After-put_last_row g) → ReadsNext c.loop-rows.rows c.next_row-answer.new.self (Ok true)
reads g c =
    subst (λ (r : Result Bool DecodeError). ReadsNext c.loop-rows.rows c.next_row-answer.new.self r)
    (c.in-Ok-true.is ∙ ap Ok c.in-Ok-true.field-0-test) c.next_row-answer.ensures.reads

-- it is the next one
next_row_came : (g : Over) (c : After-put_last_row g)
    → Came c.args.rows.now.settings c.args.rows.now.bits c.loop-rows.rows.taken c.next_row-answer.new.self
next_row_came g c =
    came c.args.rows.now.settings c.args.rows.now.bits c.loop-rows.rows c.next_row-answer.new.self c.loop-rows.invariant.settings
    c.loop-rows.invariant.bits (reads g c)

-- its line is that of its damage
line_of_damage_put : (g : Over) (c : After-put_last_row g) → damage_lines c.args.rows.now.settings c.args.rows.now.bits
    c.loop-rows.rows.taken ++ line_of_damage (c.next_row-answer.new.self.taken - 1) c.next_row-answer.new.self.line_start
    c.next_row-answer.new.self.damage c.next_row-answer.new.self.cut
    ≡ damage_so_far c.args.rows.now.settings c.args.rows.now.bits c.next_row-answer.new.self.taken
line_of_damage_put g c =
    damage_more c.args.rows.now.settings c.args.rows.now.bits c.loop-rows.rows c.next_row-answer.new.self
    c.loop-rows.invariant.settings c.loop-rows.invariant.bits (reads g c)

pub loop-rows-preserved : goal.loop-rows-preserved
loop-rows-preserved g c =
    let at = (goal.at.loop-rows-preserved g c).After-put_last_row in
    let before = (goal.at.loop-rows-preserved g c).After-put_missed in
    let row = next_row_came g at in
    record {
      settings = row.settings_are;
      bits = row.bits_are;
      within = row.within;
      lines =
          subst (λ l. PassesOn (g.W.Write.contents c.args.writer.now.0) (g.W.Write.contents c.put_last_row.new.writer.0) [] l
          c.put_last_row.new.waiting.items) (line_of_damage_put g at)
          (passes_both _ _ _ [] _ c.put_missed.new.waiting.items _ c.put_last_row.new.waiting.items
          (rows_came g before c.in_ok-put_missed.ensures.ok)
          c.in_ok-put_last_row-in-Ok-true.ensures.ok);
      flag = search rules;
      unfailed = λ error is. let never = sym ((reads g at).more refl).0 ∙ is in cc;
    }

pub returns-in_err-put_missed-clause-front : goal.returns-in_err-put_missed-clause-front
returns-in_err-put_missed-clause-front g c =
    let at = (goal.at.returns-in_err-put_missed-clause-front g c).After-put_missed in
    let settings = c.args.rows.now.settings in
    let bits = c.args.rows.now.bits in
    let all = length (rows_of settings bits) in
    let so_far : AppendsFront (g.W.Write.contents c.args.writer.now.0) (g.W.Write.contents c.put_missed.new.writer.0)
    (damage_lines settings bits c.loop-rows.rows.taken)
    = subst (AppendsFront (g.W.Write.contents c.args.writer.now.0) (g.W.Write.contents c.put_missed.new.writer.0)) (miss g at)
    (front_following _ _ _ [] _ c.loop-rows.waiting.items _ c.loop-rows.invariant.lines c.in_err-put_missed.ensures.front) in
    let front : AppendsFront (g.W.Write.contents c.args.writer.now.0) (g.W.Write.contents c.put_missed.new.writer.0)
    (damage_lines settings bits all)
    = front_of_damage _ _ settings bits c.loop-rows.rows.taken all c.loop-rows.invariant.within so_far in
    search rules

pub returns-in-Ok-false-clause-lines : goal.returns-in-Ok-false-clause-lines
returns-in-Ok-false-clause-lines g c =
    let at = (goal.at.returns-in-Ok-false-clause-lines g c).After-put_missed in
    let none : c.next_row-answer.result ≡ Ok false = c.in-Ok-false.is ∙ ap Ok c.in-Ok-false.field-0-test in
    let same = (c.next_row-answer.ensures.reads.end none).1 in
    subst (λ (n : ℕ). PassesOn (g.W.Write.contents c.args.writer.now.0) (g.W.Write.contents c.put_missed.new.writer.0) []
    (damage_lines c.args.rows.now.settings c.args.rows.now.bits n) c.put_missed.new.waiting.items) (sym same)
    (rows_came g at c.in_ok-put_missed.ensures.ok)

pub returns-in-Err-clause-lines : goal.returns-in-Err-clause-lines
returns-in-Err-clause-lines g c =
    let at = (goal.at.returns-in-Err-clause-lines g c).After-put_missed in
    let reads = subst (λ (r : Result Bool DecodeError). ReadsNext c.loop-rows.rows c.next_row-answer.new.self r) c.in-Err.is
    c.next_row-answer.ensures.reads in
    subst (λ (n : ℕ). PassesOn (g.W.Write.contents c.args.writer.now.0) (g.W.Write.contents c.put_missed.new.writer.0) []
    (damage_lines c.args.rows.now.settings c.args.rows.now.bits n) c.put_missed.new.waiting.items) (sym reads.error.1)
    (rows_came g at c.in_ok-put_missed.ensures.ok)

pub returns-in-Err-clause-fails : goal.returns-in-Err-clause-fails
returns-in-Err-clause-fails g c =
    let old = c.loop-rows.rows in
    let unended = unended_before old.end c.in-Err.error c.next_row-answer.result c.in-Err.is c.loop-rows.invariant.unfailed
    (λ end is. (c.next_row-answer.ensures.ended end is).1) in
    failed_there old c.next_row-answer.new.self c.in-Err.error
    (subst (λ (r : Result Bool DecodeError). ReadsNext old c.next_row-answer.new.self r) c.in-Err.is
    c.next_row-answer.ensures.reads) unended

pub returns-in_err-put_last_row-in-Ok-true-clause-front : goal.returns-in_err-put_last_row-in-Ok-true-clause-front
returns-in_err-put_last_row-in-Ok-true-clause-front g c =
    let at = (goal.at.returns-in_err-put_last_row-in-Ok-true-clause-front g c).After-put_last_row in
    let before = (goal.at.returns-in_err-put_last_row-in-Ok-true-clause-front g c).After-put_missed in
    let settings = c.args.rows.now.settings in
    let bits = c.args.rows.now.bits in
    let all = length (rows_of settings bits) in
    let taken = c.next_row-answer.new.self.taken in
    let so_far : AppendsFront (g.W.Write.contents c.args.writer.now.0) (g.W.Write.contents c.put_last_row.new.writer.0)
    (damage_so_far settings bits taken)
    = subst (AppendsFront (g.W.Write.contents c.args.writer.now.0) (g.W.Write.contents c.put_last_row.new.writer.0))
    (line_of_damage_put g at) (front_following _ _ _ [] _ c.put_missed.new.waiting.items _
    (rows_came g before c.in_ok-put_missed.ensures.ok) c.in_err-put_last_row-in-Ok-true.ensures.front) in
    let front : AppendsFront (g.W.Write.contents c.args.writer.now.0) (g.W.Write.contents c.put_last_row.new.writer.0)
    (damage_lines settings bits all) = front_so_far _ _ settings bits taken all (next_row_came g at).within so_far in
    search rules

pub returns-in-Ok-false-clause-ends : goal.returns-in-Ok-false-clause-ends
returns-in-Ok-false-clause-ends g c =
    let reads = subst (λ (r : Result Bool DecodeError). ReadsNext c.loop-rows.rows c.next_row-answer.new.self r)
    (c.in-Ok-false.is ∙ ap Ok c.in-Ok-false.field-0-test) c.next_row-answer.ensures.reads in
    ended_well _ _ _ _ _ c.loop-rows.invariant.settings c.loop-rows.invariant.bits reads c.bytes_read.ensures

pub returns-in-Err-clause-ends : goal.returns-in-Err-clause-ends
returns-in-Err-clause-ends g c =
    let reads = subst (λ (r : Result Bool DecodeError). ReadsNext c.loop-rows.rows c.next_row-answer.new.self r) c.in-Err.is
    c.next_row-answer.ensures.reads in
    ended_badly _ _ _ _ _ c.loop-rows.invariant.settings c.loop-rows.invariant.bits c.loop-rows.invariant.within reads
