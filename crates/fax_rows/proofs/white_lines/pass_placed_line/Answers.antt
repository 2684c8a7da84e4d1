use Rattle.fax_rows.proofs.Names.{BitsAt, inl, inr}
use Rattle.fax_bits.specs.Window.{PassesPlaced, WordsAt}
use Rattle.fax_bits.specs.declared.bit_reader.PlacedBits.{PlacedBits}
use Rattle.fax_rows.specs.WhiteLines.{IsPlacedLine, PassesLine}
use Rattle.fax_rows.specs.declared.white_lines.WhiteLines.{WhiteLines}
use Rattle.fax_rows.proofs.white_lines.pass_placed_line.Goals as goal

-- placed bits that are passed are a line
placed_line_passed : {words : WordsAt} {lines : WhiteLines} {placed : PlacedBits} {next : BitsAt}
    → IsPlacedLine words.order lines placed
    → PassesPlaced placed words next → PassesLine lines words.at next
placed_line_passed is passed =
    let said = passed is.word.count is.word.bits is.are in
    record {
      word = is.word;
      one = is.one;
      some = is.some;
      there = said.0;
      within = said.1;
      moved_on = said.2;
    }

pub returns-clause-passed : goal.returns-clause-passed
returns-clause-passed c lines e are = elim (c.pass_either.ensures.passed e) [
  | inl first ↦ placed_line_passed {words = c.args.words.now} are.first first
  | inr second ↦ placed_line_passed {words = c.args.words.now} are.second second
]
