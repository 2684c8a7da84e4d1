use Rattle.hayro_ccitt.proofs.Names.{◌++◌, sym, here, tag_of}
use Rattle.fax_conforms.proofs.WordsPaid.{no_eol_stands}
use Rattle.fax_conforms.proofs.EolsHere.{one_eol}
use Rattle.fax_conforms.proofs.pictures.after_tagged_eol.Goals as goal

pub returns-else-pass_closing_tag-clause-none : goal.returns-else-pass_closing_tag-clause-none
returns-else-pass_closing_tag-clause-none c = λ rest stands. c.pass_closing_tag.ensures.none c.if-pass_closing_tag.false rest
    (sym (one_eol (here c.args.reader.now) (tag_of c.args.encoding ++ rest)
    (here c.in-Some.after) stands c.in-Some.ensures.found))

pub returns-in-None-clause-none : goal.returns-in-None-clause-none
returns-in-None-clause-none c = λ rest stands. c.in-None.ensures.none (tag_of c.args.encoding ++ rest) stands

pub returns-then-pass_closing_tag-clause-no_eol : goal.returns-then-pass_closing_tag-clause-no_eol
returns-then-pass_closing_tag-clause-no_eol c = λ none.
    absurd (no_eol_stands (here c.args.reader.now) (here c.in-Some.after) none c.in-Some.ensures.found)

pub returns-else-pass_closing_tag-clause-no_eol : goal.returns-else-pass_closing_tag-clause-no_eol
returns-else-pass_closing_tag-clause-no_eol c = λ none.
    absurd (no_eol_stands (here c.args.reader.now) (here c.in-Some.after) none c.in-Some.ensures.found)
