use Rattle.hayro_ccitt.proofs.Names.{◌++◌, here, tag_of}
use Rattle.fax_conforms.proofs.WordsPaid.{no_eol_stands}
use Rattle.fax_conforms.proofs.procedure.after_plain_tagged_eol.Goals as goal

pub returns-in-None-clause-none : goal.returns-in-None-clause-none
returns-in-None-clause-none c = λ rest stands. c.in-None.ensures.none (tag_of c.args.encoding ++ rest) stands

pub returns-then-pass_closing_tag-clause-no_eol : goal.returns-then-pass_closing_tag-clause-no_eol
returns-then-pass_closing_tag-clause-no_eol c = λ none.
    absurd (no_eol_stands (here c.args.reader.now) (here c.in-Some.after) none (0, c.in-Some.ensures.found))

pub returns-else-pass_closing_tag-clause-no_eol : goal.returns-else-pass_closing_tag-clause-no_eol
returns-else-pass_closing_tag-clause-no_eol c = λ none.
    absurd (no_eol_stands (here c.args.reader.now) (here c.in-Some.after) none (0, c.in-Some.ensures.found))
