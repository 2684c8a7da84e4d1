use Rattle.std.proofs.Common.{rules}
use Rattle.fax_pages.proofs.pdf_pages.PdfPages.next_page.Goals as goal

pub returns-clause-page : goal.returns-clause-page
returns-clause-page c = (c.in-Some.image, search rules, (search rules, search rules), search rules)
