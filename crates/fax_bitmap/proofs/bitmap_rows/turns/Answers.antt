use Rattle.fax_bitmap.proofs.ScannedWords.{turns_of}
use Rattle.fax_bitmap.proofs.bitmap_rows.turns.Goals as goal

pub returns : goal.returns
returns c = turns_of c.args.before c.args.word c.ranges.word.fits
