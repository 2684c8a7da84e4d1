use Rattle.std.specs.Io.KnownBytes.{Appends}
use Rattle.std.proofs.KnownBytes.{Appends-trans}
use Rattle.std.proofs.Common.{sym, subst}
use Rattle.fax_documents.proofs.LaidOut.{laid_more}
use Rattle.fax_documents.proofs.tiff.put_strips.Goals as goal

pub strips-preserved : goal.strips-preserved
strips-preserved g c =
    subst (Appends (g.W.Write.contents c.args.out.now) (g.W.Write.contents c.put_strip.new.out))
    (sym (laid_more c.args.strips.now c.strips.strip-index _ c.strips-test.true))
    (Appends-trans _ _ _ _ _ c.strips.invariant c.in_ok-put_strip.ensures.written)
