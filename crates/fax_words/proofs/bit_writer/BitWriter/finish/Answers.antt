use Rattle.fax_words.proofs.Names.{refl}
use Rattle.fax_words.proofs.WrittenBits.{finished}
use Rattle.fax_words.proofs.bit_writer.BitWriter.finish.Goals as goal

pub returns : goal.returns
returns c = rw (← c.self.view_is) (finished c.self.inside.bytes.items c.push_whole_bytes.new.bytes.items c.self.inside.pending
    c.self.inside.room c.in_ok-push_whole_bytes.field-0 _ c.self.invariant.2 refl c.in_ok-push_whole_bytes.ensures.few
    c.in_ok-push_whole_bytes.ensures.whole c.in_ok-push_whole_bytes.ensures.written)
