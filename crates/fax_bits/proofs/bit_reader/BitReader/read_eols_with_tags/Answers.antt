use Rattle.fax_bits.proofs.Names.{◌≡◌, ℕ, ◌+◌, ◌*◌, ◌<◌, length, arith, here, common_steps}
use Rattle.fax_bits.proofs.BitReading.TaggedEols.{one_eol_read, tagged_stepped, tagged_looks}
use Rattle.fax_bits.proofs.BitReading.ConsecutiveEols.{after_eol_shorter, past_tag_shorter}
use Rattle.fax_bits.proofs.bit_reader.BitReader.read_eols_with_tags.Goals as goal

pub eols-preserved : goal.eols-preserved
eols-preserved c = let now = here c.eols.self in
    let after = here c.read_eols.new.self in
    let some : 0 < c.read_eols.result = omega (arith, c.if-read_eols-eq0.false) in
    let read = one_eol_read now after c.read_eols.result c.read_eols.ensures.eols in
    let one = read.0 some in
    let passed = rw one.1 at c.read_eols.ensures.ticks in
    let ticks : c.read_eols.new.ticks + length after ≡ c.eols.ticks + length now = omega (arith, passed) in
    let most : ℕ = c.args.ticks.now + 2 * length (here c.args.self.now) in
    let rest = here c.pass_tag.new.self in
    grind (
      arith,
      common_steps,
      tagged_looks now after rest c.eols.ticks c.read_eols.new.ticks c.pass_tag.new.ticks most one.0,
      tagged_stepped (length (here c.args.self.now)) c.eols.count (here c.args.self.now) now after rest c.eols.invariant.2,
    )

pub eols-smaller : goal.eols-smaller
eols-smaller c = grind (arith, common_steps, after_eol_shorter, one_eol_read, past_tag_shorter)
