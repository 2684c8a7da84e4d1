use Rattle.std.proofs.Common.{◌≡◌, length, ◌∙◌, rules}
use Rattle.hayro_ccitt_c.specs.Encoding.{asked}
use Rattle.hayro_ccitt_c.proofs.Encoded.{bits_have_no_room, bits_are_there}
use Rattle.hayro_ccitt_c.proofs.SpreadRows.{asked_together}
use Rattle.hayro_ccitt_c.proofs.fax_encode_bitmap.Goals as goal

pub returns-then-length-data-clause-refused : goal.returns-then-length-data-clause-refused
returns-then-length-data-clause-refused c = λ five.
    let long : c.len-length.result ≡ length c.in-Ok.bytes.items = search rules in
    bits_have_no_room
    (asked c.args.settings.now c.args.bitmap.now) _ _ c.in-Ok.bytes.items _ _ c.in-Ok.ensures.encoded long c.if-length-data.true

pub returns-clause-encoded : goal.returns-clause-encoded
returns-clause-encoded c = λ zero.
    let long : c.len-length.result ≡ length c.in-Ok.bytes.items = search rules in
    bits_are_there (asked c.args.settings.now c.args.bitmap.now) _ _ c.in-Ok.bytes.items _ _ _ c.in-Ok.ensures.encoded long
    (c.copy_from_slice.ensures.after ∙ c.as_slice.ensures.value)

pub returns-in-Err-NotTaken-clause-together : goal.returns-in-Err-NotTaken-clause-together
returns-in-Err-NotTaken-clause-together c = asked_together c.args.settings.now c.args.bitmap.now

pub returns-in-Err-OutOfMemory-clause-together : goal.returns-in-Err-OutOfMemory-clause-together
returns-in-Err-OutOfMemory-clause-together c = asked_together c.args.settings.now c.args.bitmap.now

pub returns-then-length-data-clause-together : goal.returns-then-length-data-clause-together
returns-then-length-data-clause-together c = asked_together c.args.settings.now c.args.bitmap.now

pub returns-clause-together : goal.returns-clause-together
returns-clause-together c = asked_together c.args.settings.now c.args.bitmap.now
