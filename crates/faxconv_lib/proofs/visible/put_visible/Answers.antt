use Rattle.std.proofs.Common.{flat_map, sym, ap, ◌∙◌, ◌++◌, map-id}
use Rattle.std.specs.Prelude.{string_bytes}
use Rattle.std.proofs.lemmas.Iterator.{YieldsList-from_chars}
use Rattle.std.proofs.lemmas.Iterator.Consumers.{YieldsList-end}
use Rattle.faxconv_lib.specs.Visible.{visible_char}
use Rattle.faxconv_lib.proofs.visible.put_visible.Goals as goal

pub returns : goal.returns
returns c =
    let all = YieldsList-from_chars c.args.name.now c.utf8.name cc in
    let end = YieldsList-end all c.loop-c.yielded _ c.loop-c.yielded_by _ _ c.in-None.is c.next.ensures.steps in
    c.loop-c.invariant
    ∙ ap (λ cs. string_bytes c.args.text.now ++ flat_map visible_char cs) (sym (map-id c.loop-c.yielded) ∙ end.0)
