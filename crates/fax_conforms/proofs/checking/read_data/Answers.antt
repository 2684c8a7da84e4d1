use Rattle.hayro_ccitt.proofs.Names.{ap, subst, Bits, BitsAt, OnOk, IfErr, here}
use Rattle.fax_conforms.specs.Conforming.{Conforms}
use Rattle.fax_conforms.specs.Stops.{EndsInPicture, IsBroken}
use Rattle.fax_conforms.proofs.checking.read_data.Goals as goal

pub returns-clause-stands : goal.returns-clause-stands
returns-clause-stands c = subst (λ (bits : Bits). OnOk c.read_picture-read.result (Conforms c.args.settings bits))
    (ap here c.reader_of-reader.ensures) c.read_picture-read.ensures.stands

pub returns-clause-none : goal.returns-clause-none
returns-clause-none c = subst (λ (bits : Bits). IfErr c.read_picture-read.result (λ e. IsBroken e
    → Conforms c.args.settings bits → ⊥)) (ap here c.reader_of-reader.ensures) c.read_picture-read.ensures.none

pub returns-clause-at : goal.returns-clause-at
returns-clause-at c = subst (λ (r : BitsAt). IfErr c.read_picture-read.result (EndsInPicture c.args.settings r.bits))
    c.reader_of-reader.ensures c.read_picture-read.ensures.at
