-- Results that end early.
use Rattle.hayro_ccitt.proofs.Names.{Result, Ok, Err, IfOk, OnOk, IfErr, Option, Some, None, Bits, DecodeSettings, inl}
use Rattle.std.specs.Prelude.{IfNone}
use Rattle.fax_conforms.specs.Conforming.{Conforms}
use Rattle.fax_conforms.specs.Checks.{StopsIn}
use Rattle.fax_conforms.specs.Stops.{EndsInPicture}
use Rattle.fax_conforms.specs.declared.grades.Grade.{Grade}
use Rattle.fax_conforms.specs.declared.grades.Grade.TheVariants.{Readable, Procedure}
use Rattle.fax_conforms.specs.declared.stops.Stop.{Stop}
use Rattle.fax_conforms.specs.Stops.{IsBroken}

-- whatever the error is
pub if_err : {T : Type 0} (r : Result T Stop) (P : Type 0) → P → IfErr r (λ e. IsBroken e → P)
if_err (Ok x) P p = tt
if_err (Err e) P p = λ broken. p

-- what holds of a value holds by what is known of it
pub if_ok : {T : Type 0} (r : Result T Stop) (P Q : T → Type 0) → IfOk r P → ((x : T) → P x → Q x) → IfOk r Q
if_ok (Ok x) P Q p on = on x p
if_ok (Err e) P Q p on = tt

-- and by two facts
pub if_two : {T : Type 0} (r : Result T Stop) (P Q R : T → Type 0) → IfOk r P → IfOk r Q → ((x : T) → P x → Q x → R x) → IfOk r R
if_two (Ok x) P Q R p q on = on x p q
if_two (Err e) P Q R p q on = tt

-- what holds where a rule is broken
pub if_broken : {T : Type 0} (r : Result T Stop) (P Q : Type 0) → IfErr r (λ e. IsBroken e → P) → (P → Q)
    → IfErr r (λ e. IsBroken e → Q)
if_broken (Ok x) P Q p on = tt
if_broken (Err e) P Q p on = λ broken. on (p broken)

-- what holds where nothing is broken
pub if_done : {T : Type 0} (r : Result T Stop) (P Q : Type 0) → OnOk r P → (P → Q) → OnOk r Q
if_done (Ok x) P Q p on = on p
if_done (Err e) P Q p on = tt

pub if_both : {T : Type 0} (r : Result T Stop) (P Q R : Type 0) → OnOk r P → OnOk r Q → (P → Q → R) → OnOk r R
if_both (Ok x) P Q R p q on = on p q
if_both (Err e) P Q R p q on = tt

-- what is known where nothing is found
pub if_none : {A : Type 0} (o : Option A) (P Q : Type 0) → IfNone o P → (P → Q) → IfNone o Q
if_none (Some x) P Q p on = tt
if_none None P Q p on = on p

-- what ends early in the readable grade, whichever is asked
pub stops_in_grade : (grade : Grade) (settings : DecodeSettings) (bits : Bits) (stop : Stop)
    → (IsBroken stop → Conforms settings bits → ⊥) → EndsInPicture settings bits stop → StopsIn grade settings bits stop
stops_in_grade Readable settings bits (Stop.Violation found) none at = at
stops_in_grade (Procedure k) settings bits (Stop.Violation found) none at = inl (none tt, at)
stops_in_grade grade settings bits Stop.OutOfMemory none at = tt
