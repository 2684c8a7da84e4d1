use Rattle.fax_encode.proofs.DamageReachesKRows.{damage_reaches_k_rows as the_lemma}
use Rattle.fax_encode.proofs.laws.damage_reaches_k_rows.Goals as goal

pub returns : goal.returns
returns c = the_lemma
