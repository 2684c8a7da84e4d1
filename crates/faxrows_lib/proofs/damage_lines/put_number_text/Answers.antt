use Rattle.faxrows_lib.proofs.Names.{◌≡◌, ◌++◌, ◌∷◌, ◌∙◌, [], List, ℕ, length, drop, set, ap, arith, drop_of_length-le, drop-set}
use Rattle.faxrows_lib.proofs.Names.{decimal}
use Rattle.faxrows_lib.proofs.damage_lines.put_number_text.Goals as goal

-- the sign at the end of the room
last_sign : (bytes : List ℕ) (sign : ℕ) → length bytes ≡ 21 → drop 20 (set bytes 20 sign) ≡ sign ∷ []
last_sign bytes sign long = drop-set bytes 20 sign (omega arith) ∙ ap (λ l. sign ∷ l) (drop_of_length-le bytes {i = 21}
    (omega arith))

pub returns-clause-text : goal.returns-clause-text
returns-clause-text c =
    c.put_decimal.ensures.digits ∙ ap (λ l. decimal c.args.number ++ l) (last_sign c.args.text.now c.args.sign c.told-text)
