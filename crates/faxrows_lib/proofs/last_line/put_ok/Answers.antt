use Rattle.faxrows_lib.proofs.Names.{◌≡◌, ℕ, ◌+◌, ◌-◌, ◌≤◌, List, [], ◌∷◌, ◌++◌, length, drop, set, ap, ◌∙◌, arith, rules}
use Rattle.faxrows_lib.proofs.Names.{drop_of_length-le, drop-set, drop-set_at, decimal}
use Rattle.faxrows_lib.proofs.last_line.put_ok.Goals as goal

-- three bytes written before a position
three_before : (bytes : List ℕ) (place a b c : ℕ) → 3 ≤ place → place ≤ length bytes
    → drop (place - 3) (set (set (set bytes (place - 1) c) (place - 2) b) (place - 3) a) ≡ a ∷ b ∷ c ∷ drop place bytes
three_before bytes place a b c room within =
    let first = set bytes (place - 1) c in
    let second = set first (place - 2) b in
    let long : length second ≡ length bytes = search rules in
    let same : place - 1 + 1 ≡ place = omega arith in
    drop-set second (place - 3) a (omega arith)
    ∙ ap (λ l. a ∷ l) (drop-set_at first (place - 2) (place - 3 + 1) b (omega arith) (search rules))
    ∙ ap (λ l. a ∷ b ∷ l) (drop-set_at bytes (place - 1) (place - 2 + 1) c (omega arith) (omega arith))
    ∙ ap (λ n. a ∷ b ∷ c ∷ drop n bytes) same

-- the last byte of a line, written
last_byte : (bytes : List ℕ) (byte : ℕ) → length bytes ≡ 24 → drop 23 (set bytes 23 byte) ≡ byte ∷ []
last_byte bytes byte long =
    drop-set bytes 23 byte (omega arith) ∙ ap (λ l. byte ∷ l) (drop_of_length-le bytes {i = 24} (omega arith))

pub returns-clause-line : goal.returns-clause-line
returns-clause-line c =
    three_before c.put_decimal-digits.new.bytes c.put_decimal-digits.result 111 107 32 (omega arith) (omega arith)
    ∙ ap (λ l. 111 ∷ 107 ∷ 32 ∷ l)
    (c.put_decimal-digits.ensures.digits ∙ ap (λ l. decimal c.args.count ++ l) (last_byte c.args.line.now 10 c.told-line))
