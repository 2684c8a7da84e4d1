-- What a writer took of texts that come one after another.
use Rattle.faxrows_lib.proofs.Names.{◌≡◌, ◌<◌, ◌+◌, ℕ, List, [], ◌∷◌, ◌++◌, Option, length, take, drop, get_or, sym, ap, subst}
use Rattle.faxrows_lib.proofs.Names.{◌∙◌}
use Rattle.faxrows_lib.proofs.Names.{append_assoc, append-nil, take-append-drop, flat_map, take_more, flat_map-append}
use Rattle.faxrows_lib.proofs.Names.{Appends, Appends-trans, AppendsFront, PassesOn, line_of_row, text_of_change}
use Rattle.faxrows_lib.proofs.Names.{Bool, Err, Ok, PutsText, Result, RunFault, Write, on_err_weaker, on_ok_weaker, true, used}

-- a text after what was written and what waits
regrouped : (waited text front waits more : List ℕ) → waited ++ text ≡ front ++ waits → waited ++ (text ++ more) ≡ front
    ++ (waits ++ more)
regrouped waited text front waits more e = sym (append_assoc waited text more) ∙ ap (λ l. l ++ more) e
    ∙ append_assoc front waits more

-- two texts that came one after the other are one
pub passes_both : (a b c : Option (List ℕ)) (waited text waits more last : List ℕ)
    → PassesOn a b waited text waits → PassesOn b c waits more last → PassesOn a c waited (text ++ more) last
passes_both a b c waited text waits more last p q = (
  p.0 ++ q.0,
  Appends-trans a b c p.0 q.0 p.1 q.1,
  regrouped waited text p.0 waits more p.2 ∙ ap (λ l. p.0 ++ l) q.2 ∙ sym (append_assoc p.0 q.0 last),
)

-- after a text a front of what waits and of the next one was written
pub front_following : (a b c : Option (List ℕ)) (waited text waits more : List ℕ)
    → PassesOn a b waited text waits → AppendsFront b c (waits ++ more) → AppendsFront a c (waited ++ (text ++ more))
front_following a b c waited text waits more p q = (
  p.0 ++ q.0,
  q.1,
  Appends-trans a b c p.0 q.0 p.1 q.2,
  regrouped waited text p.0 waits more p.2 ∙ ap (λ l. p.0 ++ l) q.3 ∙ sym (append_assoc p.0 q.0 q.1),
)

-- a front of a text is one of a longer text
pub front_of_more : (a b : Option (List ℕ)) (text more : List ℕ) → AppendsFront a b text → AppendsFront a b (text ++ more)
front_of_more a b text more p = (p.0, p.1 ++ more, p.2, ap (λ l. l ++ more) p.3 ∙ append_assoc p.0 p.1 more)

-- and of a text to which more is added
pub front_of_longer : (a b : Option (List ℕ)) (waited text more : List ℕ) → AppendsFront a b (waited ++ text)
    → AppendsFront a b (waited ++ (text ++ more))
front_of_longer a b waited text more p = subst (AppendsFront a b) (append_assoc waited text more) (front_of_more a b
    (waited ++ text) more p)

-- ---- Calls that put texts

module _ {W : Type 0} {contents : W → Option (List ℕ)} {begun now : W × Bool} {waits : List ℕ} where
  -- what waited was written
  pub flushed : {waited : List ℕ} → Appends (contents begun.0) (contents now.0) waited → waits ≡ [] → now.1 ≡ begun.1
      → PutsText [] waited waits (used contents begun now) (Ok tt)
  flushed {waited} appends none same = record {
    ok = (waited, appends, ap (λ l. waited ++ l) (sym none));
    front = tt;
    fails = record { flag = same; failed = tt; only = tt };
  }

  -- a text was written while nothing waited
  pub written : (text : List ℕ) → Appends (contents begun.0) (contents now.0) text → waits ≡ [] → now.1 ≡ begun.1
      → PutsText text [] waits (used contents begun now) (Ok tt)
  written text appends none same = record {
    ok = (text, appends, sym (append-nil text) ∙ ap (λ l. text ++ l) (sym none));
    front = tt;
    fails = record { flag = same; failed = tt; only = tt };
  }

  -- a text couldn't be written
  pub unwritten : {waited : List ℕ} (text : List ℕ) (result : Result (Unit {0}) RunFault) (fault : RunFault) → result ≡ Err fault
      → AppendsFront (contents begun.0) (contents now.0) (waited ++ text) → now.1 ≡ true → fault ≡ Write
      → PutsText text waited waits (used contents begun now) result
  unwritten {waited} text result fault is front failed only =
      subst (PutsText text waited waits (used contents begun now)) (sym is)
      (record { ok = tt; front = front; fails = record { flag = tt; failed = failed; only = only } })

module _ {W : Type 0} {contents : W → Option (List ℕ)} {begun mid now : W × Bool} {text waited waits more last : List ℕ} where
  -- a text was put, and then another
  pub puts_then : {result : Result (Unit {0}) RunFault} → PutsText text waited waits (used contents begun mid) (Ok tt)
      → PutsText more waits last (used contents mid now) result
      → PutsText (text ++ more) waited last (used contents begun now) result
  puts_then {result} first next = record {
    ok = on_ok_weaker result
        (passes_both (contents begun.0) (contents mid.0) (contents now.0) waited text waits more last first.ok) next.ok;
    front = on_err_weaker result
        (front_following (contents begun.0) (contents mid.0) (contents now.0) waited text waits more first.ok) next.front;
    fails = record {
      flag = on_ok_weaker result (λ same. same ∙ first.fails.flag) next.fails.flag;
      failed = next.fails.failed;
      only = next.fails.only;
    };
  }

module _ {W : Type 0} {contents : W → Option (List ℕ)} {begun now : W × Bool} {text waited waits last : List ℕ} where
  -- a text couldn't be put, so that another doesn't follow it
  pub puts_neither : (more : List ℕ) (result : Result (Unit {0}) RunFault) (fault : RunFault) → result ≡ Err fault
      → PutsText text waited waits (used contents begun now) (Err fault)
      → PutsText (text ++ more) waited last (used contents begun now) result
  puts_neither more result fault is first =
      unwritten (text ++ more) result fault is
      (front_of_longer (contents begun.0) (contents now.0) waited text more first.front) first.fails.failed first.fails.only

-- the pieces up to an index, and the one at it
pub pieces_more : {A : Type 0} (piece : A → List ℕ) (xs : List A) (i : ℕ) (d : A) → i < length xs
    → flat_map piece (take i xs) ++ piece (get_or xs i d) ≡ flat_map piece (take (i + 1) xs)
pieces_more piece xs i d inside =
    ap (λ l. flat_map piece (take i xs) ++ l) (sym (append-nil (piece (get_or xs i d))))
    ∙ sym (flat_map-append piece (take i xs) (get_or xs i d ∷ [])) ∙ ap (flat_map piece) (sym (take_more xs i d inside))

-- the pieces up to an index, and those after it
pub pieces_rest : {A : Type 0} (piece : A → List ℕ) (xs : List A) (n : ℕ) → flat_map piece (take n xs) ++ flat_map piece
    (drop n xs) ≡ flat_map piece xs
pieces_rest piece xs n = sym (flat_map-append piece (take n xs) (drop n xs)) ∙ ap (flat_map piece) (take-append-drop n xs)

-- a row's line is its front up to some changes, and the rest
pub line_rest : (changes : List ℕ) (n : ℕ) → (114 ∷ flat_map text_of_change (take n changes)) ++ (flat_map text_of_change
    (drop n changes) ++ 10 ∷ []) ≡ line_of_row changes
line_rest changes n =
    ap (λ l. 114 ∷ l)
    (sym (append_assoc (flat_map text_of_change (take n changes)) (flat_map text_of_change (drop n changes)) (10 ∷ []))
    ∙ ap (λ l. l ++ 10 ∷ []) (pieces_rest text_of_change changes n))

-- after a text a front of what waits was written
pub front_of_waiting : (a b c : Option (List ℕ)) (waited text waits : List ℕ) → PassesOn a b waited text waits
    → AppendsFront b c waits → AppendsFront a c (waited ++ text)
front_of_waiting a b c waited text waits p q = (
  p.0 ++ q.0,
  q.1,
  Appends-trans a b c p.0 q.0 p.1 q.2,
  p.2 ∙ ap (λ l. p.0 ++ l) q.3 ∙ sym (append_assoc p.0 q.0 q.1),
)

-- after a text that was written a front of the next one was
pub front_after : (a b c : Option (List ℕ)) (text more : List ℕ) → Appends a b text → AppendsFront b c more
    → AppendsFront a c (text ++ more)
front_after a b c text more p q = (
  text ++ q.0,
  q.1,
  Appends-trans a b c text q.0 p q.2,
  ap (λ l. text ++ l) q.3 ∙ sym (append_assoc text q.0 q.1),
)
