-- Strips one behind the other.
use Rattle.std.specs.Prelude.{◌≡◌, ◌+◌, ◌<◌, ℕ, List, [], ◌∷◌, ◌++◌, length, map, take, Option, Result, OnOk}
use Rattle.std.specs.Borrow.{Bor}
use Rattle.std.proofs.Common.{◌∙◌, ap, get_or, subst}
use Rattle.std.proofs.lemmas.List.{append-nil, map-append, take_more}
use Rattle.std.proofs.lemmas.List.Concat.{flat_map-append}
use Rattle.fax_documents.specs.Tiff.{AppendsPage, even_bytes, laid_out}

-- one element more
pub map_more : {A : Type 0} (f : A → List ℕ) (xs : List A) (i : ℕ) (d : A) → i < length xs
    → map f (take (i + 1) xs) ≡ map f (take i xs) ++ f (get_or xs i d) ∷ []
map_more f xs i d within =
    ap (λ (some : List _). map f some) (take_more xs i d within) ∙ map-append f (take i xs) (get_or xs i d ∷ [])

-- one strip more
pub laid_more : (strips : List (Bor (List ℕ))) (i : ℕ) (d : Bor (List ℕ)) → i < length strips
    → laid_out (map (λ (strip : Bor (List ℕ)). strip.now) (take (i + 1) strips))
    ≡ laid_out (map (λ (strip : Bor (List ℕ)). strip.now) (take i strips)) ++ even_bytes (get_or strips i d).now
laid_more strips i d within =
    let bytes : List (List ℕ) = map (λ (strip : Bor (List ℕ)). strip.now) (take i strips) in
    let last : List ℕ = (get_or strips i d).now in
    ap (λ (some : List (List ℕ)). laid_out some) (map_more (λ (strip : Bor (List ℕ)). strip.now) strips i d within)
    ∙ flat_map-append even_bytes bytes (last ∷ [])
    ∙ ap (λ (rest : List ℕ). laid_out bytes ++ rest) (append-nil (even_bytes last))

-- a page of the same strips
pub same_page : {T E : Type 0} (r : Result T E) (old new : Option (List ℕ)) (strips others : List (List ℕ)) → strips ≡ others
    → OnOk r (AppendsPage old new strips) → OnOk r (AppendsPage old new others)
same_page r old new strips others same written = subst (λ (it : List (List ℕ)). OnOk r (AppendsPage old new it)) same written
