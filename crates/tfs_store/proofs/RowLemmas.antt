-- Lemmas about specs/Rows.antt.
use Rattle.std.proofs.Common.{◌≡◌, ℕ, ◌+◌, ◌<◌, List, [], ◌∷◌, ◌++◌, length, take, get_or, sym, ap, subst, ◌∙◌}
use Rattle.std.specs.List.{AllZip}
use Rattle.std.proofs.lemmas.List.{take_more}
use Rattle.tfs_store.specs.Values.{RowValue}
use Rattle.tfs_store.specs.Rows.{PairValue, SpellsRow}

-- One more pair of related elements.
zip_push : {A B : Type 0} (R : A → B → Type 0) (xs : List A) (ys : List B) (x : A) (y : B) → AllZip R xs ys → R x y
    → AllZip R (xs ++ x ∷ []) (ys ++ y ∷ [])
zip_push R [] [] x y p r = (r, tt)
zip_push R [] (z ∷ ys) x y p r = absurd p
zip_push R (z ∷ xs) [] x y p r = absurd p
zip_push R (z ∷ xs) (w ∷ ys) x y p r = (p.0, zip_push R xs ys x y p.1 r)

-- One more row is read.
pub rows_more : (prefix : List ℕ) (pairs : List PairValue) (k : ℕ) (pair : PairValue) (rows : List RowValue) (row : RowValue) → k < length pairs
    → pair ≡ get_or pairs k pair → AllZip (SpellsRow prefix) (take k pairs) rows → SpellsRow prefix pair row
    → AllZip (SpellsRow prefix) (take (k + 1) pairs) (rows ++ row ∷ [])
rows_more prefix pairs k pair rows row below is before here =
    let longer : take (k + 1) pairs ≡ take k pairs ++ pair ∷ [] =
    take_more pairs k pair below ∙ ap (λ (p : PairValue). take k pairs ++ p ∷ []) (sym is) in
    subst (λ (ps : List PairValue). AllZip (SpellsRow prefix) ps (rows ++ row ∷ [])) (sym longer)
    (zip_push (SpellsRow prefix) (take k pairs) rows pair row before here)
