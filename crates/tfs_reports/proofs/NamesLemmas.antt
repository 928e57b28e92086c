-- Lemmas about the names of the listed workspaces.
use Rattle.std.proofs.Common.{◌≡◌, ℕ, ◌+◌, ◌<◌, List, [], ◌∷◌, ◌++◌, length, take, filter, Bool, get_or, ap, sym, ◌∙◌}
use Rattle.std.specs.List.{slice_get}
use Rattle.std.specs.Option.{option_to_list}
use Rattle.std.proofs.lemmas.List.{take_more}
use Rattle.std.proofs.lemmas.List.Elements.{filter-append}
use Rattle.std.proofs.lemmas.Option.{slice_get-get_or}

-- The listed names among the first names, and one more.
pub listed_more : (is : List ℕ → Bool) (names : List (List ℕ)) (i : ℕ) → i < length names
    → filter is (take (i + 1) names) ≡ filter is (take i names) ++ filter is (option_to_list (slice_get names i))
listed_more is names i less =
    ap (filter is) (take_more names i [] less)
    ∙ filter-append is (take i names) (get_or names i [] ∷ [])
    ∙ ap (λ o. filter is (take i names) ++ filter is (option_to_list o)) (sym (slice_get-get_or names i [] less))
