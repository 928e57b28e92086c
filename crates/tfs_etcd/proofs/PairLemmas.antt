-- Lemmas about specs/Pairs.antt.
use Rattle.std.proofs.Common.{◌≡◌, ℕ, ◌+◌, ◌<◌, List, [], ◌∷◌, ◌++◌, length, map, take, get_or, sym, ap, subst, ◌∙◌}
use Rattle.std.specs.List.{AllZip}
use Rattle.std.proofs.lemmas.List.{take_more, map-append}
use Rattle.serde_json.specs.Data.{Data}
use Rattle.tfs_json.specs.Tree.{Tree, tree_view}
use Rattle.tfs_state.proofs.ListLemmas.{zip_push}
use Rattle.tfs_store.specs.Rows.{PairValue}
use Rattle.tfs_etcd.specs.Pairs.{IsPair}

-- One more pair is read.
pub pairs_more : (found : List Tree) (k : ℕ) (member : Tree) (pairs : List PairValue) (pair : PairValue) → k < length found
    → member ≡ get_or found k member → AllZip IsPair (map tree_view (take k found)) pairs → IsPair (tree_view member) pair
    → AllZip IsPair (map tree_view (take (k + 1) found)) (pairs ++ pair ∷ [])
pairs_more found k member pairs pair below is before here =
    let longer : map tree_view (take (k + 1) found) ≡ map tree_view (take k found) ++ tree_view member ∷ [] =
    ap (map tree_view) (take_more found k member below ∙ ap (λ (t : Tree). take k found ++ t ∷ []) (sym is))
    ∙ map-append tree_view (take k found) (member ∷ []) in
    subst (λ (ms : List Data). AllZip IsPair ms (pairs ++ pair ∷ [])) (sym longer)
    (zip_push IsPair (map tree_view (take k found)) pairs (tree_view member) pair before here)
