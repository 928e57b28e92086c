-- Lemmas about specs/Requests.antt.
use Rattle.std.proofs.Common.{◌≡◌, ℕ, ◌+◌, ◌<◌, List, [], ◌∷◌, ◌++◌, length, take, get_or, sym, ap, ◌∙◌}
use Rattle.std.specs.List.{flat_map}
use Rattle.std.proofs.lemmas.List.{take_more, flat_map_more}
use Rattle.tfs_etcd.specs.Requests.{later_operation}
use Rattle.tfs_store.specs.Rows.{PairValue}

-- One more put is appended.
pub puts_more : (first : List ℕ) (more : List PairValue) (k : ℕ) (x : PairValue) (old new : List ℕ) → k < length more → new ≡ old ++ later_operation x
    → x ≡ get_or more k x → old ≡ first ++ flat_map later_operation (take k more) → new ≡ first ++ flat_map later_operation (take (k + 1) more)
puts_more first more k x old new below one is before =
    one ∙ ap (λ (text : List ℕ). text ++ later_operation x) before ∙ flat_map_more later_operation first (take k more) x
    ∙ ap (λ (puts : List PairValue). first ++ flat_map later_operation puts)
    (sym (take_more more k x below ∙ ap (λ (p : PairValue). take k more ++ p ∷ []) (sym is)))
