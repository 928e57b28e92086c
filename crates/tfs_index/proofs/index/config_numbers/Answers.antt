-- Each step appends the next number.
use Rattle.std.proofs.Common.{◌≡◌, ◌∙◌, ◌+◌, ◌++◌, ◌∷◌, [], ℕ, List, Some, take, slice_get, sym, ap}
use Rattle.std.proofs.lemmas.Option.{get_or_from_slice_get, slice_get_within}
use Rattle.std.proofs.lemmas.List.{take_more}
use Rattle.tfs_index.proofs.index.config_numbers.Goals as goal

-- Appending the number at index v to the first v numbers gives the first v + 1 numbers.
numbers_more : (configs old new : List ℕ) (v number : ℕ) → new ≡ old ++ number ∷ [] → old ≡ take v configs → slice_get configs v ≡ Some number →
    new ≡ take (v + 1) configs
numbers_more configs old new v number pushed so_far at =
    pushed ∙ ap (λ (xs : List ℕ). xs ++ number ∷ []) so_far
    ∙ ap (λ y. take v configs ++ y ∷ []) (sym (get_or_from_slice_get configs v number 0 at))
    ∙ sym (take_more configs v 0 (slice_get_within configs v number at))

pub loop-v-preserved : goal.loop-v-preserved
loop-v-preserved c =
    numbers_more c.args.numbers.now.configs c.loop-v.list.items c.push.new.self.items c.loop-v.v c.config.result c.in_ok-push.ensures.items c.loop-v.invariant
    c.config.ensures.value
