-- The instances beyond a plan that its changes reach.
use Rattle.std.specs.Prelude.{ℕ, List, Bool, not, ◌&&◌, ◌==◌}
use Rattle.std.specs.List.{list_any}
use Rattle.tfs_state.specs.Document.{Document}
use Rattle.tfs_index.specs.Reach.{reaches}

-- True if a change of any of the first instances reaches instance u, which isn't among the others.
abbrev pub is_beyond : Document → List ℕ → List ℕ → ℕ → Bool
is_beyond d starts others u = list_any (λ v. reaches d v u) starts && not (list_any (λ v. v == u) others)
