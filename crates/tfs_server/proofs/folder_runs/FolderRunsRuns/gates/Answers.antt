-- The events of a new gate are known: none.
use Rattle.std.proofs.Common.{◌≡◌, Some, [], ap}
use Rattle.std.proofs.lemmas.List.Elements.{All-map}
use Rattle.tfs_server.proofs.folder_runs.FolderRunsRuns.gates.Goals as goal

pub returns-in-Ok-clause-heard : goal.returns-in-Ok-clause-heard
returns-in-Ok-clause-heard g c =
    All-map (λ told. told ≡ Some []) _ c.in-Ok.gates.items (λ k d inside. ap Some (c.in-Ok.ensures.new k d inside))
