-- There are as many gates as were counted, and they have heard of nothing.
use Rattle.std.proofs.Common.{◌≡◌, All, [], length}
use Rattle.tfs_serve.specs.Heard.{events_of}
use Rattle.tfs_server.proofs.folder_runs.gates_of.Given as goal

abbrev pub invariant-loop-made : goal.invariant-loop-made
invariant-loop-made g l = (length l.gates.items ≡ l._made) × All (λ gate. events_of gate.heard ≡ []) l.gates.items
