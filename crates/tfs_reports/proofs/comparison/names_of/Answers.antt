-- A list's JSON value follows from its elements'.
use Rattle.std.proofs.Common.{ap, ◌∙◌}
use Rattle.serde_json.specs.Data.{array}
use Rattle.serde_json.specs.View.{items_of}
use Rattle.serde_json.proofs.Views.{view-Array}
use Rattle.tfs_reports.proofs.comparison.names_of.Goals as goal

pub returns : goal.returns
returns c = view-Array c.in_ok-names.names ∙ ap (λ names. array (items_of names)) c.in_ok-names.ensures
