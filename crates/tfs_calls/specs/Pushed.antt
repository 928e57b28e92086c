-- The document that an act pushes.
use Rattle.std.specs.Prelude.{Option, Some, None}
use Rattle.tfs_state.specs.Document.{Document}
use Rattle.tfs_rules.specs.Act.{ActValue, lock, unlock, push, delete}

-- The document of a push; none for any other act.
abbrev pub pushed_by : ActValue → Option Document
pushed_by (lock info) = None
pushed_by (unlock id) = None
pushed_by (push id d) = Some d
pushed_by (delete id) = None

-- The act is a push.
abbrev pub IsPush : ActValue → Type 0
IsPush (lock info) = ⊥
IsPush (unlock id) = ⊥
IsPush (push id d) = Unit {0}
IsPush (delete id) = ⊥
