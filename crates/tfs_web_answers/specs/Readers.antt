-- Who may read what.
use Rattle.std.specs.Prelude.{ℕ, List, Option, Some, None}
use Rattle.regex.specs.Patterns.{Re}
use Rattle.tfs_web.specs.Access.{MayRead, reads_by, user_of}
use Rattle.tfs_web_answers.specs.declared.readers.Reader.{Reader}
use Rattle.tfs_web_answers.specs.declared.readers.Reader.TheVariants as readers

-- The patterns of an access file, and the user's name; none for everyone.
abbrev pub Rights : Type 0
Rights = Option (List Re × List ℕ)

-- The rights of a reader.
abbrev pub rights_of : Reader → Rights
rights_of readers.Everyone = None
rights_of (readers.User user) = Some (reads_by user, user_of user)

-- A reader with these rights may read a workspace.
abbrev pub Reads : Rights → List ℕ → Type 0
Reads None name = Unit {0}
Reads (Some rights) name = MayRead rights.0 rights.1 name
