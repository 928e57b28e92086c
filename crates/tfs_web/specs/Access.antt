-- What an access file lets users read.
use Rattle.std.specs.Prelude.{ℕ, ◌≤◌, ◌==◌, ◌||◌, Bool, true, List, ◌++◌, codes, length, Any, IsTrue}
use Rattle.std.specs.List.{list_all}
use Rattle.std.specs.Char.{is_ascii_alphanumeric}
use Rattle.regex.specs.Patterns.{Re}
use Rattle.regex.specs.Sets.{matches_of}
use Rattle.regex.specs.Strings.{set_patterns, set_matcher_patterns}
use Rattle.tfs_web.specs.declared.access.Access.{Access}
use Rattle.tfs_web.specs.declared.access.UserReader.{UserReader}

-- An ASCII letter, a digit, or one of `._@+-`.
abbrev pub is_user_byte : ℕ → Bool
is_user_byte byte = is_ascii_alphanumeric byte
    || (byte == 46 || (byte == 95 || (byte == 64 || (byte == 43 || byte == 45))))

-- The name of a user: 1 to 64 such bytes.
pub record IsUser (text : List ℕ) : Type 0 where
  pub filled : 1 ≤ length text
  pub short : length text ≤ 64
  pub clean : IsTrue (list_all is_user_byte text)

-- The text that the patterns of an access file are matched with, USER:METHOD:NAME, for a read.
abbrev pub subject_of : List ℕ → List ℕ → List ℕ
subject_of user name = user ++ (codes ":GET:" ++ name)

-- A user may read a workspace: one of the patterns matches.
abbrev pub MayRead : List Re → List ℕ → List ℕ → Type 0
MayRead patterns user name = Any IsTrue (matches_of true patterns (subject_of user name) 0)

-- The patterns of an access file.
abbrev pub patterns_of : Access → List Re
patterns_of access = set_patterns access.patterns

-- The patterns that let a user read, and the user's name.
abbrev pub reads_by : UserReader → List Re
reads_by reader = set_matcher_patterns reader.matcher

abbrev pub user_of : UserReader → List ℕ
user_of reader = reader.user.now
