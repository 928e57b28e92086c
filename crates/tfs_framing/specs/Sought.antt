-- The search for the end of a head.
use Rattle.std.specs.Prelude.{◌≡◌, ℕ, ◌<◌, ◌≤◌, List, ◌∷◌, ◌++◌, length}
use Rattle.httparse.specs.Ascii.{line_feed}
use Rattle.httparse.specs.Grammar.{LineEnd, print_blank}
use Rattle.tfs_framing.specs.Head.{StartsWithEmptyLine}
use Rattle.tfs_framing.specs.declared.head.Search.{Search}

-- No line feed among the first `passed` bytes is followed by an empty line.
abbrev pub HasNoEndIn : ℕ → List ℕ → Type 0
HasNoEndIn passed bytes = (before after : List ℕ) → bytes ≡ before ++ line_feed ∷ after → length before < passed → ¬ (StartsWithEmptyLine after)

-- The same holds whatever bytes follow.
abbrev pub HasNoEndYet : ℕ → List ℕ → Type 0
HasNoEndYet passed bytes = (more : List ℕ) → HasNoEndIn passed (bytes ++ more)

-- Empty lines and a text, searched up to `search`.
pub record IsSought (bytes : List ℕ) (search : Search) : Type 0 where
  pub lines : List LineEnd
  pub text : List ℕ
  pub parts : bytes ≡ print_blank lines ++ text
  pub skipped_is : search.skipped ≡ length (print_blank lines)
  pub short : search.skipped ≤ 16384
  pub none : HasNoEndYet search.passed text
