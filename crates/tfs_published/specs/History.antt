-- The rule of the history's word, and what its steps find.
use Rattle.std.specs.Prelude.{ℕ, ◌≡◌, ◌==◌, true, List, [], ◌∷◌, ◌++◌, length, MatchBool}
use Rattle.logbook.specs.Pages.{Cell, Step, View, Book, Named}
use Rattle.tfs_published.specs.Change.{ChangeValue}

-- The first word is the length of the history. A book has two words; the second stays 0, since this
-- history doesn't use it.
abbrev pub IsCounted : List Cell → List ChangeValue → Type 0
IsCounted cells log = cells ≡ (length log, true) ∷ (0, true) ∷ []

-- The word of a book that has the length of its history.
abbrev pub head_of : Book → Named
head_of b = record { tracked = true; key = 0; book = b }

-- The change was appended to all changes seen before; or the history was longer, and the step found
-- its length.
abbrev pub Adds : Step ChangeValue → View ChangeValue ℕ → ℕ → View ChangeValue ℕ → Type 0
Adds s v found w = MatchBool (found == s.old) (w.0 ≡ v.0 ++ s.ask ∷ []) (length w.0 ≡ found)
