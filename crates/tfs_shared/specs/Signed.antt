-- The makers of the changes that sessions have seen.
use Rattle.std.specs.Prelude.{◌≡◌, ◌+◌, ℕ, All, List, [], ◌∷◌, ◌++◌, length}
use mathlib.Core.List.{IsPrefix}
use Rattle.tfs_records.specs.Journal.{Journal, position_of}
use Rattle.tfs_state.specs.Document.{Document}
use Rattle.tfs_calls.specs.Reply.{ReplyValue, done, state, impact, refused}
use Rattle.tfs_shared.specs.View.{SessionView}

-- The maker of the change that a reply reports as accepted, if it reports one.
abbrev pub makers_told : ℕ → ReplyValue → List ℕ
makers_told number (done position) = number ∷ []
makers_told number (state d) = []
makers_told number (impact d chosen position) = []
makers_told number (refused refusal) = []

-- A session has advanced: the changes that it has seen then begin with those it had seen and end
-- with changes by the makers `last`, and each has one position beyond the opening one.
pub record IsSigned (opening : Journal) (old new : SessionView) (last : List ℕ) : Type 0 where
  pub number : new.number ≡ old.number
  pub before : List ℕ
  pub fresh : IsPrefix old.makers before
  pub made : new.makers ≡ before ++ last
  pub counted : position_of new.journal ≡ position_of opening + length new.makers

-- The changes of the last journal beyond the opening one have makers, and the makers of the changes
-- that each session has seen are a prefix of these.
pub record AreSigned (opening last : Journal) (sessions : List SessionView) : Type 0 where
  pub makers : List ℕ
  pub counted : position_of last ≡ position_of opening + length makers
  pub seen : All (λ (s : SessionView). IsPrefix s.makers makers) sessions
