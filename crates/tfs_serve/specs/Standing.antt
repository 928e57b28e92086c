-- The positions of accepted changes in the journal that a run leaves.
use Rattle.std.specs.Prelude.{◌≡◌, ◌+◌, ℕ, All, List, ◌∷◌, ◌++◌, length, Some}
use Rattle.tfs_rules.specs.Act.{ActValue}
use Rattle.tfs_records.specs.Journal.{Journal, EntryValue}
use Rattle.tfs_calls.specs.Draft.{act_of}
use Rattle.tfs_calls.specs.Reply.{done}
use Rattle.tfs_calls.specs.declared.call.Call.{Call}
use Rattle.tfs_calls.specs.declared.call.Call.TheVariants.{Change}
use Rattle.tfs_calls.specs.declared.call.Raw.{Raw}
use Rattle.tfs_serve.specs.Working.{Answer}

-- The journal has the entry at this position: the base's position plus the number of entries up to
-- and including it.
pub record StandsAt (j : Journal) (e : EntryValue) (position : ℕ) : Type 0 where
  pub front : List EntryValue
  pub rest : List EntryValue
  pub parts : j.entries ≡ front ++ e ∷ rest
  pub position_is : position ≡ j.base.position + length front + 1

-- The call is a change whose act is in the journal at this position.
pub record IsAcceptedAt (last : Journal) (call : Call) (position : ℕ) : Type 0 where
  pub name : List ℕ
  pub raw : Raw
  pub act : ActValue
  pub asked : call ≡ Change name raw
  pub read : act_of raw ≡ Some act
  pub stands : StandsAt last (record { name = name; act = act }) position

-- Each accepted change is in the journal at the position that its reply reports.
abbrev pub AcceptedStand : Journal → List Answer → Type 0
AcceptedStand last = All (λ a. (position : ℕ) → a.reply ≡ done position → IsAcceptedAt last a.call position)
