-- What the changes of a plan do to instances of the state.
use Rattle.std.specs.Prelude.{ℕ, List, Bool, true, false, not, ◌&&◌, slice_get}
use Rattle.std.specs.Option.{option_map_or}
use Rattle.tfs_plan.specs.Plan.{ChangeValue}
use Rattle.tfs_plan.specs.declared.action.Action.{Action}
use Rattle.tfs_plan.specs.declared.action.Action.TheVariants.{NoOp, Create, Read, Update, Delete, Replace, Forget}
use Rattle.tfs_plan.specs.declared.effect.Effect.{Effect}
use Rattle.tfs_plan.specs.declared.effect.Effect.TheVariants as effects

-- True if an action takes the instance away.
abbrev pub is_removal : Action → Bool
is_removal NoOp = false
is_removal Create = false
is_removal Read = false
is_removal Update = false
is_removal Delete = true
is_removal Replace = true
is_removal Forget = true

-- True if an action is an update.
abbrev pub is_update : Action → Bool
is_update NoOp = false
is_update Create = false
is_update Read = false
is_update Update = true
is_update Delete = false
is_update Replace = false
is_update Forget = false

-- True if an action is a creation.
abbrev pub is_creation : Action → Bool
is_creation NoOp = false
is_creation Create = true
is_creation Read = false
is_creation Update = false
is_creation Delete = false
is_creation Replace = false
is_creation Forget = false

-- True if an action has an effect.
abbrev pub has_action : Effect → Action → Bool
has_action effects.Removal action = is_removal action
has_action effects.Update action = is_update action
has_action effects.Creation action = is_creation action

-- True if a change has an effect: it is not that of a deposed object, nor an update of ignored
-- attributes alone.
abbrev pub has_effect : Effect → ChangeValue → Bool
has_effect effect c = not c.deposed && (not c.ignored && has_action effect c.action)

-- True if there is a change at an index, and it has an effect.
abbrev pub has_effect_at : Effect → List ChangeValue → ℕ → Bool
has_effect_at effect changes i = option_map_or (has_effect effect) (slice_get changes i) false
