-- No fault of a lock text is NoMemory.
use Rattle.std.proofs.Common.{◌≢◌, ℕ, Bool, true, false, nat_lt, cond, List, [], ◌∷◌, length, Option, Some, None, IfSome, refl, subst}
use Rattle.std.specs.Prelude.{is_none}
use Rattle.std.specs.Option.{option_map_or}
use Rattle.serde_json.specs.Data.{Data}
use Rattle.serde_json.specs.Find.{as_object}
use Rattle.tfs_json.specs.Json.{json_value}
use Rattle.tfs_lock.specs.LockText.{id_of, id_fault, first_value_fault, first_lock_fault}
use Rattle.tfs_lock.specs.declared.fault.LockFault.{LockFault}
use Rattle.tfs_lock.specs.declared.fault.LockFault.TheVariants.{NotJson, NotObject, TooLong, NoMemory}

-- The fault isn't NoMemory.
abbrev IsOfText : LockFault → Type 0
IsOfText fault = fault ≢ NoMemory

-- The fault of the text at `ID`, if there is one, isn't NoMemory.
id_faults : (o : Option (List ℕ)) → IfSome (id_fault o) IsOfText
id_faults None = λ e. cc
id_faults (Some []) = λ e. cc
id_faults (Some (byte ∷ bytes)) = by (nat_lt 256 (length (byte ∷ bytes)))
  where
    by : (b : Bool) → IfSome (cond b (Some TooLong) None) IsOfText
    by true = λ e. cc
    by false = tt

-- The first fault of a value, if there is one, isn't NoMemory.
value_faults : (value : Data) → IfSome (first_value_fault value) IsOfText
value_faults value = by (is_none (as_object value))
  where
    by : (b : Bool) → IfSome (cond b (Some NotObject) (id_fault (id_of value))) IsOfText
    by true = λ e. cc
    by false = id_faults (id_of value)

-- The first fault of bytes, if there is one, isn't NoMemory.
lock_faults : (bytes : List ℕ) → IfSome (first_lock_fault bytes) IsOfText
lock_faults bytes = by (nat_lt 65536 (length bytes)) (json_value bytes)
  where
    by : (b : Bool) (o : Option Data)
        → IfSome (cond b (Some TooLong) (option_map_or first_value_fault o (Some NotJson))) IsOfText
    by true o = λ e. cc
    by false None = λ e. cc
    by false (Some value) = value_faults value

-- The first fault of a lock text isn't NoMemory.
pub fault_of_text : (bytes : List ℕ) → first_lock_fault bytes ≢ Some NoMemory
fault_of_text bytes is = subst (λ (o : Option LockFault). IfSome o IsOfText) is (lock_faults bytes) refl
