-- The lock text: the bytes that are the text of lock information, and the first fault of any
-- others. (Terraform, state locking and the http backend: the body of a lock request is a JSON
-- object whose `ID` names the lock.)
use Rattle.std.specs.Prelude.{◌≡◌, ℕ, ◌≤◌, List, [], ◌∷◌, length, codes, if◌then◌else◌, nat_lt, is_none, IsSome, Option, Some, None, option_and_then, option_map}
use Rattle.std.specs.Option.{option_map_or}
use Rattle.serde_json.specs.Data.{Data}
use Rattle.serde_json.specs.Find.{as_object}
use Rattle.tfs_json.specs.Json.{json_value, text_at}
use Rattle.tfs_lock.specs.Id.{IsIdText}
use Rattle.tfs_lock.specs.LockInfo.{LockInformation}
use Rattle.tfs_lock.specs.declared.fault.LockFault.{LockFault}
use Rattle.tfs_lock.specs.declared.fault.LockFault.TheVariants.{NotJson, NotObject, NoId, TooLong}

-- The text at the member `ID`, with its escapes decoded.
abbrev pub id_of : Data → Option (List ℕ)
id_of = text_at (codes "ID")

-- The value is an object with this identifier.
pub record GivesId (value : Data) (id : List ℕ) : Type 0 where
  pub object : IsSome (as_object value)
  pub given : id_of value ≡ Some id
  pub valid : IsIdText id

-- The bytes are the JSON text of an object with this identifier.
abbrev pub SpellsId : List ℕ → List ℕ → Type 0
SpellsId bytes id = (value : Data) × (json_value bytes ≡ Some value) × GivesId value id

-- The bytes are the text of the lock information.
pub record SpellsLockInfo (bytes : List ℕ) (info : LockInformation) : Type 0 where
  pub size : length bytes ≤ 65536
  pub kept : info.bytes ≡ bytes
  pub given : SpellsId bytes info.id

-- The fault of the member `ID`: it isn't a text, or the text is empty or too long.
abbrev pub id_fault : Option (List ℕ) → Option LockFault
id_fault None = Some NoId
id_fault (Some []) = Some NoId
id_fault (Some (byte ∷ bytes)) = if nat_lt 256 (length (byte ∷ bytes)) then Some TooLong else None

-- The first fault of a value. Whether it is an object is checked before its `ID`.
abbrev pub first_value_fault : Data → Option LockFault
first_value_fault value = if is_none (as_object value) then Some NotObject else id_fault (id_of value)

-- The first fault of the bytes as a JSON text.
abbrev pub first_text_fault : List ℕ → Option LockFault
first_text_fault bytes = option_map_or first_value_fault (json_value bytes) (Some NotJson)

-- The first fault of the bytes, or None. Their number is checked before their content.
abbrev pub first_lock_fault : List ℕ → Option LockFault
first_lock_fault bytes = if nat_lt 65536 (length bytes) then Some TooLong else first_text_fault bytes

-- The lock information of the bytes, if they are its text: `SpellsLockInfo` as a function.
abbrev pub lock_info_of : List ℕ → Option LockInformation
lock_info_of bytes = if is_none (first_lock_fault bytes)
    then option_map (λ id. record { bytes = bytes; id = id }) (option_and_then id_of (json_value bytes)) else None
