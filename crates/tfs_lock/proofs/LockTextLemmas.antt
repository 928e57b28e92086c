-- Laws of specs/LockText.antt.
use Rattle.std.proofs.Common.{◌≡◌, ℕ, ◌≤◌, List, [], ◌∷◌, length, true, false, cond, is_none, nat_lt, Option, Some, None, refl, arith}
use Rattle.std.specs.Option.{option_map_or}
use Rattle.std.proofs.lemmas.Bool.{ltb-false}
use Rattle.serde_json.specs.Data.{Data}
use Rattle.tfs_json.specs.Json.{json_value}
use Rattle.serde_json.specs.Find.{as_object}
use Rattle.tfs_lock.specs.Id.{IsIdText}
use Rattle.tfs_lock.specs.LockInfo.{LockInformation}
use Rattle.tfs_lock.specs.LockText.{id_of, GivesId, SpellsLockInfo, id_fault, first_value_fault, first_lock_fault}
use Rattle.tfs_lock.specs.declared.fault.LockFault.{LockFault}
use Rattle.tfs_lock.specs.declared.fault.LockFault.TheVariants.{NotJson, NotObject, TooLong}

-- If the test of a count against its limit gives no fault, the count is within the limit.
within_limit : (limit count : ℕ) (rest : Option LockFault) → cond (nat_lt limit count) (Some TooLong) rest ≡ None
    → (count ≤ limit) × (rest ≡ None)
within_limit limit count rest e =
    elim (nat_lt limit count) as (λ b. nat_lt limit count ≡ b → cond b (Some TooLong) rest ≡ None → (count ≤ limit) × (rest ≡ None))
    [ true ↦ λ _ f. cc | false ↦ λ within f. (ltb-false limit count within, f) ] refl e

-- A text at `ID` without a fault is an identifier.
id_without_fault : (text : Option (List ℕ)) → id_fault text ≡ None → (id : List ℕ) × (text ≡ Some id) × IsIdText id
id_without_fault None e = cc
id_without_fault (Some []) e = cc
id_without_fault (Some (x ∷ xs)) e =
    (x ∷ xs, refl, record { filled = omega arith; short = (within_limit 256 (length (x ∷ xs)) None e).0 })

-- A value without a fault gives an identifier.
given_without_fault : (value : Data) → first_value_fault value ≡ None → (id : List ℕ) × GivesId value id
given_without_fault value e =
    elim (as_object value) as (λ o. as_object value ≡ o → cond (is_none o) (Some NotObject) (id_fault (id_of value)) ≡ None
    → (id : List ℕ) × GivesId value id) [
      | None ↦ λ _ f. cc
      | Some _ ↦ λ object f. let found = id_without_fault (id_of value) f in
          (found.0, record { object = rw object refl; given = found.1; valid = found.2 })
    ] refl e

-- Bytes without a fault spell lock information.
pub spelled_without_fault : (bytes : List ℕ) → first_lock_fault bytes ≡ None → (info : LockInformation) × SpellsLockInfo bytes info
spelled_without_fault bytes e =
    let within = within_limit 65536 (length bytes) (option_map_or first_value_fault (json_value bytes) (Some NotJson)) e in
    elim (json_value bytes) as (λ o. json_value bytes ≡ o → option_map_or first_value_fault o (Some NotJson) ≡ None
    → (info : LockInformation) × SpellsLockInfo bytes info) [
      | None ↦ λ _ f. cc
      | Some value ↦ λ json f. let found = given_without_fault value f in
          (record { bytes = bytes; id = found.0 }, record { size = within.0; kept = refl; given = (value, json, found.1) })
    ] refl within.1
