-- The state text: the bytes that are the text of a state document, and the first fault of any
-- others.
use Rattle.std.specs.Prelude.{◌≡◌, ℕ, ◌≤◌, List, [], length, codes, if◌then◌else◌, nat_eq, nat_le, Option, Some, None, option_and_then, option_map}
use Rattle.std.specs.Prelude.{Result, Ok, Err}
use Rattle.std.specs.Option.{option_eq, unwrap_or, ok_or}
use Rattle.std.specs.Result.{result_ok, result_err}
use Rattle.serde_json.specs.Data.{Data}
use Rattle.tfs_json.specs.Json.{json_value, text_at, whole_number_at, list_at}
use Rattle.tfs_state.specs.Document.{Instance, Document}
use Rattle.tfs_state.specs.Resources.{filled_text, result_and_then, result_map, read_resources}
use Rattle.tfs_state.specs.declared.fault.StateFault.{StateFault}
use Rattle.tfs_state.specs.declared.fault.StateFault.TheVariants.{NotJson, Version, Serial, Lineage, Resource, TooManyInstances}

-- The version of the format.
abbrev pub version_of : Data → Option ℕ
version_of = whole_number_at (codes "version")

-- The number of times that the state was written.
abbrev pub serial_of : Data → Option ℕ
serial_of = whole_number_at (codes "serial")

-- The name of the state's history, which isn't empty.
abbrev pub lineage_of : Data → Option (List ℕ)
lineage_of value = option_and_then filled_text (text_at (codes "lineage") value)

-- The instances, if there are at most 4,096.
abbrev pub few_instances : List Instance → Result (List Instance) StateFault
few_instances instances = if nat_le (length instances) 4096 then Ok instances else Err TooManyInstances

-- All instances of a state's value, or the first fault of its resources. The number of instances is
-- checked last.
unfoldable pub instances_of : Data → Result (List Instance) StateFault
instances_of value = result_and_then few_instances
    (result_and_then read_resources (ok_or (list_at (codes "resources") value) (Resource 0)))

-- The content of a state's value.
pub record Content : Type 0 where
  pub serial : ℕ
  pub lineage : List ℕ
  pub instances : List Instance

-- The content of a value, or its first fault. The version is checked first, then the serial, the
-- lineage and the resources. A value that isn't an object has no version.
unfoldable pub content_of : Data → Result Content StateFault
content_of value = if option_eq nat_eq (version_of value) (Some 4)
    then result_and_then (λ serial.
    result_and_then (λ lineage.
    result_map (λ instances. record { serial = serial; lineage = lineage; instances = instances })
    (instances_of value))
    (ok_or (lineage_of value) Lineage))
    (ok_or (serial_of value) Serial)
    else Err Version

-- The content of a text, or its first fault.
abbrev pub text_content : List ℕ → Result Content StateFault
text_content bytes = result_and_then content_of (ok_or (json_value bytes) NotJson)

-- The document of a text with this content.
abbrev pub document_with : List ℕ → Content → Document
document_with bytes content =
    record { bytes = bytes; serial = content.serial; lineage = content.lineage; instances = content.instances }

-- The value is a state with the document's serial, lineage and instances.
pub record Describes (value : Data) (d : Document) : Type 0 where
  pub version : version_of value ≡ Some 4
  pub serial : serial_of value ≡ Some d.serial
  pub lineage : lineage_of value ≡ Some d.lineage
  pub instances : instances_of value ≡ Ok d.instances

-- The bytes are the text of the document.
pub record SpellsDocument (bytes : List ℕ) (d : Document) : Type 0 where
  pub size : length bytes ≤ 16777216
  pub kept : d.bytes ≡ bytes
  pub described : (value : Data) × (json_value bytes ≡ Some value) × Describes value d

-- The first fault of the bytes, or None.
abbrev pub first_state_fault : List ℕ → Option StateFault
first_state_fault bytes = result_err (text_content bytes)

-- The document of the bytes, if they are the text of one: `SpellsDocument` as a function.
abbrev pub document_of : List ℕ → Option Document
document_of bytes = if nat_le (length bytes) 16777216
    then option_map (document_with bytes) (result_ok (text_content bytes)) else None

-- The document of the bytes, if they are the text of one; otherwise a document with these bytes and
-- no other content.
abbrev pub document_given : List ℕ → Document
document_given bytes = unwrap_or (document_of bytes) (record { bytes = bytes; serial = 0; lineage = []; instances = [] })
