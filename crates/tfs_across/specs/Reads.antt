-- The names of the workspaces that a state reads: those in the addresses of its data sources
-- `terraform_remote_state` with the backend `http` (Terraform, 'The terraform_remote_state Data
-- Source').
use Rattle.std.specs.Prelude.{ℕ, Bool, false, ◌&&◌, List, [], codes, if◌then◌else◌, Option, None, option_and_then}
use Rattle.std.specs.List.{flat_map}
use Rattle.std.specs.Option.{option_map_or, option_to_list, unwrap_or}
use Rattle.std.specs.Str.{bytes_eq}
use Rattle.json.specs.Json.{document}
use Rattle.serde_json.specs.Data.{Data}
use Rattle.tfs_json.specs.Json.{text_at, member_at, list_at}
use Rattle.tfs_json.specs.Tree.{tree_data}
use Rattle.tfs_state.specs.Document.{Document}
use Rattle.tfs_across.specs.Address.{name_in}

-- The elements of the list at a member; none if there is no list.
abbrev pub items_at : List ℕ → Data → List Data
items_at name value = unwrap_or (list_at name value) []

-- The member is this text.
abbrev pub has_text : List ℕ → List ℕ → Data → Bool
has_text name text value = option_map_or (λ own. bytes_eq own text) (text_at name value) false

-- The resource is a data source of Terraform's remote states.
abbrev pub is_remote_state : Data → Bool
is_remote_state resource = has_text (codes "mode") (codes "data") resource && has_text (codes "type") (codes "terraform_remote_state") resource

-- The content of a value of any type, which Terraform writes as an object with the members `value`
-- and `type`; another value is its own content.
abbrev pub content_of : Data → Data
content_of value = unwrap_or (member_at (codes "value") value) value

-- The address in the configuration of a backend.
abbrev pub configured_address : Data → Option (List ℕ)
configured_address config = text_at (codes "address") (content_of config)

-- The address that a data source with these attributes reads over the backend `http`.
abbrev pub address_in : Data → Option (List ℕ)
address_in attributes = if has_text (codes "backend") (codes "http") attributes
    then option_and_then configured_address (member_at (codes "config") attributes) else None

-- The address that an instance of a data source reads over the backend `http`.
abbrev pub address_read : Data → Option (List ℕ)
address_read instance = option_and_then address_in (member_at (codes "attributes") instance)

-- The name of the workspace that an instance of a data source reads.
abbrev pub name_read : Data → Option (List ℕ)
name_read instance = option_and_then name_in (address_read instance)

-- The names that the instances of a resource read.
abbrev pub names_of_resource : Data → List (List ℕ)
names_of_resource resource = if is_remote_state resource
    then flat_map (λ instance. option_to_list (name_read instance)) (items_at (codes "instances") resource) else []

-- The names that a state's value reads, in the order of its resources.
abbrev pub names_of_state : Data → List (List ℕ)
names_of_state state = flat_map names_of_resource (items_at (codes "resources") state)

-- The names that a document reads, in the order of its text.
unfoldable pub names_read : Document → List (List ℕ)
names_read d = option_map_or (λ state. names_of_state (tree_data state)) (document d.bytes) []
