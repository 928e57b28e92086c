-- Lemmas about specs/Tables.antt.
use Rattle.std.proofs.Common.{◌≡◌, ℕ, ◌+◌, ◌<◌, List, [], ◌∷◌, ◌++◌, length, map, take, get_or, Some, None, option_map, option_and_then, Ok, Err}
use Rattle.std.proofs.Common.{string_bytes, refl, sym, ap, subst, ◌∙◌, option_copied, append-nil, suc, true, nat_eq, arith}
use Rattle.std.specs.List.{AllZip, slice_get}
use Rattle.std.specs.Option.{ok_or}
use Rattle.std.proofs.lemmas.Bool.{eqb-true}
use Rattle.std.proofs.lemmas.Grind.{flat_map-append}
use Rattle.std.proofs.lemmas.List.{append_assoc}
use Rattle.serde_json.specs.Data.{Data}
use Rattle.tfs_json.specs.Tree.{tree_view as view}
use Rattle.tfs_json.specs.Tree.{Tree as Value}
use Rattle.tfs_addr.specs.Address.{stripped_text, configuration_address, key_of, key_part, deposed_part, module_part, resource_part}
use Rattle.tfs_state.specs.Document.{Instance}
use Rattle.tfs_state.specs.Names.{Extends}
use Rattle.tfs_state.specs.Packed.{ArePacked}
use Rattle.tfs_state.specs.Parts.{instance_view}
use Rattle.tfs_state.specs.Resources.{Own, ResourceMembers, own_of, instance_of, result_and_then, result_map, read_each, read_dependency}
use Rattle.tfs_state.specs.Resources.{instance_members, read_instance, resource_members, resource_of, read_resource, joined}
use Rattle.tfs_state.specs.Tables.{StandsForBare, IsRowOf, StandsFor, ReadsBlock, ReadsDependency, ReadsDependencies, ReadsInstance, AddsInstances}
use Rattle.tfs_state.specs.Tables.{ReadsResource, ReadsResources, Tabulates}
use Rattle.tfs_state.specs.declared.fault.StateFault.{StateFault}
use Rattle.tfs_state.specs.declared.fault.StateFault.TheVariants.{Dependency, Resource, Instance as InstanceFault}
use Rattle.tfs_state.specs.declared.instance.InstanceParts.{InstanceParts}
use Rattle.tfs_state.specs.declared.tables.Block.{Block}
use Rattle.tfs_state.specs.declared.tables.Row.{Row}
use Rattle.tfs_state.specs.declared.tables.Tables.{Tables}
use Rattle.tfs_state.proofs.ListLemmas.{slice_get_longer, slice_get_last, zip_append, zip_push, zip_weaken, zip_map, take_none, take_front, read_more, read_stops}
use Rattle.tfs_state.proofs.NamesLemmas.{extends_more, extends_none, keeps_number}
use Rattle.tfs_state.proofs.PackedLemmas.{no_rows_packed}

-- ---- dependencies

-- A number that represents a text does so in every extended list of texts.
stands_longer : (a b : List (List ℕ)) → Extends a b → (n : ℕ) (text : List ℕ) → StandsForBare a n text → StandsForBare b n text
stands_longer a b p n text s = record { bare = s.bare; stripped = s.stripped; named = keeps_number a b n s.bare p s.named }

-- Numbers that represent texts do so in every extended list of texts.
pub all_stand_longer : (a b : List (List ℕ)) → Extends a b → (ns : List ℕ) (texts : List (List ℕ)) → AllZip (StandsForBare a) ns texts
    → AllZip (StandsForBare b) ns texts
all_stand_longer a b p ns texts s = zip_weaken (StandsForBare a) (StandsForBare b) (stands_longer a b p) ns texts s

-- At the start no dependency is read.
pub no_dependencies : (i j : ℕ) (names : List (List ℕ)) → ReadsDependencies i j [] names names []
unfolding read_each
no_dependencies i j names = record { texts = []; read = refl; grown = extends_none names; stand = tt }

module _ (i j k : ℕ) (values : List Value) (value : Value) (a b : List (List ℕ)) (ns : List ℕ) where
  -- Reading the next dependency extends the dependencies that were read.
  pub dependency_more : (c : List (List ℕ)) (n : ℕ) → k < length values → value ≡ get_or values k value
      → ReadsDependencies i j (map view (take k values)) a b ns → ReadsDependency (view value) b c n
      → ReadsDependencies i j (map view (take (k + 1) values)) a c (ns ++ n ∷ [])
  dependency_more c n h is so_far now = record {
    texts = so_far.texts ++ now.text ∷ [];
    read = read_more (read_dependency i j) view values k value so_far.texts now.text h is so_far.read
        (ap (λ o. ok_or o (Dependency i j k)) now.read);
    grown = extends_more a b c so_far.grown now.grown;
    stand = zip_push (StandsForBare c) ns so_far.texts n now.text (all_stand_longer b c now.grown ns so_far.texts so_far.stand) now.stands;
  }

  -- If a dependency is invalid, the list of dependencies has its fault.
  pub dependency_stops : (fault : StateFault) → k < length values → value ≡ get_or values k value
      → ReadsDependencies i j (map view (take k values)) a b ns → read_dependency i j k (view value) ≡ Err fault
      → read_each (read_dependency i j) 0 (map view values) ≡ Err fault
  dependency_stops fault h is so_far r = read_stops (read_dependency i j) view values k value so_far.texts fault h is so_far.read r

-- ---- instances

-- A row of an instance stays one in every extended list of texts.
row_longer : (a b : List (List ℕ)) → Extends a b → (place : ℕ) (row : Row) (own : Own) → IsRowOf a place row own → IsRowOf b place row own
row_longer a b p place row own s = record {
  block = s.block;
  tail = s.tail;
  dependencies = all_stand_longer a b p row.dependencies.items own.dependencies s.dependencies;
}

-- At the start no instance is added.
pub no_instances : (i place : ℕ) (tables : Tables) → AddsInstances i place [] tables tables
unfolding read_each
no_instances i place tables = record {
  owns = [];
  read = refl;
  grown = extends_none tables.names;
  rows = [];
  stand = tt;
  blocks = refl;
  packed = λ first are. subst (λ rows. ArePacked tables.packed (take 4097 rows)) (sym (append-nil first)) are;
}

module _ (i j place : ℕ) (values : List Value) (value : Value) (old mid : Tables) where
  -- Reading the next instance extends the instances that were added.
  pub instance_more : (new : Tables) (row : Row) → j < length values → value ≡ get_or values j value
      → AddsInstances i place (map view (take j values)) old mid → ReadsInstance i j place (view value) mid.names new.names row
      → new.blocks.items ≡ mid.blocks.items
      → ((rows : List Row) → ArePacked mid.packed rows → ArePacked new.packed (take 4097 (rows ++ row ∷ [])))
      → AddsInstances i place (map view (take (j + 1) values)) old new
  instance_more new row h is so_far now blocks kept = record {
    owns = so_far.owns ++ now.own ∷ [];
    read = read_more (read_instance i) view values j value so_far.owns now.own h is so_far.read now.read;
    grown = extends_more old.names mid.names new.names so_far.grown now.grown;
    rows = so_far.rows ++ row ∷ [];
    stand = zip_push (IsRowOf new.names place) so_far.rows so_far.owns row now.own
        (zip_weaken (IsRowOf mid.names place) (IsRowOf new.names place) (row_longer mid.names new.names now.grown place) so_far.rows so_far.owns so_far.stand)
        now.stands;
    blocks = blocks ∙ so_far.blocks;
    packed = λ first are. subst (ArePacked new.packed)
        (take_front 4097 4097 (first ++ so_far.rows) (row ∷ []) (omega arith) ∙ ap (take 4097) (append_assoc first so_far.rows (row ∷ [])))
        (kept (take 4097 (first ++ so_far.rows)) (so_far.packed first are));
  }

  -- If an instance is invalid, the list of instances has its fault.
  pub instance_stops : (fault : StateFault) → j < length values → value ≡ get_or values j value
      → AddsInstances i place (map view (take j values)) old mid → read_instance i j (view value) ≡ Err fault
      → read_each (read_instance i) 0 (map view values) ≡ Err fault
  instance_stops fault h is so_far r = read_stops (read_instance i) view values j value so_far.owns fault h is so_far.read r

-- An instance is read from its own members and its dependencies.
pub instance_read : (i j place : ℕ) (value : Data) (a b : List (List ℕ)) (parts : InstanceParts) (row : Row)
    → Some (instance_view parts) ≡ instance_members value → ReadsDependencies i j (map view parts.dependencies.now) a b row.dependencies.items
    → row.block ≡ place → string_bytes row.tail ≡ key_part (option_map key_of parts.key) ++ deposed_part (option_copied parts.deposed)
    → ReadsInstance i j place value a b row
instance_read i j place value a b parts row own d at tail = record {
  own = own_of (instance_view parts) d.texts;
  read = ap (λ o. result_and_then (λ members. result_map (own_of members) (read_each (read_dependency i j) 0 members.dependencies)) (ok_or o
      (InstanceFault i j))) (sym own)
      ∙ ap (result_map (own_of (instance_view parts))) d.read;
  grown = d.grown;
  stands = record { block = at; tail = tail; dependencies = d.stand };
}

-- ---- resources

-- A row that represents an instance does so in extended lists of texts and blocks.
stands_for_longer : (a b : List (List ℕ)) (blocks more : List Block) → Extends a b → (row : Row) (u : Instance) → StandsFor a blocks row u
    → StandsFor b (blocks ++ more) row u
stands_for_longer a b blocks more p row u s = record {
  block = s.block;
  placed = slice_get_longer blocks more row.block s.block s.placed;
  front = s.front;
  config = s.config;
  named = keeps_number a b s.block.number (string_bytes s.block.config) p s.named;
  digests = s.digests;
  tail = s.tail;
  dependencies = all_stand_longer a b p row.dependencies.items u.dependencies s.dependencies;
}

-- If a resource has a configuration address, it is valid by its own members.
resource_is : (value : Data) (r : ResourceMembers) (config : List ℕ) → Some r ≡ resource_members value
    → configuration_address r.path r.mode r.kind r.name ≡ Some config → resource_of value ≡ Some r
resource_is value r config own is =
    ap (option_and_then (λ q. option_map (λ _. q) (stripped_text q.path))) (sym own)
    ∙ elim (stripped_text r.path) as (λ o. option_map (λ bare. module_part r.path bare ++ resource_part r.mode r.kind r.name) o ≡ Some config
    → option_map (λ _. r) o ≡ Some r) [
      | Some bare ↦ λ e. refl
      | None ↦ λ e. cc
    ] is

-- A valid resource is read by reading its instances.
resource_read : (i : ℕ) (value : Data) (r : ResourceMembers) (owns : List Own) → resource_of value ≡ Some r
    → read_each (read_instance i) 0 r.instances ≡ Ok owns
    → read_resource i value ≡ Ok (map (instance_of r) owns)
resource_read i value r owns is e =
    ap (λ o. result_and_then (λ q. result_map (map (instance_of q)) (read_each (read_instance i) 0 q.instances)) (ok_or o (Resource i))) is
    ∙ ap (result_map (map (instance_of r))) e

-- A resource without instances adds nothing.
pub resource_without_instances : (i : ℕ) (value : Data) (r : ResourceMembers) (old new : Tables) (block : Block) → Some r ≡ resource_members value
    → ReadsBlock r old.names new.names block → r.instances ≡ [] → new.blocks.items ≡ old.blocks.items → new.packed ≡ old.packed
    → ReadsResource i value old new
unfolding read_each
resource_without_instances i value r old new block own b none blocks packed = record {
  more = [];
  read = resource_read i value r [] (resource_is value r (string_bytes block.config) own b.stands.config) (ap (read_each (read_instance i) 0) none);
  added = λ us h. record {
    rows = h.rows;
    packed = subst (λ p. ArePacked p (take 4097 h.rows)) (sym packed) h.packed;
    stand = subst (AllZip (StandsFor new.names new.blocks.items) h.rows) (sym (append-nil us))
        (zip_weaken (StandsFor old.names old.blocks.items) (StandsFor new.names new.blocks.items)
        (λ row u s. subst (λ bs. StandsFor new.names bs row u) (append-nil old.blocks.items ∙ sym blocks)
        (stands_for_longer old.names new.names old.blocks.items [] b.grown row u s))
        h.rows us h.stand);
  };
}

-- A row of an instance represents the instance if its block is the last one.
row_stands : (r : ResourceMembers) (blocks : List Block) (block : Block) (a b : List (List ℕ)) {old : List (List ℕ)} → ReadsBlock r old a block → Extends a b
    → (row : Row) (own : Own) → IsRowOf b (length blocks) row own → StandsFor b (blocks ++ block ∷ []) row (instance_of r own)
row_stands r blocks block a b is p row own s = record {
  block = block;
  placed = ap (slice_get (blocks ++ block ∷ [])) s.block ∙ slice_get_last blocks block;
  front = is.stands.front;
  config = is.stands.config;
  named = keeps_number a b block.number (string_bytes block.config) p is.stands.named;
  digests = is.stands.digests;
  tail = s.tail;
  dependencies = s.dependencies;
}

-- A resource with instances adds its rows and its block.
pub resource_with_instances : (i place : ℕ) (value : Data) (r : ResourceMembers) (old before after new : Tables) (block : Block)
    → Some r ≡ resource_members value → ReadsBlock r old.names before.names block → before.blocks.items ≡ old.blocks.items → before.packed ≡ old.packed
    → AddsInstances i place r.instances before after → place ≡ length old.blocks.items
    → new.names ≡ after.names → new.packed ≡ after.packed → new.blocks.items ≡ after.blocks.items ++ block ∷ [] → ReadsResource i value old new
resource_with_instances i place value r old before after new block own b same_blocks same_packed is at names packed blocks =
    let stands = StandsFor new.names new.blocks.items in
    let more = map (instance_of r) is.owns in
    let grown : Extends before.names new.names = subst (Extends before.names) (sym names) is.grown in
    let all : old.blocks.items ++ block ∷ [] ≡ new.blocks.items = sym (blocks ∙ ap (λ bs. bs ++ block ∷ []) (is.blocks ∙ same_blocks)) in
    let each : AllZip (IsRowOf new.names (length old.blocks.items)) is.rows is.owns =
    subst (λ n. AllZip (IsRowOf new.names n) is.rows is.owns) at (subst (λ ns. AllZip (IsRowOf ns place) is.rows is.owns) (sym names) is.stand) in
    record {
      more = more;
      read = resource_read i value r is.owns (resource_is value r (string_bytes block.config) own b.stands.config) is.read;
      added = λ us h. record {
        rows = h.rows ++ is.rows;
        packed = subst (λ p. ArePacked p (take 4097 (h.rows ++ is.rows))) (sym packed)
            (is.packed h.rows (subst (λ p. ArePacked p (take 4097 h.rows)) (sym same_packed) h.packed));
        stand = zip_append stands h.rows is.rows us more
            (zip_weaken (StandsFor old.names old.blocks.items) stands
            (λ row u s. subst (λ bs. StandsFor new.names bs row u) all
            (stands_for_longer old.names new.names old.blocks.items (block ∷ []) (extends_more old.names before.names new.names b.grown grown) row u s))
            h.rows us h.stand)
            (zip_map stands (instance_of r) is.rows is.owns
            (zip_weaken (IsRowOf new.names (length old.blocks.items)) (λ row own. stands row (instance_of r own))
            (λ row own s. subst (λ bs. StandsFor new.names bs row (instance_of r own)) all
            (row_stands r old.blocks.items block before.names new.names b grown row own s))
            is.rows is.owns each));
      };
    }

-- At the start no resource is read.
pub no_resources : (tables : Tables) → tables.packed.rows.items ≡ [] → ReadsResources [] tables
unfolding read_each
no_resources tables rows = record {
  lists = [];
  read = refl;
  stand = record { rows = []; packed = subst (ArePacked tables.packed) (take_none 4097) (no_rows_packed tables.packed rows); stand = tt };
}

-- If a list has length 0, its mapped list is empty.
pub no_values : {A B : Type 0} (f : A → B) (xs : List A) → true ≡ nat_eq (length xs) 0 → map f xs ≡ []
no_values f [] e = refl
no_values f (x ∷ xs) e = let no : ⊥ = omega (arith, eqb-true (suc (length xs)) 0 (sym e)) in absurd no

module _ (i : ℕ) (values : List Value) (value : Value) (old : Tables) where
  -- Reading the next resource extends the resources that were read.
  pub resource_more : (new : Tables) → i < length values → value ≡ get_or values i value
      → ReadsResources (map view (take i values)) old → ReadsResource i (view value) old new
      → ReadsResources (map view (take (i + 1) values)) new
  resource_more new h is so_far now = record {
    lists = so_far.lists ++ now.more ∷ [];
    read = read_more read_resource view values i value so_far.lists now.more h is so_far.read now.read;
    stand = subst (Tabulates new) (sym (flat_map-append (λ us. us) so_far.lists (now.more ∷ []) ∙ ap (λ us. joined so_far.lists ++ us) (append-nil now.more)))
        (now.added (joined so_far.lists) so_far.stand);
  }

  -- If a resource is invalid, the list of resources has its fault.
  pub resource_stops : (fault : StateFault) → i < length values → value ≡ get_or values i value
      → ReadsResources (map view (take i values)) old → read_resource i (view value) ≡ Err fault
      → read_each read_resource 0 (map view values) ≡ Err fault
  resource_stops fault h is so_far r = read_stops read_resource view values i value so_far.lists fault h is so_far.read r
