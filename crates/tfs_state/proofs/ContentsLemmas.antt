-- Lemmas about specs/Contents.antt and about the document that a text spells.
use Rattle.std.proofs.Common.{codes, nat_eq, not, Bool, ◌≡◌, ℕ, ◌≤◌, ◌<◌, List, length, take, true, false, cond, Option, Some, None, Ok, Err, string_bytes}
use Rattle.std.proofs.Common.{refl, sym, ap, subst, ◌∙◌, arith}
use Rattle.std.specs.List.{AllZip}
use Rattle.std.specs.Option.{ok_or, option_eq}
use Rattle.std.proofs.lemmas.Bool.{le-leb, lt-leb, eqb-true}
use Rattle.serde_json.specs.Data.{Data}
use Rattle.tfs_json.specs.Json.{list_at}
use Rattle.tfs_state.specs.Document.{Instance}
use Rattle.tfs_state.specs.Names.{AreApart}
use Rattle.tfs_state.specs.Resources.{result_and_then, result_map, read_each, read_resource, read_resources, joined}
use Rattle.tfs_state.specs.StateText.{few_instances, instances_of, content_of, version_of, serial_of, lineage_of}
use Rattle.tfs_state.specs.declared.fault.StateFault.TheVariants.{Version, Serial, Lineage, Resource, TooManyInstances}
use Rattle.tfs_state.specs.declared.fault.StateFault.{StateFault}
use Rattle.tfs_state.specs.Tables.{Tabulates, ReadsResources}
use Rattle.tfs_state.specs.Contents.{Stand, ReadsInstancesOf, ReadsContent}
use Rattle.tfs_state.specs.Packed.{IsPacked, ArePacked}
use Rattle.tfs_state.specs.declared.content.Content.{Content}
use Rattle.tfs_state.specs.declared.tables.Tables.{Tables}
use Rattle.tfs_state.proofs.ListLemmas.{zip_length, take_short, take_few}

-- If an optional number equals n by the test, it is n.
pub is_number : (o : Option ℕ) (n : ℕ) → option_eq nat_eq o (Some n) ≡ true → o ≡ Some n
is_number None n e = cc
is_number (Some m) n e = ap Some (eqb-true m n e)

-- The instances of a list of resources are the instances of each resource, joined.
all_read : (value : Data) (values : List Data) (lists : List (List Instance)) → Some values ≡ list_at (codes "resources") value
    → read_each read_resource 0 values ≡ Ok lists → instances_of value ≡ few_instances (joined lists)
unfolding instances_of
all_read value values lists is e =
    ap (λ o. result_and_then few_instances (result_and_then read_resources (ok_or o (Resource 0)))) (sym is)
    ∙ ap (λ r. result_and_then few_instances (result_map joined r)) e

-- The number of packed rows is the number of rows, at most 4,097.
rows_packed : (tables : Tables) (instances : List Instance) (t : Tabulates tables instances) → length tables.packed.rows.items ≡ length (take 4097 t.rows)
rows_packed tables instances t = zip_length _ tables.packed.rows.items (take 4097 t.rows) t.packed

-- If at most 4,096 rows were read, tables with equal blocks and equal packed rows represent all
-- instances of the value.
pub instances_read : (value : Data) (values : List Data) (tables kept : Tables) → Some values ≡ list_at (codes "resources") value
    → ReadsResources values tables → AreApart tables.names → length tables.packed.rows.items ≤ 4096
    → kept.blocks.items ≡ tables.blocks.items → kept.packed.rows ≡ tables.packed.rows → kept.packed.numbers.items ≡ tables.packed.numbers.items
    → ReadsInstancesOf value kept
instances_read value values tables kept is r apart few blocks rows numbers =
    let all = joined r.lists in
    let t = r.stand in
    let whole = take_few 4096 t.rows (omega (arith, rows_packed tables all t, few)) in
    let limit : length all ≤ 4096 = omega (arith, whole.0, zip_length _ t.rows all t.stand) in
    record {
      instances = all;
      read = all_read value values r.lists is r.read ∙ ap (λ b. cond b (Ok all) (Err TooManyInstances)) (le-leb (length all) 4096 limit);
      limit = limit;
      rows = t.rows;
      packed = subst (λ ps. AllZip (IsPacked kept.packed.numbers.items) ps.items t.rows) (sym rows)
          (subst (λ ns. AllZip (IsPacked ns) tables.packed.rows.items t.rows) (sym numbers) (subst (ArePacked tables.packed) whole.1 t.packed));
      stand = subst (λ bs. Stand bs t.rows all) (sym blocks) (record { names = tables.names; apart = apart; each = t.stand });
    }

-- If more than 4,096 instances were read, the fault is TooManyInstances.
pub many_instances : (value : Data) (values : List Data) (tables : Tables) → Some values ≡ list_at (codes "resources") value
    → ReadsResources values tables → 4096 < length tables.packed.rows.items → instances_of value ≡ Err TooManyInstances
many_instances value values tables is r many =
    let all = joined r.lists in
    let t = r.stand in
    let long = rows_packed tables all t in
    let same = zip_length _ t.rows all t.stand in
    all_read value values r.lists is r.read
    ∙ ap (λ b. cond b (Ok all) (Err TooManyInstances)) (lt-leb (length all) 4096 (omega (arith, long, same, many, take_short 4097 t.rows)))

-- The parts that were read represent the content of the value.
pub content_read : (value : Data) (parts : Content) (tables : Tables) → version_of value ≡ Some 4 → serial_of value ≡ Some parts.serial
    → lineage_of value ≡ Some (string_bytes parts.lineage) → ReadsInstancesOf value tables
    → parts.blocks ≡ tables.blocks → parts.packed ≡ tables.packed → ReadsContent value parts
unfolding content_of
content_read value parts tables version serial lineage r blocks packed = record {
  content = record { serial = parts.serial; lineage = string_bytes parts.lineage; instances = r.instances };
  read = rw version (rw serial (rw lineage (rw r.read refl)));
  holds = record {
    serial = refl;
    lineage = refl;
    limit = r.limit;
    rows = r.rows;
    packed = subst (λ p. ArePacked p r.rows) (sym packed) r.packed;
    stand = subst (λ v. Stand v.items r.rows r.instances) (sym blocks) r.stand;
  };
}

-- If the member `resources` is not a list, the fault is that of resource 0.
pub no_list : (value : Data) → None ≡ list_at (codes "resources") value → instances_of value ≡ Err (Resource 0)
unfolding instances_of
no_list value none = ap (λ o. result_and_then few_instances (result_and_then read_resources (ok_or o (Resource 0)))) (sym none)

-- If a resource is invalid, its fault is the fault of all instances.
pub refused_resource : (value : Data) (values : List Data) (fault : StateFault) → Some values ≡ list_at (codes "resources") value
    → read_each read_resource 0 values ≡ Err fault → instances_of value ≡ Err fault
unfolding instances_of
refused_resource value values fault is e =
    ap (λ o. result_and_then few_instances (result_and_then read_resources (ok_or o (Resource 0)))) (sym is)
    ∙ ap (λ r. result_and_then few_instances (result_map joined r)) e

-- If the version is not 4, the fault is Version.
pub other_version : (value : Data) (version : Option ℕ) → version ≡ version_of value → true ≡ not (option_eq nat_eq version (Some 4))
    → content_of value ≡ Err Version
unfolding content_of
other_version value version is other =
    let differs : option_eq nat_eq (version_of value) (Some 4) ≡ false =
    by (option_eq nat_eq (version_of value) (Some 4)) (other ∙ ap (λ v. not (option_eq nat_eq v (Some 4))) is) in
    rw differs refl
  where
    by : (b : Bool) → true ≡ not b → b ≡ false
    by true e = cc
    by false e = refl

-- If the version test does not fail, the version is 4.
pub right_version : (value : Data) (version : Option ℕ) → version ≡ version_of value → false ≡ not (option_eq nat_eq version (Some 4))
    → version_of value ≡ Some 4
right_version value version is same = sym is ∙ is_number version 4 (by (option_eq nat_eq version (Some 4)) same)
  where
    by : (b : Bool) → false ≡ not b → b ≡ true
    by true e = refl
    by false e = cc

-- If the value has no serial, the fault is Serial.
pub no_serial : (value : Data) → version_of value ≡ Some 4 → None ≡ serial_of value → content_of value ≡ Err Serial
unfolding content_of
no_serial value version none = rw version (rw (← none) refl)

-- If the value has no lineage, the fault is Lineage.
pub no_lineage : (value : Data) (serial : ℕ) → version_of value ≡ Some 4 → serial_of value ≡ Some serial → None ≡ lineage_of value
    → content_of value ≡ Err Lineage
unfolding content_of
no_lineage value serial version is none = rw version (rw is (rw (← none) refl))

-- If the resources have a fault, it is the fault of the value.
pub refused_resources : (value : Data) (serial : ℕ) (lineage : List ℕ) (fault : StateFault) → version_of value ≡ Some 4 → serial_of value ≡ Some serial
    → lineage_of value ≡ Some lineage → instances_of value ≡ Err fault → content_of value ≡ Err fault
unfolding content_of
refused_resources value serial lineage fault version is named refused = rw version (rw is (rw named (rw refused refl)))
