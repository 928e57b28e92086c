-- Lemmas about a document and the parts that represent its text.
use Rattle.std.proofs.Common.{◌≡◌, ℕ, zero, suc, ◌≤◌, ◌<◌, ◌↔◌, List, [], ◌∷◌, ◌++◌, length, true, false, ◌||◌, nat_eq, Some, option_map}
use Rattle.std.proofs.Common.{option_and_then, string_bytes, IsTrue, refl, sym, ap, subst, ◌∙◌, append_assoc, eq-eqb}
use Rattle.std.specs.List.{AllZip, slice_get, list_any}
use Rattle.std.proofs.lemmas.Bool.{eqb-true}
use Rattle.std.proofs.Math.Bool.{or-true}
use Rattle.std.proofs.lemmas.Option.{slice_get_within}
use Rattle.tfs_addr.specs.Address.{stripped_text, instance_address, module_part, resource_part, key_part, deposed_part}
use Rattle.tfs_state.specs.Document.{Document, Instance}
use Rattle.tfs_state.specs.Dependency.{instance_config, address_of, config_of, DependsOn}
use Rattle.tfs_state.specs.Names.{AreApart}
use Rattle.tfs_state.specs.StateText.{document_given}
use Rattle.tfs_state.specs.Tables.{HasDigests, StandsForBare, StandsFor}
use Rattle.tfs_state.specs.Contents.{Keeps}
use Rattle.tfs_state.specs.declared.content.Content.{Content}
use Rattle.tfs_state.specs.declared.tables.Block.{Block}
use Rattle.tfs_state.specs.declared.packed.PackedRow.{PackedRow}
use Rattle.tfs_state.specs.declared.tables.Row.{Row}
use Rattle.tfs_state.specs.Packed.{IsPacked, IsWithin, dependencies_of}
use Rattle.tfs_state.proofs.ListLemmas.{zip_length, zip_at}
use Rattle.tfs_state.proofs.StateTextLemmas.{kept_document}

-- ---- numbers that represent texts

module _ (names : List (List ℕ)) (n : ℕ) (bare : List ℕ) (named : slice_get names n ≡ Some bare) where
  -- If a number is among the numbers of some texts, one of these texts, stripped, is the number's
  -- text.
  pub text_of_number : (ns : List ℕ) (texts : List (List ℕ)) → AllZip (StandsForBare names) ns texts → list_any (λ y. nat_eq y n) ns ≡ true
      → (place : ℕ) × (text : List ℕ) × (slice_get texts place ≡ Some text) × (stripped_text text ≡ Some bare)
  text_of_number [] texts z e = cc
  text_of_number (m ∷ ns) [] z e = absurd z
  text_of_number (m ∷ ns) (text ∷ texts) z e =
      elim (nat_eq m n) as (λ b. nat_eq m n ≡ b → b || list_any (λ y. nat_eq y n) ns ≡ true
      → (place : ℕ) × (t : List ℕ) × (slice_get (text ∷ texts) place ≡ Some t) × (stripped_text t ≡ Some bare)) [
        | true ↦ λ same _. (0, text, refl, z.0.stripped ∙ sym z.0.named ∙ ap (slice_get names) (eqb-true m n same) ∙ named)
        | false ↦ λ _ f. let later = text_of_number ns texts z.1 f in (suc later.0, later.1, later.2, later.3)
      ] refl e

  -- If one of the texts, stripped, is the number's text, the number is among their numbers.
  pub number_of_text : AreApart names → (ns : List ℕ) (texts : List (List ℕ)) (place : ℕ) (text : List ℕ) → AllZip (StandsForBare names) ns texts
      → slice_get texts place ≡ Some text → stripped_text text ≡ Some bare → list_any (λ y. nat_eq y n) ns ≡ true
  number_of_text apart [] [] place text z at s = cc
  number_of_text apart [] (t ∷ texts) place text z at s = absurd z
  number_of_text apart (m ∷ ns) [] place text z at s = absurd z
  number_of_text apart (m ∷ ns) (t ∷ texts) zero text z at s =
      let whose : t ≡ text = cc in
      let same_text : Some z.0.bare ≡ Some bare = sym z.0.stripped ∙ ap stripped_text whose ∙ s in
      let same : m ≡ n = apart m n bare (z.0.named ∙ same_text) named in
      ap (λ b. b || list_any (λ y. nat_eq y n) ns) (eq-eqb m n same)
  number_of_text apart (m ∷ ns) (t ∷ texts) (suc place) text z at s =
      ap (λ b. nat_eq m n || b) (number_of_text apart ns texts place text z.1 at s) ∙ or-true (nat_eq m n)

-- ---- a document and the parts that represent it

module _ (bytes : List ℕ) (parts : Content) (keeps : Keeps bytes parts) (d : Document) (is : document_given bytes ≡ d) where
  -- The instances of the document are the instances of the content.
  same_instances : keeps.content.instances ≡ d.instances
  same_instances = ap (λ (e : Document). e.instances) (sym (kept_document bytes parts keeps) ∙ is)

  -- The number of rows is the number of instances.
  pub kept_length : length parts.packed.rows.items ≡ length d.instances
  kept_length = zip_length _ parts.packed.rows.items keeps.holds.rows keeps.holds.packed
      ∙ zip_length _ keeps.holds.rows keeps.content.instances keeps.holds.stand.each ∙ ap (λ (us : List Instance). length us) same_instances

  -- There are at most 4,096 instances.
  pub kept_limit : length d.instances ≤ 4096
  kept_limit = subst (λ (us : List Instance). length us ≤ 4096) same_instances keeps.holds.limit

  -- The meaning of a packed row: the instance that it represents, and the row from which it was
  -- packed.
  pub record KeptRow (i : ℕ) (packed : PackedRow) : Type 0 where
    pub instance : Instance
    pub found : slice_get d.instances i ≡ Some instance
    pub row : Row
    pub packing : IsPacked parts.packed.numbers.items packed row
    pub stands : StandsFor keeps.holds.stand.names parts.blocks.items row instance

  -- Each packed row represents an instance.
  pub kept_row : (i : ℕ) (packed : PackedRow) → slice_get parts.packed.rows.items i ≡ Some packed → KeptRow i packed
  kept_row i packed at =
      let row = zip_at _ parts.packed.rows.items keeps.holds.rows i packed keeps.holds.packed at in
      let found = zip_at _ keeps.holds.rows keeps.content.instances i row.0 keeps.holds.stand.each row.1 in
      record {
        instance = found.0;
        found = ap (λ (us : List Instance). slice_get us i) (sym same_instances) ∙ found.1;
        row = row.0;
        packing = row.2;
        stands = found.2;
      }

  -- The block of a row is in the list of blocks.
  pub kept_block : (i : ℕ) (row : PackedRow) → slice_get parts.packed.rows.items i ≡ Some row → row.block < length parts.blocks.items
  kept_block i row at = let found = kept_row i row at in
      slice_get_within parts.blocks.items row.block found.stands.block (ap (slice_get parts.blocks.items) found.packing.block ∙ found.stands.placed)

  -- The dependencies of a row are within the list of all dependencies.
  pub kept_within : (i : ℕ) (row : PackedRow) → slice_get parts.packed.rows.items i ≡ Some row → IsWithin parts.packed.numbers.items row
  kept_within i row at = let found = kept_row i row at in found.packing.within

  module _ (i : ℕ) (row : PackedRow) (block : Block) (at : slice_get parts.packed.rows.items i ≡ Some row) (placed : slice_get parts.blocks.items
      row.block ≡ Some block) where
    -- The block that represents the instance is the block of the packed row.
    same_block : (found : KeptRow i row) → found.stands.block ≡ block
    same_block found =
        let read : slice_get parts.blocks.items row.block ≡ Some found.stands.block
        = ap (slice_get parts.blocks.items) found.packing.block ∙ found.stands.placed in
        cc

    -- The front of the block followed by the tail of the row is the address.
    pub kept_address : address_of d i ≡ Some (string_bytes block.front ++ string_bytes row.tail)
    kept_address =
        let found = kept_row i row at in
        let u = found.instance in
        ap (option_map (λ (v : Instance). instance_address v.path v.mode v.kind v.name v.key v.deposed)) found.found
        ∙ ap Some (append_assoc (module_part u.path u.path ++ resource_part u.mode u.kind u.name) (key_part u.key) (deposed_part u.deposed)
        ∙ ap (λ t. module_part u.path u.path ++ resource_part u.mode u.kind u.name ++ t) (sym (found.packing.tail ∙ found.stands.tail))
        ∙ ap (λ t. t ++ string_bytes row.tail) (sym found.stands.front ∙ ap (λ (b : Block). string_bytes b.front) (same_block found)))

    -- The configuration address of the instance is the block's.
    pub kept_config : config_of d i ≡ Some (string_bytes block.config)
    kept_config =
        let found = kept_row i row at in
        ap (option_and_then instance_config) found.found ∙ found.stands.config ∙ ap (λ (b : Block). Some (string_bytes b.config)) (same_block found)

    -- The block has the digests of its texts.
    pub kept_digests : HasDigests block
    kept_digests =
        let found = kept_row i row at in
        subst HasDigests (same_block found) found.stands.digests

    -- The block's number represents the configuration address.
    kept_named : slice_get keeps.holds.stand.names block.number ≡ Some (string_bytes block.config)
    kept_named =
        let found = kept_row i row at in
        subst (λ (b : Block). slice_get keeps.holds.stand.names b.number ≡ Some (string_bytes b.config)) (same_block found) found.stands.named

    -- An instance depends on this one if and only if the block's number is among the numbers of its
    -- dependencies.
    pub kept_depends : (u : ℕ) (other : PackedRow) → slice_get parts.packed.rows.items u ≡ Some other
        → IsTrue (list_any (λ y. nat_eq y block.number) (dependencies_of parts.packed.numbers.items other)) ↔ DependsOn d u i
    kept_depends u other there =
        let found = kept_row u other there in
        subst (λ (ns : List ℕ). IsTrue (list_any (λ y. nat_eq y block.number) ns) ↔ DependsOn d u i) (sym found.packing.dependencies) (
          λ any. let text = text_of_number keeps.holds.stand.names block.number (string_bytes block.config) kept_named
              found.row.dependencies.items found.instance.dependencies found.stands.dependencies any in
              record {
                instance = found.instance;
                found = found.found;
                text = text.1;
                place = text.0;
                listed = text.2;
                address = string_bytes block.config;
                stripped = text.3;
                same = kept_config;
              },
          λ depends.
              let same : depends.instance ≡ found.instance = let e = depends.found in let f = found.found in cc in
              let address : depends.address ≡ string_bytes block.config = let e = depends.same in let f = kept_config in cc in
              number_of_text keeps.holds.stand.names block.number (string_bytes block.config) kept_named keeps.holds.stand.apart
              found.row.dependencies.items found.instance.dependencies depends.place depends.text found.stands.dependencies
              (ap (λ (v : Instance). slice_get v.dependencies depends.place) (sym same) ∙ depends.listed)
              (depends.stripped ∙ ap Some address),
        )
