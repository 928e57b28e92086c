-- Lemmas about specs/Numbering.antt.
use Rattle.std.proofs.Common.{◌≡◌, ℕ, ◌↔◌, List, nat_eq, Option, option_map, Some, IsTrue, sym, ap, subst, ◌∙◌}
use Rattle.std.specs.List.{list_any, slice_get}
use Rattle.std.specs.Option.{unwrap_or}
use Rattle.std.proofs.Math.ListN.{length-map}
use Rattle.tfs_state.specs.Dependency.{DependsOn}
use Rattle.tfs_state.specs.Document.{Document}
use Rattle.tfs_state.specs.Numbering.{IsNumbering, row_number, table_of, Fits}
use Rattle.tfs_state.specs.Packed.{dependencies_of}
use Rattle.tfs_state.specs.StateText.{document_given}
use Rattle.tfs_state.specs.Contents.{Keeps}
use Rattle.tfs_state.specs.declared.content.Content.{Content}
use Rattle.tfs_state.specs.declared.tables.Block.{Block}
use Rattle.tfs_state.proofs.ListLemmas.{map_at}
use Rattle.tfs_state.proofs.DocLemmas.{kept_length, kept_row, kept_block, kept_within, kept_depends}

module _ (bytes : List ℕ) (parts : Content) (keeps : Keeps bytes parts) (d : Document) (is : document_given bytes ≡ d) where
  -- Each row's block is in the list of blocks, and its dependencies are within the list of all
  -- dependencies.
  pub kept_fits : Fits parts.blocks.items parts.packed.rows.items parts.packed.numbers.items
  kept_fits i row at = (kept_block bytes parts keeps d is i row at, kept_within bytes parts keeps d is i row at)

  -- The numbers of the rows are a numbering of the document.
  pub kept_numbers : IsNumbering d (table_of parts.blocks.items parts.packed.rows.items parts.packed.numbers.items)
  kept_numbers = record {
    configs = length-map parts.packed.rows.items (row_number parts.blocks.items) ∙ kept_length bytes parts keeps d is;
    dependencies = length-map parts.packed.rows.items (dependencies_of parts.packed.numbers.items) ∙ kept_length bytes parts keeps d is;
    related = λ u v numbers number at_u at_v.
        let other = map_at (dependencies_of parts.packed.numbers.items) parts.packed.rows.items u numbers at_u in
        let row = map_at (row_number parts.blocks.items) parts.packed.rows.items v number at_v in
        let found = kept_row bytes parts keeps d is v row.0 row.1 in
        let placed : slice_get parts.blocks.items row.0.block ≡ Some found.stands.block
        = ap (slice_get parts.blocks.items) found.packing.block ∙ found.stands.placed in
        let same : found.stands.block.number ≡ number =
        sym (ap (λ (o : Option Block). unwrap_or (option_map (λ (block : Block). block.number) o) 0) placed) ∙ row.2 in
        subst (λ (ns : List ℕ). IsTrue (list_any (λ n. nat_eq n number) ns) ↔ DependsOn d u v) other.2
        (subst (λ (m : ℕ). IsTrue (list_any (λ n. nat_eq n m) (dependencies_of parts.packed.numbers.items other.0)) ↔ DependsOn d u v) same
        (kept_depends bytes parts keeps d is v row.0 found.stands.block row.1 placed u other.0 other.1));
  }
