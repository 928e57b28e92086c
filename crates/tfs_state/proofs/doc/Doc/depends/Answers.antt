-- An instance depends on another if and only if the number of the other's block is among its
-- numbers.
use Rattle.std.proofs.Common.{◌∙◌, ◌↔◌, ap, sym, arith, subst, IsTrue, Bool, List, ℕ, nat_eq}
use Rattle.std.specs.List.{list_any}
use Rattle.tfs_state.specs.Dependency.{DependsOn}
use Rattle.tfs_state.specs.Packed.{IsWithin, dependencies_of}
use Rattle.tfs_state.proofs.DocLemmas.{kept_length, kept_block, kept_within, kept_depends}
use Rattle.tfs_state.proofs.doc.Doc.depends.Goals as goal

pub row-row-requires : goal.row-row-requires
row-row-requires c = let long = kept_length c.self.inside.bytes.items c.self.inside.content c.self.invariant c.args.self.now c.self.view_is in
    let low = c.requires.v in omega (arith, long, low)

pub block-block-requires : goal.block-block-requires
block-block-requires c = kept_block c.self.inside.bytes.items c.self.inside.content c.self.invariant c.args.self.now c.self.view_is
    c.args.v c.row-row.result.now c.row-row.ensures

pub row-other-requires : goal.row-other-requires
row-other-requires c = let long = kept_length c.self.inside.bytes.items c.self.inside.content c.self.invariant c.args.self.now c.self.view_is in
    let low = c.requires.u in omega (arith, long, low)

pub dependencies_at-numbers-requires : goal.dependencies_at-numbers-requires
dependencies_at-numbers-requires c = subst (λ (ns : List ℕ). IsWithin ns c.row-other.result.now) (sym c.as_slice.ensures.value)
    (kept_within c.self.inside.bytes.items c.self.inside.content c.self.invariant c.args.self.now c.self.view_is
    c.args.u c.row-other.result.now c.row-other.ensures)

pub returns : goal.returns
returns c = record {
  value = subst (λ (b : Bool). IsTrue b ↔ DependsOn c.args.self.now c.args.u c.args.v)
      (ap (λ (ns : List ℕ). list_any (λ y. nat_eq y c.block-block.result.now.number) ns)
      (ap (λ (ns : List ℕ). dependencies_of ns c.row-other.result.now) (sym c.as_slice.ensures.value) ∙ sym c.dependencies_at-numbers.ensures)
      ∙ sym c.has_number.ensures)
      (kept_depends c.self.inside.bytes.items c.self.inside.content c.self.invariant c.args.self.now c.self.view_is
      c.args.v c.row-row.result.now c.block-block.result.now c.row-row.ensures c.block-block.ensures c.args.u c.row-other.result.now c.row-other.ensures);
}
