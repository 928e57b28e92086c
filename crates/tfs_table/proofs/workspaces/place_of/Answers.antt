-- Each comparison leaves the part in which the name can be.
use Rattle.std.proofs.Common.{arith}
use Rattle.tfs_table.proofs.SearchLemmas.{narrows_up, narrows_down, narrows_here, narrows_out}
use Rattle.tfs_table.proofs.workspaces.place_of.Goals as goal

pub loop-low-init : goal.loop-low-init
loop-low-init c = record {
  order = omega arith;
  within = omega arith;
  below = λ k d p. absurd (omega arith);
  above = λ k d p q. absurd (omega arith);
}

pub offset_bounds-workspaces-middle : goal.offset_bounds-workspaces-middle
offset_bounds-workspaces-middle c = let within = c.loop-low.invariant.within in omega arith

pub bounds-workspaces-middle : goal.bounds-workspaces-middle
bounds-workspaces-middle c = let within = c.loop-low.invariant.within in omega arith

pub loop-low-preserved-in-Less : goal.loop-low-preserved-in-Less
loop-low-preserved-in-Less c =
    narrows_up _ _ _ _ _ _ _ c.index-workspaces-middle.result _ c.requires c.loop-low.invariant (omega arith) (omega arith)
    c.index-workspaces-middle.is c.text-name.ensures.value c.text.ensures.value c.cmp.ensures c.in-Less.is

pub returns-in-Equal : goal.returns-in-Equal
returns-in-Equal c =
    narrows_here _ _ _ _ _ _ _ c.index-workspaces-middle.result _ c.requires c.loop-low.invariant (omega arith)
    c.index-workspaces-middle.is c.text-name.ensures.value c.text.ensures.value c.cmp.ensures c.in-Equal.is

pub loop-low-preserved : goal.loop-low-preserved
loop-low-preserved c =
    narrows_down _ _ _ _ _ _ _ c.index-workspaces-middle.result _ c.requires c.loop-low.invariant (omega arith) (omega arith)
    c.index-workspaces-middle.is c.text-name.ensures.value c.text.ensures.value c.cmp.ensures c.in-Greater.is

pub returns : goal.returns
returns c = narrows_out _ _ _ _ c.loop-low.invariant (omega arith)
