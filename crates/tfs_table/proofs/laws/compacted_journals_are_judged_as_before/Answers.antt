-- A refusal by the rules follows from the state and the holder, which are kept.
use Rattle.std.proofs.Common.{[]}
use Rattle.tfs_rules.specs.History.{standing_of}
use Rattle.tfs_records.specs.Journal.{acts_of}
use Rattle.tfs_table.proofs.CompactLemmas.{refused_by_standing, unused_is_empty}
use Rattle.tfs_table.proofs.laws.compacted_journals_are_judged_as_before.Goals as goal

pub returns : goal.returns
returns c = record {
  judged = λ keeps old new name act is. refused_by_standing (acts_of name new) (acts_of name old) act (is.standings name);
  freed = λ j name act unused. refused_by_standing (acts_of name j) [] act (unused_is_empty (standing_of (acts_of name j)) unused);
}
