-- Each law has one lemma.
use Rattle.tfs_index.proofs.ReachLemmas.{reach_told}
use Rattle.tfs_index.proofs.LawLemmas.{named_told, any_told, all_told, any_rises, all_rises}
use Rattle.tfs_index.proofs.laws.impact_follows_names_and_walks.Goals as goal

pub returns : goal.returns
returns c = record { reach = reach_told; named = named_told; any = any_told; all = all_told; any_rises = any_rises; all_rises = all_rises }
