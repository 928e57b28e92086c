-- What a server knows was carried out, and stays.
use Rattle.tfs_store.proofs.KeptLemmas.{done_kept}
use Rattle.tfs_store.proofs.laws.done_groups_are_in_every_later_head.Goals as goal

pub returns : goal.returns
returns c = record { kept = done_kept }
