-- An accepted change of a lawful journal leaves it lawful.
use Rattle.tfs_table.proofs.LawfulLemmas.{lawful_more, taken}
use Rattle.tfs_published.proofs.publisher.version_after.Goals as goal

pub returns-in_ok-clone-in-Some-clause-lawful : goal.returns-in_ok-clone-in-Some-clause-lawful
returns-in_ok-clone-in-Some-clause-lawful c = λ lawful. lawful_more _ _ lawful (taken _ _ _ c.version.ensures.accepted)

pub returns-in-None-clause-lawful : goal.returns-in-None-clause-lawful
returns-in-None-clause-lawful c = λ lawful. lawful_more _ _ lawful (taken _ _ _ c.version.ensures.accepted)
