-- The function's result satisfies the relation, and what satisfies the relation is the function's
-- result.
use Rattle.tfs_addr.proofs.ReadingLemmas.{stripped_text-some, stripped_text-none, IsStripped-from_some, HasNoReading-from_none}
use Rattle.tfs_addr.proofs.laws.stripped_text_agrees.Goals as goal

pub returns-clause-some : goal.returns-clause-some
returns-clause-some c = λ text bare u. (IsStripped-from_some text bare u, stripped_text-some text bare u)

pub returns-clause-none : goal.returns-clause-none
returns-clause-none c = λ text u. (HasNoReading-from_none text u, stripped_text-none text u)
