-- Bytes without a fault spell lock information; the other laws hold by computation.
use Rattle.tfs_lock.proofs.LockTextLemmas.{spelled_without_fault}
use Rattle.tfs_lock.proofs.MemoryLemmas.{fault_of_text}
use Rattle.tfs_lock.proofs.laws.bytes_spell_lock_info_or_have_a_fault.Goals as goal

pub returns-clause-faultless : goal.returns-clause-faultless
returns-clause-faultless c = spelled_without_fault

pub returns-clause-memory : goal.returns-clause-memory
returns-clause-memory c = fault_of_text
