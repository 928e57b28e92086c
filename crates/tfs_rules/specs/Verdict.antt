-- The verdict on an act: whether a workspace accepts it, or why not. (Terraform, `state push`: one
-- lineage, no older serial, and no other content under the same serial.)
use Rattle.std.specs.Prelude.{◌≡◌, ◌==◌, ◌&&◌, ◌∷◌, ◌++◌, ℕ, List, not, nat_lt, if◌then◌else◌, Option, Some, None}
use Rattle.std.specs.Str.{bytes_eq}
use Rattle.tfs_state.specs.Document.{Document}
use Rattle.tfs_lock.specs.LockInfo.{LockInformation}
use Rattle.tfs_rules.specs.Act.{ActValue, lock, unlock, push, delete}
use Rattle.tfs_rules.specs.History.{History, Standing, standing_of}
use Rattle.tfs_rules.specs.declared.verdict.Verdict.{Verdict}
use Rattle.tfs_rules.specs.declared.verdict.Verdict.TheVariants.{Accept, Locked, LockLost, LineageDiffers, SerialTooLow, SerialReused}

-- The verdict on a lock: while a lock is held, only a lock with the same bytes is accepted.
abbrev pub lock_verdict : Option LockInformation → LockInformation → Verdict
lock_verdict None info = Accept
lock_verdict (Some held) info = if bytes_eq held.bytes info.bytes then Accept else Locked

-- The verdict on an unlock: one without an identifier is always accepted.
abbrev pub unlock_verdict : Option LockInformation → Option (List ℕ) → Verdict
unlock_verdict holder None = Accept
unlock_verdict None (Some id) = Accept
unlock_verdict (Some held) (Some id) = if bytes_eq held.id id then Accept else Locked

-- The verdict on a write, which is a push or a delete: `otherwise` if its identifier is the
-- holder's, or if there is neither an identifier nor a holder.
abbrev pub write_verdict : Option LockInformation → Option (List ℕ) → Verdict → Verdict
write_verdict None None otherwise = otherwise
write_verdict None (Some id) otherwise = LockLost
write_verdict (Some held) None otherwise = Locked
write_verdict (Some held) (Some id) otherwise = if bytes_eq held.id id then otherwise else Locked

-- The verdict on a push over the stored state, regardless of the lock.
abbrev pub push_verdict : Option Document → Document → Verdict
push_verdict None pushed = Accept
push_verdict (Some stored) pushed = if not (bytes_eq stored.lineage pushed.lineage) then LineageDiffers
    else (if nat_lt pushed.serial stored.serial then SerialTooLow
    else (if pushed.serial == stored.serial && not (bytes_eq stored.bytes pushed.bytes) then SerialReused else Accept))

-- The verdict on an act over the state and the lock holder of a workspace.
abbrev pub verdict_over : Standing → ActValue → Verdict
verdict_over standing (lock info) = lock_verdict standing.holder info
verdict_over standing (unlock id) = unlock_verdict standing.holder id
verdict_over standing (push id d) = write_verdict standing.holder id (push_verdict standing.state d)
verdict_over standing (delete id) = write_verdict standing.holder id Accept

-- The verdict on an act after a history.
abbrev pub verdict_of : History → ActValue → Verdict
verdict_of h act = verdict_over (standing_of h) act

-- Each act of the history is accepted after the acts before it.
abbrev pub IsAccepted : History → Type 0
IsAccepted h = (before after : History) (act : ActValue) → h ≡ before ++ act ∷ after → verdict_of before act ≡ Accept
