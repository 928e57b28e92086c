-- What requests ask for.
use Rattle.tfs_calls.specs.declared.call.Call.{Call}
use Rattle.tfs_calls.specs.declared.call.Call.TheVariants.{Read, Change, Impact as Query}
use Rattle.tfs_calls.specs.declared.call.Raw.TheVariants.{Lock as LockText, Unlock as UnlockText, Push, Delete as DeleteText}
use Rattle.tfs_metrics.specs.declared.kind.Kind.{Kind}
use Rattle.tfs_metrics.specs.declared.kind.Kind.TheVariants.{Get, Post, Delete, Lock, Unlock, Impact}

-- What a call asks for.
abbrev pub kind_of : Call → Kind
kind_of (Read _) = Get
kind_of (Change _ (Push _ _)) = Post
kind_of (Change _ (DeleteText _)) = Delete
kind_of (Change _ (LockText _)) = Lock
kind_of (Change _ (UnlockText _ _)) = Unlock
kind_of (Query _ _) = Impact
