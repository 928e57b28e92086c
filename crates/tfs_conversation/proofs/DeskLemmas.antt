-- Lemmas about the desk over a table.
use Rattle.std.proofs.Common.{◌≡◌, ◌≢◌, ℕ, List, Bool, true, false, Option, Some, None, refl, inl, inr, ap}
use Rattle.tfs_rules.specs.Act.{ActValue}
use Rattle.tfs_records.specs.Journal.{with_entry}
use Rattle.tfs_calls.specs.declared.call.Call.{Call}
use Rattle.tfs_calls.specs.declared.call.Call.TheVariants.{Change}
use Rattle.tfs_calls.specs.declared.call.Raw.{Raw}
use Rattle.tfs_calls.specs.Draft.{act_of, TakesNoMemory}
use Rattle.tfs_calls.specs.Refusal.{RefusalValue, journal_fault, journal_stopped, out_of_memory}
use Rattle.tfs_calls.specs.Reply.{ReplyValue, done, state, impact, refused}
use Rattle.tfs_calls.specs.Transition.{TableModel, AnswersAct, act_refusal}
use Rattle.tfs_table.specs.Table.{TableValue}
use Rattle.tfs_conversation.specs.Desk.{AnswersCall, CallMayLackMemory, Leaves}

-- If the reply to an act is a position, the journal gets the act's entry, and nothing else changes.
pub entered_by : (m n : TableModel) (name : List ℕ) (act : ActValue) (position : ℕ) → AnswersAct m name act (done position) n
    → (n.journal ≡ with_entry m.journal (record { name = name; act = act })) × (n.stopped ≡ m.stopped)
entered_by m n name act position (inl (inl a)) = by (act_refusal m name act) refl
  where
    by : (r : Option RefusalValue) → act_refusal m name act ≡ r
        → (n.journal ≡ with_entry m.journal (record { name = name; act = act })) × (n.stopped ≡ m.stopped)
    by None is = let after = rw is at a.1 in (ap (λ (t : TableModel). t.journal) after, ap (λ (t : TableModel). t.stopped) after)
    by (Some refusal) is = let wrong = rw is at a.0 in cc
entered_by m n name act position (inl (inr a)) = let wrong = a.0 in cc
entered_by m n name act position (inr a) = let wrong = a.1 in cc

-- A step doesn't change whether the sink's bytes were known at first.
pub still_tells : (old new : TableValue) (call : Call) (reply : ReplyValue) → AnswersCall old call reply new → new.tells ≡ old.tells
still_tells old new call (done position) a = a.leaves.tells
still_tells old new call (state d) a = a.leaves.tells
still_tells old new call (impact d chosen position) a = a.leaves.tells
still_tells old new call (refused refusal) a = by refusal a.leaves
  where
    by : (r : RefusalValue) → Leaves (refused r) old new → new.tells ≡ old.tells
    by journal_fault l = (l.1 refl).tells
    by r l = (l.0 (λ e. cc)).tells

-- What follows if a refusal is `out_of_memory` also follows if the reply is this refusal.
pub lacks_by : (A : Type 0) (refusal : RefusalValue) → (refusal ≡ out_of_memory → A) → refused refusal ≡ refused out_of_memory → A
lacks_by A refusal may lacks = may (cc lacks)

-- If reading a change is refused for lack of memory, reading it takes memory.
pub unread_lacks : (m : TableModel) (name : List ℕ) (raw : Raw) (refusal : RefusalValue) → (TakesNoMemory raw → refusal ≢ out_of_memory)
    → refused refusal ≡ refused out_of_memory → CallMayLackMemory m (Change name raw)
unread_lacks m name raw refusal never lacks takes = absurd (never takes (cc lacks))

-- If the act of a change is refused for lack of memory, the table isn't stopped.
pub applied_lacks : (m : TableModel) (name : List ℕ) (raw : Raw) (act : ActValue) (refusal : RefusalValue) → act_of raw ≡ Some act
    → (m.stopped ≡ true → refusal ≡ journal_stopped) → refused refusal ≡ refused out_of_memory → CallMayLackMemory m (Change name raw)
applied_lacks m name raw act refusal is stops lacks takes = (λ none. cc (is, none), by m.stopped stops)
  where
    by : (b : Bool) → (b ≡ true → refusal ≡ journal_stopped) → b ≡ false
    by false stopped = refl
    by true stopped = absurd (cc (stopped refl, lacks))
