-- A conversation begins before the first byte.
use Rattle.std.proofs.Common.{◌≡◌, List, ℕ, [], ◌++◌, Result, Ok, Err, IfOk, IfErr, subst, inl}
use Rattle.tfs_framing.proofs.MessageLemmas.{no_bytes_are_unfinished}
use Rattle.std.specs.Io.KnownBytes.{Appends, Consumes}
use Rattle.tfs_conversation.specs.Conversation.{Breaks, ComesInReads, IsReadThrough, Step, Talks}
use Rattle.tfs_conversation.specs.Turns.{HasEnded, HasStopped, Moment}
use Rattle.tfs_conversation.specs.declared.ended.Ended.{Ended}
use Rattle.tfs_http.specs.declared.fault.ServeFault.{ServeFault}
use Rattle.tfs_conversation.proofs.BrokenLemmas.{broken_between}
use Rattle.tfs_conversation.proofs.IoLemmas.{Known, comes_nothing, returns_nothing}
use Rattle.tfs_conversation.proofs.conversation.converse_owed.Goals as goal

module _ {S : Type 0} (step : Step S) (from to : Moment S) (none : from.input ≡ []) where
  -- From a moment without input, the end of a conversation is a conversation of the bytes read.
  ended_told : (r : Result Ended ServeFault) → IfOk r (HasEnded step from to) → IfOk r (λ ended. (bytes : List ℕ) × (text : List ℕ)
      × Consumes from.reader.0 to.reader.0 bytes × Appends from.reader.1 to.reader.1 bytes × Appends from.writer to.writer text × ComesInReads bytes from.reads to.reads
      × Talks step from.desk to.desk bytes text ended)
  ended_told (Ok ended) h = (
    h.more,
    h.text,
    h.consumed,
    h.taken,
    h.appended,
    h.came,
    subst (λ (t : List ℕ). Talks step from.desk to.desk (t ++ h.more) h.text ended) none h.does.0,
  )
  ended_told (Err fault) h = tt

  -- From a moment without input, an error breaks off a conversation of the bytes read.
  broken_told : (r : Result Ended ServeFault) → IfErr r (HasStopped step from to) → IfErr r (λ fault. (bytes : List ℕ) × (text : List ℕ)
      × Consumes from.reader.0 to.reader.0 bytes × Appends from.reader.1 to.reader.1 bytes × Appends from.writer to.writer text × ComesInReads bytes from.reads to.reads
      × Breaks step from.desk to.desk bytes text fault from.reads to.reads)
  broken_told (Ok ended) h = tt
  broken_told (Err fault) h = (
    h.0.more,
    h.0.text,
    h.0.consumed,
    h.0.taken,
    h.0.appended,
    h.0.came,
    subst (λ (t : List ℕ). Breaks step from.desk to.desk (t ++ h.0.more) h.0.text fault from.reads to.reads) none h.0.does,
  )

-- If input ended the conversation, the reader is at its end.
through_told : {S : Type 0} (step : Step S) (from to : Moment S) (r : Result Ended ServeFault) → IfOk r (HasEnded step from to)
    → IfOk r (λ ended. IsReadThrough ended to.reader.0)
through_told step from to (Ok ended) h = h.does.1
through_told step from to (Err fault) h = tt

pub returns-clause-through : goal.returns-clause-through
returns-clause-through g c = through_told g.D.OwedDesk.step _ _ c.run.result c.run.ensures.ended

pub returns-clause-ended : goal.returns-clause-ended
returns-clause-ended g c = ended_told g.D.OwedDesk.step _ _ c.in-Ok.ensures c.run.result c.run.ensures.ended

pub returns-clause-fault : goal.returns-clause-fault
returns-clause-fault g c = broken_told g.D.OwedDesk.step _ _ c.in-Ok.ensures c.run.result c.run.ensures.fault

pub returns-in_default-clause-fault : goal.returns-in_default-clause-fault
returns-in_default-clause-fault g c =
    let reader : Known = (g.R.Source.remaining c.args.reader.now, g.R.Source.taken c.args.reader.now) in
    let writer = g.W.Outlet.contents c.args.writer.now in
    let reads = c.args.reads.now in
    let broken = broken_between g.D.OwedDesk.step c.args.desk.now reader reader writer reads reads [] [] [] _ (returns_nothing reader) (comes_nothing reads)
    (inl no_bytes_are_unfinished) in
    (broken.more, broken.text, broken.consumed, broken.taken, broken.appended, broken.came, broken.does)
