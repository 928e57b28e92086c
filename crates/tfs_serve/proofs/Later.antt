-- Lemmas: sessions advance.
use Rattle.std.proofs.Common.{◌≡◌, ◌⊎◌, ◌+◌, ℕ, length, arith, List, [], ◌∷◌, Option, Some, None, if◌then◌else◌, is_some}
use Rattle.std.proofs.Common.{refl, sym, ap, subst, inl, inr}
use Rattle.std.specs.Option.{option_map_or}
use Rattle.tfs_rules.specs.Act.{ActValue}
use Rattle.tfs_records.specs.Journal.{Journal, with_entry}
use Rattle.tfs_calls.specs.declared.call.Call.{Call}
use Rattle.tfs_calls.specs.declared.call.Call.TheVariants.{Read, Change, Impact}
use Rattle.tfs_calls.specs.Draft.{act_of}
use Rattle.tfs_calls.specs.Refusal.{RefusalValue}
use Rattle.tfs_calls.specs.Reply.{ReplyValue}
use Rattle.tfs_calls.specs.Transition.{TableModel, Answers, act_refusal, journal_after, journal_after_act}
use Rattle.tfs_published.specs.Beginning.{BeginsWith}
use Rattle.tfs_shared.specs.View.{SessionView}
use Rattle.tfs_shared.proofs.Signing.{signs_nothing}
use Rattle.tfs_published.proofs.Beginnings.{begins_with_itself, begins_with_earlier}
use Rattle.tfs_calls.specs.Refusal.{no_copy}
use Rattle.tfs_calls.specs.Reply.{refused}
use Rattle.tfs_serve.specs.Session.{LacksCopy, AnswersOver, SessionStep, CatchesUp, CaughtUpStep, IsLater}

-- A session that doesn't change has advanced.
pub later_itself : (v : SessionView) → IsLater v v
later_itself v = record { seen = begins_with_itself v.journal; accepted = omega arith }

-- If a session has advanced twice, it has advanced.
pub later_then : (a b c : SessionView) → IsLater a b → IsLater b c → IsLater a c
later_then a b c p q = record {
  seen = begins_with_earlier c.journal b.journal a.journal q.seen p.seen;
  accepted = omega (arith, p.accepted, q.accepted);
}

-- A journal begins with itself.
pub begins_as : (j k : Journal) → k ≡ j → BeginsWith k j
begins_as j k is = subst (λ (l : Journal). BeginsWith l j) (sym is) (begins_with_itself j)

-- The journal after an act begins with the one before it.
begins_after_act : (m : TableModel) (name : List ℕ) (act : ActValue) → BeginsWith (journal_after_act m name act) m.journal
begins_after_act m name act = by (act_refusal m name act)
  where
    by : (r : Option RefusalValue) → BeginsWith (if is_some r then m.journal else with_entry m.journal (record { name = name; act = act })) m.journal
    by (Some refusal) = begins_with_itself m.journal
    by None = record { base = refl; entries = (record { name = name; act = act } ∷ [], refl) }

-- The journal after a call begins with the one before it.
begins_after : (m : TableModel) (call : Call) → BeginsWith (journal_after m call) m.journal
begins_after m (Read name) = begins_with_itself m.journal
begins_after m (Impact name query) = begins_with_itself m.journal
begins_after m (Change name raw) = by (act_of raw)
  where
    by : (a : Option ActValue) → BeginsWith (option_map_or (journal_after_act m name) a m.journal) m.journal
    by (Some act) = begins_after_act m name act
    by None = begins_with_itself m.journal

-- The journal after a transition begins with the one before it.
pub begins_answered : (m n : TableModel) (call : Call) (reply : ReplyValue) → Answers m call reply n → BeginsWith n.journal m.journal
begins_answered m n call reply (inl (inl a)) =
    subst (λ (j : Journal). BeginsWith j m.journal) (sym (ap (λ (t : TableModel). t.journal) a.1)) (begins_after m call)
begins_answered m n call reply (inl (inr a)) = begins_as m.journal n.journal (ap (λ (t : TableModel). t.journal) a.1)
begins_answered m n (Read name) reply (inr a) = absurd a
begins_answered m n (Impact name query) reply (inr a) = absurd a
begins_answered m n (Change name raw) reply (inr a) = begins_as m.journal n.journal (ap (λ (t : TableModel). t.journal) a.2.2)

-- If a session lacks a copy, the reply is `NoCopy`, and what it has seen and its count don't
-- change.
pub lacks_copy : (opening : Journal) (old new : SessionView) (call : Call) (reply : ReplyValue) → LacksCopy opening old call reply new
    → (reply ≡ refused no_copy) × (new.journal ≡ old.journal) × (new.accepted ≡ old.accepted)
lacks_copy opening old new (Read name) reply lacks =
    (lacks.answer, ap (λ (v : SessionView). v.journal) lacks.same, ap (λ (v : SessionView). v.accepted) lacks.same)
lacks_copy opening old new (Change name raw) reply lacks =
    (lacks.answer, ap (λ (v : SessionView). v.journal) lacks.same, ap (λ (v : SessionView). v.accepted) lacks.same)
lacks_copy opening old new (Impact name query) reply lacks =
    (lacks.0, ap (λ (v : SessionView). v.journal) lacks.1, ap (λ (v : SessionView). v.accepted) lacks.1)

-- A session has advanced after a step.
pub step_later : (opening : Journal) (old new : SessionView) (call : Call) (reply : ReplyValue) → SessionStep opening old call reply new
    → IsLater old new
step_later opening old new call reply step = by step.1
  where
    by : LacksCopy opening old call reply new ⊎ AnswersOver old call reply new → IsLater old new
    by (inl a) =
        let same = lacks_copy opening old new call reply a in
        let counted = same.2 in record { seen = begins_as old.journal new.journal same.1; accepted = omega (arith, counted) }
    by (inr a) = record {
      seen = begins_with_earlier new.journal a.before.journal old.journal
          (subst (λ (j : Journal). BeginsWith j a.before.journal) (sym a.seen) (begins_answered a.before a.after call reply a.answer))
          a.fresh;
      accepted = omega (arith, a.accepted);
    }

-- A session has advanced after a step before which it may have caught up.
pub caught_up_later : (opening : Journal) (old new : SessionView) (call : Call) (reply : ReplyValue) → CaughtUpStep opening old call reply new
    → IsLater old new
caught_up_later opening old new call reply step =
    let same = step.1.counted.accepted in
    later_then old step.0 new (record { seen = step.1.seen; accepted = omega (arith, same) }) (step_later opening step.0 new call reply step.2)

-- A session that doesn't change has caught up.
pub caught_up : (opening : Journal) (v : SessionView) → BeginsWith v.journal opening
    → length v.journal.entries ≡ length opening.entries + length v.makers → CatchesUp opening v v
caught_up opening v begins entries = record {
  seen = begins_with_itself v.journal;
  signed = signs_nothing opening v v refl begins entries;
  counted = record { accepted = refl; faulted = refl; stopped = refl };
}
