-- For each table, all bytes have an output.
use Rattle.std.specs.List.{AllByRecursion}
use Rattle.std.specs.Io.KnownBytes.{Appends}
use Rattle.std.specs.Option.{option_map_or}
use Rattle.std.proofs.Common.{◌≡◌, ◌≢◌, true, ℕ, List, [], ◌∷◌, ◌++◌, Option, Some, None, Result, Ok, Err, refl, sym, ap, subst, inl, inr}
use Rattle.tfs_state.specs.Document.{Document}
use Rattle.tfs_rules.specs.Act.{ActValue}
use Rattle.tfs_rules.specs.History.{state_of}
use Rattle.tfs_records.specs.Journal.{EntryValue, acts_of, position_of, with_entry}
use Rattle.tfs_records.specs.Format.{record_text}
use Rattle.tfs_calls.specs.declared.call.Call.{Call}
use Rattle.tfs_calls.specs.declared.call.Call.TheVariants.{Read, Change, Impact}
use Rattle.tfs_calls.specs.declared.call.Raw.{Raw}
use Rattle.tfs_calls.specs.declared.query.Query.{Query}
use Rattle.tfs_calls.specs.declared.refusal.Refusal.{Refusal}
use Rattle.tfs_calls.specs.declared.refusal.Refusal.TheVariants.{OutOfMemory, JournalFault}
use Rattle.tfs_calls.specs.Draft.{act_of, draft_refusal}
use Rattle.tfs_calls.specs.Impact.{chosen_by, query_refusal}
use Rattle.tfs_calls.specs.Refusal.{RefusalValue, refusal_value, out_of_memory, journal_fault, no_state}
use Rattle.tfs_calls.specs.Reply.{state, impact, refused}
use Rattle.tfs_calls.specs.Transition.{TableModel, act_refusal, answer_of}
use Rattle.tfs_table.specs.Table.{TableValue, model_of, IsSameTable}
use Rattle.tfs_framing.specs.Request.{RequestValue}
use Rattle.tfs_framing.specs.Framing.{Frames}
use Rattle.tfs_framing.specs.declared.framing.Take.{Take}
use Rattle.tfs_http.specs.Routing.{RoutesTo, routing_refusal}
use Rattle.tfs_conversation.specs.Desk.{AnswersCall, Leaves}
use Rattle.tfs_conversation.specs.Messages.{AreMessages, IsRefused, StopsAt, one_asks}
use Rattle.tfs_conversation.specs.Conversation.{Said, replied, is_open, Plainly, AnswersRequest, Exchange, requests_of, Runs, Course, course_text}
use Rattle.tfs_conversation.specs.Output.{IsUndisturbed, HasOutput}
use Rattle.tfs_conversation.specs.declared.ended.Ended.{Ended}
use Rattle.tfs_conversation.proofs.CourseLemmas.{AllOpen}
use Rattle.tfs_conversation.proofs.MessagesLemmas.{messages_some}

-- ---- tables

-- `IsSameTable` is reflexive.
same_table : (t : TableValue) → IsSameTable t t
same_table t = record { journal = refl; stopped = refl; tells = refl; told = refl; faults = refl }

-- The bytes that the sink has received, with more bytes.
abbrev told_more : Option (List ℕ) → List ℕ → Option (List ℕ)
told_more None text = None
told_more (Some bytes) text = Some (bytes ++ text)

-- Between the two, the sink received exactly this text.
appends_more : (told : Option (List ℕ)) (text : List ℕ) → Appends told (told_more told text) text
appends_more None text = tt
appends_more (Some bytes) text = refl

-- The table with one more entry, whose record the sink has received.
abbrev entered : TableValue → EntryValue → TableValue
entered t e = record {
  journal = with_entry t.journal e;
  stopped = t.stopped;
  tells = t.tells;
  told = told_more t.told (record_text e);
  faults = t.faults;
  spare = t.spare;
}

-- A refusal other than `journal_fault` doesn't change the table.
refusal_leaves : (r : RefusalValue) (t : TableValue) → refused r ≢ refused journal_fault → Leaves (refused r) t t
refusal_leaves r t other = (λ more. same_table t, λ is. absurd (other (ap refused is)))

-- ---- calls

-- The table can answer the call with the reply of the model.
abbrev HasAnswer : TableValue → Call → Type 0
HasAnswer old call = (new : TableValue) × AnswersCall old call (answer_of (model_of old) call) new

module _ (told : (m : TableModel) (call : Call) → answer_of m call ≢ refused journal_fault)
    (had : (m : TableModel) (call : Call) → answer_of m call ≢ refused out_of_memory) where
  -- A table can answer each read.
  read_answered : (old : TableValue) (name : List ℕ) → HasAnswer old (Read name)
  read_answered old name = (
    old,
    record {
      answered = inl (inl (refl, refl));
      memory = λ lacks. absurd (had (model_of old) (Read name) lacks);
      leaves = by (state_of (acts_of name old.journal)) (told (model_of old) (Read name));
    },
  )
    where
      by : (o : Option Document) → option_map_or state o (refused no_state) ≢ refused journal_fault
          → Leaves (option_map_or state o (refused no_state)) old old
      by None other = refusal_leaves no_state old other
      by (Some d) other = same_table old

  -- A table can answer each query.
  impact_answered : (old : TableValue) (name : List ℕ) (query : Query) → HasAnswer old (Impact name query)
  impact_answered old name query = (
    old,
    record {
      answered = inl (inl (refl, refl));
      memory = λ lacks. absurd (had (model_of old) (Impact name query) lacks);
      leaves = by (state_of (acts_of name old.journal)) (told (model_of old) (Impact name query));
    },
  )
    where
      chosen : (d : Document) (o : Option RefusalValue)
          → option_map_or refused o (impact d (chosen_by d query) (position_of old.journal)) ≢ refused journal_fault
          → Leaves (option_map_or refused o (impact d (chosen_by d query) (position_of old.journal))) old old
      chosen d None other = same_table old
      chosen d (Some r) other = refusal_leaves r old other

      by : (o : Option Document)
          → option_map_or (λ d. option_map_or refused (query_refusal d query) (impact d (chosen_by d query) (position_of old.journal))) o
          (refused no_state) ≢ refused journal_fault
          → Leaves (option_map_or (λ d. option_map_or refused (query_refusal d query) (impact d (chosen_by d query) (position_of old.journal))) o
          (refused no_state)) old old
      by None other = refusal_leaves no_state old other
      by (Some d) other = chosen d (query_refusal d query) other

  -- A table can answer each change.
  change_answered : (old : TableValue) (name : List ℕ) (raw : Raw) → HasAnswer old (Change name raw)
  change_answered old name raw = by (act_of raw) refl (told (model_of old) (Change name raw))
    where
      by_act : (act : ActValue) (o : Option RefusalValue) → act_of raw ≡ Some act → act_refusal (model_of old) name act ≡ o
          → answer_of (model_of old) (Change name raw) ≢ refused journal_fault → HasAnswer old (Change name raw)
      by_act act None is free other = (
        entered old (record { name = name; act = act }),
        record {
          answered = inl (inl (refl, rw (is, free) refl));
          memory = λ lacks. absurd (had (model_of old) (Change name raw) lacks);
          leaves = rw (is, free) (record {
            entry = record { name = name; act = act };
            journal = refl;
            stopped = refl;
            tells = refl;
            told = appends_more old.told (record_text (record { name = name; act = act }));
          });
        },
      )
      by_act act (Some r) is free other = (
        old,
        record {
          answered = inl (inl (refl, rw (is, free) refl));
          memory = λ lacks. absurd (had (model_of old) (Change name raw) lacks);
          leaves = rw (is, free) (refusal_leaves r old (rw (is, free) at other));
        },
      )

      by : (o : Option ActValue) → act_of raw ≡ o → answer_of (model_of old) (Change name raw) ≢ refused journal_fault
          → HasAnswer old (Change name raw)
      by None is other = (
        old,
        record {
          answered = inl (inl (refl, rw is refl));
          memory = λ lacks. absurd (had (model_of old) (Change name raw) lacks);
          leaves = rw is (refusal_leaves (draft_refusal raw) old (rw is at other));
        },
      )
      by (Some act) is other = by_act act (act_refusal (model_of old) name act) is refl other

  -- A table can answer each call.
  call_answered : (old : TableValue) (call : Call) → HasAnswer old call
  call_answered old (Read name) = read_answered old name
  call_answered old (Change name raw) = change_answered old name raw
  call_answered old (Impact name query) = impact_answered old name query

  -- ---- requests

  -- A refusal by routing is neither `out_of_memory` nor `journal_fault`.
  routing_told : (r : RequestValue) (refusal : Refusal) → routing_refusal r refusal
      → (replied (refused (refusal_value refusal)) ≢ replied (refused out_of_memory))
      × (replied (refused (refusal_value refusal)) ≢ replied (refused journal_fault))
  routing_told r OutOfMemory is = absurd is
  routing_told r JournalFault is = absurd is
  routing_told r refusal is = (λ e. cc, λ e. cc)

  module _ (routed : (r : RequestValue) → (x : Result Call Refusal) × RoutesTo r x) where
    -- The request has a reply that is neither `out_of_memory` nor `journal_fault`.
    abbrev IsAnswered : TableValue → RequestValue → Type 0
    IsAnswered old r = (reply : Said) × (new : TableValue) × AnswersRequest (Plainly AnswersCall) old r reply new
        × (reply ≢ replied (refused out_of_memory)) × (reply ≢ replied (refused journal_fault)) × (is_open reply ≡ true)

    -- Each request has a reply of this kind.
    request_answered : (old : TableValue) (r : RequestValue) → IsAnswered old r
    request_answered old r = by (routed r).0 (routed r).1
      where
        by : (x : Result Call Refusal) → RoutesTo r x → IsAnswered old r
        by (Err refusal) is = let other = routing_told r refusal is in
            (replied (refused (refusal_value refusal)), old, inl (refusal, is, refl, refl), other.0, other.1, refl)
        by (Ok call) is = let a = call_answered old call in
            let reply = answer_of (model_of old) call in
            (replied reply, a.0, inr (inr (call, is, (reply, refl, a.1))), (λ e. had (model_of old) call (cc e)), (λ e. told (model_of old) call (cc e)), refl)

    -- The requests have replies of this kind, one after the other.
    abbrev AreAnswered : TableValue → List RequestValue → Type 0
    AreAnswered old requests = (xs : List Exchange) × (new : TableValue) × (requests_of xs ≡ requests) × Runs (Plainly AnswersCall) old xs new
        × AllByRecursion IsUndisturbed xs × AllOpen xs

    -- Each list of requests has replies of this kind.
    requests_answered : (old : TableValue) (requests : List RequestValue) → AreAnswered old requests
    requests_answered old [] = ([], old, refl, refl, tt, tt)
    requests_answered old (r ∷ rs) =
        let first = request_answered old r in
        let others = requests_answered first.1 rs in (
          record { request = r; reply = first.0 } ∷ others.0,
          others.1,
          ap (λ t. r ∷ t) others.2,
          (first.1, first.2, others.3),
          ((first.3, first.4), others.4),
          (inl first.5, others.5),
        )

    -- The replies to the messages of the bytes, one after the other, are their output.
    pub output_some : ((bytes : List ℕ) → (t : Take) × Frames bytes t) → (old : TableValue) (bytes : List ℕ)
        → (new : TableValue) × (text : List ℕ) × (ended : Ended) × HasOutput old new bytes text ended
    output_some framed old bytes =
        let found = messages_some framed bytes in
        let m = found.0 in
        let run = requests_answered old m.requests in
        let course : Course = record { exchanges = run.0; rest = m.rest; refusal = m.refusal } in (
          run.1,
          course_text course,
          found.1,
          record {
            converses = record {
              course = course;
              takes = record {
                has = record {
                  messages = subst (λ (rs : List RequestValue). AreMessages bytes rs m.rest) (sym run.2) found.2.messages;
                  refused = subst (λ (rs : List RequestValue). IsRefused (one_asks rs) m.rest m.refusal) (sym run.2) found.2.refused;
                };
                run = run.3;
              };
              opened = run.5;
              stop = subst (λ (rs : List RequestValue). StopsAt (one_asks rs) m.rest m.refusal found.1) (sym run.2) found.3;
              text_is = refl;
            };
            undisturbed = run.4;
          },
        )
