-- Lemmas: accepted changes are in the last journal.
use Rattle.std.proofs.Common.{◌≡◌, ◌+◌, ℕ, List, [], ◌∷◌, Option, Some, None, refl, sym, ◌∙◌, ap, subst, inl, inr, arith, append_assoc}
use Rattle.std.specs.Option.{option_map_or}
use Rattle.std.proofs.lemmas.List.Elements.{All-nil, All-cons}
use Rattle.tfs_state.specs.Document.{Document}
use Rattle.tfs_rules.specs.Act.{ActValue}
use Rattle.tfs_rules.specs.History.{state_of}
use Rattle.tfs_records.specs.Journal.{Journal, BaseValue, EntryValue, acts_of, position_of, with_entry}
use Rattle.tfs_calls.specs.Draft.{act_of, draft_refusal}
use Rattle.tfs_calls.specs.Impact.{chosen_by, query_refusal}
use Rattle.tfs_calls.specs.Refusal.{RefusalValue, no_state, out_of_memory, journal_fault, no_copy}
use Rattle.tfs_calls.specs.Reply.{ReplyValue, done, state, impact, refused}
use Rattle.tfs_calls.specs.Transition.{TableModel, Answers, act_refusal, act_answer, journal_after_act, query_answer}
use Rattle.tfs_calls.specs.declared.call.Call.{Call}
use Rattle.tfs_calls.specs.declared.call.Call.TheVariants.{Read, Change, Impact}
use Rattle.tfs_calls.specs.declared.call.Raw.{Raw}
use Rattle.tfs_calls.specs.declared.query.Query.{Query}
use Rattle.tfs_published.specs.Beginning.{BeginsWith}
use Rattle.tfs_serve.specs.Serving.{Replies, RepliesInTurn}
use Rattle.tfs_serve.specs.Standing.{StandsAt, IsAcceptedAt, AcceptedStand}
use Rattle.tfs_serve.specs.Working.{Answer}

-- A refusal is not an acceptance.
refuses : (r : RefusalValue) (position : ℕ) → refused r ≡ done position → ⊥
refuses r position is = cc

-- The answer to a read is not an acceptance.
reads : (o : Option Document) (position : ℕ) → option_map_or state o (refused no_state) ≡ done position → ⊥
reads None position is = cc
reads (Some d) position is = cc

-- The answer to a query is not an acceptance.
asks : (j : Journal) (query : Query) (o : Option Document) (position : ℕ)
    → option_map_or (query_answer j query) o (refused no_state) ≡ done position → ⊥
asks j query None position is = cc
asks j query (Some d) position is = by (query_refusal d query) is
  where
    by : (r : Option RefusalValue) → option_map_or refused r (impact d (chosen_by d query) (position_of j)) ≡ done position → ⊥
    by None e = cc
    by (Some r) e = cc

-- If a journal begins with another one and an entry, it has the entry at the position after the
-- other's.
stands_at : (last j : Journal) (e : EntryValue) → BeginsWith last (with_entry j e) → StandsAt last e (position_of j + 1)
stands_at last j e begins =
    let base = ap (λ (b : BaseValue). b.position) begins.base in
    record {
      front = j.entries;
      rest = begins.entries.0;
      parts = sym begins.entries.1 ∙ append_assoc j.entries (e ∷ []) begins.entries.0;
      position_is = omega (arith, base);
    }

-- An accepted change is in the last journal at the reported position.
changes : (last next : Journal) (m : TableModel) (name : List ℕ) (raw : Raw) (position : ℕ) (o : Option ActValue) → act_of raw ≡ o
    → option_map_or (act_answer m name) o (refused (draft_refusal raw)) ≡ done position
    → option_map_or (journal_after_act m name) o m.journal ≡ next → BeginsWith last next → IsAcceptedAt last (Change name raw) position
changes last next m name raw position None asked is leaves begins = absurd (refuses (draft_refusal raw) position is)
changes last next m name raw position (Some act) asked is leaves begins = by (act_refusal m name act) refl
  where
    by : (r : Option RefusalValue) → act_refusal m name act ≡ r → IsAcceptedAt last (Change name raw) position
    by (Some r) e = absurd (refuses r position (sym (ap (λ (x : Option RefusalValue). option_map_or refused x (done (position_of m.journal + 1))) e) ∙ is))
    by None e =
        let accepted : done (position_of m.journal + 1) ≡ done position =
        sym (ap (λ (x : Option RefusalValue). option_map_or refused x (done (position_of m.journal + 1))) e) ∙ is in
        let at : position_of m.journal + 1 ≡ position = cc in
        let entered : with_entry m.journal (record { name = name; act = act }) ≡ next = rw e at leaves in
        record {
          name = name;
          raw = raw;
          act = act;
          asked = refl;
          read = asked;
          stands = subst (StandsAt last (record { name = name; act = act })) at
              (stands_at last m.journal (record { name = name; act = act }) (subst (BeginsWith last) (sym entered) begins));
        }

-- If a reply reports acceptance, the change is in the last journal at the reported position.
accepts : (last next : Journal) (m n : TableModel) (call : Call) (reply : ReplyValue) (position : ℕ) → Answers m call reply n
    → n.journal ≡ next → BeginsWith last next → reply ≡ done position → IsAcceptedAt last call position
accepts last next m n (Read name) reply position (inl (inl gives)) leaves begins is =
    absurd (reads (state_of (acts_of name m.journal)) position (sym gives.0 ∙ is))
accepts last next m n (Impact name query) reply position (inl (inl gives)) leaves begins is =
    absurd (asks m.journal query (state_of (acts_of name m.journal)) position (sym gives.0 ∙ is))
accepts last next m n (Change name raw) reply position (inl (inl gives)) leaves begins is =
    changes last next m name raw position (act_of raw) refl (sym gives.0 ∙ is)
    (sym (ap (λ (t : TableModel). t.journal) gives.1) ∙ leaves) begins
accepts last next m n call reply position (inl (inr lacks)) leaves begins is = absurd (refuses out_of_memory position (sym lacks.0 ∙ is))
accepts last next m n (Read name) reply position (inr faults) leaves begins is = absurd faults
accepts last next m n (Impact name query) reply position (inr faults) leaves begins is = absurd faults
accepts last next m n (Change name raw) reply position (inr faults) leaves begins is =
    absurd (refuses journal_fault position (sym faults.2.1 ∙ is))

-- The previous lemma for the reply of a worker.
accepts_one : (opening last seen : Journal) (a : Answer) (position : ℕ) → Replies opening last seen a → a.reply ≡ done position
    → IsAcceptedAt last a.call position
accepts_one opening last seen a position (inl none) is = absurd (refuses no_copy position (sym none.reply ∙ is))
accepts_one opening last seen a position (inr over) is =
    accepts last a.seen over.before over.after a.call a.reply position over.answer over.leaves over.stands is

-- Each accepted change of a worker is in the last journal at the reported position.
pub accepted_stand : (opening last seen end : Journal) (answers : List Answer) → RepliesInTurn opening last seen answers end
    → AcceptedStand last answers
accepted_stand opening last seen end [] replies = All-nil (λ (a : Answer). (position : ℕ) → a.reply ≡ done position → IsAcceptedAt last a.call position)
accepted_stand opening last seen end (a ∷ more) replies =
    All-cons (λ (b : Answer). (position : ℕ) → b.reply ≡ done position → IsAcceptedAt last b.call position) a more
    (λ position is. accepts_one opening last seen a position replies.0 is) (accepted_stand opening last a.seen end more replies.1)
