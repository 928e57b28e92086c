-- Lemmas about the invariant of tables: at the start, and after a change.
use Rattle.std.proofs.Common.{◌≡◌, ◌≤◌, length, ℕ, List, [], ◌∷◌, ◌++◌, All, Bool}
use Rattle.std.proofs.Common.{true, false, Option, Some, None, is_some, IfSome, refl, sym, ◌∙◌}
use Rattle.std.proofs.Common.{ap, subst, append_assoc, append-nil}
use Rattle.std.specs.List.{flat_map, slice_get}
use Rattle.std.specs.Io.KnownBytes.{Appends}
use Rattle.std.proofs.lemmas.List.Elements.{All-nil, All-append, All-cons}
use Rattle.std.proofs.lemmas.List.Sums.{fold-append}
use Rattle.std.proofs.lemmas.Slice.Eq.{bytes_eq-Decides}
use Rattle.tfs_state.specs.Document.{Document}
use Rattle.tfs_rules.specs.Act.{ActValue}
use Rattle.tfs_rules.specs.History.{Standing, state_of, state_after}
use Rattle.tfs_records.specs.Journal.{Journal, EntryValue, IsEntry, BaseValue, IsBase, opened, acts_of, names_of, with_entry}
use Rattle.tfs_records.specs.Format.{header_text, base_text, record_text, journal_text}
use Rattle.tfs_records.specs.Sink.{AppendsPart}
use Rattle.tfs_records.proofs.JournalLemmas.{acts_of_own}
use Rattle.tfs_table.specs.Lawful.{IsLawful}
use Rattle.tfs_table.specs.Ready.{ReadyValue, IsReady}
use Rattle.tfs_table.specs.Table.{IsTold, IsTable}
use Rattle.tfs_calls.specs.Transition.{act_refusal, open_model}
use Rattle.tfs_table.specs.Workspaces.{standing_at, AreWorkspacesOf, HasVersion}
use Rattle.tfs_table.specs.declared.workspace.Workspace.{Workspace}
use Rattle.tfs_table.proofs.LawfulLemmas.{taken, lawful_opened, lawful_more}

-- The text of a journal with one more entry is the text of the journal followed by the entry's
-- record.
pub text_more : (j : Journal) (e : EntryValue) → journal_text (with_entry j e) ≡ journal_text j ++ record_text e
text_more j e =
    let front = header_text 2 in
    let base = base_text j.base in
    let records = flat_map record_text j.entries in
    ap (λ t. front ++ (base ++ t)) (flat_more j.entries)
    ∙ ap (λ t. front ++ t) (sym (append_assoc base records (record_text e)))
    ∙ sym (append_assoc front (base ++ records) (record_text e))
  where
    flat_more : (es : List EntryValue) → flat_map record_text (es ++ e ∷ []) ≡ flat_map record_text es ++ record_text e
    flat_more [] = append-nil (record_text e)
    flat_more (x ∷ es) = ap (λ t. record_text x ++ t) (flat_more es)
        ∙ sym (append_assoc (record_text x) (flat_map record_text es) (record_text e))

-- After the text of the journal is appended to an empty sink, the sink's bytes are the journal's.
told_first : (old new : Option (List ℕ)) (j : Journal) → IfSome old (λ bytes. bytes ≡ []) → Appends old new (journal_text j)
    → is_some old ≡ true → IsTold false j new
told_first None new j none told there = cc
told_first (Some bytes) None j none told there = told
told_first (Some bytes) (Some more) j none told there = told ∙ ap (λ t. t ++ journal_text j) none

-- After the record of an entry is appended, the sink's bytes are those of the journal with the
-- entry.
pub told_more : (old new : Option (List ℕ)) (j : Journal) (e : EntryValue) → IsTold false j old → Appends old new (record_text e)
    → IsTold false (with_entry j e) new
told_more None new j e told more = absurd told
told_more (Some bytes) None j e told more = more
told_more (Some bytes) (Some all) j e told more = more ∙ ap (λ t. t ++ record_text e) told ∙ sym (text_more j e)

-- After a failure, the sink's bytes are the journal's text followed by a prefix of one record.
pub told_part : (old new : Option (List ℕ)) (j : Journal) (e : EntryValue) → IsEntry e → IsTold false j old
    → AppendsPart old new (record_text e) → IsTold true j new
told_part None new j e read told part = absurd told
told_part (Some bytes) None j e read told part = part.appended
told_part (Some bytes) (Some all) j e read told part = record {
  entry = e;
  read = read;
  front = part.front;
  rest = part.rest;
  parts = part.parts;
  told = part.appended ∙ ap (λ t. t ++ part.front) told;
}

-- A table with a base and no entries satisfies the invariant.
pub opened_table : (base : BaseValue) (entries : List EntryValue) (ws : List Workspace) (first old new : Option (List ℕ)) (faults spare : ℕ)
    → IsBase base → entries ≡ [] → AreWorkspacesOf (opened base) ws → All HasVersion ws → first ≡ old → faults ≡ 0
    → IfSome old (λ bytes. bytes ≡ [])
    → Appends old new (journal_text (opened base))
    → IsTable (record {
      journal = record { base = base; entries = entries };
      stopped = false;
      tells = is_some first;
      told = new;
      faults =
          faults;
      spare = spare;
    })
    × AreWorkspacesOf (record { base = base; entries = entries }) ws × All HasVersion ws
opened_table base entries ws first old new faults spare based none are versions same well untold told =
    let is_opened : opened base ≡ record { base = base; entries = entries } =
    ap (λ (t : List EntryValue). let k : Journal = record { base = base; entries = t } in k) (sym none) in (
      record {
        based = based;
        read = subst (All IsEntry) (sym none) (All-nil IsEntry);
        lawful = subst IsLawful is_opened (lawful_opened base based);
        sound = λ _. well;
        told = λ there. subst (λ (k : Journal). IsTold false k new) is_opened (told_first old new (opened base) untold told (ap is_some
            (sym same) ∙ there));
      },
      subst (λ (k : Journal). AreWorkspacesOf k ws) is_opened are,
      versions,
    )

-- A change that the journal accepts satisfies the invariant of ready changes.
pub is_ready : (base given_base : BaseValue) (entries given_entries : List EntryValue) (e : EntryValue) (name : List ℕ) (number : ℕ)
    (act : ActValue) (ws : List Workspace) (version : Option Document) (bytes : List ℕ) → base ≡ given_base → entries ≡ given_entries
    → name ≡ e.name → act ≡ e.act → IsEntry e → bytes ≡ record_text e
    → AreWorkspacesOf (record { base = given_base; entries = given_entries }) ws → version ≡ state_after (standing_at name ws).state act
    → slice_get (names_of (with_entry (record { base = given_base; entries = given_entries }) (record { name = name; act = act })))
    number ≡ Some name
    → IsLawful (record { base = given_base; entries = given_entries })
    → act_refusal (open_model (record { base = given_base; entries = given_entries })) e.name e.act ≡ None
    → IsReady (record { journal = record { base = base; entries = entries }; entry = e }) name number act version bytes
is_ready base given_base entries given_entries e name number act ws version bytes same_base same_entries is_name is_act read text are is
    numbered lawful accepted =
    let given : Journal = record { base = given_base; entries = given_entries } in
    let same : given ≡ record { base = base; entries = entries } = rw (same_base, same_entries) refl in
    let as_entry : record { name = name; act = act } ≡ e = rw (is_name, is_act) refl in
    let stands : state_after (standing_at name ws).state act ≡ state_after (state_of (acts_of name given)) act =
    ap (λ (s : Standing). state_after s.state act) (are.standings name) in
    let after : state_after (state_of (acts_of name given)) act ≡ state_of (acts_of name given ++ act ∷ []) =
    sym (fold-append state_after None (acts_of name given) (act ∷ [])) in
    let own : acts_of name given ++ act ∷ [] ≡ acts_of e.name (with_entry given e) =
    ap (λ a. acts_of name given ++ a ∷ []) is_act
    ∙ sym (acts_of_own name given e ((bytes_eq-Decides e.name name).1 (sym is_name)))
    ∙ ap (λ n. acts_of n (with_entry given e)) is_name in
    let number_there = subst (λ (x : EntryValue). slice_get (names_of (with_entry given x)) number ≡ Some x.name) as_entry numbered in
    let more = lawful_more given e lawful (taken given e.name e.act accepted) in
    record {
      name = is_name;
      act = is_act;
      read = read;
      text = text;
      number = subst (λ (j : Journal). slice_get (names_of (with_entry j e)) number ≡ Some e.name) same number_there;
      few = subst (λ (j : Journal). length (names_of (with_entry j e)) ≤ 1024) same more.names;
      version = is ∙ stands ∙ after ∙ ap state_of own ∙ ap (λ (j : Journal). state_of (acts_of e.name (with_entry j e))) same;
      accepted = subst (λ (k : Journal). act_refusal (open_model k) e.name e.act ≡ None) same accepted;
    }

-- A table satisfies the invariant after a ready change is finished.
pub finished : (base : BaseValue) (entries more : List EntryValue) (ws new : List Workspace) (stopped tells : Bool) (told after : Option
    (List ℕ))
    (faults now spare left number : ℕ) (r : ReadyValue) (name : List ℕ) (act : ActValue) (version : Option Document) (bytes : List ℕ)
    → IsTable (record {
      journal = record { base = base; entries = entries };
      stopped = stopped;
      tells = tells;
      told = told;
      faults =
          faults;
      spare = spare;
    })
    → AreWorkspacesOf (record { base = base; entries = entries }) ws → All HasVersion ws → IsReady r name number act version bytes
    → r.journal ≡ record { base = base; entries = entries } → stopped ≡ false → Appends told after bytes → now ≡ 0
    → more ≡ entries ++ r.entry ∷ []
    → ((j : Journal) → AreWorkspacesOf j ws → AreWorkspacesOf (with_entry j (record { name = name; act = act })) new)
    → ((j : Journal) → AreWorkspacesOf j ws → All HasVersion ws
    → version ≡ state_of (acts_of name (with_entry j (record { name = name; act = act })))
    → All HasVersion new)
    → IsTable (record {
      journal = record { base = base; entries = more };
      stopped = stopped;
      tells = tells;
      told = after;
      faults = now;
      spare = left;
    })
    × AreWorkspacesOf (record { base = base; entries = more }) new × All HasVersion new
finished base entries more ws new stopped tells told after faults now spare left number r name act version bytes is are versions ready same
    running sent well longer commits keeps =
    let j : Journal = record { base = base; entries = entries } in
    let e = r.entry in
    let is_more : with_entry j e ≡ record { base = base; entries = more } =
    ap (λ (t : List EntryValue). let k : Journal = record { base = base; entries = t } in k) (sym longer) in
    let own : record { name = name; act = act } ≡ e = rw (ready.name, ready.act) refl in
    let accepted : act_refusal (open_model j) e.name e.act ≡ None =
    ap (λ (k : Journal). act_refusal (open_model k) e.name e.act) (sym same) ∙ ready.accepted in
    let of_state : version ≡ state_of (acts_of name (with_entry j (record { name = name; act = act }))) =
    ready.version ∙ ap (λ (k : Journal). state_of (acts_of e.name (with_entry k e))) same
    ∙ ap (λ n. state_of (acts_of n (with_entry j e))) (sym ready.name)
    ∙ ap (λ (x : EntryValue). state_of (acts_of name (with_entry j x))) (sym own) in (
      record {
        based = is.based;
        read = subst (All IsEntry) (sym longer)
            (All-append IsEntry entries (e ∷ []) is.read (All-cons IsEntry e [] ready.read (All-nil IsEntry)));
        lawful = subst IsLawful is_more (lawful_more j e is.lawful (taken j e.name e.act accepted));
        sound = λ _. well;
        told = λ there.
            let before = subst (λ s. IsTold s j told) running (is.told there) in
            let more_told = told_more told after j e before (subst (Appends told after) ready.text sent) in
            subst (λ s. IsTold s (record { base = base; entries = more }) after) (sym running) (subst (λ
            (k : Journal). IsTold false k after) is_more more_told);
      },
      subst (λ (k : Journal). AreWorkspacesOf k new) is_more (subst (λ (x : EntryValue). AreWorkspacesOf (with_entry j x) new) own
          (commits j are)),
      keeps j are versions of_state,
    )
