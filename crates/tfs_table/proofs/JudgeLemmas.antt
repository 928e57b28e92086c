-- Lemmas about judging an act by the workspaces of a journal instead of the journal.
use Rattle.std.proofs.lemmas.Option.{slice_get_within}
use Rattle.std.proofs.Common.{◌≡◌, ◌≢◌, ◌≤◌, IfSome, ℕ, List, [], ◌++◌, length, Bool, not, Option, Some, None, is_some, Result, Ok, Err}
use Rattle.std.proofs.Common.{refl, sym}
use Rattle.std.proofs.Common.{◌∙◌, ap}
use Rattle.std.proofs.Common.{◌<◌, ◌∷◌, All, option_map, get_or, cond, true, false, arith, length-append}
use Rattle.std.specs.Arc.{arc_value}
use Rattle.std.specs.Result.{is_err}
use Rattle.std.proofs.lemmas.List.Elements.{All-get_or}
use Rattle.tfs_lock.specs.LockInfo.{LockInformation}
use Rattle.tfs_rules.specs.declared.verdict.Verdict.{Verdict}
use Rattle.tfs_rules.specs.declared.verdict.Verdict.TheVariants as verdict
use Rattle.tfs_table.proofs.WorkspaceLemmas.{find_behind, standing_at_place, get_at, found_there, number_behind}
use Rattle.tfs_records.proofs.NameLemmas.{bytes_same}
use Rattle.tfs_records.proofs.JournalLemmas.{names_kept, names_added}
use Rattle.tfs_table.proofs.LawfulLemmas.{neither}
use Rattle.std.specs.List.{find, list_any, slice_get}
use Rattle.std.specs.Option.{option_or}
use Rattle.std.specs.Str.{bytes_eq}
use Rattle.tfs_rules.specs.Act.{ActValue}
use Rattle.tfs_rules.specs.History.{Standing}
use Rattle.tfs_rules.specs.Verdict.{verdict_over}
use Rattle.tfs_records.specs.Journal.{Journal, acts_of, names_of, with_entry}
use Rattle.tfs_calls.specs.Refusal.{RefusalValue, journal_stopped, journal_fault, table_full, journal_full}
use Rattle.tfs_calls.specs.Transition.{refusal_of, verdict_refusal, limit_refusal, full_refusal, act_refusal, open_model, TableModel}
use Rattle.tfs_table.specs.declared.workspace.Workspace.{Workspace}
use Rattle.tfs_table.specs.Workspaces.{is_of, standing_at, AreWorkspacesOf, HasVersion, IsNumbered, IsPlaceOf, IsGapFor, IsFound}

-- The refusal by the rules over the workspace of a name is the refusal over the name's history.
pub rules_over : (j : Journal) (ws : List Workspace) (name : List ℕ) (act : ActValue) → AreWorkspacesOf j ws
    → refusal_of (standing_at name ws).holder (verdict_over (standing_at name ws) act) ≡ verdict_refusal (acts_of name j) act
rules_over j ws name act are = ap (λ s. refusal_of s.holder (verdict_over s act)) (are.standings name)

-- The refusal by the limits over the workspaces is the refusal over the journal.
pub limits_over : (j : Journal) (ws : List Workspace) (name : List ℕ) (is_new : Bool) (count : ℕ) → AreWorkspacesOf j ws
    → length j.entries ≡ count
    → is_new ≡ not (is_some (find (is_of name) ws)) → full_refusal (length ws) is_new count ≡ limit_refusal j name
limits_over j ws name is_new count are long new =
    ap (λ n. full_refusal n is_new count) are.count
    ∙ ap (λ t. full_refusal (length (names_of j)) t count) (new ∙ ap not (are.names name))
    ∙ ap (full_refusal (length (names_of j)) (not (list_any (bytes_eq name) (names_of j)))) (sym long)

-- If neither the rules nor the limits refuse an act, it isn't refused.
pub judged_accepted : (j : Journal) (ws : List Workspace) (name : List ℕ) (act : ActValue) (is_new : Bool) (count : ℕ)
    → AreWorkspacesOf j ws
    → length j.entries ≡ count → is_new ≡ not (is_some (find (is_of name) ws))
    → refusal_of (standing_at name ws).holder (verdict_over (standing_at name ws) act) ≡ None → full_refusal (length ws) is_new count ≡ None
    → act_refusal (open_model j) name act ≡ None
judged_accepted j ws name act is_new count are long new rules limits =
    ap (λ o. option_or o (limit_refusal j name)) (sym (rules_over j ws name act are) ∙ rules)
    ∙ sym (limits_over j ws name is_new count are long new) ∙ limits

-- If the rules refuse an act, it is refused with their refusal.
pub judged_by_rules : (j : Journal) (ws : List Workspace) (name : List ℕ) (act : ActValue) (refusal : RefusalValue) → AreWorkspacesOf j ws
    → refusal_of (standing_at name ws).holder (verdict_over (standing_at name ws) act) ≡ Some refusal
    → act_refusal (open_model j) name act ≡ Some refusal
judged_by_rules j ws name act refusal are rules = ap (λ o. option_or o (limit_refusal j name)) (sym (rules_over j ws name act are) ∙ rules)

-- If only the limits refuse an act, it is refused with their refusal.
pub judged_by_limits : (j : Journal) (ws : List Workspace) (name : List ℕ) (act : ActValue) (is_new : Bool) (count : ℕ) (refusal :
    RefusalValue)
    → AreWorkspacesOf j ws → length j.entries ≡ count → is_new ≡ not (is_some (find (is_of name) ws))
    → refusal_of (standing_at name ws).holder (verdict_over (standing_at name ws) act) ≡ None
    → full_refusal (length ws) is_new count ≡ Some refusal
    → act_refusal (open_model j) name act ≡ Some refusal
judged_by_limits j ws name act is_new count refusal are long new rules limits =
    ap (λ o. option_or o (limit_refusal j name)) (sym (rules_over j ws name act are) ∙ rules)
    ∙ sym (limits_over j ws name is_new count are long new) ∙ limits

-- If the rules refuse an act, it has a refusal.
pub refused_by_rules : (j : Journal) (ws : List Workspace) (name : List ℕ) (act : ActValue) → AreWorkspacesOf j ws
    → refusal_of (standing_at name ws).holder (verdict_over (standing_at name ws) act) ≢ None → act_refusal (open_model j) name act ≢ None
refused_by_rules j ws name act are refused = λ e.
    refused (rules_over j ws name act are ∙ (neither (verdict_refusal (acts_of name j) act) (limit_refusal j name) e).0)

-- An option equal to a refusal isn't None.
pub refused_by_any : (refusal : RefusalValue) (found : Option RefusalValue) → found ≡ Some refusal → found ≢ None
refused_by_any refusal found is = λ none. let both : Some refusal ≡ None = sym is ∙ none in cc

-- A name is new if the search found no workspace for it.
pub new_in_gap : (name : List ℕ) (ws : List Workspace) (place : Result ℕ ℕ) → IsFound name ws place
    → is_err place ≡ not (is_some (find (is_of name) ws))
new_in_gap name ws (Ok i) found =
    ap (λ o. not (is_some o)) (sym (ap (find (is_of name)) found.parts
    ∙ find_behind (is_of name) found.before found.after found.own found.first found.named))
new_in_gap name ws (Err i) found = ap (λ o. not (is_some o)) (sym found.absent)

-- A refusal computed from equal values is the refusal over the state and holder of the name.
pub heeded : (at s : Standing) (act : ActValue) (holder : Option LockInformation) (v : Verdict) → at ≡ s → holder ≡ s.holder
    → v ≡ verdict_over s act
    → refusal_of at.holder (verdict_over at act) ≡ refusal_of holder v
heeded at s act holder v same is_holder is_verdict = rw (same, is_holder, is_verdict) refl

-- The version of a name's workspace is the version of the name's state.
pub version_here : (name : List ℕ) (ws : List Workspace) (place : ℕ) (d : Workspace) → IsPlaceOf name ws place → All HasVersion ws
    → option_map arc_value (get_or ws place d).version ≡ (standing_at name ws).state
version_here name ws place d p all =
    let sizes = ap length p.parts ∙ length-append p.before (p.own ∷ p.after) in
    let at = p.at in
    let within : place < length ws = omega arith in
    All-get_or HasVersion ws place d within all ∙ ap (λ (s : Standing). s.state) (sym (standing_at_place name ws place d p))

-- The number of a name's workspace is the number of the name.
pub number_here : (j : Journal) (ws : List Workspace) (name : List ℕ) (place : ℕ) (d : Workspace) → IsPlaceOf name ws place
    → AreWorkspacesOf j ws
    → slice_get (names_of j) (get_or ws place d).number ≡ Some name
number_here j ws name place d p are =
    let sizes = ap length p.parts ∙ length-append p.before (p.own ∷ p.after) in
    let at = p.at in
    let within : place < length ws = omega arith in
    All-get_or (IsNumbered (names_of j)) ws place d within are.numbers
    ∙ ap (λ (w : Workspace). Some w.name) (get_at ws p.before p.after p.own d place p.parts p.at)
    ∙ ap (λ n. Some n) (bytes_same p.own.name name p.named)

-- The number of a name's workspace is still the name's after one more entry for the name.
pub number_known : (j : Journal) (act : ActValue) (ws : List Workspace) (name : List ℕ) (place : ℕ) (d : Workspace)
    → IsPlaceOf name ws place
    → AreWorkspacesOf j ws → slice_get (names_of (with_entry j (record { name = name; act = act }))) (get_or ws place d).number ≡ Some name
number_known j act ws name place d p are =
    let there : list_any (bytes_eq name) (names_of j) ≡ true =
    sym (are.names name) ∙ ap (λ t. is_some (find (is_of name) t)) p.parts ∙ found_there name p.before p.after p.own p.first p.named in
    ap (λ ns. slice_get ns (get_or ws place d).number) (names_kept j (record { name = name; act = act }) there)
    ∙ number_here j ws name place d p are

-- A name without a workspace gets the next number.
pub number_new : (j : Journal) (act : ActValue) (ws : List Workspace) (name : List ℕ) (place : ℕ) → IsGapFor name ws place
    → AreWorkspacesOf j ws
    → slice_get (names_of (with_entry j (record { name = name; act = act }))) (length ws) ≡ Some name
number_new j act ws name place p are =
    let none : list_any (bytes_eq name) (names_of j) ≡ false = sym (are.names name) ∙ ap is_some p.absent in
    ap (λ ns. slice_get ns (length ws)) (names_added j (record { name = name; act = act }) none)
    ∙ ap (slice_get (names_of j ++ name ∷ [])) are.count ∙ number_behind (names_of j) [] name

-- The number of a name is less than 1,024.
pub number_below : (found : Option ℕ) (ws : List Workspace) (name : List ℕ) (j : Journal)
    → IfSome found (λ k. (i : Journal) → AreWorkspacesOf i ws → slice_get (names_of i) k ≡ Some name) → AreWorkspacesOf j ws
    → length (names_of j) ≤ 1024 → IfSome found (λ k. k < 1024)
number_below None ws name j is are few = tt
number_below (Some k) ws name j is are few = let below = slice_get_within (names_of j) k name (is j are) in omega arith

-- No verdict is reported as a fault of the journal.
rules_without_fault : (holder : Option LockInformation) (v : Verdict) → refusal_of holder v ≡ Some journal_fault → ⊥
rules_without_fault holder verdict.Accept e = cc
rules_without_fault None verdict.Locked e = cc
rules_without_fault (Some info) verdict.Locked e = cc
rules_without_fault holder verdict.LockLost e = cc
rules_without_fault holder verdict.LineageDiffers e = cc
rules_without_fault holder verdict.SerialTooLow e = cc
rules_without_fault holder verdict.SerialReused e = cc

-- No limit is reported as a fault of the journal.
limits_without_fault : (full long : Bool) → cond full (Some table_full) (cond long (Some journal_full) None) ≡ Some journal_fault → ⊥
limits_without_fault true long e = cc
limits_without_fault false true e = cc
limits_without_fault false false e = cc

-- No act is refused with a fault of the journal.
pub refused_without_fault : (m : TableModel) (name : List ℕ) (act : ActValue) → act_refusal m name act ≡ Some journal_fault → ⊥
refused_without_fault m name act = by_stopped m.stopped
  where
    by_parts : (rules limits : Option RefusalValue) → (rules ≡ Some journal_fault → ⊥) → (limits ≡ Some journal_fault → ⊥)
        → option_or rules limits ≡ Some journal_fault → ⊥
    by_parts None limits p q e = q e
    by_parts (Some refusal) limits p q e = p e

    by_stopped : (stopped : Bool)
        → cond stopped (Some journal_stopped) (option_or (verdict_refusal (acts_of name m.journal) act) (limit_refusal m.journal name))
        ≡ Some journal_fault → ⊥
    by_stopped true e = cc
    by_stopped false e =
        by_parts (verdict_refusal (acts_of name m.journal) act) (limit_refusal m.journal name)
        (rules_without_fault _ _) (limits_without_fault _ _) e
