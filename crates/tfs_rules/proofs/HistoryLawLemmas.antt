-- A history is accepted exactly if it keeps the history laws.
use Rattle.std.proofs.Common.{◌≡◌, ℕ, List, [], ◌∷◌, All, Contains, Option, Some, refl, sym, ◌∙◌, ap, subst, arith}
use Rattle.std.specs.List.{AllByRecursion}
use Rattle.std.proofs.lemmas.List.Elements.{All-contains, Contains-append_left, Contains-append_right}
use Rattle.tfs_state.specs.Document.{Document}
use Rattle.tfs_lock.specs.LockInfo.{LockInformation}
use Rattle.tfs_lock.specs.LockText.{SpellsLockInfo}
use Rattle.tfs_rules.specs.Act.{ActValue, lock, unlock, push, delete, IsRead, IsDelete, IsUnlock, IsWriteWith}
use Rattle.tfs_rules.specs.History.{History, Without, Stands, Standing, standing_of, state_of, holder_of}
use Rattle.tfs_rules.specs.HistoryLaws.{ComesBehind, IsPushOrder, KeepsPushOrder, KeepsLockExclusion, WritesBearTheLock, UnlocksBearTheLock}
use Rattle.tfs_rules.specs.HistoryLaws.{IdentifiersNameALock, KeepsHistoryLaws, LocksOfOneTextHaveOneIdentifier}
use Rattle.tfs_rules.specs.Verdict.{verdict_over, push_verdict, write_verdict, IsAccepted}
use Rattle.tfs_rules.specs.declared.verdict.Verdict.{Verdict}
use Rattle.tfs_rules.specs.declared.verdict.Verdict.TheVariants.{Accept}
use Rattle.tfs_rules.proofs.HistoryLemmas.{standing_after, standing_from, standing_behind, push_standing, lock_standing, holder_standing}
use Rattle.tfs_rules.proofs.AcceptedLemmas.{AreAcceptedFrom, accepted_from, accepted_front}
use Rattle.tfs_rules.proofs.VerdictLemmas.{lock_held, unlock_held, write_held, write_named, write_goes_on, push_in_order}
use Rattle.tfs_rules.proofs.VerdictLemmas.{lock_accepted, unlock_accepted, write_accepted, push_accepted}

-- A condition on the state and holder that is kept by accepted acts of a kind.
abbrev KeptBy : (Standing → Type 0) → (ActValue → Type 0) → Type 0
KeptBy Holds Keeps = (s : Standing) (act : ActValue) → Holds s → Keeps act → verdict_over s act ≡ Accept → Holds (standing_after s act)

-- The condition holds after accepted acts of that kind if it holds before them.
kept_by : (Holds : Standing → Type 0) (Keeps : ActValue → Type 0) → KeptBy Holds Keeps → (s : Standing) (acts : History) → Holds s
    → AllByRecursion Keeps acts → AreAcceptedFrom s acts → Holds (standing_from s acts)
kept_by Holds Keeps keeps s [] holds kind accepted = holds
kept_by Holds Keeps keeps s (act ∷ acts) holds kind accepted =
    kept_by Holds Keeps keeps (standing_after s act) acts (keeps s act holds kind.0 accepted.0) kind.1 accepted.1

-- If an act is in effect, makes the condition hold, and all acts after it keep it, the condition
-- holds after the history.
holds_standing : (Holds : Standing → Type 0) (Keeps : ActValue → Type 0) → KeptBy Holds Keeps → (h : History) (act : ActValue) (Ends : ActValue → Type 0)
    → IsAccepted h → (p : Stands h act Ends) → AllByRecursion Keeps p.after → ((s : Standing) → Holds (standing_after s act)) → Holds (standing_of h)
holds_standing Holds Keeps keeps h act Ends accepted p kind makes =
    let from = accepted_from p.before (act ∷ p.after) (subst IsAccepted p.split accepted) in
    let s = standing_of p.before in
    subst Holds (sym (ap standing_of p.split ∙ standing_behind p.before (act ∷ p.after)))
    (kept_by Holds Keeps keeps (standing_after s act) p.after (makes s) kind from.1)

-- Push order is transitive.
in_order : (a b c : Document) → IsPushOrder a b → IsPushOrder b c → IsPushOrder a c
in_order a b c p q = record {
  one_lineage = p.one_lineage ∙ q.one_lineage;
  no_falling_serial = omega (arith, p.no_falling_serial, q.no_falling_serial);
  one_content = λ same.
      p.one_content (omega (arith, same, p.no_falling_serial, q.no_falling_serial))
      ∙ q.one_content (omega (arith, same, p.no_falling_serial, q.no_falling_serial));
}

-- The workspace has a state that follows the document in push order.
abbrev HasLaterState : Document → Standing → Type 0
HasLaterState d s = (e : Document) × (s.state ≡ Some e) × IsPushOrder d e

-- A push that is accepted over a state that follows the document follows it too.
later_push : (d e : Document) (s : Standing) (id : Option (List ℕ)) → HasLaterState d s → verdict_over s (push id e) ≡ Accept → IsPushOrder d e
later_push d e s id later accept =
    let goes_on = write_goes_on s.holder id (push_verdict s.state e) accept in
    in_order d later.0 e later.2 (push_in_order later.0 e (rw later.1 at goes_on))

-- Accepted acts other than deletes keep a state that follows the document.
later_state_kept : (d : Document) → KeptBy (HasLaterState d) (λ act. ¬ (IsDelete act))
later_state_kept d s (lock info) later _ accept = later
later_state_kept d s (unlock id) later _ accept = later
later_state_kept d s (push id e) later _ accept = (e, refl, later_push d e s id later accept)
later_state_kept d s (delete id) later kept accept = absurd (kept tt)

-- The acts before an act of an accepted history are accepted.
before_accepted : (h before : History) (act : ActValue) → IsAccepted h → ComesBehind h before act → IsAccepted before
before_accepted h before act accepted comes = accepted_front h before (act ∷ comes.0) comes.1 accepted

-- An accepted history keeps push order.
pushes_in_order : (h : History) → IsAccepted h → KeepsPushOrder h
pushes_in_order h accepted before first second first_id second_id comes stands =
    let same : IsPushOrder first first = record { one_lineage = refl; no_falling_serial = omega arith; one_content = λ _. refl } in
    let holds = holds_standing (HasLaterState first) (λ act. ¬ (IsDelete act)) (later_state_kept first) before (push first_id first) IsDelete
    (before_accepted h before (push second_id second) accepted comes) stands stands.kept (λ s. (first, refl, same)) in
    later_push first second (standing_of before) second_id holds (accepted before comes.0 (push second_id second) comes.1)

-- The act is no unlock, and if it is a lock with the same text, it has the same identifier.
abbrev KeepsHeld : LockInformation → ActValue → Type 0
KeepsHeld held (lock info) = held.bytes ≡ info.bytes → held.id ≡ info.id
KeepsHeld held (unlock id) = ⊥
KeepsHeld held (push id d) = Unit {0}
KeepsHeld held (delete id) = Unit {0}

-- Lock information with this text and this identifier.
abbrev lock_information : List ℕ → List ℕ → LockInformation
lock_information bytes id = record { bytes = bytes; id = id }

-- These acts keep the holder if they are accepted.
held_kept : (held : LockInformation) → KeptBy (λ s. s.holder ≡ Some held) (KeepsHeld held)
held_kept held s (lock info) is one accept =
    let bytes = lock_held held info (rw is at accept) in
    let same : info ≡ held = ap (λ b. lock_information b info.id) (sym bytes) ∙ ap (λ i. lock_information held.bytes i) (sym (one bytes)) in
    ap (λ x. Some x) same
held_kept held s (unlock id) is kept accept = absurd kept
held_kept held s (push id d) is _ accept = is
held_kept held s (delete id) is _ accept = is

-- Acts without an unlock are of this kind, if locks with the same text have the same identifier.
are_keeping : (held : LockInformation) (acts : History) → ((info : LockInformation) → Contains acts (lock info) → held.bytes ≡ info.bytes → held.id ≡ info.id)
    → Without IsUnlock acts → AllByRecursion (KeepsHeld held) acts
are_keeping held [] one clean = tt
are_keeping held (act ∷ acts) one clean =
    (keeping act refl clean.0, are_keeping held acts (λ info there. one info (Contains-append_right (act ∷ []) acts (lock info) there)) clean.1)
  where
    keeping : (given : ActValue) → act ≡ given → ¬ (IsUnlock given) → KeepsHeld held given
    keeping (lock info) is none = one info (0, omega arith, is)
    keeping (unlock id) is none = none tt
    keeping (push id d) is none = tt
    keeping (delete id) is none = tt

-- If a lock is in effect before an act, its information is the holder.
held_standing : (h before : History) (held : LockInformation) (act : ActValue) → LocksOfOneTextHaveOneIdentifier h → IsAccepted h → ComesBehind h before act
    → Stands before (lock held) IsUnlock → holder_of before ≡ Some held
held_standing h before held act one accepted comes stands =
    let within : (other : ActValue) → Contains before other → Contains h other =
    λ other there. subst (λ t. Contains t other) (sym comes.1) (Contains-append_left before (act ∷ comes.0) other there) in
    let behind : (other : ActValue) → Contains (lock held ∷ stands.after) other → Contains h other =
    λ other there.
    within other (subst (λ t. Contains t other) (sym stands.split) (Contains-append_right stands.before (lock held ∷ stands.after) other there)) in
    let kind = are_keeping held stands.after
    (λ info there.
    one held info
    (behind (lock held) (0, omega arith, refl))
    (behind (lock info) (Contains-append_right (lock held ∷ []) stands.after (lock info) there)))
    stands.kept in
    holds_standing (λ s. s.holder ≡ Some held) (KeepsHeld held) (held_kept held) before (lock held) IsUnlock
    (before_accepted h before act accepted comes) stands kind (λ s. refl)

-- An accepted history keeps lock exclusion.
locks_exclude : (h : History) → LocksOfOneTextHaveOneIdentifier h → IsAccepted h → KeepsLockExclusion h
locks_exclude h one accepted before held info comes stands =
    let is = held_standing h before held (lock info) one accepted comes stands in
    let accept = accepted before comes.0 (lock info) comes.1 in
    lock_held held info (rw is at accept)

-- A write that is accepted while the lock is held carries the holder's identifier.
write_carries : (s : Standing) (held : LockInformation) (write : ActValue) (id : Option (List ℕ)) → s.holder ≡ Some held → verdict_over s write ≡ Accept
    → IsWriteWith id write → id ≡ Some held.id
write_carries s held (lock info) id is accept carries = absurd carries
write_carries s held (unlock given) id is accept carries = absurd carries
write_carries s held (push given d) id is accept carries = sym carries ∙ write_held held given (push_verdict s.state d) (rw is at accept)
write_carries s held (delete given) id is accept carries = sym carries ∙ write_held held given Accept (rw is at accept)

-- In an accepted history, writes carry the identifier of the lock in effect.
writes_carry : (h : History) → LocksOfOneTextHaveOneIdentifier h → IsAccepted h → WritesBearTheLock h
writes_carry h one accepted before held write id comes stands carries =
    write_carries (standing_of before) held write id
    (held_standing h before held write one accepted comes stands) (accepted before comes.0 write comes.1) carries

-- In an accepted history, unlocks carry the identifier of the lock in effect, or none.
unlocks_carry : (h : History) → LocksOfOneTextHaveOneIdentifier h → IsAccepted h → UnlocksBearTheLock h
unlocks_carry h one accepted before held id comes stands =
    let is = held_standing h before held (unlock id) one accepted comes stands in
    let accept = accepted before comes.0 (unlock id) comes.1 in
    unlock_held held id (rw is at accept)

-- If a write with an identifier is accepted, the holder has this identifier.
named_holder : (s : Standing) (write : ActValue) (id : List ℕ) → verdict_over s write ≡ Accept → IsWriteWith (Some id) write
    → (held : LockInformation) × (s.holder ≡ Some held) × (held.id ≡ id)
named_holder s (lock info) id accept carries = absurd carries
named_holder s (unlock given) id accept carries = absurd carries
named_holder s (push given d) id accept carries = write_named s.holder id (push_verdict s.state d) (rw carries at accept)
named_holder s (delete given) id accept carries = write_named s.holder id Accept (rw carries at accept)

-- In an accepted history, the identifiers of writes name a lock in effect.
identifiers_name : (h : History) → IsAccepted h → IdentifiersNameALock h
identifiers_name h accepted before write id comes carries =
    let named = named_holder (standing_of before) write id (accepted before comes.0 write comes.1) carries in
    (named.0, named.2, lock_standing before named.0 named.1)

-- An accepted history keeps the history laws.
pub laws_kept : (h : History) → LocksOfOneTextHaveOneIdentifier h → IsAccepted h → KeepsHistoryLaws h
laws_kept h one accepted = record {
  pushes_keep_their_order = pushes_in_order h accepted;
  locks_exclude_one_another = locks_exclude h one accepted;
  writes_bear_the_lock = writes_carry h one accepted;
  unlocks_bear_the_lock = unlocks_carry h one accepted;
  identifiers_name_a_lock = identifiers_name h accepted;
}

-- In a history that keeps the laws, no write is refused because of the lock.
write_taken : (h before : History) (write : ActValue) (id : Option (List ℕ)) (otherwise : Verdict) → KeepsHistoryLaws h
    → ComesBehind h before write → IsWriteWith id write → write_verdict (holder_of before) id otherwise ≡ otherwise
write_taken h before write id otherwise laws comes is =
    write_accepted (holder_of before) id otherwise
    (λ held holds. laws.writes_bear_the_lock before held write id comes (lock_standing before held holds) is)
    (λ named carries.
    let found = laws.identifiers_name_a_lock before write named comes (subst (λ i. IsWriteWith i write) carries is) in
    holder_standing before found.0 found.2)

-- A history that keeps the laws is accepted: the laws give each condition of the verdict.
pub accepted_by_laws : (h : History) → KeepsHistoryLaws h → IsAccepted h
accepted_by_laws h laws before after (lock info) split =
    lock_accepted (holder_of before) info (λ held holds. laws.locks_exclude_one_another before held info (after, split) (lock_standing before held holds))
accepted_by_laws h laws before after (unlock id) split =
    unlock_accepted (holder_of before) id (λ held holds. laws.unlocks_bear_the_lock before held id (after, split) (lock_standing before held holds))
accepted_by_laws h laws before after (push id d) split =
    write_taken h before (push id d) id (push_verdict (state_of before) d) laws (after, split) refl
    ∙ push_accepted (state_of before) d (λ stored is.
    let stands = push_standing before stored is in
    laws.pushes_keep_their_order before stored d stands.0 id (after, split) stands.1)
accepted_by_laws h laws before after (delete id) split = write_taken h before (delete id) id Accept laws (after, split) refl

-- Lock information that was read from the same text has the same identifier.
same_identifier : (a b : LockInformation) → SpellsLockInfo a.bytes a → SpellsLockInfo b.bytes b → a.bytes ≡ b.bytes → a.id ≡ b.id
same_identifier a b p q same = cc

-- If all acts were read from their bytes, locks with the same text have the same identifier.
pub one_identifier : (h : History) → All IsRead h → LocksOfOneTextHaveOneIdentifier h
one_identifier h read a b there also = same_identifier a b (All-contains IsRead h (lock a) read there) (All-contains IsRead h (lock b) read also)
