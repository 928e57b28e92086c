-- Laws of specs/History.antt.
use Rattle.std.proofs.Common.{◌≡◌, ◌⊎◌, ℕ, List, [], ◌∷◌, ◌++◌, fold, Option, Some, None, IsSome, refl, sym, ◌∙◌, ap, inl, inr}
use Rattle.std.proofs.lemmas.List.Sums.{fold-append}
use Rattle.tfs_state.specs.Document.{Document}
use Rattle.tfs_lock.specs.LockInfo.{LockInformation}
use Rattle.tfs_rules.specs.Act.{ActValue, lock, unlock, push, delete, IsDelete, IsUnlock, IsWrite, IsLockOrUnlock}
use Rattle.tfs_rules.specs.History.{History, Without, Stands, IsCurrentState, IsHolder, state_after, state_of, holder_after, holder_of}
use Rattle.tfs_rules.specs.History.{Standing, standing_of}

-- An act in effect stays in effect if one more act precedes the history.
stands_later : (first : ActValue) (h : History) (act : ActValue) (Ends : ActValue → Type 0) → Stands h act Ends → Stands (first ∷ h) act Ends
stands_later first h act Ends p = record { before = first ∷ p.before; after = p.after; split = ap (λ t. first ∷ t) p.split; kept = p.kept }

-- Acts other than writes don't change the state.
state_kept : (s : Option Document) (h : History) → Without IsWrite h → fold state_after s h ≡ s
state_kept s [] clean = refl
state_kept s (lock info ∷ h) clean = state_kept s h clean.1
state_kept s (unlock id ∷ h) clean = state_kept s h clean.1
state_kept s (push id d ∷ h) clean = absurd (clean.0 tt)
state_kept s (delete id ∷ h) clean = absurd (clean.0 tt)

-- The last write is a push of the document.
abbrev IsLastPushed : History → Document → Type 0
IsLastPushed h d = (id : Option (List ℕ)) × Stands h (push id d) IsWrite

-- The last write stays the last if one more act precedes the history.
pushed_later : (first : ActValue) (h : History) (d : Document) → IsLastPushed h d → IsLastPushed (first ∷ h) d
pushed_later first h d p = (p.0, stands_later first h (push p.0 d) IsWrite p.1)

-- The state after a history is that of its last push, or the state before it if there is no write.
state_given : (s : Option Document) (h : History) (d : Document) → fold state_after s h ≡ Some d → IsLastPushed h d ⊎ (Without IsWrite h × (s ≡ Some d))
state_given s [] d e = inr (tt, e)
state_given s (lock info ∷ h) d e = elim (state_given s h d e) [
  | inl p ↦ inl (pushed_later (lock info) h d p)
  | inr q ↦ inr (((λ x. x), q.0), q.1)
]
state_given s (unlock id ∷ h) d e = elim (state_given s h d e) [
  | inl p ↦ inl (pushed_later (unlock id) h d p)
  | inr q ↦ inr (((λ x. x), q.0), q.1)
]
state_given s (push id p ∷ h) d e = elim (state_given (Some p) h d e) [
  | inl l ↦ inl (pushed_later (push id p) h d l)
  | inr q ↦ let same : p ≡ d = cc in inl (id, record { before = []; after = h; split = rw same refl; kept = q.0 })
]
state_given s (delete id ∷ h) d e = elim (state_given None h d e) [
  | inl l ↦ inl (pushed_later (delete id) h d l)
  | inr q ↦ let none : None ≡ Some d = q.1 in cc
]

-- The state after a history is that of its last push.
pub last_pushed : (h : History) (d : Document) → state_of h ≡ Some d → IsLastPushed h d
last_pushed h d e = elim (state_given None h d e) [ inl p ↦ p | inr q ↦ let none : None ≡ Some d = q.1 in cc ]

-- If the last write is a push of the document, the document is the state after the history.
state_pushed : (h : History) (d : Document) → IsLastPushed h d → state_of h ≡ Some d
state_pushed h d p = rw p.1.split
    (fold-append state_after None p.1.before (push p.0 d ∷ p.1.after) ∙ state_kept (Some d) p.1.after p.1.kept)

-- The state computed act by act is the current state by positions.
pub current_state_found : (h : History) → IsCurrentState h (state_of h)
current_state_found h = elim (state_of h) as (λ s. state_of h ≡ s → IsCurrentState h s) [
  | None ↦ λ e id d last. let some = state_pushed h d (id, last) in cc
  | Some d ↦ λ e. last_pushed h d e
] refl

-- The current state by positions is unique.
pub current_state_only : (h : History) (s : Option Document) → IsCurrentState h s → s ≡ state_of h
current_state_only h None p = elim (state_of h) as (λ s. state_of h ≡ s → None ≡ s) [
  | None ↦ λ e. refl
  | Some d ↦ λ e. let last = last_pushed h d e in absurd (p last.0 d last.1)
] refl
current_state_only h (Some d) p = sym (state_pushed h d p)

-- Acts other than locks and unlocks don't change the holder.
holder_kept : (s : Option LockInformation) (h : History) → Without IsLockOrUnlock h → fold holder_after s h ≡ s
holder_kept s [] clean = refl
holder_kept s (lock info ∷ h) clean = absurd (clean.0 tt)
holder_kept s (unlock id ∷ h) clean = absurd (clean.0 tt)
holder_kept s (push id d ∷ h) clean = holder_kept s h clean.1
holder_kept s (delete id ∷ h) clean = holder_kept s h clean.1

-- The last lock or unlock is a lock with the information.
abbrev IsLastLock : History → LockInformation → Type 0
IsLastLock h info = Stands h (lock info) IsLockOrUnlock

-- The holder after a history is that of its last lock, or the holder before it if there is neither
-- a lock nor an unlock.
holder_given : (s : Option LockInformation) (h : History) (info : LockInformation) → fold holder_after s h ≡ Some info
    → IsLastLock h info ⊎ (Without IsLockOrUnlock h × (s ≡ Some info))
holder_given s [] info e = inr (tt, e)
holder_given s (lock held ∷ h) info e = elim (holder_given (Some held) h info e) [
  | inl l ↦ inl (stands_later (lock held) h (lock info) IsLockOrUnlock l)
  | inr q ↦ let same : held ≡ info = cc in inl (record { before = []; after = h; split = rw same refl; kept = q.0 })
]
holder_given s (unlock id ∷ h) info e = elim (holder_given None h info e) [
  | inl l ↦ inl (stands_later (unlock id) h (lock info) IsLockOrUnlock l)
  | inr q ↦ let none : None ≡ Some info = q.1 in cc
]
holder_given s (push id d ∷ h) info e = elim (holder_given s h info e) [
  | inl l ↦ inl (stands_later (push id d) h (lock info) IsLockOrUnlock l)
  | inr q ↦ inr (((λ x. x), q.0), q.1)
]
holder_given s (delete id ∷ h) info e = elim (holder_given s h info e) [
  | inl l ↦ inl (stands_later (delete id) h (lock info) IsLockOrUnlock l)
  | inr q ↦ inr (((λ x. x), q.0), q.1)
]

-- The holder after a history is that of its last lock.
last_lock : (h : History) (info : LockInformation) → holder_of h ≡ Some info → IsLastLock h info
last_lock h info e = elim (holder_given None h info e) [ inl p ↦ p | inr q ↦ let none : None ≡ Some info = q.1 in cc ]

-- If the last lock or unlock is a lock, its information is the holder after the history.
holder_locked : (h : History) (info : LockInformation) → IsLastLock h info → holder_of h ≡ Some info
holder_locked h info p = rw p.split
    (fold-append holder_after None p.before (lock info ∷ p.after) ∙ holder_kept (Some info) p.after p.kept)

-- The holder computed act by act is the holder by positions.
pub holder_found : (h : History) → IsHolder h (holder_of h)
holder_found h = elim (holder_of h) as (λ s. holder_of h ≡ s → IsHolder h s) [
  | None ↦ λ e info last. let some = holder_locked h info last in cc
  | Some info ↦ λ e. last_lock h info e
] refl

-- The holder by positions is unique.
pub holder_only : (h : History) (s : Option LockInformation) → IsHolder h s → s ≡ holder_of h
holder_only h None p = elim (holder_of h) as (λ s. holder_of h ≡ s → None ≡ s) [
  | None ↦ λ e. refl
  | Some info ↦ λ e. absurd (p info (last_lock h info e))
] refl
holder_only h (Some info) p = sym (holder_locked h info p)

-- Acts other than writes aren't deletes.
no_delete : (h : History) → Without IsWrite h → Without IsDelete h
no_delete [] clean = tt
no_delete (lock info ∷ h) clean = ((λ x. x), no_delete h clean.1)
no_delete (unlock id ∷ h) clean = ((λ x. x), no_delete h clean.1)
no_delete (push id d ∷ h) clean = absurd (clean.0 tt)
no_delete (delete id ∷ h) clean = absurd (clean.0 tt)

-- Acts other than locks and unlocks aren't unlocks.
no_unlock : (h : History) → Without IsLockOrUnlock h → Without IsUnlock h
no_unlock [] clean = tt
no_unlock (lock info ∷ h) clean = absurd (clean.0 tt)
no_unlock (unlock id ∷ h) clean = absurd (clean.0 tt)
no_unlock (push id d ∷ h) clean = ((λ x. x), no_unlock h clean.1)
no_unlock (delete id ∷ h) clean = ((λ x. x), no_unlock h clean.1)

-- If a workspace has a state, a push of it is in effect, and no delete follows it.
pub push_standing : (h : History) (d : Document) → state_of h ≡ Some d → (id : Option (List ℕ)) × Stands h (push id d) IsDelete
push_standing h d e =
    let last = last_pushed h d e in
    let p = last.1 in
    (last.0, record { before = p.before; after = p.after; split = p.split; kept = no_delete p.after p.kept })

-- If a workspace has a holder, its lock is in effect.
pub lock_standing : (h : History) (info : LockInformation) → holder_of h ≡ Some info → Stands h (lock info) IsUnlock
lock_standing h info e =
    let p = last_lock h info e in
    record { before = p.before; after = p.after; split = p.split; kept = no_unlock p.after p.kept }

-- Acts without an unlock keep a holder, if there is one.
holder_stays : (s : Option LockInformation) (h : History) → IsSome s → Without IsUnlock h → IsSome (fold holder_after s h)
holder_stays s [] there clean = there
holder_stays s (lock info ∷ h) there clean = holder_stays (Some info) h refl clean.1
holder_stays s (unlock id ∷ h) there clean = absurd (clean.0 tt)
holder_stays s (push id d ∷ h) there clean = holder_stays s h there clean.1
holder_stays s (delete id ∷ h) there clean = holder_stays s h there clean.1

-- If a lock is in effect, there is a holder.
pub holder_standing : (h : History) (info : LockInformation) → Stands h (lock info) IsUnlock → IsSome (holder_of h)
holder_standing h info p = rw (p.split, fold-append holder_after None p.before (lock info ∷ p.after)) (holder_stays (Some info) p.after refl p.kept)

-- The state and the holder after an act.
abbrev pub standing_after : Standing → ActValue → Standing
standing_after s act = record { state = state_after s.state act; holder = holder_after s.holder act }

-- The state and the holder after acts.
abbrev pub standing_from : Standing → History → Standing
standing_from s h = record { state = fold state_after s.state h; holder = fold holder_after s.holder h }

-- The state and the holder after a history and further acts are those after the acts, from what the
-- history leaves.
pub standing_behind : (h rest : History) → standing_of (h ++ rest) ≡ standing_from (standing_of h) rest
standing_behind h rest =
    let state = fold-append state_after None h rest in
    let holder = fold-append holder_after None h rest in
    cc
