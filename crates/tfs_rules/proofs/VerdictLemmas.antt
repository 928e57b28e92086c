-- What follows from the verdict Accept, and conditions for it.
use Rattle.std.proofs.Common.{◌≡◌, ◌⊎◌, ℕ, List, Bool, true, false, cond, not, ◌&&◌, ◌==◌, nat_lt, Option, Some, None, IsSome, refl, sym, ap, inl, inr}
use Rattle.std.proofs.lemmas.Bool.{ltb-false, le-ltb, eq-eqb, eqb-true, not-false}
use Rattle.std.proofs.lemmas.Slice.Eq.{bytes_eq-Decides}
use Rattle.std.specs.Str.{bytes_eq}
use Rattle.tfs_state.specs.Document.{Document}
use Rattle.tfs_lock.specs.LockInfo.{LockInformation}
use Rattle.tfs_rules.specs.Act.{ActValue, lock, unlock, push, delete}
use Rattle.tfs_rules.specs.History.{Standing}
use Rattle.tfs_rules.specs.HistoryLaws.{IsPushOrder}
use Rattle.tfs_rules.specs.Verdict.{lock_verdict, unlock_verdict, write_verdict, push_verdict, verdict_over}
use Rattle.tfs_rules.specs.declared.verdict.Verdict.{Verdict}
use Rattle.tfs_rules.specs.declared.verdict.Verdict.TheVariants.{Accept, Locked, LineageDiffers, SerialTooLow, SerialReused}

-- If the verdict is `otherwise` for equal bytes and Locked for different ones, and is Accept, the
-- bytes are equal, and `otherwise` is Accept.
same_bytes : (a b : List ℕ) (otherwise : Verdict) → cond (bytes_eq a b) otherwise Locked ≡ Accept → (a ≡ b) × (otherwise ≡ Accept)
same_bytes a b otherwise e =
    elim (bytes_eq a b) as (λ t. bytes_eq a b ≡ t → cond t otherwise Locked ≡ Accept → (a ≡ b) × (otherwise ≡ Accept)) [
      | true ↦ λ same accept. ((bytes_eq-Decides a b).0 same, accept)
      | false ↦ λ _ accept. cc
    ] refl e

-- A lock that is accepted while the lock is held has the holder's bytes.
pub lock_held : (held info : LockInformation) → lock_verdict (Some held) info ≡ Accept → held.bytes ≡ info.bytes
lock_held held info e = (same_bytes held.bytes info.bytes Accept e).0

-- An unlock that is accepted while the lock is held carries the holder's identifier or none.
pub unlock_held : (held : LockInformation) (id : Option (List ℕ)) → unlock_verdict (Some held) id ≡ Accept → (id ≡ Some held.id) ⊎ (id ≡ None)
unlock_held held None e = inr refl
unlock_held held (Some id) e = inl (ap (λ x. Some x) (sym (same_bytes held.id id Accept e).0))

-- A write that is accepted while the lock is held carries the holder's identifier.
pub write_held : (held : LockInformation) (id : Option (List ℕ)) (otherwise : Verdict) → write_verdict (Some held) id otherwise ≡ Accept → id ≡ Some held.id
write_held held None otherwise e = cc
write_held held (Some id) otherwise e = ap (λ x. Some x) (sym (same_bytes held.id id otherwise e).0)

-- If a write with an identifier is accepted, the holder has this identifier.
pub write_named : (holder : Option LockInformation) (id : List ℕ) (otherwise : Verdict) → write_verdict holder (Some id) otherwise ≡ Accept
    → (held : LockInformation) × (holder ≡ Some held) × (held.id ≡ id)
write_named None id otherwise e = cc
write_named (Some held) id otherwise e = (held, refl, (same_bytes held.id id otherwise e).0)

-- If a write is accepted, its verdict regardless of the lock is Accept.
pub write_goes_on : (holder : Option LockInformation) (id : Option (List ℕ)) (otherwise : Verdict)
    → write_verdict holder id otherwise ≡ Accept → otherwise ≡ Accept
write_goes_on None None otherwise e = e
write_goes_on None (Some id) otherwise e = cc
write_goes_on (Some held) None otherwise e = cc
write_goes_on (Some held) (Some id) otherwise e = (same_bytes held.id id otherwise e).1

-- If a test leads to a refusal, and the verdict is Accept, the test was false.
passed : (test : Bool) (refusal otherwise : Verdict) → ¬ (refusal ≡ Accept) → cond test refusal otherwise ≡ Accept → (test ≡ false) × (otherwise ≡ Accept)
passed true refusal otherwise refused e = absurd (refused e)
passed false refusal otherwise refused e = (refl, e)

-- A push that is accepted over a state follows it in push order.
pub push_in_order : (stored pushed : Document) → push_verdict (Some stored) pushed ≡ Accept → IsPushOrder stored pushed
push_in_order stored pushed e =
    let reused = pushed.serial == stored.serial && not (bytes_eq stored.bytes pushed.bytes) in
    let lineage = passed (not (bytes_eq stored.lineage pushed.lineage)) LineageDiffers _ (λ r. cc) e in
    let serial = passed (nat_lt pushed.serial stored.serial) SerialTooLow _ (λ r. cc) lineage.1 in
    let content = passed reused SerialReused Accept (λ r. cc) serial.1 in
    record {
      one_lineage = (bytes_eq-Decides stored.lineage pushed.lineage).0 (not-false _ lineage.0);
      no_falling_serial = ltb-false pushed.serial stored.serial serial.0;
      one_content = λ same. (bytes_eq-Decides stored.bytes pushed.bytes).0 (not-false _ (rw (eq-eqb pushed.serial stored.serial (sym same)) at content.0));
    }

-- The test for equal bytes is true for equal bytes.
bytes_pass : (a b : List ℕ) → a ≡ b → bytes_eq a b ≡ true
bytes_pass a b = (bytes_eq-Decides a b).1

-- A lock is accepted if there is no holder, or if it has the holder's bytes.
pub lock_accepted : (holder : Option LockInformation) (info : LockInformation)
    → ((held : LockInformation) → holder ≡ Some held → held.bytes ≡ info.bytes) → lock_verdict holder info ≡ Accept
lock_accepted None info own = refl
lock_accepted (Some held) info own = rw (bytes_pass held.bytes info.bytes (own held refl)) refl

-- An unlock is accepted if there is no holder, or if it carries the holder's identifier or none.
pub unlock_accepted : (holder : Option LockInformation) (id : Option (List ℕ))
    → ((held : LockInformation) → holder ≡ Some held → (id ≡ Some held.id) ⊎ (id ≡ None)) → unlock_verdict holder id ≡ Accept
unlock_accepted holder None carries = refl
unlock_accepted None (Some id) carries = refl
unlock_accepted (Some held) (Some id) carries =
    elim (carries held refl) [
      | inl same ↦ let is : held.id ≡ id = cc in rw (bytes_pass held.id id is) refl
      | inr none ↦ cc
    ]

-- The lock refuses no write that carries the identifier of the holder, if there is one, and else
-- none.
pub write_accepted : (holder : Option LockInformation) (id : Option (List ℕ)) (otherwise : Verdict)
    → ((held : LockInformation) → holder ≡ Some held → id ≡ Some held.id) → ((named : List ℕ) → id ≡ Some named → IsSome holder)
    → write_verdict holder id otherwise ≡ otherwise
write_accepted None None otherwise carries names = refl
write_accepted None (Some id) otherwise carries names = let held = names id refl in cc
write_accepted (Some held) None otherwise carries names = let same = carries held refl in cc
write_accepted (Some held) (Some id) otherwise carries names =
    let same = carries held refl in let is : held.id ≡ id = cc in rw (bytes_pass held.id id is) refl

-- If a push follows the state in push order, the test for different content with the same serial is
-- false.
content_pass : (stored pushed : Document) → IsPushOrder stored pushed → (pushed.serial == stored.serial && not (bytes_eq stored.bytes pushed.bytes)) ≡ false
content_pass stored pushed order =
    elim (pushed.serial == stored.serial) as (λ t. (pushed.serial == stored.serial) ≡ t → (t && not (bytes_eq stored.bytes pushed.bytes)) ≡ false) [
      | true ↦ λ same. rw (bytes_pass stored.bytes pushed.bytes (order.one_content (sym (eqb-true pushed.serial stored.serial same)))) refl
      | false ↦ λ _. refl
    ] refl

-- A push is accepted over no state, and over one that it follows in push order.
pub push_accepted : (stored : Option Document) (pushed : Document)
    → ((d : Document) → stored ≡ Some d → IsPushOrder d pushed) → push_verdict stored pushed ≡ Accept
push_accepted None pushed follows = refl
push_accepted (Some stored) pushed follows =
    let order = follows stored refl in
    let lineage = bytes_pass stored.lineage pushed.lineage order.one_lineage in
    let serial = le-ltb pushed.serial stored.serial order.no_falling_serial in
    rw (lineage, serial, content_pass stored pushed order) refl

-- If neither of two verdicts is Locked, the one that a test chooses isn't.
neither_locked : (test : Bool) (refusal otherwise : Verdict) → ¬ (refusal ≡ Locked) → ¬ (otherwise ≡ Locked) → ¬ (cond test refusal otherwise ≡ Locked)
neither_locked true refusal otherwise p q e = p e
neither_locked false refusal otherwise p q e = q e

-- The verdict on a push regardless of the lock isn't Locked.
push_not_locked : (stored : Option Document) (pushed : Document) → ¬ (push_verdict stored pushed ≡ Locked)
push_not_locked None pushed e = cc
push_not_locked (Some stored) pushed e =
    neither_locked (not (bytes_eq stored.lineage pushed.lineage)) LineageDiffers _ (λ r. cc)
    (neither_locked (nat_lt pushed.serial stored.serial) SerialTooLow _ (λ r. cc)
    (neither_locked (pushed.serial == stored.serial && not (bytes_eq stored.bytes pushed.bytes)) SerialReused Accept (λ r. cc) (λ r. cc))) e

-- A write is Locked only if there is a holder.
write_locked : (holder : Option LockInformation) (id : Option (List ℕ)) (otherwise : Verdict) → ¬ (otherwise ≡ Locked)
    → write_verdict holder id otherwise ≡ Locked → IsSome holder
write_locked None None otherwise p e = absurd (p e)
write_locked None (Some id) otherwise p e = cc
write_locked (Some held) id otherwise p e = refl

-- An act is Locked only if there is a holder.
pub holder_of_locked : (s : Standing) (act : ActValue) → verdict_over s act ≡ Locked → IsSome s.holder
holder_of_locked s (lock info) e = by_holder s.holder e
  where
    by_holder : (holder : Option LockInformation) → lock_verdict holder info ≡ Locked → IsSome holder
    by_holder None f = cc
    by_holder (Some held) f = refl
holder_of_locked s (unlock id) e = by_holder s.holder id e
  where
    by_holder : (holder : Option LockInformation) (given : Option (List ℕ)) → unlock_verdict holder given ≡ Locked → IsSome holder
    by_holder None None f = cc
    by_holder None (Some given) f = cc
    by_holder (Some held) given f = refl
holder_of_locked s (push id d) e = write_locked s.holder id (push_verdict s.state d) (push_not_locked s.state d) e
holder_of_locked s (delete id) e = write_locked s.holder id Accept (λ r. cc) e
