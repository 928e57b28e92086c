-- Lemmas about the makers of the changes that sessions have seen.
use Rattle.std.proofs.Common.{◌≡◌, ◌+◌, ◌<◌, ℕ, nat_lt, Bool, true, false, List, [], ◌∷◌, ◌++◌, length, get_or, All, Result, Ok, Err, OnOk, OnErr, refl, sym, ◌∙◌, ap, subst, arith, append-nil}
use Rattle.std.proofs.lemmas.Bool.Decides.{nat_tests}
use Rattle.std.proofs.lemmas.List.{get_or_append_left, get_or_push, length_push}
use mathlib.Core.List.{IsPrefix}
use Rattle.tfs_records.specs.Journal.{Journal, BaseValue, position_of}
use Rattle.tfs_calls.specs.declared.refusal.Refusal.{Refusal}
use Rattle.tfs_table.specs.Table.{change_reply}
use Rattle.tfs_published.specs.Beginning.{BeginsWith}
use Rattle.tfs_shared.specs.Signed.{IsSigned, AreSigned, makers_told}
use Rattle.tfs_shared.specs.View.{SessionView, AreNew, new_session}

-- A list is a prefix of itself.
pub prefix_itself : (xs : List ℕ) → IsPrefix xs xs
prefix_itself xs = ([], append-nil xs)

-- A session has advanced if it has seen earlier changes and then changes by the makers `last`.
pub signs : (opening : Journal) (old new : SessionView) (before last : List ℕ) → new.number ≡ old.number → IsPrefix old.makers before
    → new.makers ≡ before ++ last → BeginsWith new.journal opening → length new.journal.entries ≡ length opening.entries + length new.makers
    → IsSigned opening old new last
signs opening old new before last number fresh made begins entries =
    let base = ap (λ (b : BaseValue). b.position) begins.base in
    record { number = number; before = before; fresh = fresh; made = made; counted = omega (arith, base, entries) }

-- A session has advanced without changes of its own.
pub signs_none : (opening : Journal) (old new : SessionView) → new.number ≡ old.number → IsPrefix old.makers new.makers
    → BeginsWith new.journal opening → length new.journal.entries ≡ length opening.entries + length new.makers → IsSigned opening old new []
signs_none opening old new number fresh begins entries =
    signs opening old new new.makers [] number fresh (sym (append-nil new.makers)) begins entries

-- A session that doesn't change has advanced.
pub signs_nothing : (opening : Journal) (old new : SessionView) → new ≡ old → BeginsWith old.journal opening
    → length old.journal.entries ≡ length opening.entries + length old.makers → IsSigned opening old new []
signs_nothing opening old new same begins entries =
    subst (λ (v : SessionView). IsSigned opening old v []) (sym same) (signs_none opening old old refl (prefix_itself old.makers) begins entries)

-- After a change, the session's own number is the last maker if the change was accepted.
pub signs_change : (result : Result ℕ Refusal) (opening j k : Journal) (old new : SessionView) (before after : List ℕ) (maker : ℕ)
    → OnOk result (after ≡ before ++ maker ∷ []) → OnErr result ((j ≡ k) × (after ≡ before)) → maker ≡ old.number → new.number ≡ old.number
    → IsPrefix old.makers before → new.makers ≡ after → BeginsWith new.journal opening
    → length new.journal.entries ≡ length opening.entries + length new.makers → IsSigned opening old new (makers_told old.number (change_reply result))
signs_change (Ok position) opening j k old new before after maker made kept own number fresh seen begins entries =
    signs opening old new before (old.number ∷ []) number fresh (seen ∙ made ∙ ap (λ (n : ℕ). before ++ n ∷ []) own) begins entries
signs_change (Err refusal) opening j k old new before after maker made kept own number fresh seen begins entries =
    signs opening old new before [] number fresh (seen ∙ kept.1 ∙ sym (append-nil before)) begins entries

-- A session that counts a reply has seen what it had seen before counting.
pub signs_counted : (opening : Journal) (old seen new : SessionView) (last : List ℕ) (accepted : ℕ) (faulted stopped : Bool) (misses : ℕ)
    → new ≡ record {
      number = seen.number;
      journal = seen.journal;
      makers = seen.makers;
      accepted = accepted;
      faulted = faulted;
      stopped = stopped;
      misses = misses;
    } → IsSigned opening old seen last → IsSigned opening old new last
signs_counted opening old seen new last accepted faulted stopped misses is signed =
    subst (λ (v : SessionView). IsSigned opening old v last) (sym is)
    (record { number = signed.number; before = signed.before; fresh = signed.fresh; made = signed.made; counted = signed.counted })

-- If the makers of each session are a prefix of the table's, all sessions are signed.
pub signed_all : (opening last : Journal) (makers : List ℕ) (sessions : List SessionView) → BeginsWith last opening
    → length last.entries ≡ length opening.entries + length makers → All (λ (s : SessionView). IsPrefix s.makers makers) sessions
    → AreSigned opening last sessions
signed_all opening last makers sessions begins entries seen =
    let base = ap (λ (b : BaseValue). b.position) begins.base in
    record { makers = makers; counted = omega (arith, base, entries); seen = seen }

-- No sessions are new sessions.
pub none_new : (opening : Journal) (stopped : Bool) (sessions : List SessionView) → sessions ≡ [] → AreNew opening stopped 0 sessions
none_new opening stopped sessions none = record { many = ap length none; each = λ k d within. absurd (omega (arith, within)) }

-- Appending a session with the next number gives one more new session.
pub one_new_more : (opening : Journal) (stopped : Bool) (made : ℕ) (sessions after : List SessionView) (s : SessionView)
    → AreNew opening stopped made sessions → after ≡ sessions ++ s ∷ [] → s ≡ new_session opening stopped made
    → AreNew opening stopped (made + 1) after
one_new_more opening stopped made sessions after s new is one = record {
  many = ap length is ∙ omega (arith, new.many, length_push sessions s);
  each = λ k d within. subst (λ (l : List SessionView). get_or l k d ≡ new_session opening stopped k) (sym is) (
      elim (nat_lt k made) as (λ t. nat_lt k made ≡ t → get_or (sessions ++ s ∷ []) k d ≡ new_session opening stopped k) [
        | true ↦ λ e. get_or_append_left sessions (s ∷ []) d k (grind (arith, nat_tests, e, new.many))
            ∙ new.each k d (grind (arith, nat_tests, e))
        | false ↦ λ e.
            let at : k ≡ made = grind (arith, nat_tests, e, within) in
            get_or_push sessions s d k (new.many ∙ sym at) ∙ (one ∙ ap (new_session opening stopped) (sym at))
      ] refl);
}
