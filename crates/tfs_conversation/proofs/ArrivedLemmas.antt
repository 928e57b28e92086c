-- Lemmas about the next input of a conversation.
use Rattle.std.proofs.Common.{◌≡◌, ◌≤◌, ◌<◌, ◌+◌, ◌-◌, ◌*◌, ◌⊎◌, ℕ, List, [], ◌∷◌, ◌++◌, length, drop, Option, Some, None, IfSome, Result, IfOk, IfErr, refl, sym, ◌∙◌, ap, subst, arith, inl, inr, length-append, append-nil}
use Rattle.std.specs.Io.KnownBytes.{Appends, Consumes, Keeps}
use Rattle.tfs_framing.specs.Request.{RequestValue}
use Rattle.tfs_framing.specs.Framing.{BeginsWith, IsUnfinished}
use Rattle.tfs_framing.proofs.MessageLemmas.{frame_is_no_empty_text, rest_behind}
use Rattle.tfs_conversation.specs.Arrived.{Arrives, ArrivesOrStays, EndsSo, EndsThere}
use Rattle.tfs_conversation.specs.Conversation.{BreaksThere, ComesInReads, IsReadThrough}
use Rattle.tfs_conversation.specs.Turns.{work_left}
use Rattle.tfs_conversation.specs.declared.input.Arrived.{Arrived}
use Rattle.tfs_conversation.specs.declared.ended.Ended.{Ended}
use Rattle.tfs_conversation.specs.declared.ended.Ended.TheVariants.{Clean, Cut}
use Rattle.tfs_http.specs.declared.fault.ServeFault.{ServeFault}
use Rattle.tfs_http.specs.declared.fault.ServeFault.TheVariants.{Read}

-- What holds of a result also holds of a result equal to it.
pub what_comes : (bytes left : List ℕ) (before after : ℕ) (a b : Result (Option Arrived) ServeFault) → a ≡ b
    → IfOk b (ArrivesOrStays bytes left) × IfErr b (λ fault. BreaksThere bytes fault before after × (fault ≡ Read → left ≡ bytes))
    → IfOk a (ArrivesOrStays bytes left) × IfErr a (λ fault. BreaksThere bytes fault before after × (fault ≡ Read → left ≡ bytes))
what_comes bytes left before after a b is p =
    subst (λ (r : Result (Option Arrived) ServeFault). IfOk r (ArrivesOrStays bytes left)
    × IfErr r (λ fault. BreaksThere bytes fault before after × (fault ≡ Read → left ≡ bytes)))
    (sym is) p

-- Input that has arrived is the next input of the bytes.
pub some_arrives : (bytes left : List ℕ) (next : Option Arrived) (a b : Arrived) → next ≡ Some a → a ≡ b → ArrivesOrStays bytes left next
    → Arrives bytes left b
some_arrives bytes left next a b is also p =
    subst (λ (x : Arrived). Arrives bytes left x) also (subst (λ (o : Option Arrived). ArrivesOrStays bytes left o) is p)

-- If no input has arrived, all bytes are left.
pub none_arrives : (bytes left : List ℕ) (next : Option Arrived) → next ≡ None → ArrivesOrStays bytes left next → left ≡ bytes
none_arrives bytes left next is p = subst (λ (o : Option Arrived). ArrivesOrStays bytes left o) is p

-- If the input has ended, the reader is at its end.
pub ended_through : (reader : Option (List ℕ)) (next : Option Arrived) (a : Arrived) (e : Ended) → next ≡ Some a → a ≡ Arrived.Ended e
    → IfSome next (EndsThere reader) → IsReadThrough e reader
ended_through reader next a e is also p =
    subst (λ (x : Arrived). EndsThere reader x) also (subst (λ (o : Option Arrived). IfSome o (EndsThere reader)) is p)

-- After a message there is less work left, no matter how many reads it took.
pub less_behind : (before after : ℕ) (input more left : List ℕ) (r : RequestValue) (used : ℕ) → ComesInReads more before after
    → BeginsWith (input ++ more) r used → left ≡ drop used (input ++ more) → (after ≡ before) ⊎ (after ≤ 1048576)
    → work_left after left < work_left before input
less_behind before after input more left r used came b is limit =
    let some = frame_is_no_empty_text b.frame r b.reads in
    let all = ap length b.parts in
    let parts = length-append b.frame b.rest in
    let both = length-append input more in
    let short = ap length (rest_behind (input ++ more) left r used b is) in
    let counted = came.counted in
    let pace = came.pace in
    by limit some all parts both short counted pace
  where
    by : (after ≡ before) ⊎ (after ≤ 1048576) → 0 < length b.frame → length (input ++ more) ≡ length (b.frame ++ b.rest)
        → length (b.frame ++ b.rest) ≡ length b.frame + length b.rest → length (input ++ more) ≡ length input + length more
        → length left ≡ length b.rest → before ≤ after → length more ≤ 65536 * (after - before) → work_left after left < work_left before input
    by (inl same) some all parts both short counted pace = omega arith
    by (inr few) some all parts both short counted pace = omega arith

-- At most 65,536 bytes can come in one read.
pub one_read : (x : List ℕ) (a b : ℕ) → length x ≤ 65536 → b ≡ a + 1 → ComesInReads x a b
one_read x a b few is = record { counted = omega arith; pace = omega arith }

-- A reader that keeps its bytes has consumed none.
pub kept_nothing : (a b : Option (List ℕ)) → Keeps a b → Consumes a b []
kept_nothing None b k = tt
kept_nothing (Some xs) None k = absurd k
kept_nothing (Some xs) (Some ys) k = sym k

-- A reader that keeps the bytes that it returned has returned none.
pub kept_taken : (a b : Option (List ℕ)) → Keeps a b → Appends a b []
kept_taken None b k = tt
kept_taken (Some xs) None k = absurd k
kept_taken (Some xs) (Some ys) k = k ∙ sym (append-nil xs)

-- The empty list of bytes can come in any number of reads.
pub no_reads : (a b : ℕ) → a ≤ b → ComesInReads [] a b
no_reads a b more = record { counted = more; pace = omega arith }

-- A list of length 0 is empty.
pub nothing_read : (l : List ℕ) → length l ≡ 0 → l ≡ []
nothing_read [] e = refl
nothing_read (x ∷ l) e = absurd (omega arith)

-- When the input ends, the conversation ends between messages or inside one.
pub ends_so : (bytes all : List ℕ) (ended : Ended) → all ≡ bytes → IsUnfinished bytes → ((ended ≡ Clean) × (bytes ≡ [])) ⊎ ((ended ≡ Cut) × ¬ (bytes ≡ []))
    → EndsSo all ended
ends_so bytes all ended same unfinished (inl p) = inl (p.0, same ∙ p.1)
ends_so bytes all ended same unfinished (inr p) = inr (p.0, (λ e. p.1 (sym same ∙ e)), subst IsUnfinished (sym same) unfinished)
