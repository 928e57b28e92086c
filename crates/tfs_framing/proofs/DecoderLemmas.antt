-- Lemmas about what a decoder knows of its bytes.
use Rattle.std.proofs.Common.{◌≡◌, ◌≤◌, ◌<◌, ◌+◌, ◌-◌, ℕ, List, [], ◌++◌, length, drop, append-nil, Option, Some, None, Result, Ok, Err, IfOk, OnErr, refl, sym, ◌∙◌, ap, subst, arith}
use Rattle.std.proofs.Common.{length-append, length-drop, vec_capacity, if◌then◌else◌, inl, inr}
use Rattle.std.specs.Result.{is_ok}
use Rattle.std.specs.declared.alloc.AllocError.{AllocError}
use Rattle.std.proofs.lemmas.Bool.{cases_lt}
use Rattle.tfs_calls.specs.declared.refusal.Refusal.{Refusal}
use Rattle.tfs_framing.specs.Decoder.{Comes, IsApart, IsOver, IsReason, last_result}
use Rattle.tfs_framing.specs.Framing.{BeginsWith, IsUnfinished, Opens}
use Rattle.tfs_framing.specs.Request.{RequestValue, request_of}
use Rattle.tfs_framing.specs.declared.lines.BodyLength.TheVariants.{Sized}
use Rattle.tfs_framing.specs.declared.over.Over.{Over}
use Rattle.tfs_framing.specs.declared.progress.SizedBody.{SizedBody}
use Rattle.tfs_framing.specs.declared.progress.Progress.{Progress}
use Rattle.tfs_framing.specs.declared.framing.Received.{Received}
use Rattle.tfs_framing.specs.declared.request.OpenRequest.{OpenRequest}
use Rattle.tfs_framing.proofs.OpensLemmas.{opens_more, opens_unfinished, opens_whole}
use Rattle.tfs_framing.proofs.WantedLemmas.{too_few}

-- A fact that always holds also holds if memory is refused.
pub anyway : {T E P : Type 0} (r : Result T E) → P → OnErr r P
anyway (Ok value) p = tt
anyway (Err error) p = p

-- An implication carries over to the case of refused memory.
pub on_err : {T E P Q : Type 0} (r : Result T E) → (P → Q) → OnErr r P → OnErr r Q
on_err (Ok value) f p = tt
on_err (Err error) f p = f p

-- A refusal that an ended decoder returns is the refusal of its bytes.
pub comes_of_over : (bytes unused : List ℕ) (spare : ℕ) (progress : Progress) (o : Over) (r : Result Received AllocError) → IsOver bytes o
    → r ≡ last_result o.reason → IfOk r (Comes bytes unused spare progress)
comes_of_over bytes unused spare progress o r over is =
    subst (λ (x : Result Received AllocError). IfOk x (Comes bytes unused spare progress)) (sym is) (by o.reason over.reason)
  where
    by : (refusal : Option Refusal) → IsReason bytes refusal → IfOk (last_result refusal) (Comes bytes unused spare progress)
    by (Some refusal) has = has
    by None has = tt

-- While bytes of a sized body are missing, the message is unfinished.
pub apart_wants : (bytes unused : List ℕ) (s : SizedBody) → IsApart bytes s unused → length s.body.items < s.size → IsUnfinished bytes
apart_wants bytes unused s a few = opens_unfinished bytes s.body.items (Ok s.request) (Sized s.size) a.opens (too_few s.size s.body.items few)

-- If the message is unfinished, bytes of its sized body are missing.
pub apart_lacks : (bytes unused : List ℕ) (s : SizedBody) → IsApart bytes s unused → IsUnfinished bytes → length s.body.items < s.size
apart_lacks bytes unused s a none = elim (cases_lt (length s.body.items) s.size) [
  | inl few ↦ few
  | inr enough ↦
      let within = a.within in
      let whole = opens_whole bytes s.body.items s.body.items s.body.items [] (Ok s.request) (Sized s.size) a.opens
      (sym (append-nil s.body.items)) (refl, omega arith) in
      absurd (none.no_message whole.1.frame whole.1.rest (request_of a.opens.h s.body.items) whole.1.parts whole.1.reads)
]

-- If a growth succeeded, the value after it is the grown one.
pub grown : {T E A : Type 0} (r : Result T E) (value : T) (new more old : A) → r ≡ Ok value → new ≡ (if is_ok r then more else old) → new ≡ more
grown {T} {E} {A} r value new more old is e = subst (λ (x : Result T E). new ≡ (if is_ok x then more else old)) is e

-- More bytes can be appended to a sized body in its own vector.
pub apart_more : (bytes unused more : List ℕ) (s t : SizedBody) → t.request ≡ s.request → t.size ≡ s.size → IsApart bytes s unused
    → t.body.items ≡ s.body.items ++ more → length s.body.items + length more ≤ s.size → vec_capacity s.body ≤ vec_capacity t.body
    → IsApart (bytes ++ more) t unused
apart_more bytes unused more s t same sizes a is few room =
    let all = ap length is ∙ length-append s.body.items more in
    let old = a.room in
    record {
      opens = subst (λ (o : OpenRequest). Opens (bytes ++ more) (Ok o) (Sized t.size) t.body.items) (sym same)
          (subst (λ (n : ℕ). Opens (bytes ++ more) (Ok s.request) (Sized n) t.body.items) (sym sizes)
          (subst (λ (b : List ℕ). Opens (bytes ++ more) (Ok s.request) (Sized s.size) b) (sym is)
          (opens_more bytes more s.body.items (Ok s.request) (Sized s.size) a.opens)));
      none = a.none;
      within = omega arith;
      room = omega arith;
    }

-- The length of a message is the length of all bytes minus that of the bytes after it.
pub taken_length : (bytes after : List ℕ) (r : RequestValue) (left used : ℕ) → BeginsWith bytes r used → after ≡ drop used bytes → left ≡ length after
    → BeginsWith bytes r (length bytes - left)
taken_length bytes after r left used begins is size =
    let all = ap length begins.parts ∙ length-append begins.frame begins.rest in
    let front = begins.used_is in
    let behind = ap (λ (t : List ℕ). length t) is ∙ length-drop used bytes in
    subst (λ (n : ℕ). BeginsWith bytes r n) (omega arith) begins
