-- Lemmas about bytes whose head was parsed: with its body they begin with a message, without it
-- they are unfinished.
use Rattle.std.proofs.Common.{◌≡◌, ◌≤◌, ◌<◌, ◌-◌, ℕ, List, [], ◌++◌, length, drop, Result, Ok, Err, IfOk, OnErr, None, refl, sym, ◌∙◌, ap, subst, arith}
use Rattle.std.proofs.Common.{append_assoc, length-append}
use Rattle.std.proofs.Math.Seq.{drop-append_seam}
use Rattle.std.specs.declared.alloc.AllocError.{AllocError}
use Rattle.httparse.specs.Grammar.{LineEnd, print_blank}
use Rattle.tfs_framing.specs.Head.{HasHead}
use Rattle.tfs_framing.specs.Body.{SpellsBody, HasBadBody, HasNoBody, refusal_of}
use Rattle.tfs_framing.specs.Decoder.{IsAt, IsFramed, over_of}
use Rattle.tfs_framing.specs.Framing.{BeginsWith, IsUnfinished, Opens, framing_refusal}
use Rattle.tfs_framing.specs.Parts.{EndsWith}
use Rattle.tfs_framing.specs.Request.{RequestValue, completed, request_of}
use Rattle.tfs_framing.specs.declared.chunks.Flaw.{Flaw}
use Rattle.tfs_framing.specs.declared.framing.Framed.{Framed}
use Rattle.tfs_framing.specs.declared.lines.BodyLength.{BodyLength}
use Rattle.tfs_framing.specs.declared.progress.Progress.{Progress}
use Rattle.tfs_framing.specs.declared.request.OpenRequest.{OpenRequest}
use Rattle.tfs_framing.proofs.FramingLemmas.{head_more}
use Rattle.tfs_framing.proofs.WantedLemmas.{begins_anyway, begins_with_message, refused_by_body, unfinished_without_body}

-- Dropping all but the last `n` bytes leaves the end that has length `n`.
pub left_behind : (left after : List ℕ) (all n : ℕ) → all ≡ length left → EndsWith left after → n ≡ length after → drop (all - n) left ≡ after
left_behind left after all n all_is ends is =
    let sizes = ap length ends.1 ∙ length-append ends.0 after in
    let at : all - n ≡ length ends.0 = omega arith in
    ap (λ (k : ℕ). drop k left) at ∙ ap (λ (t : List ℕ). drop (length ends.0) t) ends.1 ∙ drop-append_seam ends.0 after

-- The end of some bytes is at most as long as they are.
pub few_left : (left after : List ℕ) → EndsWith left after → length after ≤ length left
few_left left after ends = let sizes = ap length ends.1 ∙ length-append ends.0 after in omega arith

-- The end of the bytes after a head is an end of all bytes.
ends_all : (bytes : List ℕ) (skipped : List LineEnd) (head rest after : List ℕ) → HasHead bytes skipped head rest → EndsWith rest after
    → EndsWith bytes after
ends_all bytes skipped head rest after has ends = (
  print_blank skipped ++ (head ++ ends.0),
  has.parts ∙ ap (λ t. print_blank skipped ++ (head ++ t)) ends.1 ∙ ap (λ t. print_blank skipped ++ t) (sym (append_assoc head ends.0 after))
      ∙ sym (append_assoc (print_blank skipped) (head ++ ends.0) after),
)

-- The bytes after a parsed head are an end of all bytes.
pub opens_end : (bytes rest : List ℕ) (request : Result OpenRequest AllocError) (size : BodyLength) → Opens bytes request size rest → EndsWith bytes rest
opens_end bytes rest request size k = ends_all bytes k.skipped k.head rest rest k.has_head ([], refl)

-- A parsed head remains when more bytes follow.
pub opens_more : (bytes more rest : List ℕ) (request : Result OpenRequest AllocError) (size : BodyLength) → Opens bytes request size rest
    → Opens (bytes ++ more) request size (rest ++ more)
opens_more bytes more rest request size k = record {
  skipped = k.skipped;
  head = k.head;
  has_head = head_more bytes more k.skipped k.head rest k.has_head;
  h = k.h;
  reads = k.reads;
  own = k.own;
}

-- Bytes with a parsed head but no body are unfinished.
pub opens_unfinished : (bytes rest : List ℕ) (request : Result OpenRequest AllocError) (size : BodyLength) → Opens bytes request size rest
    → HasNoBody size rest → IsUnfinished bytes
opens_unfinished bytes rest request size k none = unfinished_without_body bytes k.skipped k.head rest k.h size k.has_head k.reads none

-- Bytes with a parsed head and a flawed body are refused.
pub opens_refused : (bytes rest : List ℕ) (request : Result OpenRequest AllocError) (size : BodyLength) (flaw : Flaw) → Opens bytes request size rest
    → HasBadBody size rest flaw → framing_refusal bytes (refusal_of flaw)
opens_refused bytes rest request size flaw k bad = refused_by_body bytes k.skipped k.head rest k.h size flaw k.has_head k.reads bad

-- Bytes with a parsed head and its body begin with a message.
pub opens_whole : (bytes rest coded body after : List ℕ) (request : Result OpenRequest AllocError) (size : BodyLength)
    → (k : Opens bytes request size rest) → rest ≡ coded ++ after → SpellsBody size coded body
    → (used : ℕ) × BeginsWith bytes (request_of k.h body) used × (after ≡ drop used bytes)
opens_whole bytes rest coded body after request size k split spells = (
  length bytes - length after,
  begins_with_message bytes k.skipped k.head rest coded body after k.h size k.has_head k.reads split spells,
  sym (left_behind bytes after (length bytes) (length after) refl (ends_all bytes k.skipped k.head rest after k.has_head (coded, split)) refl),
)

-- This also holds if memory is refused.
pub whole_anyway : {T E : Type 0} (r : Result T E) (bytes rest coded body after : List ℕ) (request : Result OpenRequest AllocError) (size : BodyLength)
    → Opens bytes request size rest → rest ≡ coded ++ after → SpellsBody size coded body
    → OnErr r ((q : RequestValue) × (n : ℕ) × BeginsWith bytes q n)
whole_anyway r bytes rest coded body after request size k split spells =
    let whole = opens_whole bytes rest coded body after request size k split spells in
    begins_anyway r bytes (request_of k.h body) whole.0 whole.1

-- The request completed with the body is the request of the message.
pub whole_framed : (bytes rest coded body after unused : List ℕ) (request : Result OpenRequest AllocError) (size : BodyLength) (o : OpenRequest)
    (q : RequestValue) (left : ℕ) → Opens bytes request size rest → rest ≡ coded ++ after → SpellsBody size coded body → request ≡ Ok o
    → q ≡ completed o body → EndsWith unused after → left ≡ length after → IsFramed bytes unused (Framed.Message q left)
whole_framed bytes rest coded body after unused request size o q left k split spells is done ends size_is =
    let whole = opens_whole bytes rest coded body after request size k split spells in
    let own = subst (λ (r : Result OpenRequest AllocError). IfOk r (λ p. (b : List ℕ) → completed p b ≡ request_of k.h b)) is k.own in (
      after,
      ends,
      size_is,
      whole.0,
      subst (λ (r : RequestValue). BeginsWith bytes r whole.0) (sym (done ∙ own body)) whole.1,
      whole.2,
    )

-- If more bytes are needed, the progress is right for the remaining bytes, unless memory is
-- refused.
pub more_framed : (bytes unused after : List ℕ) (left : ℕ) (progress : Result Progress AllocError) → IsUnfinished bytes → EndsWith unused after
    → left ≡ length after → left < 17408 → IfOk progress (λ p. IsAt bytes p after) → IfOk progress (λ p. over_of p ≡ None)
    → IsFramed bytes unused (Framed.More progress left)
more_framed bytes unused after left (Ok p) none ends is few at over = (none, (after, ends, is, few, at, over))
more_framed bytes unused after left (Err e) none ends is few at over = (none, tt)

-- An end of an end of the bytes is an end of the bytes.
ends_twice : (bytes rest after : List ℕ) → EndsWith bytes rest → EndsWith rest after → EndsWith bytes after
ends_twice bytes rest after x y = (x.0 ++ y.0, x.1 ∙ ap (λ t. x.0 ++ t) y.1 ∙ sym (append_assoc x.0 y.0 after))

-- A result for an end of the bytes is also a result for the bytes.
pub framed_all : (bytes rest : List ℕ) (r : Result Framed AllocError) → EndsWith bytes rest → IfOk r (IsFramed bytes rest)
    → IfOk r (IsFramed bytes bytes)
framed_all bytes rest (Ok (Framed.Message q left)) ends p = (p.0, ends_twice bytes rest p.0 ends p.1, p.2, p.3, p.4, p.5)
framed_all bytes rest (Ok (Framed.Refused refusal)) ends p = p
framed_all bytes rest (Ok (Framed.More (Ok progress) left)) ends p =
    (p.0, (p.1.0, ends_twice bytes rest p.1.0 ends p.1.1, p.1.2, p.1.3, p.1.4, p.1.5))
framed_all bytes rest (Ok (Framed.More (Err e) left)) ends p = p
framed_all bytes rest (Err e) ends p = tt
