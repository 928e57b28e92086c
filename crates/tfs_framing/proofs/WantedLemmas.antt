-- Lemmas about bytes whose message is incomplete, and about bytes whose message is complete.
use Rattle.std.proofs.Common.{◌≡◌, ◌<◌, ◌-◌, ℕ, List, ◌++◌, length, refl, sym, ◌∙◌, ap, subst, arith}
use Rattle.std.proofs.Common.{Result, Ok, Err, OnErr}
use Rattle.std.proofs.Common.{append_assoc, length-append, inl, inr}
use Rattle.httparse.specs.Grammar.{LineEnd, print_blank}
use Rattle.httparse.specs.Grammar.{RequestHead}
use Rattle.tfs_framing.specs.Request.{RequestValue, request_of}
use Rattle.tfs_framing.specs.Head.{HasHead, HasNoHead}
use Rattle.tfs_framing.specs.Body.{SpellsBody, HasBadBody, HasNoBody, refusal_of}
use Rattle.tfs_framing.specs.Framing.{ReadsHead, IsHeadRefused, IsUnfinished, BeginsWith, framing_refusal}
use Rattle.tfs_framing.specs.declared.chunks.Flaw.{Flaw}
use Rattle.tfs_framing.specs.declared.lines.BodyLength.{BodyLength}
use Rattle.tfs_framing.specs.declared.lines.BodyLength.TheVariants.{Sized}
use Rattle.tfs_framing.proofs.FramingLemmas.{head_unique, reads_once, reads_not_refused, head_of_message}

-- Fewer than 16,384 bytes without a head are unfinished.
pub unfinished_without_head : (bytes : List ℕ) → HasNoHead bytes → length bytes < 16384 → IsUnfinished bytes
unfinished_without_head bytes none few = record {
  no_message = λ frame rest r e m. none m.skipped m.head (m.coded ++ rest) (head_of_message bytes frame rest r e m);
  no_refusal = λ refusal p. elim p [
    | inl q ↦ let many = q.0 in omega arith
    | inr r ↦ elim r [ inl q ↦ none q.skipped q.head q.rest q.has_head | inr q ↦ none q.skipped q.head q.rest q.has_head ]
  ];
}

-- Fewer bytes than the stated length are no body.
pub too_few : (n : ℕ) (rest : List ℕ) → length rest < n → HasNoBody (Sized n) rest
too_few n rest short = record {
  none = λ coded body after e s.
      let sizes = ap length e ∙ length-append coded after in
      let one : length coded ≡ n = ap length s.0 ∙ s.1 in
      omega arith;
  no_flaw = λ flaw bad. bad;
}

-- Bytes with a parsed head but no body are unfinished.
pub unfinished_without_body : (bytes : List ℕ) (skipped : List LineEnd) (head rest : List ℕ) (h : RequestHead) (n : BodyLength)
    → HasHead bytes skipped head rest → ReadsHead head h n → HasNoBody n rest → IsUnfinished bytes
unfinished_without_body bytes skipped head rest h n has reads none = record {
  no_message = λ frame last r e m.
      let same = head_unique bytes skipped m.skipped head m.head rest (m.coded ++ last) has (head_of_message bytes frame last r e m) in
      let lines = reads_once head h m.h n m.size reads (subst (λ (t : List ℕ). ReadsHead t m.h m.size) (sym same.heads) m.reads) in
      none.none m.coded m.body last same.rests (subst (λ (t : BodyLength). SpellsBody t m.coded m.body) (sym lines.1) m.spells);
  no_refusal = λ refusal p. elim p [
    | inl q ↦ q.1 skipped head rest has
    | inr p ↦ elim p [
      | inl q ↦
          let same = head_unique bytes skipped q.skipped head q.head rest q.rest has q.has_head in
          reads_not_refused head h n refusal reads (subst (λ (t : List ℕ). IsHeadRefused t refusal) (sym same.heads) q.refused)
      | inr q ↦
          let same = head_unique bytes skipped q.skipped head q.head rest q.rest has q.has_head in
          let lines = reads_once head h q.h n q.size reads (subst (λ (t : List ℕ). ReadsHead t q.h q.size) (sym same.heads) q.reads) in
          none.no_flaw q.flaw (subst (λ (t : List ℕ). HasBadBody n t q.flaw) (sym same.rests)
          (subst (λ (t : BodyLength). HasBadBody t q.rest q.flaw) (sym lines.1) q.bad))
    ]
  ];
}

-- Bytes with a parsed head and its body begin with a message.
pub begins_with_message : (bytes : List ℕ) (skipped : List LineEnd) (head rest coded body after : List ℕ) (h : RequestHead) (n : BodyLength)
    → HasHead bytes skipped head rest → ReadsHead head h n → rest ≡ coded ++ after → SpellsBody n coded body
    → BeginsWith bytes (request_of h body) (length bytes - length after)
begins_with_message bytes skipped head rest coded body after h n has reads split spells =
    let whole : bytes ≡ (print_blank skipped ++ (head ++ coded)) ++ after =
    has.parts ∙ ap (λ t. print_blank skipped ++ (head ++ t)) split
    ∙ ap (λ t. print_blank skipped ++ t) (sym (append_assoc head coded after)) ∙ sym (append_assoc (print_blank skipped) (head ++ coded) after) in
    let sizes = ap length whole ∙ length-append (print_blank skipped ++ (head ++ coded)) after in
    record {
      frame = print_blank skipped ++ (head ++ coded);
      rest = after;
      parts = whole;
      used_is = omega arith;
      reads = record {
        skipped = skipped;
        head = head;
        coded = coded;
        has_head = record { parts = refl; starts = has.starts; is_head = has.is_head; size = has.size };
        h = h;
        size = n;
        reads = reads;
        body = body;
        spells = spells;
        is_request = refl;
      };
    }

-- Bytes with a parsed head and a flawed body are refused.
pub refused_by_body : (bytes : List ℕ) (skipped : List LineEnd) (head rest : List ℕ) (h : RequestHead) (size : BodyLength) (flaw : Flaw)
    → HasHead bytes skipped head rest → ReadsHead head h size → HasBadBody size rest flaw → framing_refusal bytes (refusal_of flaw)
refused_by_body bytes skipped head rest h size flaw has reads bad = inr (inr (record {
  skipped = skipped;
  head = head;
  rest = rest;
  has_head = has;
  h = h;
  size = size;
  reads = reads;
  flaw = flaw;
  bad = bad;
  refused = refl;
}))

-- The same as `begins_with_message`, with another name for the length of the body.
pub begins_so : (bytes : List ℕ) (skipped : List LineEnd) (head rest coded body after : List ℕ) (h : RequestHead) (size n : BodyLength)
    → HasHead bytes skipped head rest → ReadsHead head h size → size ≡ n → rest ≡ coded ++ after → SpellsBody n coded body
    → BeginsWith bytes (request_of h body) (length bytes - length after)
begins_so bytes skipped head rest coded body after h size n has reads is split spells =
    begins_with_message bytes skipped head rest coded body after h n has (subst (λ (m : BodyLength). ReadsHead head h m) is reads) split spells

-- Bytes that begin with a message also do if memory is refused.
pub begins_anyway : {T E : Type 0} (r : Result T E) (bytes : List ℕ) (q : RequestValue) (used : ℕ) → BeginsWith bytes q used
    → OnErr r ((request : RequestValue) × (n : ℕ) × BeginsWith bytes request n)
begins_anyway (Ok value) bytes q used begins = tt
begins_anyway (Err error) bytes q used begins = (q, used, begins)
