-- Lemmas about framing: bytes have at most one result, and it remains when more bytes follow.
use Rattle.std.proofs.Common.{◌≡◌, ◌≤◌, ◌<◌, ◌⊎◌, ℕ, List, [], ◌++◌, length, Result, Ok, Err, refl, sym, ◌∙◌, ap, subst, arith}
use Rattle.std.proofs.Common.{append_assoc, append-nil, length-append, inl, inr}
use Rattle.httparse.specs.Grammar.{LineEnd, print_blank, RequestHead}
use Rattle.httparse.proofs.GrammarLemmas.{request_unique}
use Rattle.tfs_calls.specs.declared.refusal.Refusal.{Refusal}
use Rattle.tfs_calls.specs.declared.refusal.Refusal.TheVariants.{HeadTooLarge, BadHead}
use Rattle.tfs_framing.specs.Request.{RequestValue, request_of}
use Rattle.tfs_framing.specs.Head.{HasHead, HasNoHead, IsHeadOf, line_feeds}
use Rattle.tfs_framing.specs.Body.{body_length, SpellsBody, HasBadBody, refusal_of}
use Rattle.tfs_framing.specs.Framing.{ReadsHead, IsHeadRefused, ReadsMessage, HasRefusedHead, HasRefusedBody, framing_refusal, BeginsWith, Frames}
use Rattle.tfs_framing.specs.declared.lines.BodyLength.{BodyLength}
use Rattle.tfs_framing.specs.declared.lines.BodyLength.TheVariants.{Absent, Sized, Chunked}
use Rattle.tfs_framing.specs.declared.framing.Take.{Take}
use Rattle.tfs_framing.specs.declared.framing.Take.TheVariants.{Need, Got, Fault}
use Rattle.tfs_framing.proofs.HeadLemmas.{cuts, message_head_once, nothing_left, same_cut, blank_unique, head_starts}
use Rattle.tfs_framing.proofs.ChunksLemmas.{chunks_once}
use Rattle.tfs_framing.proofs.BadBodyLemmas.{spelled_not_bad, bad_once, bad_more}

-- The head of the bytes doesn't change when more bytes follow.
pub head_more : (bytes more : List ℕ) (skipped : List LineEnd) (head rest : List ℕ) → HasHead bytes skipped head rest
    → HasHead (bytes ++ more) skipped head (rest ++ more)
head_more bytes more skipped head rest has = record {
  parts = ap (λ t. t ++ more) has.parts ∙ append_assoc (print_blank skipped) (head ++ rest) more
      ∙ ap (λ t. print_blank skipped ++ t) (append_assoc head rest more);
  starts = has.starts;
  is_head = has.is_head;
  size = has.size;
}

-- Two heads of the same bytes are equal in all parts.
pub record SameHead (a b : List LineEnd) (head other rest last : List ℕ) : Type 0 where
  pub skipped : a ≡ b
  pub heads : head ≡ other
  pub rests : rest ≡ last

-- Bytes have at most one head.
pub head_unique : (bytes : List ℕ) (a b : List LineEnd) (head other rest last : List ℕ) → HasHead bytes a head rest → HasHead bytes b other last
    → SameHead a b head other rest last
head_unique bytes a b head other rest last has also =
    let same = blank_unique a b (head ++ rest) (other ++ last) (sym has.parts ∙ also.parts) (head_starts head rest has.starts has.is_head)
    (head_starts other last also.starts also.is_head) in
    let texts = message_head_once head other rest last has.is_head also.is_head same.1 in
    record { skipped = same.0; heads = texts.0; rests = texts.1 }

-- A head is parsed in only one way.
pub reads_once : (head : List ℕ) (h k : RequestHead) (m n : BodyLength) → ReadsHead head h m → ReadsHead head k n → (h ≡ k) × (m ≡ n)
reads_once head h k m n r s =
    let same : h ≡ k = (request_unique head h k [] [] r.is_head_of.reads s.is_head_of.reads).0 in
    let sizes : ◌≡◌ {A = Result BodyLength Refusal} (Ok m) (Ok n) = sym r.body ∙ ap body_length same ∙ s.body in
    (same, cc)

-- For a given length, bytes begin with at most one body.
pub spells_once : (size : BodyLength) (coded body after other also last : List ℕ) → SpellsBody size coded body → SpellsBody size other also
    → coded ++ after ≡ other ++ last → (coded ≡ other) × (body ≡ also) × (after ≡ last)
spells_once Absent coded body after other also last s t e =
    let front : coded ≡ other = s.0 ∙ sym t.0 in
    (front, s.1 ∙ sym t.1, (same_cut coded after other last e (ap length front)).1)
spells_once (Sized n) coded body after other also last s t e =
    let one : length coded ≡ n = ap length s.0 ∙ s.1 in
    let two : length other ≡ n = ap length t.0 ∙ t.1 in
    let same = same_cut coded after other last e (one ∙ sym two) in
    (same.0, sym s.0 ∙ same.0 ∙ t.0, same.1)
spells_once Chunked coded body after other also last s t e = chunks_once coded body after other also last s t e

-- The three reasons for refusing a head: too many lines, no valid head, or a refused body length.
abbrev pub Reasons : List ℕ → Refusal → Type 0
Reasons head refusal = ((66 < line_feeds head) × (refusal ≡ HeadTooLarge))
    ⊎ (((line_feeds head ≤ 66) × ((h : RequestHead) → ¬ (IsHeadOf head h)) × (refusal ≡ BadHead))
    ⊎ ((line_feeds head ≤ 66) × (h : RequestHead) × IsHeadOf head h × (body_length h ≡ Err refusal)))

-- A refused head has one of these reasons.
pub reasons : (head : List ℕ) (refusal : Refusal) → IsHeadRefused head refusal → Reasons head refusal
reasons head HeadTooLarge p = inl (p, refl)
reasons head BadHead p = inr (inl (p.0, p.1, refl))
reasons head _ p = inr (inr p)

-- A head that is parsed isn't refused.
pub reads_not_refused : (head : List ℕ) (h : RequestHead) (n : BodyLength) (refusal : Refusal) → ReadsHead head h n → ¬ (IsHeadRefused head refusal)
reads_not_refused head h n refusal r refused = elim (reasons head refusal refused) [
  | inl p ↦ let few = r.lines in omega arith
  | inr q ↦ elim q [
    | inl p ↦ p.1 h r.is_head_of
    | inr p ↦
        let same : h ≡ p.1 = (request_unique head h p.1 [] [] r.is_head_of.reads p.2.reads).0 in
        let wrong : ◌≡◌ {A = Result BodyLength Refusal} (Ok n) (Err refusal) = sym r.body ∙ ap body_length same ∙ p.3 in
        cc
  ]
]

-- A head has at most one refusal.
pub refused_once : (head : List ℕ) (f g : Refusal) → IsHeadRefused head f → IsHeadRefused head g → f ≡ g
refused_once head f g p q = by (reasons head f p) (reasons head g q)
  where
    by : Reasons head f → Reasons head g → f ≡ g
    by (inl a) (inl b) = a.1 ∙ sym b.1
    by (inl a) (inr (inl b)) = absurd (omega (arith, a.0, b.0))
    by (inl a) (inr (inr b)) = absurd (omega (arith, a.0, b.0))
    by (inr (inl a)) (inl b) = absurd (omega (arith, a.0, b.0))
    by (inr (inl a)) (inr (inl b)) = a.2 ∙ sym b.2
    by (inr (inl a)) (inr (inr b)) = absurd (a.1 b.1 b.2)
    by (inr (inr a)) (inl b) = absurd (omega (arith, a.0, b.0))
    by (inr (inr a)) (inr (inl b)) = absurd (b.1 a.1 a.2)
    by (inr (inr a)) (inr (inr b)) =
        let same : a.1 ≡ b.1 = (request_unique head a.1 b.1 [] [] a.2.reads b.2.reads).0 in
        let both : ◌≡◌ {A = Result BodyLength Refusal} (Err f) (Err g) = sym a.3 ∙ ap body_length same ∙ b.3 in
        cc

-- The head of a message is the head of all bytes that begin with it.
pub head_of_message : (bytes frame rest : List ℕ) (r : RequestValue) → bytes ≡ frame ++ rest → (m : ReadsMessage frame r)
    → HasHead bytes m.skipped m.head (m.coded ++ rest)
head_of_message bytes frame rest r e m = subst (λ (t : List ℕ). HasHead t m.skipped m.head (m.coded ++ rest)) (sym e)
    (head_more frame rest m.skipped m.head m.coded m.has_head)

-- Bytes begin with at most one message.
pub message_once : (bytes : List ℕ) (r q : RequestValue) (m n : ℕ) → BeginsWith bytes r m → BeginsWith bytes q n → (r ≡ q) × (m ≡ n)
message_once bytes r q m n b d =
    let one = head_of_message bytes b.frame b.rest r b.parts b.reads in
    let two = head_of_message bytes d.frame d.rest q d.parts d.reads in
    let same = head_unique bytes b.reads.skipped d.reads.skipped b.reads.head d.reads.head (b.reads.coded ++ b.rest) (d.reads.coded ++ d.rest) one two in
    let lines = reads_once b.reads.head b.reads.h d.reads.h b.reads.size d.reads.size b.reads.reads
    (subst (λ (t : List ℕ). ReadsHead t d.reads.h d.reads.size) (sym same.heads) d.reads.reads) in
    let bodies = spells_once b.reads.size b.reads.coded b.reads.body b.rest d.reads.coded d.reads.body d.rest b.reads.spells
    (subst (λ (t : BodyLength). SpellsBody t d.reads.coded d.reads.body) (sym lines.1) d.reads.spells) same.rests in
    let rests = ap length bodies.2 in
    let wholes = sym b.parts ∙ d.parts in
    let sizes = ap length wholes in
    let left = length-append b.frame b.rest in
    let right = length-append d.frame d.rest in
    let one_len = b.used_is in
    let two_len = d.used_is in (
      b.reads.is_request ∙ ap (λ t. request_of t b.reads.body) lines.0 ∙ ap (λ t. request_of d.reads.h t) bodies.1 ∙ sym d.reads.is_request,
      omega arith,
    )

-- Bytes that begin with a message aren't refused.
pub message_not_refused : (bytes : List ℕ) (r : RequestValue) (m : ℕ) (refusal : Refusal) → BeginsWith bytes r m → ¬ (framing_refusal bytes refusal)
message_not_refused bytes r m refusal b p = by (head_of_message bytes b.frame b.rest r b.parts b.reads) p
  where
    by : HasHead bytes b.reads.skipped b.reads.head (b.reads.coded ++ b.rest) → ¬ (framing_refusal bytes refusal)
    by has (inl q) = q.1 b.reads.skipped b.reads.head (b.reads.coded ++ b.rest) has
    by has (inr (inl q)) =
        let same = head_unique bytes b.reads.skipped q.skipped b.reads.head q.head (b.reads.coded ++ b.rest) q.rest has q.has_head in
        reads_not_refused b.reads.head b.reads.h b.reads.size refusal b.reads.reads
        (subst (λ (t : List ℕ). IsHeadRefused t refusal) (sym same.heads) q.refused)
    by has (inr (inr q)) =
        let same = head_unique bytes b.reads.skipped q.skipped b.reads.head q.head (b.reads.coded ++ b.rest) q.rest has q.has_head in
        let lines = reads_once b.reads.head b.reads.h q.h b.reads.size q.size b.reads.reads
        (subst (λ (t : List ℕ). ReadsHead t q.h q.size) (sym same.heads) q.reads) in
        spelled_not_bad b.reads.size q.rest b.reads.coded b.reads.body b.rest q.flaw b.reads.spells (sym same.rests)
        (subst (λ (n : BodyLength). HasBadBody n q.rest q.flaw) (sym lines.1) q.bad)

-- If the body is refused, the head isn't.
body_not_head : (bytes : List ℕ) (f g : Refusal) → HasRefusedBody bytes f → ¬ (HasRefusedHead bytes g)
body_not_head bytes f g a b =
    let same = head_unique bytes a.skipped b.skipped a.head b.head a.rest b.rest a.has_head b.has_head in
    reads_not_refused a.head a.h a.size g a.reads (subst (λ (t : List ℕ). IsHeadRefused t g) (sym same.heads) b.refused)

-- A body has at most one refusal.
body_refused_once : (bytes : List ℕ) (f g : Refusal) → HasRefusedBody bytes f → HasRefusedBody bytes g → f ≡ g
body_refused_once bytes f g a b =
    let same = head_unique bytes a.skipped b.skipped a.head b.head a.rest b.rest a.has_head b.has_head in
    let lines = reads_once a.head a.h b.h a.size b.size a.reads (subst (λ (t : List ℕ). ReadsHead t b.h b.size) (sym same.heads) b.reads) in
    let bad = subst (λ (t : List ℕ). HasBadBody a.size t b.flaw) (sym same.rests)
    (subst (λ (n : BodyLength). HasBadBody n b.rest b.flaw) (sym lines.1) b.bad) in
    a.refused ∙ ap refusal_of (bad_once a.size a.rest a.flaw b.flaw a.bad bad) ∙ sym b.refused

-- Bytes have at most one refusal.
pub refusal_once : (bytes : List ℕ) (f g : Refusal) → framing_refusal bytes f → framing_refusal bytes g → f ≡ g
refusal_once bytes f g (inl a) (inl b) = a.2 ∙ sym b.2
refusal_once bytes f g (inl a) (inr (inl b)) = absurd (a.1 b.skipped b.head b.rest b.has_head)
refusal_once bytes f g (inl a) (inr (inr b)) = absurd (a.1 b.skipped b.head b.rest b.has_head)
refusal_once bytes f g (inr (inl a)) (inl b) = absurd (b.1 a.skipped a.head a.rest a.has_head)
refusal_once bytes f g (inr (inl a)) (inr (inl b)) =
    let same = head_unique bytes a.skipped b.skipped a.head b.head a.rest b.rest a.has_head b.has_head in
    refused_once a.head f g a.refused (subst (λ (t : List ℕ). IsHeadRefused t g) (sym same.heads) b.refused)
refusal_once bytes f g (inr (inl a)) (inr (inr b)) = absurd (body_not_head bytes g f b a)
refusal_once bytes f g (inr (inr a)) (inl b) = absurd (b.1 a.skipped a.head a.rest a.has_head)
refusal_once bytes f g (inr (inr a)) (inr (inl b)) = absurd (body_not_head bytes f g a b)
refusal_once bytes f g (inr (inr a)) (inr (inr b)) = body_refused_once bytes f g a b

-- A message remains when more bytes follow.
pub message_more : (bytes more : List ℕ) (r : RequestValue) (n : ℕ) → BeginsWith bytes r n → BeginsWith (bytes ++ more) r n
message_more bytes more r n b = record {
  frame = b.frame;
  rest = b.rest ++ more;
  parts = ap (λ t. t ++ more) b.parts ∙ append_assoc b.frame b.rest more;
  used_is = b.used_is;
  reads = b.reads;
}

-- If no head ends in the first 16,384 bytes, this remains so when more bytes follow.
no_head_more : (bytes more : List ℕ) → 16384 ≤ length bytes → HasNoHead bytes → HasNoHead (bytes ++ more)
no_head_more bytes more many none skipped head rest has =
    let whole : bytes ++ more ≡ (print_blank skipped ++ head) ++ rest = has.parts ∙ sym (append_assoc (print_blank skipped) head rest) in
    let size = has.size in
    let front = length-append (print_blank skipped) head in
    elim (cuts bytes more (print_blank skipped ++ head) rest whole) [
      | inl w ↦ none skipped head w.0
          (record { parts = w.1 ∙ append_assoc (print_blank skipped) head w.0; starts = has.starts; is_head = has.is_head; size = has.size })
      | inr w ↦
          let long = ap length w.1 ∙ length-append bytes w.0 in
          let nothing : w.0 ≡ [] = nothing_left w.0 (omega arith) in
          none skipped head [] (record {
            parts = sym (append-nil bytes) ∙ ap (λ t. bytes ++ t) (sym nothing) ∙ sym w.1 ∙ sym (append-nil (print_blank skipped ++ head))
                ∙ append_assoc (print_blank skipped) head [];
            starts = has.starts;
            is_head = has.is_head;
            size = has.size;
          })
    ]

-- A refusal remains when more bytes follow.
pub refusal_more : (bytes more : List ℕ) (refusal : Refusal) → framing_refusal bytes refusal → framing_refusal (bytes ++ more) refusal
refusal_more bytes more refusal p = elim p [
  | inl q ↦ inl (let longer = length-append bytes more in let many = q.0 in omega arith, no_head_more bytes more q.0 q.1, q.2)
  | inr r ↦ elim r [
    | inl q ↦ inr (inl (record {
      skipped = q.skipped;
      head = q.head;
      rest = q.rest ++ more;
      has_head = head_more bytes more q.skipped q.head q.rest q.has_head;
      refused = q.refused;
    }))
    | inr q ↦ inr (inr (record {
      skipped = q.skipped;
      head = q.head;
      rest = q.rest ++ more;
      has_head = head_more bytes more q.skipped q.head q.rest q.has_head;
      h = q.h;
      size = q.size;
      reads = q.reads;
      flaw = q.flaw;
      bad = bad_more q.size q.rest more q.flaw q.bad;
      refused = q.refused;
    }))
  ]
]

-- Bytes have at most one result of `take`.
pub framed_once : (bytes : List ℕ) (t u : Take) → Frames bytes t → Frames bytes u → t ≡ u
framed_once bytes Need Need p q = refl
framed_once bytes Need (Got r n) p q = absurd (p.no_message q.frame q.rest r q.parts q.reads)
framed_once bytes Need (Fault f) p q = absurd (p.no_refusal f q)
framed_once bytes (Got r n) Need p q = absurd (q.no_message p.frame p.rest r p.parts p.reads)
framed_once bytes (Got r n) (Got s m) p q = let same = message_once bytes r s n m p q in ap (λ t. Got t n) same.0 ∙ ap (λ t. Got s t) same.1
framed_once bytes (Got r n) (Fault f) p q = absurd (message_not_refused bytes r n f p q)
framed_once bytes (Fault f) Need p q = absurd (q.no_refusal f p)
framed_once bytes (Fault f) (Got r n) p q = absurd (message_not_refused bytes r n f q p)
framed_once bytes (Fault f) (Fault g) p q = ap Fault (refusal_once bytes f g p q)

-- A message or a refusal remains when more bytes follow.
pub framed_more : (bytes more : List ℕ) (t : Take) → ¬ (t ≡ Need) → Frames bytes t → Frames (bytes ++ more) t
framed_more bytes more Need other p = absurd (other refl)
framed_more bytes more (Got r n) other p = message_more bytes more r n p
framed_more bytes more (Fault f) other p = refusal_more bytes more f p
