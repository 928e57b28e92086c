-- Lemmas about messages: the lengths of messages and bodies, and that bytes begin with only one.
use Rattle.std.proofs.Common.{◌≡◌, ◌≢◌, ◌≤◌, ◌<◌, ◌+◌, ℕ, List, [], ◌∷◌, ◌++◌, length, drop, Bool, true, false, ◌&&◌, nat_le, nat_lt, cond, ◌==◌}
use Rattle.std.proofs.Common.{Result, Ok, Err, refl, sym, ◌∙◌, ap, subst, arith, inl, inr, length-append, codes}
use Rattle.std.specs.List.{list_all}
use Rattle.std.specs.Char.{is_ascii_digit}
use Rattle.std.specs.Str.{bytes_eq}
use Rattle.std.specs.Str.Parse.{digits_value}
use Rattle.std.proofs.Math.Seq.{drop-append_seam}
use Rattle.std.proofs.lemmas.Bool.{leb-true}
use Rattle.httparse.specs.Grammar.{print_blank}
use Rattle.httparse.specs.Grammar.{RequestHead}
use Rattle.tfs_calls.specs.declared.refusal.Refusal.{Refusal}
use Rattle.tfs_calls.specs.declared.refusal.Refusal.TheVariants.{HeadTooLarge, BadHead, NoHost, BadLength, TransferCoding, BodyTooLarge, BadChunk}
use Rattle.tfs_framing.specs.Request.{RequestValue}
use Rattle.tfs_framing.specs.Head.{HasNoHead, IsHeadOf, line_feeds}
use Rattle.tfs_framing.specs.Fields.{fields_of, lower, values_named}
use Rattle.tfs_framing.specs.Body.{length_of_text, length_told, names_host, body_length, SpellsBody, refusal_of}
use Rattle.tfs_framing.specs.Framing.{IsHeadRefused, ReadsMessage, BeginsWith, IsUnfinished, framing_refusal}
use Rattle.tfs_framing.specs.declared.chunks.Flaw.{Flaw}
use Rattle.tfs_framing.specs.declared.chunks.Flaw.TheVariants.{TooLarge, Unreadable}
use Rattle.tfs_framing.specs.declared.lines.BodyLength.{BodyLength}
use Rattle.tfs_framing.specs.declared.lines.BodyLength.TheVariants.{Absent, Sized, Chunked}
use Rattle.tfs_framing.proofs.FramingLemmas.{message_once, Reasons, reasons}
use Rattle.tfs_framing.proofs.HeadLemmas.{head_size}

-- The stated length, if there is one, is at most 16 MiB.
abbrev pub Fits : BodyLength → Type 0
Fits Absent = Unit {0}
Fits (Sized size) = size ≤ 16777216
Fits Chunked = Unit {0}

-- The refusal is one of the seven that framing has.
abbrev pub IsOfMessage : Refusal → Type 0
IsOfMessage HeadTooLarge = Unit {0}
IsOfMessage BadHead = Unit {0}
IsOfMessage NoHost = Unit {0}
IsOfMessage BadLength = Unit {0}
IsOfMessage TransferCoding = Unit {0}
IsOfMessage BodyTooLarge = Unit {0}
IsOfMessage BadChunk = Unit {0}
IsOfMessage refusal = ⊥

-- A stated length fits; a refusal is one of the seven, and refuses each head with at most 66 lines
-- whose fields have it.
abbrev IsTold : Result BodyLength Refusal → Type 0
IsTold (Ok n) = Fits n
IsTold (Err refusal) = IsOfMessage refusal × ((head : List ℕ)
    → (line_feeds head ≤ 66) × (h : RequestHead) × IsHeadOf head h × (body_length h ≡ Err refusal) → IsHeadRefused head refusal)

-- This holds of the length in a `Content-Length` value.
text_told : (text : List ℕ) → IsTold (length_of_text text)
text_told text = by_digits (nat_lt 0 (length text) && list_all is_ascii_digit text)
  where
    by_size : (b : Bool) → nat_le (digits_value 10 text) 16777216 ≡ b → IsTold (cond b (Ok (Sized (digits_value 10 text))) (Err BodyTooLarge))
    by_size true t = leb-true (digits_value 10 text) 16777216 t
    by_size false t = (tt, λ head p. p)

    by_digits : (b : Bool)
        → IsTold (cond b (cond (nat_le (digits_value 10 text) 16777216) (Ok (Sized (digits_value 10 text))) (Err BodyTooLarge)) (Err BadLength))
    by_digits true = by_size (nat_le (digits_value 10 text) 16777216) refl
    by_digits false = (tt, λ head p. p)

-- This holds of the length by all values.
values_told : (minor : ℕ) (lengths codings : List (List ℕ)) → IsTold (length_told minor lengths codings)
values_told minor [] [] = tt
values_told minor [] (coding ∷ []) = by (minor == 1 && bytes_eq (lower coding) (codes "chunked"))
  where
    by : (b : Bool) → IsTold (cond b (Ok Chunked) (Err TransferCoding))
    by true = tt
    by false = (tt, λ head p. p)
values_told minor [] (coding ∷ other ∷ codings) = (tt, λ head p. p)
values_told minor (text ∷ []) [] = text_told text
values_told minor (text ∷ other ∷ texts) [] = (tt, λ head p. p)
values_told minor (text ∷ []) (coding ∷ codings) = (tt, λ head p. p)
values_told minor (text ∷ other ∷ texts) (coding ∷ codings) = (tt, λ head p. p)

-- This holds of the length that a head states.
head_told : (h : RequestHead) → IsTold (body_length h)
head_told h = by (names_host h.minor (values_named (codes "host") (fields_of h)))
  where
    by : (b : Bool) → IsTold (cond b
        (length_told h.minor (values_named (codes "content-length") (fields_of h)) (values_named (codes "transfer-encoding") (fields_of h)))
        (Err NoHost))
    by true = values_told h.minor (values_named (codes "content-length") (fields_of h)) (values_named (codes "transfer-encoding") (fields_of h))
    by false = (tt, λ head p. p)

-- The length that a head states is at most 16 MiB.
pub length_fits : (h : RequestHead) (n : BodyLength) → body_length h ≡ Ok n → Fits n
length_fits h n e = subst IsTold e (head_told h)

-- A refusal of a head's fields is one of the seven, and refuses each head with at most 66 lines
-- whose fields have it.
pub length_refused : (h : RequestHead) (refusal : Refusal) → body_length h ≡ Err refusal → IsTold (Err refusal)
length_refused h refusal e = subst IsTold e (head_told h)

-- A refusal of framing is one of the seven.
pub is_of_message : (bytes : List ℕ) (refusal : Refusal) → framing_refusal bytes refusal → IsOfMessage refusal
is_of_message bytes refusal (inl many) = subst IsOfMessage (sym many.2) tt
is_of_message bytes refusal (inr (inl q)) = by (reasons q.head refusal q.refused)
  where
    by : Reasons q.head refusal → IsOfMessage refusal
    by (inl a) = subst IsOfMessage (sym a.1) tt
    by (inr (inl a)) = subst IsOfMessage (sym a.2) tt
    by (inr (inr a)) = (length_refused a.1 refusal a.3).0
is_of_message bytes refusal (inr (inr q)) = subst IsOfMessage (sym q.refused) (of_flaw q.flaw)
  where
    of_flaw : (flaw : Flaw) → IsOfMessage (refusal_of flaw)
    of_flaw TooLarge = tt
    of_flaw Unreadable = tt

-- A refusal of framing that is none of the other six is `BadHead`.
pub is_bad_head : (r : Refusal) → IsOfMessage r → r ≢ HeadTooLarge → r ≢ NoHost → r ≢ BadLength → r ≢ TransferCoding → r ≢ BodyTooLarge
    → r ≢ BadChunk → BadHead ≡ r
is_bad_head HeadTooLarge is a b c d e f = absurd (a refl)
is_bad_head BadHead is a b c d e f = refl
is_bad_head NoHost is a b c d e f = absurd (b refl)
is_bad_head BadLength is a b c d e f = absurd (c refl)
is_bad_head TransferCoding is a b c d e f = absurd (d refl)
is_bad_head BodyTooLarge is a b c d e f = absurd (e refl)
is_bad_head BadChunk is a b c d e f = absurd (f refl)
is_bad_head _ is a b c d e f = absurd is

-- A body whose length fits has at most 16 MiB.
spelled_fits : (n : BodyLength) (coded body : List ℕ) → SpellsBody n coded body → Fits n → length body ≤ 16777216
spelled_fits Absent coded body s fits = let none : length body ≡ 0 = ap length s.1 in omega arith
spelled_fits (Sized n) coded body s fits = omega (arith, s.1, fits)
spelled_fits Chunked coded body s fits = let same = ap length s.is_body in let small = s.are.small in omega arith

-- The body of a message has at most 16 MiB.
pub body_fits : (bytes : List ℕ) (r : RequestValue) (used : ℕ) → BeginsWith bytes r used → length r.body ≤ 16777216
body_fits bytes r used b =
    let m = b.reads in
    let is : r.body ≡ m.body = ap (λ (q : RequestValue). q.body) m.is_request in
    subst (λ (t : List ℕ). length t ≤ 16777216) (sym is) (spelled_fits m.size m.coded m.body m.spells (length_fits m.h m.size m.reads.body))

-- A message has at least one byte.
pub frame_is_no_empty_text : (frame : List ℕ) (r : RequestValue) → ReadsMessage frame r → 0 < length frame
frame_is_no_empty_text frame r m =
    let some = head_size m.head m.has_head.is_head.ends in
    let long : length frame ≡ length (print_blank m.skipped) + length (m.head ++ m.coded) =
    ap (λ (t : List ℕ). length t) m.has_head.parts ∙ length-append (print_blank m.skipped) (m.head ++ m.coded) in
    let parts : length (m.head ++ m.coded) ≡ length m.head + length m.coded = length-append m.head m.coded in
    omega arith

-- Empty input has no head.
no_bytes_have_no_head : HasNoHead []
no_bytes_have_no_head skipped head rest has =
    let some = head_size head has.is_head.ends in
    let long : 0 ≡ length (print_blank skipped) + length (head ++ rest) =
    ap (λ (t : List ℕ). length t) has.parts ∙ length-append (print_blank skipped) (head ++ rest) in
    let parts : length (head ++ rest) ≡ length head + length rest = length-append head rest in
    omega arith

-- Empty input has no refusal.
pub no_refusal_of_no_bytes : (refusal : Refusal) → ¬ (framing_refusal [] refusal)
no_refusal_of_no_bytes refusal (inl few) = omega (arith, few.0)
no_refusal_of_no_bytes refusal (inr (inl h)) = no_bytes_have_no_head h.skipped h.head h.rest h.has_head
no_refusal_of_no_bytes refusal (inr (inr h)) = no_bytes_have_no_head h.skipped h.head h.rest h.has_head

-- Empty input is unfinished.
pub no_bytes_are_unfinished : IsUnfinished []
no_bytes_are_unfinished = record {
  no_message = λ frame rest r e m.
      let some = frame_is_no_empty_text frame r m in
      let none : 0 ≡ length frame + length rest = ap (λ (t : List ℕ). length t) e ∙ length-append frame rest in
      omega arith;
  no_refusal = no_refusal_of_no_bytes;
}

-- The bytes after the first message are all bytes without its length.
pub rest_behind : (bytes left : List ℕ) (r : RequestValue) (used : ℕ) → (b : BeginsWith bytes r used) → left ≡ drop used bytes → left ≡ b.rest
rest_behind bytes left r used b is =
    is ∙ ap (λ t. drop used t) b.parts ∙ ap (λ n. drop n (b.frame ++ b.rest)) (sym b.used_is) ∙ drop-append_seam b.frame b.rest

-- Bytes that are a message and a rest begin with the message.
pub begins : (bytes frame rest : List ℕ) (r : RequestValue) → bytes ≡ frame ++ rest → ReadsMessage frame r → BeginsWith bytes r (length frame)
begins bytes frame rest r parts m = record { frame = frame; rest = rest; parts = parts; used_is = refl; reads = m }

-- Bytes begin with at most one message, and have one rest after it.
pub first_message_once : (bytes frame after other behind : List ℕ) (r s : RequestValue) → bytes ≡ frame ++ after → bytes ≡ other ++ behind
    → ReadsMessage frame r → ReadsMessage other s → (r ≡ s) × (after ≡ behind)
first_message_once bytes frame after other behind r s parts pieces m n =
    let same = message_once bytes r s (length frame) (length other) (begins bytes frame after r parts m) (begins bytes other behind s pieces n) in (
      same.0,
      sym (drop-append_seam frame after) ∙ ap (λ (t : List ℕ). drop (length frame) t) (sym parts ∙ pieces)
          ∙ ap (λ n. drop n (other ++ behind)) same.1 ∙ drop-append_seam other behind,
    )
