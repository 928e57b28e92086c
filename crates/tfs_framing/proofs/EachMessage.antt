-- All bytes begin with a message, are refused, or are unfinished.
use Rattle.std.proofs.Common.{◌≡◌, ◌≤◌, ◌⊎◌, ◌∙◌, ℕ, zero, suc, List, [], ◌∷◌, ◌++◌, length, take, drop, min}
use Rattle.std.proofs.Common.{Result, Ok, Err, refl, sym, ap, inl, inr, arith, append_assoc, length-take, take-append-drop}
use Rattle.std.proofs.lemmas.Bool.{cases_lt}
use Rattle.httparse.specs.Grammar.{LineEnd, print_end, print_blank, RequestHead}
use Rattle.tfs_calls.specs.declared.refusal.Refusal.{Refusal}
use Rattle.tfs_calls.specs.declared.refusal.Refusal.TheVariants.{HeadTooLarge, BadHead}
use Rattle.tfs_framing.specs.Head.{StartsWithEmptyLine, HasHead, HasNoHead, IsHeadOf, line_feeds}
use Rattle.tfs_framing.specs.Body.{body_length, refusal_of}
use Rattle.tfs_framing.specs.Request.{request_of}
use Rattle.tfs_framing.specs.Framing.{ReadsHead, IsHeadRefused, Frames}
use Rattle.tfs_framing.specs.declared.lines.BodyLength.{BodyLength}
use Rattle.tfs_framing.specs.declared.lines.BodyLength.TheVariants.{Absent, Sized, Chunked}
use Rattle.tfs_framing.specs.declared.framing.Take.{Take}
use Rattle.tfs_framing.specs.declared.framing.Take.TheVariants.{Need, Got, Fault}
use Rattle.tfs_framing.proofs.HeadLemmas.{PassedOver, head_of_window, no_head_of_window}
use Rattle.tfs_framing.proofs.WantedLemmas.{unfinished_without_head, unfinished_without_body, too_few, begins_with_message, refused_by_body}
use Rattle.tfs_framing.proofs.MessageLemmas.{length_refused}
use Rattle.tfs_framing.proofs.EachEnd.{found_from}
use Rattle.tfs_framing.proofs.EachChunk.{chunks_decided}
use Rattle.tfs_framing.proofs.EachPiece.{longer, newline_decided, nothing_begins}
use Rattle.tfs_framing.proofs.EachHead.{head_decided}

-- The bytes are empty lines, then a rest that doesn't begin with an empty line.
pub record Stripped (bytes : List ℕ) : Type 0 where
  pub skipped : List LineEnd
  pub rest : List ℕ
  pub parts : bytes ≡ print_blank skipped ++ rest
  pub none : ¬ (StartsWithEmptyLine rest)

-- All bytes have this form.
stripped : (bytes : List ℕ) → Stripped bytes
stripped bytes = within (length bytes) bytes (omega arith)
  where
    within : (n : ℕ) (left : List ℕ) → length left ≤ n → Stripped left
    within zero [] few = record { skipped = []; rest = []; parts = refl; none = nothing_begins }
    within zero (b ∷ left) few = absurd (omega arith)
    within (suc n) left few = elim (newline_decided left) [
      | inr none ↦ record { skipped = []; rest = left; parts = refl; none = none }
      | inl x ↦
          let s = within n x.1 (let more = longer x.0 x.1 left x.2 in omega arith) in
          record {
            skipped = x.0 ∷ s.skipped;
            rest = s.rest;
            parts = x.2 ∙ ap (λ t. print_end x.0 ++ t) s.parts ∙ sym (append_assoc (print_end x.0) (print_blank s.skipped) s.rest);
            none = s.none;
          }
    ]

-- Bytes either have a head within the limit or don't.
head_or_none : (bytes : List ℕ) → ((skipped : List LineEnd) × (head : List ℕ) × (rest : List ℕ) × HasHead bytes skipped head rest) ⊎ HasNoHead bytes
head_or_none bytes =
    let k = min (length bytes) 16384 in
    let s = stripped (take k bytes) in
    let start : PassedOver s.rest [] s.rest = record { parts = refl; none = λ before after e starts. omega arith } in
    elim (found_from s.rest [] s.rest start) [
      | inl f ↦ inl (
        s.skipped,
        take (length f.head) s.rest,
        _,
        head_of_window bytes (take k bytes) s.rest f.head f.rest (take (length f.head) s.rest) _ s.skipped k
            (length f.head) refl refl s.parts s.none f.parts refl
            f.is_head refl refl,
      )
      | inr none ↦ inr (no_head_of_window bytes (take k bytes) s.rest s.skipped k refl refl s.parts s.none none)
    ]

-- Bytes with a head have a result of `take`.
with_head : (bytes : List ℕ) (skipped : List LineEnd) (head rest : List ℕ) → HasHead bytes skipped head rest → (t : Take) × Frames bytes t
with_head bytes skipped head rest has = elim (cases_lt 66 (line_feeds head)) [
  | inl many ↦ refused HeadTooLarge many
  | inr few ↦ elim (head_decided head) [
    | inl x ↦ by_length x.0 (body_length x.0) few x.1 refl
    | inr none ↦ refused BadHead (few, none)
  ]
]
  where
    refused : (refusal : Refusal) → IsHeadRefused head refusal → (t : Take) × Frames bytes t
    refused refusal is = (Fault refusal, inr (inl (record { skipped = skipped; head = head; rest = rest; has_head = has; refused = is })))

    by_length : (h : RequestHead) (r : Result BodyLength Refusal) → line_feeds head ≤ 66 → IsHeadOf head h → body_length h ≡ r
        → (t : Take) × Frames bytes t
    by_length h (Ok (Sized n)) few is e =
        let reads : ReadsHead head h (Sized n) = record { lines = few; is_head_of = is; body = e } in
        elim (cases_lt (length rest) n) [
          | inl short ↦ (Need, unfinished_without_body bytes skipped head rest h (Sized n) has reads (too_few n rest short))
          | inr enough ↦ (
            Got (request_of h (take n rest)) _,
            begins_with_message bytes skipped head rest (take n rest) (take n rest) (drop n rest) h (Sized n) has reads
                (sym (take-append-drop n rest)) (refl, length-take n rest ∙ (omega arith)),
          )
        ]
    by_length h (Ok Chunked) few is e =
        let reads : ReadsHead head h Chunked = record { lines = few; is_head_of = is; body = e } in
        elim (chunks_decided rest) [
          | inl w ↦ (
            Got (request_of h w.2) _,
            begins_with_message bytes skipped head rest w.0 w.2 w.1 h Chunked has reads w.3 w.4,
          )
          | inr v ↦ elim v [
            | inl w ↦ (Fault (refusal_of w.0), refused_by_body bytes skipped head rest h Chunked w.0 has reads w.1)
            | inr none ↦ (Need, unfinished_without_body bytes skipped head rest h Chunked has reads none)
          ]
        ]
    by_length h (Ok Absent) few is e = (
      Got (request_of h []) _,
      begins_with_message bytes skipped head rest [] [] rest h Absent has (record { lines = few; is_head_of = is; body = e }) refl (refl, refl),
    )
    by_length h (Err refusal) few is e = refused refusal ((length_refused h refusal e).1 head (few, h, is, e))

-- All bytes have a result of `take`.
pub each_framed : (bytes : List ℕ) → (t : Take) × Frames bytes t
each_framed bytes = elim (head_or_none bytes) [
  | inl w ↦ with_head bytes w.0 w.1 w.2 w.3
  | inr none ↦ elim (cases_lt (length bytes) 16384) [
    | inl few ↦ (Need, unfinished_without_head bytes none few)
    | inr many ↦ (Fault HeadTooLarge, inl (many, none, refl))
  ]
]
