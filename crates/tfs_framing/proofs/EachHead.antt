-- It is decidable whether a text is a head of the grammar.
use Rattle.std.proofs.Common.{◌≡◌, ◌≤◌, ◌<◌, ◌⊎◌, ◌∙◌, ℕ, zero, suc, List, [], ◌∷◌, ◌++◌, length}
use Rattle.std.proofs.Common.{flat_map, append-nil, refl, sym, ap, inl, inr, arith, append_assoc, length-append}
use Rattle.std.proofs.lemmas.Bool.{cases_lt}
use Rattle.std.proofs.lemmas.List.Elements.{All-nil, All-cons}
use Rattle.httparse.specs.Grammar.{is_token_byte, print_end, Field, print_field}
use Rattle.httparse.specs.Grammar.{IsField, RequestHead, ReadsRequest}
use Rattle.httparse.specs.Pieces.{Begins, FieldLine, Section, RequestStart}
use Rattle.httparse.proofs.PieceLemmas.{Blank_deterministic, Method_deterministic}
use Rattle.httparse.proofs.PieceLemmas.{Target_deterministic, Version_deterministic, Name_deterministic, RequestStart_deterministic, FieldLine_parts}
use Rattle.httparse.proofs.PieceLemmas.{print_field-append, Section_line, Section_skip, space_ends_token, colon_ends_token}
use Rattle.httparse.proofs.GrammarLemmas.{request_tree, request_head, request_pieces, request_from_pieces, request_unique}
use Rattle.tfs_framing.specs.Head.{IsHeadOf}
use Rattle.tfs_framing.proofs.EachPiece.{IsDecided, then_decided, nothing_begins, newline_decided, blank_decided, word_decided}
use Rattle.tfs_framing.proofs.EachPiece.{target_decided, version_decided, text_decided}

-- It is decidable whether a text begins with a field line.
field_line_decided : IsDecided FieldLine
field_line_decided text = elim (then_decided Name_deterministic (word_decided is_token_byte 58 colon_ends_token) text_decided text) [
  | inl x ↦
      let f : Field = record { name = x.0.0; raw = x.0.1.0; end = x.0.1.1 } in
      inl (f, x.1, (record { name = (x.2.1.0, x.2.1.1); raw = x.2.2.0 }, x.2.1.2 ∙ ap (λ t. f.name ++ 58 ∷ t) x.2.2.1 ∙ sym (print_field-append f x.1)))
  | inr none ↦ inr (λ w. none ((w.0.name, (w.0.raw, w.0.end)), w.1, FieldLine_parts w.0 text w.1 w.2))
]

-- It is decidable whether a text begins with the fields of a head and the empty line after them.
section_decided : IsDecided Section
section_decided text = within (length text) text (omega arith)
  where
    longer : (f : Field) (middle left : List ℕ) → FieldLine f left middle → length middle < length left
    longer f middle left x =
        let same = ap (λ (t : List ℕ). length t) (x.1 ∙ print_field-append f middle) in
        let name = length-append f.name (58 ∷ (f.raw ++ (print_end f.end ++ middle))) in
        let raw = length-append f.raw (print_end f.end ++ middle) in
        let end = length-append (print_end f.end) middle in
        omega arith

    regroup : (a b c r : List ℕ) → a ++ ((b ++ c) ++ r) ≡ ((a ++ b) ++ c) ++ r
    regroup a b c r = simp append_assoc refl

    within : (n : ℕ) (left : List ℕ) → length left ≤ n → Begins Section left ⊎ ¬ (Begins Section left)
    within zero (b ∷ left) few = absurd (omega arith)
    within zero [] few = inr (λ w. elim (Section_line w.0 [] w.1 w.2) [
      | inl x ↦ nothing_begins x
      | inr x ↦ let some = longer x.0 x.1 [] x.2 in omega arith
    ])
    within (suc n) left few = elim (newline_decided left) [
      | inl x ↦ inl (([], x.0), x.1, (All-nil IsField, x.2))
      | inr no_end ↦ elim (field_line_decided left) [
        | inr no_line ↦ inr (λ w. elim (Section_line w.0 left w.1 w.2) [ inl x ↦ no_end x | inr x ↦ no_line x ])
        | inl x ↦ elim (within n x.1 (let more = longer x.0 x.1 left x.2 in omega arith)) [
          | inl y ↦ inl (
            (x.0 ∷ y.0.0, y.0.1),
            y.1,
            (
              All-cons IsField x.0 y.0.0 x.2.0 y.2.0,
              x.2.1 ∙ ap (λ t. print_field x.0 ++ t) y.2.1 ∙ regroup (print_field x.0) (flat_map print_field y.0.0) (print_end y.0.1) y.1,
            ),
          )
          | inr none ↦ inr (λ w.
              let skipped = Section_skip (x.0 ∷ []) w.0.0 w.0.1 left x.1 w.1
              (All-cons IsField x.0 [] x.2.0 (All-nil IsField), x.2.1 ∙ ap (λ t. t ++ x.1) (sym (append-nil (print_field x.0)))) w.2 in
              none ((skipped.0, w.0.1), w.1, skipped.2))
        ]
      ]
    ]

-- It is decidable whether a text begins with a request line.
start_decided : IsDecided RequestStart
start_decided =
    then_decided Blank_deterministic blank_decided
    (then_decided Method_deterministic (word_decided is_token_byte 32 space_ends_token)
    (then_decided Target_deterministic target_decided (then_decided Version_deterministic version_decided newline_decided)))

-- It is decidable whether a text is a head of the grammar.
pub head_decided : (head : List ℕ) → ((h : RequestHead) × IsHeadOf head h) ⊎ ((h : RequestHead) → ¬ (IsHeadOf head h))
head_decided head = elim (then_decided RequestStart_deterministic start_decided section_decided head) [
  | inl x ↦ whole (request_head x.0) x.1 (request_from_pieces head x.0 x.1 x.2)
  | inr none ↦ inr (λ h is. none (request_tree h, [], request_pieces head h [] is.reads))
]
  where
    whole : (h : RequestHead) (rest : List ℕ) → ReadsRequest head h rest → ((h : RequestHead) × IsHeadOf head h) ⊎ ((h : RequestHead) → ¬ (IsHeadOf head h))
    whole h [] reads = elim (cases_lt 64 (length h.fields)) [
      | inl long ↦ inr (λ k is.
          let same = request_unique head k h [] [] is.reads reads in
          let count = ap (λ (g : RequestHead). length g.fields) same.0 in
          let few = is.fields in
          omega arith)
      | inr few ↦ inl (h, record { reads = reads; fields = few })
    ]
    whole h (b ∷ rest) reads = inr (λ k is. let same = (request_unique head k h [] (b ∷ rest) is.reads reads).1 in cc)
