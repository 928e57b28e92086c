-- Lemmas about flaws in chunked bodies: they remain when more bytes follow.
use Rattle.std.proofs.Common.{◌≡◌, ◌≤◌, ◌⊎◌, ℕ, List, [], ◌∷◌, ◌++◌, length, sym, ◌∙◌, ap, arith, append_assoc}
use Rattle.std.proofs.Common.{append-nil, length-append, inl, inr}
use Rattle.httparse.specs.Ascii.{line_feed}
use Rattle.httparse.specs.Grammar.{ChunkLine, print_chunk_line, chunk_size}
use Rattle.tfs_framing.specs.Chunks.{print_chunks, joined, IsShortLine, HasBadLine, HasBadEnd, HasLongTrailer, IsFlawBehind, IsFlawAt, HasFlaw}
use Rattle.tfs_framing.specs.declared.chunks.Flaw.{Flaw}
use Rattle.tfs_framing.specs.declared.chunks.Flaw.TheVariants.{TooLarge, Unreadable}
use Rattle.tfs_framing.proofs.HeadLemmas.{cuts, nothing_appended, nothing_left}
use Rattle.tfs_framing.proofs.ChunkLemmas.{line_feed_last}

-- A chunk line can't continue after bytes that contain a line feed, or after 1,024 bytes.
line_goes_on : (left more : List ℕ) (line : ChunkLine) → IsShortLine line
    → (1024 ≤ length left) ⊎ ((before : List ℕ) × (after : List ℕ) × (left ≡ before ++ line_feed ∷ after)) → print_chunk_line line ≡ left ++ more → more ≡ []
line_goes_on left more line is (inl long) e =
    let sizes = ap length e ∙ length-append left more in
    let short = is.short in
    nothing_left more (omega arith)
line_goes_on left more line is (inr w) e =
    nothing_appended w.1 more (sym (line_feed_last line w.0 (w.1 ++ more) is.is_line
    (e ∙ ap (λ t. t ++ more) w.2 ∙ append_assoc w.0 (line_feed ∷ w.1) more)))

-- A bad chunk line remains bad.
bad_line_more : (left more : List ℕ) → HasBadLine left → HasBadLine (left ++ more)
bad_line_more left more bad = record {
  there = elim bad.there [
    | inl long ↦ inl (let sizes = length-append left more in omega arith)
    | inr w ↦ inr (w.0, w.1 ++ more, ap (λ t. t ++ more) w.2 ∙ append_assoc w.0 (line_feed ∷ w.1) more)
  ];
  none = λ line after is e. elim (cuts left more (print_chunk_line line) after e) [
    | inl w ↦ bad.none line w.0 is w.1
    | inr w ↦
        let nothing = line_goes_on left w.0 line is bad.there w.1 in
        bad.none line [] is (sym (append-nil left) ∙ ap (λ t. left ++ t) (sym nothing) ∙ sym w.1 ∙ sym (append-nil (print_chunk_line line)))
  ];
}

-- A trailer that is too long remains too long.
long_trailer_more : (after more : List ℕ) → HasLongTrailer after → HasLongTrailer (after ++ more)
long_trailer_more after more bad = record {
  long = let sizes = length-append after more in let long = bad.long in omega arith;
  none = λ trailer rest is e. elim (cuts after more trailer rest e) [
    | inl w ↦ bad.none trailer w.0 is w.1
    | inr w ↦
        let sizes = ap length w.1 ∙ length-append after w.0 in
        let long = bad.long in
        let short = is.short in
        let nothing = nothing_left w.0 (omega arith) in
        bad.none trailer [] is (sym (append-nil after) ∙ ap (λ t. after ++ t) (sym nothing) ∙ sym w.1 ∙ sym (append-nil trailer))
  ];
}

-- A bad chunk end remains bad.
bad_end_more : (size : ℕ) (after more : List ℕ) → HasBadEnd size after → HasBadEnd size (after ++ more)
bad_end_more size after more bad = record {
  bytes = bad.bytes;
  end = bad.end;
  rest = bad.rest ++ more;
  parts = ap (λ t. t ++ more) bad.parts ∙ append_assoc bad.bytes (bad.end ++ bad.rest) more ∙ ap (λ t. bad.bytes ++ t) (append_assoc bad.end bad.rest more);
  size_is = bad.size_is;
  two = bad.two;
  other = bad.other;
}

-- A flaw after a chunk line remains.
behind_more : (count total size : ℕ) (after more : List ℕ) (flaw : Flaw) → IsFlawBehind count total size after flaw
    → IsFlawBehind count total size (after ++ more) flaw
behind_more count total size after more TooLarge p = p
behind_more count total size after more Unreadable p = (
  p.0,
  elim p.1 [
    | inl q ↦ inl q
    | inr r ↦ elim r [
      | inl q ↦ inr (inl (q.0, q.1, bad_end_more size after more q.2))
      | inr q ↦ inr (inr (q.0, long_trailer_more after more q.1))
    ]
  ],
)

-- A flaw in the next bytes remains.
at_more : (count total : ℕ) (left more : List ℕ) (flaw : Flaw) → IsFlawAt count total left flaw → IsFlawAt count total (left ++ more) flaw
at_more count total left more flaw p = elim p [
  | inl q ↦ inl (q.0, bad_line_more left more q.1)
  | inr q ↦ inr (
    q.0,
    q.1 ++ more,
    q.2,
    ap (λ t. t ++ more) q.3 ∙ append_assoc (print_chunk_line q.0) q.1 more,
    behind_more count total (chunk_size q.0) q.1 more flaw q.4,
  )
]

-- A flaw in a chunked body remains when more bytes follow.
pub flaw_more : (rest more : List ℕ) (flaw : Flaw) → HasFlaw rest flaw → HasFlaw (rest ++ more) flaw
flaw_more rest more flaw f = record {
  chunks = f.chunks;
  are = f.are;
  left = f.left ++ more;
  parts = ap (λ t. t ++ more) f.parts ∙ append_assoc (print_chunks f.chunks) f.left more;
  is_flaw = at_more (length f.chunks) (length (joined f.chunks)) f.left more flaw f.is_flaw;
}
