-- Lemmas about the walk over a chunked body.
use Rattle.std.proofs.Common.{◌≡◌, ◌+◌, ℕ, List, [], ◌∷◌, ◌++◌, length, All, refl, sym, ◌∙◌, ap, subst, arith, append_assoc}
use Rattle.std.proofs.Common.{append-nil, length-append}
use Rattle.std.proofs.lemmas.List.Elements.{All-nil, All-cons, All-head, All-tail}
use Rattle.httparse.specs.Grammar.{print_chunk_line}
use Rattle.tfs_framing.specs.Chunks.{Chunk, print_chunk, print_chunks, joined, IsChunk, SpellsChunks, IsFlawAt, HasFlaw}
use Rattle.tfs_framing.proofs.Next.{Next, next_chunk, next_end, next_flaw, ComesNext, IsOpen, Walked}
use Rattle.tfs_framing.specs.Body.{HasNoBody}
use Rattle.tfs_framing.specs.declared.lines.BodyLength.TheVariants.{Chunked}
use Rattle.tfs_framing.specs.declared.chunks.Flaw.{Flaw}
use Rattle.tfs_framing.proofs.ChunksLemmas.{open_no_body}

-- A walk begins with no chunks.
pub walk_start : (rest : List ℕ) → Walked rest rest 0 0 []
walk_start rest = record {
  are = record { each = All-nil IsChunk; few = omega arith; small = omega arith };
  parts = refl;
  count_is = refl;
  total_is = refl;
}

-- The text of chunks with one more is their text, followed by that of the chunk.
pub print_more : (chunks : List Chunk) (c : Chunk) (after : List ℕ) → print_chunks (chunks ++ c ∷ []) ++ after ≡ print_chunks chunks ++ (print_chunk c ++ after)
print_more [] c after = ap (λ t. t ++ after) (append-nil (print_chunk c))
print_more (d ∷ chunks) c after =
    append_assoc (print_chunk d) (print_chunks (chunks ++ c ∷ [])) after
    ∙ ap (λ t. print_chunk d ++ t) (print_more chunks c after)
    ∙ sym (append_assoc (print_chunk d) (print_chunks chunks) (print_chunk c ++ after))

-- The joined bytes of chunks with one more are theirs, followed by those of the chunk.
pub joined_more : (chunks : List Chunk) (c : Chunk) → joined (chunks ++ c ∷ []) ≡ joined chunks ++ c.bytes
joined_more [] c = append-nil c.bytes
joined_more (d ∷ chunks) c = ap (λ t. d.bytes ++ t) (joined_more chunks c) ∙ sym (append_assoc d.bytes (joined chunks) c.bytes)

-- Appending a valid chunk to valid chunks gives valid chunks.
pub all_more : (chunks : List Chunk) (c : Chunk) → All IsChunk chunks → IsChunk c → All IsChunk (chunks ++ c ∷ [])
all_more [] c all is = All-cons IsChunk c [] is (All-nil IsChunk)
all_more (d ∷ chunks) c all is =
    All-cons IsChunk d (chunks ++ c ∷ []) (All-head IsChunk d chunks all) (all_more chunks c (All-tail IsChunk d chunks all) is)

-- Appending the next chunk to a walk gives a walk.
pub walk_on : (rest left after bytes : List ℕ) (count total : ℕ) (chunks : List Chunk) (c : Chunk) → Walked rest left count total chunks
    → ComesNext count total left (next_chunk c after) → c.bytes ≡ bytes → Walked rest after (count + 1) (total + length bytes) (chunks ++ c ∷ [])
walk_on rest left after bytes count total chunks c w next is =
    let counts = length-append chunks (c ∷ []) in
    let totals = ap length (joined_more chunks c) ∙ length-append (joined chunks) c.bytes in
    let sizes = ap length is in
    let few = next.2 in
    let small = next.3 in
    let count_was = w.count_is in
    let total_was = w.total_is in
    record {
      are = record { each = all_more chunks c w.are.each next.0; few = omega arith; small = omega arith };
      parts = w.parts ∙ ap (λ t. print_chunks chunks ++ t) next.1 ∙ sym (print_more chunks c after);
      count_is = omega arith;
      total_is = omega arith;
    }

-- The next part of a walk, with the count and the total taken from its chunks.
comes_behind : (rest left : List ℕ) (count total : ℕ) (chunks : List Chunk) (next : Next) → Walked rest left count total chunks
    → ComesNext count total left next → ComesNext (length chunks) (length (joined chunks)) left next
comes_behind rest left count total chunks next w comes =
    subst (λ (n : ℕ). ComesNext (length chunks) n left next) w.total_is (subst (λ (n : ℕ). ComesNext n total left next) w.count_is comes)

-- If the end of the body comes next, the walk is a complete body.
pub whole_there : (rest left after : List ℕ) (count total : ℕ) (chunks : List Chunk) → Walked rest left count total chunks
    → ComesNext count total left (next_end after) → (coded : List ℕ) × (rest ≡ coded ++ after) × SpellsChunks coded (joined chunks)
whole_there rest left after count total chunks w next = (
  print_chunks chunks ++ (print_chunk_line next.0 ++ next.1),
  w.parts ∙ ap (λ t. print_chunks chunks ++ t) (next.5 ∙ sym (append_assoc (print_chunk_line next.0) next.1 after))
      ∙ sym (append_assoc (print_chunks chunks) (print_chunk_line next.0 ++ next.1) after),
  record {
    chunks = chunks;
    are = w.are;
    last = next.0;
    is_line = next.2;
    is_last = next.3;
    trailer = next.1;
    is_trailer = next.4;
    parts = refl;
    is_body = refl;
  },
)

-- If a flaw comes next, the body has the flaw.
pub walk_flawed : (rest left : List ℕ) (count total : ℕ) (chunks : List Chunk) (flaw : Flaw) → Walked rest left count total chunks
    → IsFlawAt count total left flaw → HasFlaw rest flaw
walk_flawed rest left count total chunks flaw w is = record {
  chunks = chunks;
  are = w.are;
  left = left;
  parts = w.parts;
  is_flaw = comes_behind rest left count total chunks (next_flaw flaw) w is;
}

-- If nothing comes next yet, there is no body and no flaw yet.
pub no_body_here : (rest left : List ℕ) (count total : ℕ) (chunks : List Chunk) → Walked rest left count total chunks
    → IsOpen count total left → HasNoBody Chunked rest
no_body_here rest left count total chunks w none =
    open_no_body rest left chunks w.are w.parts
    (subst (λ (n : ℕ). IsOpen (length chunks) n left) w.total_is (subst (λ (n : ℕ). IsOpen n total left) w.count_is none))
