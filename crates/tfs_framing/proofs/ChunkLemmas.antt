-- Lemmas about the next part of a chunked body: bytes have at most one.
use Rattle.std.proofs.Common.{◌≡◌, ◌≤◌, ◌<◌, ◌+◌, ℕ, List, [], ◌∷◌, ◌++◌, length, Bool, true, false, All, refl, sym, ◌∙◌, ap, subst, arith, append_assoc}
use Rattle.std.proofs.Common.{inl, inr, Option, Some, None}
use Rattle.std.proofs.lemmas.List.Elements.{All-nil, All-cons, All-head, All-tail}
use Rattle.std.specs.Char.{is_ascii_hexdigit}
use Rattle.httparse.specs.Ascii.{line_feed}
use Rattle.httparse.specs.Grammar.{crlf, print_end, ChunkLine, IsChunkLine, print_chunk_line, print_extension, chunk_size, AllPass, is_ows, is_extension_byte}
use Rattle.httparse.proofs.ChunkLemmas.{chunk_line_unique}
use Rattle.tfs_framing.specs.Chunks.{Chunk, print_chunk, IsShortLine, IsChunk, IsTrailer, IsFlawBehind, IsFlawAt}
use Rattle.tfs_framing.proofs.Next.{Next, next_chunk, next_end, next_flaw, ComesNext}
use Rattle.tfs_framing.specs.declared.chunks.Flaw.{Flaw}
use Rattle.tfs_framing.specs.declared.chunks.Flaw.TheVariants.{TooLarge, Unreadable}
use Rattle.tfs_framing.proofs.HeadLemmas.{message_head_once, same_cut}

-- The byte isn't a line feed.
abbrev IsInside : ℕ → Type 0
IsInside b = ¬ (b ≡ 10)

-- If a line feed fails a test, bytes that pass it have no line feed.
passes_inside : (test : ℕ → Bool) (text : List ℕ) → test 10 ≡ false → AllPass test text → All IsInside text
passes_inside test [] fails all = All-nil IsInside
passes_inside test (b ∷ text) fails all =
    let first : test b ≡ true = All-head (λ c. test c ≡ true) b text all in
    All-cons IsInside b text (λ is. let wrong : test 10 ≡ true = subst (λ c. test c ≡ true) is first in cc)
    (passes_inside test text fails (All-tail (λ c. test c ≡ true) b text all))

-- Joining two texts without line feeds gives a text without line feeds.
inside_both : (a b : List ℕ) → All IsInside a → All IsInside b → All IsInside (a ++ b)
inside_both [] b p q = q
inside_both (c ∷ a) b p q = All-cons IsInside c (a ++ b) (All-head IsInside c a p) (inside_both a b (All-tail IsInside c a p) q)

-- A chunk line is a text without line feeds, followed by a line feed.
pub line_parts : (line : ChunkLine) → IsChunkLine line → (front : List ℕ) × All IsInside front × (print_chunk_line line ≡ front ++ line_feed ∷ [])
unfolding print_chunk_line
line_parts line is = (
  ((line.digits ++ line.pad) ++ print_extension line.extension) ++ 13 ∷ [],
  inside_both ((line.digits ++ line.pad) ++ print_extension line.extension) (13 ∷ [])
      (inside_both (line.digits ++ line.pad) (print_extension line.extension)
      (inside_both line.digits line.pad (passes_inside is_ascii_hexdigit line.digits refl is.digits.2) (passes_inside is_ows line.pad refl is.pad))
      (extension line.extension is.extension))
      (All-cons IsInside 13 [] (λ is. omega arith) (All-nil IsInside)),
  sym (append_assoc ((line.digits ++ line.pad) ++ print_extension line.extension) (13 ∷ []) (line_feed ∷ [])),
)
  where
    extension : (e : Option (List ℕ)) → Rattle.httparse.specs.Grammar.IsExtension e → All IsInside (print_extension e)
    extension None all = All-nil IsInside
    extension (Some text) all = All-cons IsInside 59 text (λ is. omega arith) (passes_inside is_extension_byte text refl all)

-- In a text without line feeds followed by a line feed, nothing follows the first line feed.
feed_alone : (front a b : List ℕ) → All IsInside front → front ++ line_feed ∷ [] ≡ a ++ line_feed ∷ b → b ≡ []
feed_alone [] [] b all e = cc
feed_alone [] (x ∷ []) b all e = cc
feed_alone [] (x ∷ y ∷ a) b all e = cc
feed_alone (c ∷ front) [] b all e = let is : c ≡ 10 = cc in absurd (All-head IsInside c front all is)
feed_alone (c ∷ front) (x ∷ a) b all e = feed_alone front a b (All-tail IsInside c front all) (cc)

-- A chunk line ends at its first line feed.
pub line_feed_last : (line : ChunkLine) (a b : List ℕ) → IsChunkLine line → print_chunk_line line ≡ a ++ line_feed ∷ b → b ≡ []
line_feed_last line a b is e = let parts = line_parts line is in feed_alone parts.0 a b parts.1 (sym parts.2 ∙ e)

-- Bytes begin with at most one chunk line.
pub line_once : (line other : ChunkLine) (after behind : List ℕ) → IsShortLine line → IsShortLine other
    → print_chunk_line line ++ after ≡ print_chunk_line other ++ behind → (line ≡ other) × (after ≡ behind)
line_once line other after behind is also e =
    chunk_line_unique (print_chunk_line line ++ after) line other after behind (is.is_line, refl) (also.is_line, e)

-- The text of a chunk begins with its chunk line.
pub chunk_split : (c : Chunk) (after : List ℕ) → print_chunk c ++ after ≡ print_chunk_line c.line ++ (c.bytes ++ (print_end crlf ++ after))
chunk_split c after =
    append_assoc (print_chunk_line c.line) (c.bytes ++ print_end crlf) after
    ∙ ap (λ t. print_chunk_line c.line ++ t) (append_assoc c.bytes (print_end crlf) after)

-- Bytes begin with at most one chunk.
pub chunk_once : (c d : Chunk) (after behind : List ℕ) → IsChunk c → IsChunk d → print_chunk c ++ after ≡ print_chunk d ++ behind
    → (c ≡ d) × (after ≡ behind)
chunk_once c d after behind is also e =
    let lines = line_once c.line d.line (c.bytes ++ (print_end crlf ++ after)) (d.bytes ++ (print_end crlf ++ behind)) is.line also.line
    (sym (chunk_split c after) ∙ e ∙ chunk_split d behind) in
    let sizes : length c.bytes ≡ length d.bytes = sym is.size ∙ ap chunk_size lines.0 ∙ also.size in
    let bytes = same_cut c.bytes (print_end crlf ++ after) d.bytes (print_end crlf ++ behind) lines.1 sizes in
    let one : Chunk = record { line = d.line; bytes = c.bytes } in
    let two : c ≡ one = ap (λ (l : ChunkLine). record { line = l; bytes = c.bytes }) lines.0 in
    let three : one ≡ d = ap (λ (t : List ℕ). record { line = d.line; bytes = t }) bytes.0 in
    (two ∙ three, (same_cut (print_end crlf) after (print_end crlf) behind bytes.1 refl).1)

-- Bytes begin with at most one trailer.
pub trailer_once : (trailer other after behind : List ℕ) → IsTrailer trailer → IsTrailer other → trailer ++ after ≡ other ++ behind
    → (trailer ≡ other) × (after ≡ behind)
trailer_once trailer other after behind is also e =
    let same = message_head_once (line_feed ∷ trailer) (line_feed ∷ other) after behind is.is_head also.is_head (ap (λ t. line_feed ∷ t) e) in
    (let heads = same.0 in cc, same.1)

-- If bytes begin with a chunk line, their flaw comes after that line.
pub flaw_behind : (count total : ℕ) (left after : List ℕ) (line : ChunkLine) (flaw : Flaw) → IsShortLine line → left ≡ print_chunk_line line ++ after
    → IsFlawAt count total left flaw → IsFlawBehind count total (chunk_size line) after flaw
flaw_behind count total left after line flaw is e p = elim p [
  | inl q ↦ absurd (q.1.none line after is e)
  | inr q ↦
      let same = line_once q.0 line q.1 after q.2 is (sym q.3 ∙ e) in
      subst (λ (t : List ℕ). IsFlawBehind count total (chunk_size line) t flaw) same.1
      (subst (λ (l : ChunkLine). IsFlawBehind count total (chunk_size l) q.1 flaw) same.0 q.4)
]

-- The bytes of a valid chunk are no flaw after its chunk line.
chunk_is_no_flaw : (count total : ℕ) (c : Chunk) (after : List ℕ) (flaw : Flaw) → IsChunk c → count < 65536 → total + length c.bytes ≤ 16777216
    → ¬ (IsFlawBehind count total (chunk_size c.line) (c.bytes ++ (print_end crlf ++ after)) flaw)
chunk_is_no_flaw count total c after TooLarge is few small p = let size = is.size in omega (arith, p)
chunk_is_no_flaw count total c after Unreadable is few small p = elim p.1 [
  | inl q ↦ let many = q.1 in omega arith
  | inr r ↦ elim r [
    | inl q ↦
        let bad = q.2 in
        let front = same_cut c.bytes (print_end crlf ++ after) bad.bytes (bad.end ++ bad.rest) bad.parts (sym is.size ∙ sym bad.size_is) in
        let end = same_cut (print_end crlf) after bad.end bad.rest front.1 (sym bad.two) in
        bad.other (sym end.0)
    | inr q ↦ let none = q.0 in let some = is.some in let size = is.size in omega arith
  ]
]

-- A trailer is no flaw after the last chunk line.
end_is_no_flaw : (count total size : ℕ) (trailer after : List ℕ) (flaw : Flaw) → total ≤ 16777216 → size ≡ 0 → IsTrailer trailer
    → ¬ (IsFlawBehind count total size (trailer ++ after) flaw)
end_is_no_flaw count total size trailer after TooLarge small none is p = omega (arith, p)
end_is_no_flaw count total size trailer after Unreadable small none is p = elim p.1 [
  | inl q ↦ let some = q.0 in omega arith
  | inr r ↦ elim r [ inl q ↦ let some = q.0 in omega arith | inr q ↦ q.1.none trailer after is refl ]
]

-- The bytes after a chunk line have at most one flaw.
flaw_behind_once : (count total size : ℕ) (after : List ℕ) (f g : Flaw) → IsFlawBehind count total size after f → IsFlawBehind count total size after g → f ≡ g
flaw_behind_once count total size after TooLarge TooLarge p q = refl
flaw_behind_once count total size after TooLarge Unreadable p q = let small = q.0 in absurd (omega (arith, p))
flaw_behind_once count total size after Unreadable TooLarge p q = let small = p.0 in absurd (omega (arith, q))
flaw_behind_once count total size after Unreadable Unreadable p q = refl

-- The next bytes of a body have at most one flaw.
flaw_at_once : (count total : ℕ) (left : List ℕ) (f g : Flaw) → IsFlawAt count total left f → IsFlawAt count total left g → f ≡ g
flaw_at_once count total left f g p q = elim p [
  | inl a ↦ elim q [ inl b ↦ a.0 ∙ sym b.0 | inr b ↦ absurd (a.1.none b.0 b.1 b.2 b.3) ]
  | inr a ↦ flaw_behind_once count total (chunk_size a.0) a.1 f g a.4 (flaw_behind count total left a.1 a.0 g a.2 a.3 q)
]

-- Bytes that begin with a chunk don't begin with the last chunk line.
chunk_is_no_end : (c : Chunk) (line : ChunkLine) (left after behind : List ℕ) → IsChunk c → IsShortLine line → chunk_size line ≡ 0
    → left ≡ print_chunk c ++ after → ¬ (left ≡ print_chunk_line line ++ behind)
chunk_is_no_end c line left after behind is also none e f =
    let same = line_once c.line line (c.bytes ++ (print_end crlf ++ after)) behind is.line also (sym (chunk_split c after) ∙ sym e ∙ f) in
    let sizes = ap chunk_size same.0 in
    let some = is.some in
    let size = is.size in
    omega arith

-- Bytes have at most one next part.
pub next_once : (count total : ℕ) (left : List ℕ) (a b : Next) → total ≤ 16777216 → ComesNext count total left a → ComesNext count total left b → a ≡ b
next_once count total left (next_chunk c x) (next_chunk d y) small p q =
    let same = chunk_once c d x y p.0 q.0 (sym p.1 ∙ q.1) in
    ap (λ (e : Chunk). next_chunk e x) same.0 ∙ ap (λ (t : List ℕ). next_chunk d t) same.1
next_once count total left (next_chunk c x) (next_end y) small p q = absurd (chunk_is_no_end c q.0 left x (q.1 ++ y) p.0 q.2 q.3 p.1 q.5)
next_once count total left (next_chunk c x) (next_flaw g) small p q =
    absurd (chunk_is_no_flaw count total c x g p.0 p.2 p.3
    (flaw_behind count total left (c.bytes ++ (print_end crlf ++ x)) c.line g p.0.line (p.1 ∙ chunk_split c x) q))
next_once count total left (next_end x) (next_chunk d y) small p q = absurd (chunk_is_no_end d p.0 left y (p.1 ++ x) q.0 p.2 p.3 q.1 p.5)
next_once count total left (next_end x) (next_end y) small p q =
    let same = line_once p.0 q.0 (p.1 ++ x) (q.1 ++ y) p.2 q.2 (sym p.5 ∙ q.5) in
    ap next_end (trailer_once p.1 q.1 x y p.4 q.4 same.1).1
next_once count total left (next_end x) (next_flaw g) small p q =
    absurd (end_is_no_flaw count total (chunk_size p.0) p.1 x g small p.3 p.4 (flaw_behind count total left (p.1 ++ x) p.0 g p.2 p.5 q))
next_once count total left (next_flaw f) (next_chunk d y) small p q =
    absurd (chunk_is_no_flaw count total d y f q.0 q.2 q.3
    (flaw_behind count total left (d.bytes ++ (print_end crlf ++ y)) d.line f q.0.line (q.1 ∙ chunk_split d y) p))
next_once count total left (next_flaw f) (next_end y) small p q =
    absurd (end_is_no_flaw count total (chunk_size q.0) q.1 y f small q.3 q.4 (flaw_behind count total left (q.1 ++ y) q.0 f q.2 q.5 p))
next_once count total left (next_flaw f) (next_flaw g) small p q = ap next_flaw (flaw_at_once count total left f g p q)
