-- Lemmas about the decoded part of a chunked body.
use Rattle.std.proofs.Common.{◌≡◌, ◌≤◌, ◌<◌, ◌+◌, ℕ, List, [], ◌∷◌, ◌++◌, length, false, Result, Ok, Err, refl, sym, ◌∙◌, ap, subst, arith, append_assoc, append-nil, length-append}
use Rattle.httparse.specs.Ascii.{line_feed}
use Rattle.httparse.specs.Grammar.{crlf, print_end, ChunkLine, print_chunk_line}
use Rattle.tfs_framing.specs.Body.{HasNoBody}
use Rattle.tfs_framing.specs.Chunks.{Chunk, print_chunks, joined, AreChunks, HasBadEnd, HasFlaw, IsFlawAt, SpellsChunks}
use Rattle.tfs_framing.specs.Parts.{EndsWith, HasNoFeedIn, IsLineAt, IsPart, IsPassed, Stands}
use Rattle.tfs_framing.specs.Decoded.{HasPassed}
use Rattle.tfs_framing.specs.declared.body.ChunkedBody.{ChunkedBody}
use Rattle.tfs_framing.specs.declared.body.Joined.{Joined}
use Rattle.tfs_framing.specs.declared.chunks.Part.{Part}
use Rattle.tfs_framing.specs.Sought.{HasNoEndYet}
use Rattle.tfs_framing.specs.declared.chunks.Ahead.{Ahead}
use Rattle.tfs_framing.specs.declared.chunks.Flaw.{Flaw}
use Rattle.tfs_framing.specs.declared.chunks.Flaw.TheVariants.{Unreadable}
use Rattle.tfs_framing.specs.declared.lines.BodyLength.TheVariants.{Chunked}
use Rattle.tfs_framing.proofs.Next.{next_end, ComesNext, IsOpen, Walked}
use Rattle.tfs_framing.proofs.KnownLemmas.{feed_more, line_more, none_more}
use Rattle.tfs_framing.proofs.PartLemmas.{begun_open, begun_whole, begun_bad, no_line_yet, nothing_seen, open_without_line}
use Rattle.tfs_framing.proofs.WalkLemmas.{joined_more, no_body_here, walk_flawed, walk_on, whole_there}

-- The numbers of chunks and bytes are within the limits.
pub passed_fits : (rest : List ℕ) (count : ℕ) (body : List ℕ) (ahead : Ahead) (left : List ℕ) → IsPassed rest count body ahead left
    → (count ≤ 65536) × (length body ≤ 16777216)
passed_fits rest count body ahead left p =
    let few = p.are.few in let is = p.count_is in (omega arith, fits ahead p.stands)
  where
    fits : (a : Ahead) → Stands rest p.chunks body a left → length body ≤ 16777216
    fits (Ahead.Line seen) s = let small = p.are.small in let is = ap length s.1 in omega arith
    fits (Ahead.Bytes lacking) s =
        let is = ap length s.3 ∙ length-append (joined p.chunks) s.1 in
        let small = s.4.small in
        let size = s.4.size in
        omega arith
    fits (Ahead.Trailer len passed) s = let small = p.are.small in let is = ap length s.1 in omega arith

-- Complete chunks are a walk.
walked : (rest body left : List ℕ) (count : ℕ) (chunks : List Chunk) → AreChunks chunks → count ≡ length chunks → rest ≡ print_chunks chunks ++ left
    → body ≡ joined chunks → Walked rest left count (length body) chunks
walked rest body left count chunks are is parts body_is = record { are = are; parts = parts; count_is = is; total_is = ap length body_is }

-- Appending no bytes changes nothing.
pub no_more : (rest : List ℕ) (count : ℕ) (body none : List ℕ) (ahead : Ahead) (left : List ℕ) → none ≡ [] → IsPassed rest count body ahead left
    → IsPassed rest count (body ++ none) ahead left
no_more rest count body none ahead left is p =
    subst (λ (t : List ℕ). IsPassed rest count t ahead left) (sym (append-nil body) ∙ ap (λ t. body ++ t) (sym is)) p

-- Without the end of the chunk line, more bytes are needed.
pub line_wanted : (rest : List ℕ) (count : ℕ) (body none left : List ℕ) (seen : ℕ) → none ≡ [] → IsPassed rest count body (Ahead.Line seen) left
    → HasNoFeedIn (length left) left → length left < 1024
    → EndsWith left left × IsPassed rest count (body ++ none) (Ahead.Line (length left)) left × HasNoBody Chunked rest × (length left < 17408)
line_wanted rest count body none left seen is p feed short = (
  ([], refl),
  no_more rest count body none _ left is
      (record { chunks = p.chunks; are = p.are; count_is = p.count_is; stands = (p.stands.0, p.stands.1, feed) }),
  no_body_here rest left count (length body) p.chunks (walked rest body left count p.chunks p.are p.count_is p.stands.0 p.stands.1)
      (open_without_line count (length body) left (no_line_yet left feed short)),
  omega arith,
)

-- A flaw in the next bytes is a flaw of the whole body.
pub passed_flawed : (rest : List ℕ) (count : ℕ) (body left : List ℕ) (ahead : Ahead) (flaw : Flaw) → (p : IsPassed rest count body ahead left)
    → rest ≡ print_chunks p.chunks ++ left → body ≡ joined p.chunks → IsFlawAt count (length body) left flaw → HasFlaw rest flaw
passed_flawed rest count body left ahead flaw p parts is flawed =
    walk_flawed rest left count (length body) p.chunks flaw (walked rest body left count p.chunks p.are p.count_is parts is) flawed

-- After its line, a chunk has begun with all of its bytes missing.
pub chunk_begins : (rest : List ℕ) (count : ℕ) (body left : List ℕ) (seen len size : ℕ) (line : ChunkLine) → IsPassed rest count body (Ahead.Line seen) left
    → (at : IsLineAt left len size line) → 0 < size → count < 65536 → length body + size ≤ 16777216 → IsPassed rest count body (Ahead.Bytes size) at.after
chunk_begins rest count body left seen len size line p at some few small =
    let told = at.size_is in
    let count_is = p.count_is in
    let total_is = ap length p.stands.1 in
    record {
      chunks = p.chunks;
      are = p.are;
      count_is = p.count_is;
      stands = (
        line,
        [],
        p.stands.0 ∙ ap (λ t. print_chunks p.chunks ++ t) at.parts,
        p.stands.1 ∙ sym (append-nil (joined p.chunks)),
        record { is_line = at.is_line; size = omega arith; some = omega arith; few = omega arith; small = omega arith },
      );
    }

-- Without the end of the trailer, more bytes are needed.
pub last_wanted : (rest : List ℕ) (count : ℕ) (body none left : List ℕ) (len passed n : ℕ) → none ≡ []
    → (p : IsPassed rest count body (Ahead.Trailer len passed) left) → HasNoEndYet n (line_feed ∷ p.stands.3.after)
    → length p.stands.3.after < 16384 → IsOpen count (length body) left
    → EndsWith left left × IsPassed rest count (body ++ none) (Ahead.Trailer len n) left × HasNoBody Chunked rest × (length left < 17408)
last_wanted rest count body none left len passed n is p yet few still =
    let line = p.stands.2 in
    let at = p.stands.3 in
    let short = at.is_line.short in
    let sizes = ap length at.parts ∙ length-append (print_chunk_line line) at.after in (
      ([], refl),
      no_more rest count body none _ left is
          (record { chunks = p.chunks; are = p.are; count_is = p.count_is; stands = (p.stands.0, p.stands.1, line, at, yet) }),
      no_body_here rest left count (length body) p.chunks (walked rest body left count p.chunks p.are p.count_is p.stands.0 p.stands.1) still,
      omega arith,
    )

-- If the end of the body comes next, the body is complete.
pub last_there : (rest : List ℕ) (count : ℕ) (body left after : List ℕ) (len passed : ℕ) → IsPassed rest count body (Ahead.Trailer len passed) left
    → ComesNext count (length body) left (next_end after) → EndsWith left after × (coded : List ℕ) × (rest ≡ coded ++ after) × SpellsChunks coded body
last_there rest count body left after len passed p next =
    let whole = whole_there rest left after count (length body) p.chunks
    (walked rest body left count p.chunks p.are p.count_is p.stands.0 p.stands.1) next in (
      (print_chunk_line next.0 ++ next.1, next.5 ∙ sym (append_assoc (print_chunk_line next.0) next.1 after)),
      whole.0,
      whole.1,
      subst (SpellsChunks whole.0) (sym p.stands.1) whole.2,
    )

-- The chunks before an incomplete one are a walk.
begun_walked : (rest : List ℕ) (count : ℕ) (body left : List ℕ) (lacking : ℕ) → (p : IsPassed rest count body (Ahead.Bytes lacking) left)
    → Walked rest (print_chunk_line p.stands.0 ++ (p.stands.1 ++ left)) (length p.chunks) (length (joined p.chunks)) p.chunks
begun_walked rest count body left lacking p = record { are = p.are; parts = p.stands.2; count_is = refl; total_is = refl }

-- If not all bytes of the chunk and its end have arrived, more are needed.
pub bytes_wanted : (rest : List ℕ) (count : ℕ) (body left bytes after : List ℕ) (lacking lacks : ℕ) → IsPassed rest count body (Ahead.Bytes lacking) left
    → left ≡ bytes ++ after → lacking ≡ length bytes + lacks → length left < lacking + 2 → length after < 2
    → EndsWith left after × IsPassed rest count (body ++ bytes) (Ahead.Bytes lacks) after × HasNoBody Chunked rest × (length after < 17408)
bytes_wanted rest count body left bytes after lacking lacks p split is short few =
    let line = p.stands.0 in
    let seen = p.stands.1 in
    let b = p.stands.4 in
    let size = b.size in
    let small = b.small in
    let both = length-append seen bytes in
    let none = few in (
      (bytes, split),
      record {
        chunks = p.chunks;
        are = p.are;
        count_is = p.count_is;
        stands = (
          line,
          seen ++ bytes,
          p.stands.2
              ∙ ap (λ t. print_chunks p.chunks ++ (print_chunk_line line ++ t)) (ap (λ t. seen ++ t) split ∙ sym (append_assoc seen bytes after)),
          ap (λ t. t ++ bytes) p.stands.3 ∙ append_assoc (joined p.chunks) seen bytes,
          record { is_line = b.is_line; size = omega arith; some = b.some; few = b.few; small = b.small },
        );
      },
      no_body_here rest (print_chunk_line line ++ (seen ++ left)) (length p.chunks) (length (joined p.chunks)) p.chunks
          (begun_walked rest count body left lacking p) (begun_open (length p.chunks) (length (joined p.chunks)) lacking line seen left b short),
      omega arith,
    )

-- With its missing bytes and CR LF, the chunk is complete.
pub chunk_whole : (rest : List ℕ) (count : ℕ) (body left bytes behind : List ℕ) (lacking : ℕ) → IsPassed rest count body (Ahead.Bytes lacking) left
    → length bytes ≡ lacking → left ≡ bytes ++ (print_end crlf ++ behind)
    → EndsWith left behind × IsPassed rest (count + 1) (body ++ bytes) (Ahead.Line 0) behind
chunk_whole rest count body left bytes behind lacking p size split =
    let seen = p.stands.1 in
    let whole = begun_whole (length p.chunks) (length (joined p.chunks)) lacking p.stands.0 seen left bytes behind p.stands.4 size split in
    let w = walk_on rest _ behind (seen ++ bytes) _ _ p.chunks whole.0 (begun_walked rest count body left lacking p) whole.2 whole.1 in (
      (bytes ++ print_end crlf, split ∙ sym (append_assoc bytes (print_end crlf) behind)),
      record {
        chunks = p.chunks ++ whole.0 ∷ [];
        are = w.are;
        count_is = ap (λ (n : ℕ). n + 1) p.count_is ∙ w.count_is;
        stands = (
          w.parts,
          ap (λ t. t ++ bytes) p.stands.3 ∙ append_assoc (joined p.chunks) seen bytes ∙ ap (λ t. joined p.chunks ++ t) (sym whole.1)
              ∙ sym (joined_more p.chunks whole.0),
          nothing_seen behind,
        );
      },
    )

-- If a chunk has a bad end, the body has a flaw.
pub chunk_flawed : (rest : List ℕ) (count : ℕ) (body left : List ℕ) (lacking : ℕ) → IsPassed rest count body (Ahead.Bytes lacking) left
    → HasBadEnd lacking left → HasFlaw rest Unreadable
chunk_flawed rest count body left lacking p bad =
    walk_flawed rest _ _ _ p.chunks Unreadable (begun_walked rest count body left lacking p)
    (begun_bad (length p.chunks) (length (joined p.chunks)) lacking p.stands.0 p.stands.1 left p.stands.4 bad)

-- `Stands` remains true when more bytes follow.
stands_more : (rest more : List ℕ) (chunks : List Chunk) (body : List ℕ) (ahead : Ahead) (left : List ℕ) → Stands rest chunks body ahead left
    → Stands (rest ++ more) chunks body ahead (left ++ more)
unfolding line_more
stands_more rest more chunks body (Ahead.Line seen) left s =
    (ap (λ t. t ++ more) s.0 ∙ append_assoc (print_chunks chunks) left more, s.1, feed_more seen left more s.2)
stands_more rest more chunks body (Ahead.Bytes lacking) left s = (
  s.0,
  s.1,
  ap (λ t. t ++ more) s.2 ∙ append_assoc (print_chunks chunks) (print_chunk_line s.0 ++ (s.1 ++ left)) more
      ∙ ap (λ t. print_chunks chunks ++ t) (append_assoc (print_chunk_line s.0) (s.1 ++ left) more
      ∙ ap (λ t. print_chunk_line s.0 ++ t) (append_assoc s.1 left more)),
  s.3,
  s.4,
)
stands_more rest more chunks body (Ahead.Trailer len passed) left s = (
  ap (λ t. t ++ more) s.0 ∙ append_assoc (print_chunks chunks) left more,
  s.1,
  s.2,
  line_more left more len 0 s.2 s.3,
  none_more passed (line_feed ∷ s.3.after) more s.4,
)

-- The decoded part remains decoded when more bytes follow.
pub passed_more : (rest more : List ℕ) (count : ℕ) (body : List ℕ) (ahead : Ahead) (left : List ℕ) → IsPassed rest count body ahead left
    → IsPassed (rest ++ more) count body ahead (left ++ more)
passed_more rest more count body ahead left p =
    record { chunks = p.chunks; are = p.are; count_is = p.count_is; stands = stands_more rest more p.chunks body ahead left p.stands }

-- An end of an end of the bytes is an end of the bytes.
pub ends_on : (a b c : List ℕ) → EndsWith a b → EndsWith b c → EndsWith a c
ends_on a b c p q = (p.0 ++ q.0, p.1 ∙ ap (λ t. p.0 ++ t) q.1 ∙ sym (append_assoc p.0 q.0 c))

-- If the bytes `left` end with `behind`, the next part of `behind` is the next part of `left`.
pub part_behind : (rest : List ℕ) (count : ℕ) (body left behind : List ℕ) (r : Result Part Flaw) → EndsWith left behind → IsPart rest count body behind r
    → IsPart rest count body left r
part_behind rest count body left behind (Ok (Part.Wanted bytes ahead after)) ends p = (ends_on left behind after.now ends p.0, p.1, p.2, p.3)
part_behind rest count body left behind (Ok (Part.Chunk bytes after)) ends p = (ends_on left behind after.now ends p.0, p.1)
part_behind rest count body left behind (Ok (Part.Last after)) ends p = (ends_on left behind after.now ends p.0, p.1, p.2, p.3)
part_behind rest count body left behind (Err flaw) ends p = p

-- The next part that the contract states is the next part after the decoded bytes.
pub part_told : (rest left : List ℕ) (b : ChunkedBody) (h : HasPassed rest b left) (part told : Part) → part ≡ told
    → ((t body : List ℕ) → IsPassed t b.count body b.ahead left → b.total ≡ length body → IsPart t b.count body left (Ok part))
    → IsPart rest b.count h.body left (Ok told)
part_told rest left b h part told is ensures = subst (λ (p : Part). IsPart rest b.count h.body left (Ok p)) is (ensures rest h.body h.passed h.total_is)

-- Once its bytes are appended to the body, the next part is decoded.
pub pushed : (rest : List ℕ) (b : ChunkedBody) (left bytes after : List ℕ) (count : ℕ) (ahead : Ahead) (body : Joined) → (h : HasPassed rest b left)
    → IsPassed rest count (h.body ++ bytes) ahead after
    → (body.lost ≡ false → (b.body.lost ≡ false) × (body.bytes.items ≡ b.body.bytes.items ++ bytes))
    → HasPassed rest (record { count = count; total = b.total + length bytes; body = body; ahead = ahead }) after
pushed rest b left bytes after count ahead body h passed push =
    let sizes = length-append h.body bytes in
    let total = h.total_is in
    record {
      body = h.body ++ bytes;
      passed = passed;
      total_is = omega arith;
      kept = λ lost. let step = push lost in step.1 ∙ ap (λ t. t ++ bytes) (h.kept step.0);
    }
