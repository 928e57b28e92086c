-- Lemmas about chunked bodies: bytes begin with at most one body or have at most one flaw.
use Rattle.std.proofs.Common.{◌≡◌, ◌≤◌, ◌+◌, ℕ, List, [], ◌∷◌, ◌++◌, length, All, refl, sym, ◌∙◌, ap, subst, arith, append_assoc}
use Rattle.std.proofs.Common.{length-append}
use Rattle.std.proofs.lemmas.List.Elements.{All-head, All-tail}
use Rattle.httparse.specs.Grammar.{print_chunk_line}
use Rattle.tfs_framing.specs.Chunks.{Chunk, print_chunk, print_chunks, joined, IsChunk, AreChunks, SpellsChunks, IsFlawAt, HasFlaw}
use Rattle.tfs_framing.proofs.Next.{Next, next_chunk, next_end, next_flaw, ComesNext, IsOpen}
use Rattle.tfs_framing.specs.Body.{HasNoBody}
use Rattle.tfs_framing.specs.declared.lines.BodyLength.TheVariants.{Chunked}
use Rattle.tfs_framing.specs.declared.chunks.Flaw.{Flaw}
use Rattle.tfs_framing.proofs.HeadLemmas.{same_cut}
use Rattle.tfs_framing.proofs.ChunkLemmas.{chunk_once, next_once}

-- No chunk comes next.
abbrev pub HasNoChunk : ℕ → ℕ → List ℕ → Type 0
HasNoChunk count total left = (c : Chunk) (after : List ℕ) → ¬ (ComesNext count total left (next_chunk c after))

-- These chunks are valid after `count` chunks with `total` bytes, within the limits.
pub record MayCome (count total : ℕ) (chunks : List Chunk) : Type 0 where
  pub each : All IsChunk chunks
  pub few : count + length chunks ≤ 65536
  pub small : total + length (joined chunks) ≤ 16777216

-- Without their first chunk, the others are valid after it.
rest_may_come : (count total : ℕ) (c : Chunk) (chunks : List Chunk) → MayCome count total (c ∷ chunks) → MayCome (count + 1) (total + length c.bytes) chunks
rest_may_come count total c chunks may =
    let few = may.few in
    let small = may.small in
    let size = length-append c.bytes (joined chunks) in
    record { each = All-tail IsChunk c chunks may.each; few = omega arith; small = omega arith }

-- If no chunk follows, equal bytes have the same chunks and the same rest.
same_front : (count total : ℕ) (a b : List Chunk) (left other : List ℕ) → MayCome count total a → MayCome count total b
    → HasNoChunk (count + length a) (total + length (joined a)) left → HasNoChunk (count + length b) (total + length (joined b)) other
    → print_chunks a ++ left ≡ print_chunks b ++ other → (a ≡ b) × (left ≡ other)
same_front count total [] [] left other m n p q e = (refl, e)
same_front count total [] (d ∷ b) left other m n p q e =
    let few = n.few in
    let small = n.small in
    let size = length-append d.bytes (joined b) in
    absurd (p d (print_chunks b ++ other)
    (All-head IsChunk d b n.each, e ∙ append_assoc (print_chunk d) (print_chunks b) other, omega arith, omega arith))
same_front count total (c ∷ a) [] left other m n p q e =
    let few = m.few in
    let small = m.small in
    let size = length-append c.bytes (joined a) in
    absurd (q c (print_chunks a ++ left)
    (All-head IsChunk c a m.each, sym e ∙ append_assoc (print_chunk c) (print_chunks a) left, omega arith, omega arith))
same_front count total (c ∷ a) (d ∷ b) left other m n p q e =
    let first = chunk_once c d (print_chunks a ++ left) (print_chunks b ++ other) (All-head IsChunk c a m.each) (All-head IsChunk d b n.each)
    (sym (append_assoc (print_chunk c) (print_chunks a) left) ∙ e ∙ append_assoc (print_chunk d) (print_chunks b) other) in
    let sizes : length c.bytes ≡ length d.bytes = ap (λ (t : Chunk). length t.bytes) first.0 in
    let one = length-append c.bytes (joined a) in
    let two = length-append d.bytes (joined b) in
    let rest = same_front (count + 1) (total + length c.bytes) a b left other (rest_may_come count total c a m)
    (subst (λ (k : ℕ). MayCome (count + 1) (total + k) b) (sym sizes) (rest_may_come count total d b n))
    (at (count + length (c ∷ a)) (count + 1 + length a) (total + length (joined (c ∷ a))) (total + length c.bytes + length (joined a)) left
    (omega arith) (omega arith) p)
    (at (count + length (d ∷ b)) (count + 1 + length b) (total + length (joined (d ∷ b))) (total + length c.bytes + length (joined b)) other
    (omega arith) (omega arith) q) first.1 in
    (ap (λ (t : Chunk). t ∷ a) first.0 ∙ ap (λ (t : List Chunk). d ∷ t) rest.0, rest.1)
  where
    at : (k n s t : ℕ) (text : List ℕ) → k ≡ n → s ≡ t → HasNoChunk k s text → HasNoChunk n t text
    at k n s t text e f none = subst (λ (j : ℕ). HasNoChunk n j text) f (subst (λ (j : ℕ). HasNoChunk j s text) e none)

-- The bytes are chunks, and the next part after them isn't a chunk.
pub record Stands (rest : List ℕ) (next : Next) : Type 0 where
  pub chunks : List Chunk
  pub are : AreChunks chunks
  pub left : List ℕ
  pub parts : rest ≡ print_chunks chunks ++ left
  pub none : HasNoChunk (length chunks) (length (joined chunks)) left
  pub comes : ComesNext (length chunks) (length (joined chunks)) left next

-- The chunks of a body are valid from its start.
pub from_start : (chunks : List Chunk) → AreChunks chunks → MayCome 0 0 chunks
from_start chunks are = let few = are.few in let small = are.small in record { each = are.each; few = omega arith; small = omega arith }

-- Adding 0 to both counts keeps that no chunk comes next.
start_none : (chunks : List Chunk) (left : List ℕ) → HasNoChunk (length chunks) (length (joined chunks)) left
    → HasNoChunk (0 + length chunks) (0 + length (joined chunks)) left
start_none chunks left none =
    let count : length chunks ≡ 0 + length chunks = omega arith in
    let total : length (joined chunks) ≡ 0 + length (joined chunks) = omega arith in
    subst (λ (k : ℕ). HasNoChunk (0 + length chunks) k left) total (subst (λ (k : ℕ). HasNoChunk k (length (joined chunks)) left) count none)

-- Bytes have one longest list of chunks at their start, and one rest after it.
pub front_once : (a b : List Chunk) (left other : List ℕ) → AreChunks a → AreChunks b → HasNoChunk (length a) (length (joined a)) left
    → HasNoChunk (length b) (length (joined b)) other → print_chunks a ++ left ≡ print_chunks b ++ other → (a ≡ b) × (left ≡ other)
front_once a b left other is also p q e =
    same_front 0 0 a b left other (from_start a is) (from_start b also) (start_none a left p) (start_none b other q) e

-- Bytes have only one first part that isn't a chunk, and only one list of chunks before it.
pub stands_once : (rest : List ℕ) (a b : Next) → (p : Stands rest a) → (q : Stands rest b) → (a ≡ b) × (p.chunks ≡ q.chunks)
stands_once rest a b p q =
    let same = front_once p.chunks q.chunks p.left q.left p.are q.are p.none q.none (sym p.parts ∙ q.parts) in
    let also = subst (λ (t : List ℕ). ComesNext (length p.chunks) (length (joined p.chunks)) t b) (sym same.1)
    (subst (λ (t : List Chunk). ComesNext (length t) (length (joined t)) q.left b) (sym same.0) q.comes) in
    (next_once (length p.chunks) (length (joined p.chunks)) p.left a b p.are.small p.comes also, same.0)

-- If the end of the body comes next, no chunk does.
pub end_no_chunk : (count total : ℕ) (left after : List ℕ) → total ≤ 16777216 → ComesNext count total left (next_end after) → HasNoChunk count total left
end_no_chunk count total left after small p c behind q =
    let same = next_once count total left (next_end after) (next_chunk c behind) small p q in cc

-- If a flaw comes next, no chunk does.
pub flaw_no_chunk : (count total : ℕ) (left : List ℕ) (flaw : Flaw) → total ≤ 16777216 → IsFlawAt count total left flaw → HasNoChunk count total left
flaw_no_chunk count total left flaw small p c behind q =
    let same = next_once count total left (next_flaw flaw) (next_chunk c behind) small p q in cc

-- After the chunks of a body, its end comes next.
pub body_stands : (coded body after : List ℕ) → SpellsChunks coded body → Stands (coded ++ after) (next_end after)
body_stands coded body after s =
    let next : ComesNext (length s.chunks) (length (joined s.chunks)) (print_chunk_line s.last ++ (s.trailer ++ after)) (next_end after) =
    (s.last, s.trailer, s.is_line, s.is_last, s.is_trailer, refl) in
    record {
      chunks = s.chunks;
      are = s.are;
      left = print_chunk_line s.last ++ (s.trailer ++ after);
      parts = ap (λ t. t ++ after) s.parts ∙ append_assoc (print_chunks s.chunks) (print_chunk_line s.last ++ s.trailer) after
          ∙ ap (λ t. print_chunks s.chunks ++ t) (append_assoc (print_chunk_line s.last) s.trailer after);
      none = end_no_chunk (length s.chunks) (length (joined s.chunks)) (print_chunk_line s.last ++ (s.trailer ++ after)) after s.are.small next;
      comes = next;
    }

-- After the chunks before a flaw, the flaw comes next.
pub flaw_stands : (rest : List ℕ) (flaw : Flaw) → HasFlaw rest flaw → Stands rest (next_flaw flaw)
flaw_stands rest flaw f = record {
  chunks = f.chunks;
  are = f.are;
  left = f.left;
  parts = f.parts;
  none = flaw_no_chunk (length f.chunks) (length (joined f.chunks)) f.left flaw f.are.small f.is_flaw;
  comes = f.is_flaw;
}

-- Bytes begin with at most one chunked body.
pub chunks_once : (coded body after other also last : List ℕ) → SpellsChunks coded body → SpellsChunks other also
    → coded ++ after ≡ other ++ last → (coded ≡ other) × (body ≡ also) × (after ≡ last)
unfolding body_stands
chunks_once coded body after other also last s t e =
    let second = subst (λ (l : List ℕ). Stands l (next_end last)) (sym e) (body_stands other also last t) in
    let same = stands_once (coded ++ after) (next_end after) (next_end last) (body_stands coded body after s) second in
    let rest : after ≡ last = cc in
    let front = ends_same coded after other last e rest in
    (front, s.is_body ∙ ap joined (chunks_same coded body after other also last s t e) ∙ sym t.is_body, rest)
  where
    ends_same : (a b c d : List ℕ) → a ++ b ≡ c ++ d → b ≡ d → a ≡ c
    ends_same a b c d e f =
        let one = ap length e in
        let two = length-append a b in
        let three = length-append c d in
        let four = ap length f in
        (same_cut a b c d e (omega arith)).0

    chunks_same : (coded body after other also last : List ℕ) → (s : SpellsChunks coded body) → (t : SpellsChunks other also)
        → coded ++ after ≡ other ++ last → s.chunks ≡ t.chunks
    chunks_same coded body after other also last s t e =
        let one = body_stands coded body after s in
        let two = body_stands other also last t in
        (front_once s.chunks t.chunks one.left two.left s.are t.are one.none two.none (sym one.parts ∙ e ∙ two.parts)).0

-- Bytes that begin with a chunked body have no flaw.
pub body_no_flaw : (rest coded body after : List ℕ) (flaw : Flaw) → SpellsChunks coded body → rest ≡ coded ++ after → ¬ (HasFlaw rest flaw)
body_no_flaw rest coded body after flaw s e f =
    let first = subst (λ (l : List ℕ). Stands l (next_end after)) (sym e) (body_stands coded body after s) in
    let same = (stands_once rest (next_end after) (next_flaw flaw) first (flaw_stands rest flaw f)).0 in
    cc

-- Bytes have at most one flaw.
pub flaw_once : (rest : List ℕ) (f g : Flaw) → HasFlaw rest f → HasFlaw rest g → f ≡ g
flaw_once rest f g p q = let same = (stands_once rest (next_flaw f) (next_flaw g) (flaw_stands rest f p) (flaw_stands rest g q)).0 in cc

-- If nothing comes next after the chunks, the bytes have neither a body nor a flaw yet.
pub open_no_body : (rest left : List ℕ) (chunks : List Chunk) → AreChunks chunks → rest ≡ print_chunks chunks ++ left
    → IsOpen (length chunks) (length (joined chunks)) left → HasNoBody Chunked rest
open_no_body rest left chunks are parts none = record {
  none = λ coded body after e s. stands (next_end after) (subst (λ (l : List ℕ). Stands l (next_end after)) (sym e) (body_stands coded body after s));
  no_flaw = λ flaw f. stands (next_flaw flaw) (flaw_stands rest flaw f);
}
  where
    stands : (next : Next) → ¬ (Stands rest next)
    stands next s =
        let same = front_once chunks s.chunks left s.left are s.are (λ c after. none (next_chunk c after)) s.none (sym parts ∙ s.parts) in
        none next (subst (λ (t : List ℕ). ComesNext (length chunks) (length (joined chunks)) t next) (sym same.1)
        (subst (λ (t : List Chunk). ComesNext (length t) (length (joined t)) s.left next) (sym same.0) s.comes))
