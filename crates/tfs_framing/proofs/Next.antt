-- The walk over a chunked body: its next part, and the chunks before it.
use Rattle.std.proofs.Common.{◌≡◌, ◌≤◌, ◌<◌, ◌+◌, ℕ, List, ◌++◌, length}
use Rattle.httparse.specs.Grammar.{print_chunk_line, chunk_size, ChunkLine}
use Rattle.tfs_framing.specs.Chunks.{Chunk, print_chunk, print_chunks, joined, AreChunks, IsChunk, HasBadLine, IsFlawAt, IsShortLine, IsTrailer}
use Rattle.tfs_framing.specs.declared.chunks.Flaw.{Flaw}

-- The next part: a chunk and the bytes after it, the end of the body and the bytes after it, or a
-- flaw.
pub data Next : Type 0 where
  next_chunk : Chunk → List ℕ → Next
  next_end : List ℕ → Next
  next_flaw : Flaw → Next

-- This part comes next, after `count` chunks with `total` bytes.
abbrev pub ComesNext : ℕ → ℕ → List ℕ → Next → Type 0
ComesNext count total left (next_chunk c after) = IsChunk c × (left ≡ print_chunk c ++ after) × (count < 65536) × (total + length c.bytes ≤ 16777216)
ComesNext count total left (next_end after) = (line : ChunkLine) × (trailer : List ℕ) × IsShortLine line × (chunk_size line ≡ 0) × IsTrailer trailer
    × (left ≡ print_chunk_line line ++ (trailer ++ after))
ComesNext count total left (next_flaw flaw) = IsFlawAt count total left flaw

-- Nothing comes next yet.
abbrev pub IsOpen : ℕ → ℕ → List ℕ → Type 0
IsOpen count total left = (next : Next) → ¬ (ComesNext count total left next)

-- The bytes begin neither with a valid chunk line nor with a bad one.
pub record HasNoLine (left : List ℕ) : Type 0 where
  pub none : (line : ChunkLine) (after : List ℕ) → IsShortLine line → ¬ (left ≡ print_chunk_line line ++ after)
  pub not_bad : ¬ (HasBadLine left)

-- The bytes are `count` chunks with `total` bytes, and then `left`.
pub record Walked (rest left : List ℕ) (count total : ℕ) (chunks : List Chunk) : Type 0 where
  pub are : AreChunks chunks
  pub parts : rest ≡ print_chunks chunks ++ left
  pub count_is : count ≡ length chunks
  pub total_is : total ≡ length (joined chunks)
