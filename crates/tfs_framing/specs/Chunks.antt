-- Chunked bodies (RFC 9112, section 7.1), and their flaws.
use Rattle.std.specs.Prelude.{◌≡◌, ◌≤◌, ◌<◌, ◌+◌, ◌⊎◌, ℕ, List, ◌∷◌, ◌++◌, length, All}
use Rattle.std.specs.List.{flat_map}
use Rattle.httparse.specs.Ascii.{line_feed}
use Rattle.httparse.specs.Grammar.{crlf, print_end, ChunkLine, IsChunkLine, print_chunk_line, chunk_size}
use Rattle.tfs_framing.specs.Head.{IsMessageHead}
use Rattle.tfs_framing.specs.declared.chunks.Flaw.{Flaw}
use Rattle.tfs_framing.specs.declared.chunks.Flaw.TheVariants.{TooLarge, Unreadable}

pub record Chunk : Type 0 where
  pub line : ChunkLine
  pub bytes : List ℕ

abbrev pub print_chunk : Chunk → List ℕ
print_chunk c = print_chunk_line c.line ++ (c.bytes ++ print_end crlf)

abbrev pub print_chunks : List Chunk → List ℕ
print_chunks chunks = flat_map print_chunk chunks

-- The joined bytes of chunks.
abbrev pub joined : List Chunk → List ℕ
joined chunks = flat_map (λ c. c.bytes) chunks

-- A valid chunk line of at most 1,024 bytes.
pub record IsShortLine (line : ChunkLine) : Type 0 where
  pub is_line : IsChunkLine line
  pub short : length (print_chunk_line line) ≤ 1024

-- A valid chunk, not empty.
pub record IsChunk (c : Chunk) : Type 0 where
  pub line : IsShortLine c.line
  pub size : chunk_size c.line ≡ length c.bytes
  pub some : 0 < length c.bytes

-- Valid chunks: at most 65,536, with at most 16 MiB together.
pub record AreChunks (chunks : List Chunk) : Type 0 where
  pub each : All IsChunk chunks
  pub few : length chunks ≤ 65536
  pub small : length (joined chunks) ≤ 16777216

-- A trailer up to its first empty line, within 16,384 bytes.
pub record IsTrailer (trailer : List ℕ) : Type 0 where
  pub is_head : IsMessageHead (line_feed ∷ trailer)
  pub short : length trailer ≤ 16384

-- Chunks, a chunk line of size 0, and a trailer.
pub record SpellsChunks (coded body : List ℕ) : Type 0 where
  pub chunks : List Chunk
  pub are : AreChunks chunks
  pub last : ChunkLine
  pub is_line : IsShortLine last
  pub is_last : chunk_size last ≡ 0
  pub trailer : List ℕ
  pub is_trailer : IsTrailer trailer
  pub parts : coded ≡ print_chunks chunks ++ (print_chunk_line last ++ trailer)
  pub is_body : body ≡ joined chunks

-- No valid chunk line, despite a complete line or at least 1,024 bytes.
pub record HasBadLine (left : List ℕ) : Type 0 where
  pub there : (1024 ≤ length left) ⊎ ((before : List ℕ) × (after : List ℕ) × (left ≡ before ++ line_feed ∷ after))
  pub none : (line : ChunkLine) (after : List ℕ) → IsShortLine line → ¬ (left ≡ print_chunk_line line ++ after)

-- Two bytes other than CR LF after a chunk.
pub record HasBadEnd (size : ℕ) (after : List ℕ) : Type 0 where
  pub bytes : List ℕ
  pub end : List ℕ
  pub rest : List ℕ
  pub parts : after ≡ bytes ++ (end ++ rest)
  pub size_is : length bytes ≡ size
  pub two : length end ≡ 2
  pub other : ¬ (end ≡ print_end crlf)

-- No trailer, despite at least 16,384 bytes.
pub record HasLongTrailer (after : List ℕ) : Type 0 where
  pub long : 16384 ≤ length after
  pub none : (trailer rest : List ℕ) → IsTrailer trailer → ¬ (after ≡ trailer ++ rest)

-- A flaw after `count` chunks with `total` bytes and a chunk line.
abbrev pub IsFlawBehind : ℕ → ℕ → ℕ → List ℕ → Flaw → Type 0
IsFlawBehind count total size after TooLarge = 16777216 < total + size
IsFlawBehind count total size after Unreadable = (total + size ≤ 16777216)
    × (((0 < size) × (count ≡ 65536)) ⊎ (((0 < size) × (count < 65536) × HasBadEnd size after) ⊎ ((size ≡ 0) × HasLongTrailer after)))

-- A bad chunk line after these chunks, or a flaw after a valid one.
abbrev pub IsFlawAt : ℕ → ℕ → List ℕ → Flaw → Type 0
IsFlawAt count total left flaw = ((flaw ≡ Unreadable) × HasBadLine left)
    ⊎ ((line : ChunkLine) × (after : List ℕ) × IsShortLine line × (left ≡ print_chunk_line line ++ after)
    × IsFlawBehind count total (chunk_size line) after flaw)

-- Valid chunks followed by a flaw.
pub record HasFlaw (rest : List ℕ) (flaw : Flaw) : Type 0 where
  pub chunks : List Chunk
  pub are : AreChunks chunks
  pub left : List ℕ
  pub parts : rest ≡ print_chunks chunks ++ left
  pub is_flaw : IsFlawAt (length chunks) (length (joined chunks)) left flaw
