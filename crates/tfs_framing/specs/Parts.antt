-- The next part of a chunked body.
use Rattle.std.specs.Prelude.{◌≡◌, ◌≤◌, ◌<◌, ◌+◌, ℕ, List, ◌∷◌, ◌++◌, length, Result, Ok, Err}
use Rattle.httparse.specs.Ascii.{line_feed}
use Rattle.httparse.specs.Grammar.{ChunkLine, print_chunk_line, chunk_size}
use Rattle.tfs_framing.specs.Body.{HasNoBody}
use Rattle.tfs_framing.specs.Chunks.{Chunk, print_chunks, joined, AreChunks, IsShortLine, HasFlaw, SpellsChunks}
use Rattle.tfs_framing.specs.Sought.{HasNoEndYet}
use Rattle.tfs_framing.specs.declared.chunks.Ahead.{Ahead}
use Rattle.tfs_framing.specs.declared.chunks.Flaw.{Flaw}
use Rattle.tfs_framing.specs.declared.chunks.Part.{Part}
use Rattle.tfs_framing.specs.declared.lines.BodyLength.TheVariants.{Chunked}

-- A valid chunk line at the beginning, with its length and size.
pub record IsLineAt (left : List ℕ) (len size : ℕ) (line : ChunkLine) : Type 0 where
  pub is_line : IsShortLine line
  pub after : List ℕ
  pub parts : left ≡ print_chunk_line line ++ after
  pub len_is : len ≡ length (print_chunk_line line)
  pub size_is : size ≡ chunk_size line

-- The first `seen` bytes have no line feed.
pub record HasNoFeedIn (seen : ℕ) (left : List ℕ) : Type 0 where
  pub front : List ℕ
  pub rest : List ℕ
  pub parts : left ≡ front ++ rest
  pub seen_is : seen ≡ length front
  pub none : (before after : List ℕ) → ¬ (front ≡ before ++ line_feed ∷ after)

-- A chunk after `count` chunks with `total` bytes: `seen` has arrived, `lacking` bytes haven't.
pub record IsBegun (count total : ℕ) (line : ChunkLine) (seen : List ℕ) (lacking : ℕ) : Type 0 where
  pub is_line : IsShortLine line
  pub size : chunk_size line ≡ length seen + lacking
  pub some : 0 < chunk_size line
  pub few : count < 65536
  pub small : total + chunk_size line ≤ 16777216

-- `rest` is chunks, perhaps a partial one, and `left`; `body` is decoded.
abbrev pub Stands : List ℕ → List Chunk → List ℕ → Ahead → List ℕ → Type 0
Stands rest chunks body (Ahead.Line seen) left = (rest ≡ print_chunks chunks ++ left) × (body ≡ joined chunks) × HasNoFeedIn seen left
Stands rest chunks body (Ahead.Bytes lacking) left = (line : ChunkLine) × (seen : List ℕ)
    × (rest ≡ print_chunks chunks ++ (print_chunk_line line ++ (seen ++ left)))
    × (body ≡ joined chunks ++ seen) × IsBegun (length chunks) (length (joined chunks)) line seen lacking
Stands rest chunks body (Ahead.Trailer len passed) left = (rest ≡ print_chunks chunks ++ left) × (body ≡ joined chunks)
    × (line : ChunkLine) × (at : IsLineAt left len 0 line) × HasNoEndYet passed (line_feed ∷ at.after)

-- The same for some list of `count` valid chunks.
pub record IsPassed (rest : List ℕ) (count : ℕ) (body : List ℕ) (ahead : Ahead) (left : List ℕ) : Type 0 where
  pub chunks : List Chunk
  pub are : AreChunks chunks
  pub count_is : count ≡ length chunks
  pub stands : Stands rest chunks body ahead left

-- The bytes end with `end`.
abbrev pub EndsWith : List ℕ → List ℕ → Type 0
EndsWith bytes end = (front : List ℕ) × (bytes ≡ front ++ end)

-- The next part. If unfinished, fewer than 17,408 undecoded bytes remain.
abbrev pub IsPart : List ℕ → ℕ → List ℕ → List ℕ → Result Part Flaw → Type 0
IsPart rest count body left (Ok (Part.Wanted bytes ahead after)) = EndsWith left after.now × IsPassed rest count (body ++ bytes.now) ahead after.now
    × HasNoBody Chunked rest × (length after.now < 17408)
IsPart rest count body left (Ok (Part.Chunk bytes after)) = EndsWith left after.now
    × IsPassed rest (count + 1) (body ++ bytes.now) (Ahead.Line 0) after.now
IsPart rest count body left (Ok (Part.Last after)) = EndsWith left after.now
    × (coded : List ℕ) × (rest ≡ coded ++ after.now) × SpellsChunks coded body
IsPart rest count body left (Err flaw) = HasFlaw rest flaw
