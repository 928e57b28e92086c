-- Decoding of chunked bodies.
use Rattle.std.specs.Prelude.{◌≡◌, ◌<◌, ℕ, false, List, ◌++◌, length, Result, Ok, Err}
use Rattle.std.specs.declared.alloc.AllocError.{AllocError}
use Rattle.tfs_framing.specs.Chunks.{SpellsChunks, HasFlaw}
use Rattle.tfs_framing.specs.Parts.{IsPassed, EndsWith}
use Rattle.tfs_framing.specs.Body.{HasNoBody}
use Rattle.tfs_framing.specs.Framing.{Opens}
use Rattle.tfs_framing.specs.declared.body.ChunkedBody.{ChunkedBody}
use Rattle.tfs_framing.specs.declared.body.Decoded.{Decoded}
use Rattle.tfs_framing.specs.declared.chunks.Flaw.{Flaw}
use Rattle.tfs_framing.specs.declared.lines.BodyLength.TheVariants.{Chunked}
use Rattle.tfs_framing.specs.declared.request.OpenRequest.{OpenRequest}

-- The bytes `rest` are decoded except for `left`.
pub record HasPassed (rest : List ℕ) (b : ChunkedBody) (left : List ℕ) : Type 0 where
  pub body : List ℕ
  pub passed : IsPassed rest b.count body b.ahead left
  pub total_is : b.total ≡ length body
  pub kept : b.body.lost ≡ false → b.body.bytes.items ≡ body

-- The outcome of decoding. If unfinished, fewer than 17,408 undecoded bytes remain.
abbrev pub IsDecoded : List ℕ → List ℕ → Result Decoded Flaw → Type 0
IsDecoded rest left (Ok (Decoded.Wanted b size)) = (after : List ℕ) × EndsWith left after × (size ≡ length after) × (size < 17408)
    × HasPassed rest b after × HasNoBody Chunked rest
IsDecoded rest left (Ok (Decoded.Whole joined size)) = (after : List ℕ) × EndsWith left after × (size ≡ length after)
    × (coded : List ℕ) × (body : List ℕ) × (rest ≡ coded ++ after) × SpellsChunks coded body × (joined.lost ≡ false → joined.bytes.items ≡ body)
IsDecoded rest left (Err flaw) = HasFlaw rest flaw

-- A head and its chunked body, decoded except for `left`.
pub record Decodes (bytes : List ℕ) (request : Result OpenRequest AllocError) (b : ChunkedBody)
    (left : List ℕ) : Type 0 where
  pub rest : List ℕ
  pub opens : Opens bytes request Chunked rest
  pub passed : HasPassed rest b left
