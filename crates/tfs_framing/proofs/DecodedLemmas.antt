-- Lemmas about chunked bodies that are decoded while they arrive.
use Rattle.std.proofs.Common.{◌≡◌, ◌<◌, ℕ, List, ◌++◌, length, Result, Ok}
use Rattle.std.specs.declared.alloc.AllocError.{AllocError}
use Rattle.tfs_framing.specs.Decoded.{Decodes, IsDecoded}
use Rattle.tfs_framing.specs.Framing.{IsUnfinished}
use Rattle.tfs_framing.specs.Parts.{EndsWith}
use Rattle.tfs_framing.specs.declared.body.ChunkedBody.{ChunkedBody}
use Rattle.tfs_framing.specs.declared.body.Decoded.{Decoded}
use Rattle.tfs_framing.specs.declared.lines.BodyLength.TheVariants.{Chunked}
use Rattle.tfs_framing.specs.declared.request.OpenRequest.{OpenRequest}
use Rattle.tfs_framing.proofs.OpensLemmas.{opens_more, opens_unfinished}
use Rattle.tfs_framing.proofs.PassedLemmas.{passed_more}

-- The decoded bytes remain decoded when more bytes follow.
pub decoded_more : (bytes more left : List ℕ) (request : Result OpenRequest AllocError) (b : ChunkedBody) → Decodes bytes request b left
    → Decodes (bytes ++ more) request b (left ++ more)
decoded_more bytes more left request b d = record {
  rest = d.rest ++ more;
  opens = opens_more bytes more d.rest request Chunked d.opens;
  passed = record {
    body = d.passed.body;
    passed = passed_more d.rest more b.count d.passed.body b.ahead left d.passed.passed;
    total_is = d.passed.total_is;
    kept = d.passed.kept;
  };
}

-- If more bytes are needed, the message is unfinished, and the new state of decoding is right for
-- the bytes left.
pub decoded_wanted : (bytes left : List ℕ) (request : Result OpenRequest AllocError) (b new : ChunkedBody) (n : ℕ) → (d : Decodes bytes request b left)
    → IsDecoded d.rest left (Ok (Decoded.Wanted new n))
    → IsUnfinished bytes × (after : List ℕ) × EndsWith left after × (n ≡ length after) × (n < 17408) × Decodes bytes request new after
decoded_wanted bytes left request b new n d told = (
  opens_unfinished bytes d.rest request Chunked d.opens told.5,
  told.0,
  told.1,
  told.2,
  told.3,
  record { rest = d.rest; opens = d.opens; passed = told.4 },
)
