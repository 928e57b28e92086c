-- The lines of a head.
use Rattle.std.specs.Prelude.{◌≡◌, ℕ, List}
use Rattle.httparse.specs.Grammar.{RequestHead}
use Rattle.tfs_framing.specs.Connection.{asks_to_close}
use Rattle.tfs_framing.specs.Digest.{fits_digest, has_asked}
use Rattle.tfs_framing.specs.declared.lines.Lines.{Lines}

-- The lines have the content of the head.
pub record IsToldBy (lines : Lines) (h : RequestHead) : Type 0 where
  pub method : lines.method.now ≡ h.method
  pub target : lines.target.now ≡ h.target
  pub close : lines.close ≡ asks_to_close h
  pub digest : (body : List ℕ) → has_asked lines.digest body ≡ fits_digest h body
