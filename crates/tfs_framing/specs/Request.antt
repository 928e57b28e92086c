-- Requests.
use Rattle.std.specs.Prelude.{ℕ, Bool, List}
use Rattle.httparse.specs.Grammar.{RequestHead}
use Rattle.tfs_framing.specs.Connection.{asks_to_close}
use Rattle.tfs_framing.specs.Digest.{fits_digest, has_asked}
use Rattle.tfs_framing.specs.declared.request.OpenRequest.{OpenRequest}

-- A request; `close` ends the conversation, and `intact` means a matching digest.
pub record RequestValue : Type 0 where
  pub method : List ℕ
  pub target : List ℕ
  pub body : List ℕ
  pub close : Bool
  pub intact : Bool

-- The request with this head and body.
abbrev pub request_of : RequestHead → List ℕ → RequestValue
request_of h body =
    record { method = h.method; target = h.target; body = body; close = asks_to_close h; intact = fits_digest h body }

-- The request with this body and the kept head.
abbrev pub completed : OpenRequest → List ℕ → RequestValue
completed o body = record {
  method = o.method.items;
  target = o.target.items;
  body = body;
  close = o.close;
  intact = has_asked o.digest body;
}
