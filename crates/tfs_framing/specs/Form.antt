-- The form of a reply.
use Rattle.std.specs.Prelude.{codes}
use Rattle.std.specs.Str.{bytes_eq}
use Rattle.tfs_framing.specs.Request.{RequestValue}
use Rattle.tfs_framing.specs.declared.request.Form.{Form}

-- A reply to HEAD has no body (RFC 9110, section 9.3.2).
abbrev pub form_of : RequestValue → Form
form_of r = record { close = r.close; bare = bytes_eq r.method (codes "HEAD") }
