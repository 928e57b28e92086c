-- The replies without an answer.
use Rattle.std.specs.Prelude.{ℕ, List, codes}
use Rattle.tfs_web.specs.declared.refusal.WebRefusal.{WebRefusal}
use Rattle.tfs_web.specs.declared.refusal.WebRefusal.TheVariants as refusal

-- The status of a refusal (RFC 9110, section 15).
abbrev pub status_of : WebRefusal → ℕ
status_of refusal.BadQuery = 400
status_of refusal.NoUser = 403
status_of refusal.NoRoute = 404
status_of refusal.NoName = 404
status_of refusal.NoState = 404
status_of refusal.NoPosition = 404
status_of refusal.UnknownAddress = 404
status_of refusal.MethodNotAllowed = 405
status_of refusal.OtherHost = 421
status_of refusal.NoAccessFile = 503
status_of refusal.Unreadable = 503

-- The body of a refusal: JSON with its name.
abbrev pub body_of : WebRefusal → List ℕ
body_of refusal.MethodNotAllowed = codes "{\"error\":\"MethodNotAllowed\"}"
body_of refusal.OtherHost = codes "{\"error\":\"OtherHost\"}"
body_of refusal.NoRoute = codes "{\"error\":\"NoRoute\"}"
body_of refusal.NoUser = codes "{\"error\":\"NoUser\"}"
body_of refusal.NoAccessFile = codes "{\"error\":\"NoAccessFile\"}"
body_of refusal.BadQuery = codes "{\"error\":\"BadQuery\"}"
body_of refusal.NoName = codes "{\"error\":\"NoName\"}"
body_of refusal.NoState = codes "{\"error\":\"NoState\"}"
body_of refusal.NoPosition = codes "{\"error\":\"NoPosition\"}"
body_of refusal.UnknownAddress = codes "{\"error\":\"UnknownAddress\"}"
body_of refusal.Unreadable = codes "{\"error\":\"Unreadable\"}"
