-- Requests for a state, by their method.
use Rattle.std.specs.Prelude.{ℕ, List, codes, Option, None}
use Rattle.tfs_calls.specs.declared.call.Call.{Call}
use Rattle.tfs_calls.specs.declared.call.Call.TheVariants.{Read, Change}
use Rattle.tfs_calls.specs.declared.call.Raw.TheVariants as raw
use Rattle.tfs_http.specs.declared.routes.Method.{Method}
use Rattle.tfs_http.specs.declared.routes.Method.TheVariants.{Get, Post, Delete, Lock, Unlock}
use Rattle.tfs_http.specs.Query.{identifier_parameter}

-- The text of a method (RFC 9110, section 9.3; Terraform, http backend).
abbrev pub method_text : Method → List ℕ
method_text Get = codes "GET"
method_text Post = codes "POST"
method_text Delete = codes "DELETE"
method_text Lock = codes "LOCK"
method_text Unlock = codes "UNLOCK"

-- The identifier of a request with this method and target: GET and LOCK take none.
abbrev pub state_identifier : Method → List ℕ → Option (List ℕ)
state_identifier Get target = None
state_identifier Post target = identifier_parameter target
state_identifier Delete target = identifier_parameter target
state_identifier Lock target = None
state_identifier Unlock target = identifier_parameter target

-- The call with this method, name, identifier and body.
abbrev pub state_call : Method → List ℕ → Option (List ℕ) → List ℕ → Call
state_call Get name id body = Read name
state_call Post name id body = Change name (raw.Push id body)
state_call Delete name id body = Change name (raw.Delete id)
state_call Lock name id body = Change name (raw.Lock body)
state_call Unlock name id body = Change name (raw.Unlock body id)
