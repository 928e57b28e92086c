-- The replies of the page, and what a reader is answered.
use Rattle.std.specs.Prelude.{◌≡◌, ◌⊎◌, ◌||◌, ℕ, ℤ, Bool, false, List, codes, Option, Some, None, Result, Ok, Err, bytes_eq, string_bytes}
use Rattle.http.specs.declared.request.Request.{Request}
use Rattle.http.specs.Request.{head_of}
use Rattle.http_header.specs.FieldValue.{FieldValue, IsVisibleAscii}
use Rattle.http_server.specs.declared.response.Response.{Response}
use Rattle.http_server.specs.Response.{IsResponse}
use Rattle.tfs_records.specs.Journal.{Journal}
use Rattle.regex.specs.Patterns.{Re}
use Rattle.tfs_web.specs.Access.{IsUser}
use Rattle.tfs_web.specs.Refusal.{body_of, status_of}
use Rattle.tfs_web.specs.Replies.{head_fields, refusal_fields}
use Rattle.tfs_web.specs.declared.asked.Asked.{Asked}
use Rattle.tfs_web.specs.declared.asked.Asked.TheVariants as asked
use Rattle.tfs_web.specs.declared.refusal.WebRefusal.{WebRefusal}
use Rattle.tfs_web.specs.declared.refusal.WebRefusal.TheVariants.{MethodNotAllowed, NoAccessFile, NoName, NoUser}
use Rattle.tfs_web.specs.declared.replies.Content.{Content}
use Rattle.tfs_web_answers.specs.Readers.{Reads, Rights}
use Rattle.tfs_site.specs.Workspaces.{IsList}
use Rattle.tfs_site.specs.declared.site.Answer.{Answer}
use Rattle.tfs_site.specs.declared.site.Answer.TheVariants as answer

-- A method that the page answers (RFC 9110, sections 9.3.1 and 9.3.2).
abbrev pub is_read : List ℕ → Bool
is_read method = bytes_eq method (codes "GET") || bytes_eq method (codes "HEAD")

-- The response is a refusal.
abbrev pub IsRefused : WebRefusal → Response → Type 0
IsRefused refusal response = IsResponse (status_of refusal) (refusal_fields refusal) (body_of refusal) response

-- The response is a body with its head, or a refusal.
abbrev pub IsReply : Response → Type 0
IsReply response = ((content : Content) × (body : List ℕ) × IsResponse 200 (head_fields content) body response)
    ⊎ ((refusal : WebRefusal) × IsRefused refusal response)

-- The response answers a request: it is a reply, and refuses each method but GET and HEAD.
pub record Answers (request : Request (List ℕ)) (response : Response) : Type 0 where
  pub reply : IsReply response
  pub method : is_read (head_of request).method ≡ false → IsRefused MethodNotAllowed response

-- The text is the list of a reader's workspaces, over some journal and at some time.
abbrev pub IsSomeList : Rights → List ℕ → Type 0
IsSomeList rights text = (j : Journal) × (now : Option ℤ) × IsList rights j now text

-- The answer is JSON that is the list of a reader's workspaces.
abbrev pub AnswersList : Rights → Answer → Type 0
AnswersList rights (answer.Json text) = IsSomeList rights (string_bytes text)
AnswersList rights (answer.File file) = ⊥

-- What a reader may be answered. About all workspaces: the list for the reader, or a refusal. About
-- a workspace that the reader may not read: that it doesn't exist.
abbrev pub IsFor : Rights → Asked → Result Answer WebRefusal → Type 0
IsFor rights asked.Workspaces (Ok answer) = AnswersList rights answer
IsFor rights asked.Workspaces (Err refusal) = Unit {0}
IsFor rights (asked.Workspace name question) found = ¬ (Reads rights name) → found ≡ Err NoName
IsFor rights (asked.File file) found = Unit {0}

-- The user that a header field names: its text, if it is a valid name.
abbrev pub IsUserIn : Option FieldValue → Option (List ℕ) → Type 0
IsUserIn None user = user ≡ None
IsUserIn (Some value) None = IsVisibleAscii value.bytes → ¬ (IsUser value.bytes)
IsUserIn (Some value) (Some user) = (user ≡ value.bytes) × IsUser user

-- What a user may be answered by an access file: with the rights that its patterns give, or that the
-- file can't be used. Without a user: that the request names none.
abbrev pub IsForUser : Option (List ℕ) → Asked → Result Answer WebRefusal → Type 0
IsForUser None asked found = found ≡ Err NoUser
IsForUser (Some user) asked found = (found ≡ Err NoAccessFile)
    ⊎ ((patterns : List Re) × IsFor (Some (patterns, user)) asked found)

-- What a request with this header field may be answered by an access file.
abbrev pub IsForField : Option FieldValue → Asked → Result Answer WebRefusal → Type 0
IsForField field asked found = (user : Option (List ℕ)) × IsUserIn field user × IsForUser user asked found
