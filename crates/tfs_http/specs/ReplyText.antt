-- The text of a reply (RFC 9112, section 4). Each line ends with CR LF.
use Rattle.std.specs.Prelude.{ℕ, ◌==◌, nat_lt, List, [], ◌∷◌, ◌++◌, length, find, codes, decimal, option_map, if◌then◌else◌}
use Rattle.std.specs.List.{filter_map}
use Rattle.std.specs.Option.{option_map_or}
use Rattle.serde_json.specs.Data.{Data, unsigned, number, string, array, object, member, no_members}
use Rattle.serde_json.specs.View.{items_of}
use Rattle.serde_json.specs.Written.{compact_text}
use Rattle.tfs_state.specs.Document.{Document}
use Rattle.tfs_state.specs.Dependency.{address_of}
use Rattle.tfs_calls.specs.Reply.{ReplyValue, done, state, impact, refused}
use Rattle.tfs_calls.specs.Refusal.{RefusalValue, locked, method_not_allowed, row_of}
use Rattle.tfs_http.specs.Routing.{methods_of}
use Rattle.tfs_framing.specs.declared.request.Form.{Form}

-- A line with its end.
abbrev pub line : List ℕ → List ℕ
line text = text ++ codes "\r\n"

-- The statuses of replies with their phrases (RFC 9110, section 15; RFC 4918, sections 11.3 and
-- 11.5; RFC 6585, section 5).
abbrev pub phrases : List (ℕ × List ℕ)
phrases =
    (200, codes "OK")
    ∷ (400, codes "Bad Request")
    ∷ (404, codes "Not Found")
    ∷ (405, codes "Method Not Allowed")
    ∷ (409, codes "Conflict")
    ∷ (413, codes "Content Too Large")
    ∷ (423, codes "Locked")
    ∷ (431, codes "Request Header Fields Too Large")
    ∷ (500, codes "Internal Server Error")
    ∷ (501, codes "Not Implemented")
    ∷ (503, codes "Service Unavailable")
    ∷ (507, codes "Insufficient Storage")
    ∷ []

-- The phrase of a status, or the empty text for a status that no reply has.
abbrev pub phrase_of : ℕ → List ℕ
phrase_of status = option_map_or (λ row. row.1) (find (λ row. status == row.0) phrases) []

-- The status of a reply: 200, or the status of its refusal.
abbrev pub status_of : ReplyValue → ℕ
status_of (done position) = 200
status_of (state d) = 200
status_of (impact d chosen position) = 200
status_of (refused refusal) = (row_of refusal).status

-- The line with the version, the status and its phrase.
abbrev pub status_line : ℕ → List ℕ
status_line status = line (codes "HTTP/1.1 " ++ decimal status ++ codes " " ++ phrase_of status)

-- The items of a list, with a comma and a space between each two (RFC 9110, section 5.6.1).
abbrev pub list_text : List (List ℕ) → List ℕ
list_text [] = []
list_text (item ∷ []) = item
list_text (item ∷ next ∷ items) = item ++ (codes ", " ++ list_text (next ∷ items))

-- The line with the methods that the route accepts (RFC 9110, section 10.2.1), if the request has
-- another method.
abbrev pub allow_line : ReplyValue → List ℕ
allow_line (refused (method_not_allowed methods)) = line (codes "Allow: " ++ list_text (methods_of methods))
allow_line _ = []

-- The line that announces the end of the conversation after the reply, if it ends (RFC 9112,
-- section 9.6).
abbrev pub close_line : Form → List ℕ
close_line form = if form.close then line (codes "Connection: close") else []

-- The line with the type of the body, JSON, if there is a body (RFC 9110, section 8.3).
abbrev pub type_line : List ℕ → List ℕ
type_line body = if nat_lt 0 (length body) then line (codes "Content-Type: application/json") else []

-- The line with the length of the body (RFC 9110, section 8.6).
abbrev pub length_line : List ℕ → List ℕ
length_line body = line (codes "Content-Length: " ++ decimal (length body))

-- JSON with the name of a refusal.
abbrev pub name_body : RefusalValue → List ℕ
name_body refusal = codes "{\"error\":\"" ++ (row_of refusal).name ++ codes "\"}"

-- The body of a refusal: the holder's information, byte for byte as it arrived, if a lock refuses;
-- otherwise JSON with the refusal's name.
abbrev pub refusal_body : RefusalValue → List ℕ
refusal_body (locked info) = info.bytes
refusal_body refusal = name_body refusal

-- The addresses of the instances with these numbers in a document, as JSON texts in the order of
-- the numbers. Numbers without an instance are skipped.
abbrev pub address_texts : Document → List ℕ → List Data
address_texts d chosen = filter_map (λ i. option_map string (address_of d i)) chosen

-- JSON with the addresses of the chosen instances, the position of the journal, and the serial of
-- the document.
abbrev pub impact_data : Document → List ℕ → ℕ → Data
impact_data d chosen position = object
    (member (codes "instances") (array (items_of (address_texts d chosen)))
    (member (codes "position") (number (unsigned position)) (member (codes "serial") (number (unsigned d.serial)) no_members)))

-- The text of that JSON, without spaces.
abbrev pub impact_body : Document → List ℕ → ℕ → List ℕ
impact_body d chosen position = compact_text (impact_data d chosen position)

-- The body of a reply. The body for a state is its bytes.
abbrev pub body_of : ReplyValue → List ℕ
body_of (done position) = []
body_of (state d) = d.bytes
body_of (impact d chosen position) = impact_body d chosen position
body_of (refused refusal) = refusal_body refusal

-- The body of the refusal is generated: it isn't the holder's information, which is borrowed.
abbrev pub IsNamed : RefusalValue → Type 0
IsNamed (locked info) = ⊥
IsNamed refusal = Unit {0}

-- The body is generated, which needs memory. The bytes of a state and the holder's information are
-- borrowed.
abbrev pub IsPrinted : ReplyValue → Type 0
IsPrinted (done position) = ⊥
IsPrinted (state d) = ⊥
IsPrinted (impact d chosen position) = Unit {0}
IsPrinted (refused refusal) = IsNamed refusal

-- The head of a reply, by its status, `Allow` line, form and body: the status line, the fields and
-- the empty line.
abbrev pub head_text : ℕ → List ℕ → Form → List ℕ → List ℕ
head_text status allow form body = status_line status ++ allow ++ close_line form ++ type_line body ++ length_line body ++ line []

-- The text of a reply: its head, and its body unless the form is bare (RFC 9110, section 9.3.2).
abbrev pub reply_text : ReplyValue → Form → List ℕ
reply_text reply form = head_text (status_of reply) (allow_line reply) form (body_of reply) ++ (if form.bare then [] else body_of reply)
