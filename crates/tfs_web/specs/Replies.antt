-- The head fields of replies.
use Rattle.std.specs.Prelude.{ℕ, List, [], ◌∷◌, ◌++◌, codes}
use Rattle.http1.specs.Fields.{Header}
use Rattle.tfs_web.specs.declared.refusal.WebRefusal.{WebRefusal}
use Rattle.tfs_web.specs.declared.refusal.WebRefusal.TheVariants.{MethodNotAllowed}
use Rattle.tfs_web.specs.declared.replies.Content.{Content}
use Rattle.tfs_web.specs.declared.replies.Content.TheVariants.{Html, Styles, Script, Json}

-- The type of a body (RFC 9110, section 8.3).
abbrev pub type_of : Content → List ℕ
type_of Html = codes "text/html; charset=utf-8"
type_of Styles = codes "text/css; charset=utf-8"
type_of Script = codes "text/javascript; charset=utf-8"
type_of Json = codes "application/json"

-- How long a body may be kept (RFC 9111, section 5.2.2).
abbrev pub keeping_of : Content → List ℕ
keeping_of Json = codes "no-store"
keeping_of _ = codes "no-cache"

-- The fields for a body.
abbrev pub content_fields : Content → List Header
content_fields content = (codes "content-type", type_of content) ∷ (codes "cache-control", keeping_of content) ∷ []

-- What the browser may do with a reply: load scripts, styles and answers of this server alone, and
-- send nothing elsewhere (Content Security Policy, level 3).
unfoldable pub policy_text : List ℕ
policy_text = codes "default-src 'none'; script-src 'self'; style-src 'self'; connect-src 'self'; img-src 'self' data:; base-uri 'none'; form-action 'none'; frame-ancestors 'none'"

-- The fields that keep the browser from guessing a type and from telling other sites the address.
abbrev pub caution_fields : List Header
caution_fields = (codes "x-content-type-options", codes "nosniff") ∷ (codes "referrer-policy", codes "no-referrer") ∷ []

-- The fields that say what the browser may do.
abbrev pub policy_fields : List Header
policy_fields = (codes "content-security-policy", policy_text) ∷ caution_fields

-- The fields of a head.
abbrev pub head_fields : Content → List Header
head_fields content = content_fields content ++ policy_fields

-- The fields of a refusal's head. After a refused method they name the allowed ones (RFC 9110,
-- section 15.5.6).
abbrev pub refusal_fields : WebRefusal → List Header
refusal_fields MethodNotAllowed = head_fields Json ++ (codes "allow", codes "GET, HEAD") ∷ []
refusal_fields _ = head_fields Json
