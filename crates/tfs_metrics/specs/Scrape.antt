-- Answers to requests for the numbers of a server.
use Rattle.std.specs.Prelude.{ℕ, ◌||◌, if◌then◌else◌, List, codes, bytes_eq}
use Rattle.http.specs.Request.{head_of}
use Rattle.http.specs.declared.request.Request.{Request}
use Rattle.http_uri.specs.Uri.{uri_path}

-- The status of the answer to a request for a path by a method (RFC 9110, section 15.5): 404 for
-- any path other than `/metrics`, and then 405 for any method other than GET and HEAD.
abbrev pub status_of_path : List ℕ → List ℕ → ℕ
status_of_path path method =
    if bytes_eq path (codes "/metrics") then (if bytes_eq method (codes "GET") || bytes_eq method (codes "HEAD") then 200 else 405) else 404

-- The status of the answer to a request.
abbrev pub status_for : Request (List ℕ) → ℕ
status_for request = status_of_path (uri_path (head_of request).uri) (head_of request).method
