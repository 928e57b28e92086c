-- What requests ask for, by their path and their query (RFC 9112, section 3.2.1). The query is read
-- as form data (URL Standard, section 5).
use Rattle.std.specs.Prelude.{◌≡◌, ◌⊎◌, ℕ, List, map, filter}
use Rattle.std.specs.Str.{bytes_eq}
use Rattle.std.specs.Str.Lossy.{utf8_lossy}
use Rattle.form_urlencoded.specs.Form.{decode}
use Rattle.tfs_web.specs.Routes.{Shows}
use Rattle.tfs_web.specs.declared.asked.Asked.{Asked}
use Rattle.tfs_web.specs.declared.asked.Asked.TheVariants as asked
use Rattle.tfs_web.specs.declared.asked.Question.{Question}
use Rattle.tfs_web.specs.declared.asked.Question.TheVariants as question
use Rattle.tfs_web.specs.declared.refusal.WebRefusal.{WebRefusal}
use Rattle.tfs_web.specs.declared.refusal.WebRefusal.TheVariants.{BadQuery, NoRoute}
use Rattle.tfs_web.specs.declared.routes.WebRoute.{WebRoute}
use Rattle.tfs_web.specs.declared.routes.WebRoute.TheVariants as routes
use Rattle.tfs_web.specs.declared.routes.WorkspaceView.{WorkspaceView}
use Rattle.tfs_web.specs.declared.routes.WorkspaceView.TheVariants as views

-- The decoded text of a name or a value; parts that aren't UTF-8 become U+FFFD.
abbrev pub decoded : List ℕ → List ℕ
decoded bytes = utf8_lossy (decode bytes)

-- The decoded values of all pairs with this name, in order.
abbrev pub all_values : List ℕ → List (List ℕ × List ℕ) → List (List ℕ)
all_values name pairs = map (λ pair. decoded pair.1) (filter (λ pair. bytes_eq (decoded pair.0) name) pairs)

-- The question belongs to the view.
abbrev pub IsQuestionOf : WorkspaceView → Question → Type 0
IsQuestionOf views.History question.History = Unit {0}
IsQuestionOf views.Changes (question.Changes from to) = Unit {0}
IsQuestionOf views.Instances question.Instances = Unit {0}
IsQuestionOf views.Impact (question.Impact is_all addresses) = Unit {0}
IsQuestionOf _ _ = ⊥

-- A request for a path asks for what the path shows.
abbrev pub IsAskedAt : List ℕ → Asked → Type 0
IsAskedAt path (asked.File file) = Shows path (routes.File file)
IsAskedAt path asked.Workspaces = Shows path routes.Workspaces
IsAskedAt path (asked.Workspace name own) = (view : WorkspaceView)
    × Shows path (routes.Workspace name view) × IsQuestionOf view own

-- A request is refused because its path shows nothing, or because its path shows a workspace and
-- its query isn't that of the view.
abbrev pub IsRefusedAt : List ℕ → WebRefusal → Type 0
IsRefusedAt path refusal = ((refusal ≡ NoRoute) × ((route : WebRoute) → ¬ (Shows path route)))
    ⊎ ((refusal ≡ BadQuery) × ((name : List ℕ) × (view : WorkspaceView) × Shows path (routes.Workspace name view)))
