-- The paths of the page's files and of its JSON.
use Rattle.std.specs.Prelude.{◌≡◌, ◌==◌, ℕ, List, ◌++◌, codes, Option, Some, None, if◌then◌else◌}
use Rattle.std.specs.List.{before_first, after_first}
use Rattle.std.specs.Str.{bytes_eq}
use Rattle.tfs_rules.specs.Name.{IsName}
use Rattle.tfs_web.specs.declared.routes.PageFile.{PageFile}
use Rattle.tfs_web.specs.declared.routes.PageFile.TheVariants as files
use Rattle.tfs_web.specs.declared.routes.WorkspaceView.{WorkspaceView}
use Rattle.tfs_web.specs.declared.routes.WorkspaceView.TheVariants as views
use Rattle.tfs_web.specs.declared.routes.WebRoute.{WebRoute}
use Rattle.tfs_web.specs.declared.routes.WebRoute.TheVariants as routes

-- The byte `/`.
abbrev pub slash : ℕ
slash = 47

-- The file with this path.
abbrev pub file_at : List ℕ → Option PageFile
file_at path = if bytes_eq path (codes "/") then Some files.Page
    else (if bytes_eq path (codes "/page.css") then Some files.Styles
    else (if bytes_eq path (codes "/page.js") then Some files.Script
    else (if bytes_eq path (codes "/parts.js") then Some files.Parts
    else (if bytes_eq path (codes "/workspaces.js") then Some files.Workspaces
    else (if bytes_eq path (codes "/workspace.js") then Some files.Workspace
    else (if bytes_eq path (codes "/impact.js") then Some files.Impact
    else (if bytes_eq path (codes "/layout.js") then Some files.Layout
    else (if bytes_eq path (codes "/graph.js") then Some files.Graph else None))))))))

-- The view of a workspace with this part of a path after the name and its slash.
abbrev pub view_at : List ℕ → Option WorkspaceView
view_at tail = if bytes_eq tail (codes "") then Some views.History
    else (if bytes_eq tail (codes "changes") then Some views.Changes
    else (if bytes_eq tail (codes "instances") then Some views.Instances
    else (if bytes_eq tail (codes "impact") then Some views.Impact else None)))

-- The part of a path after `/api/workspaces/` shows a workspace: a valid name, then nothing, or a
-- slash and the word of the view.
abbrev pub ShowsWorkspace : List ℕ → WebRoute → Type 0
ShowsWorkspace named (routes.Workspace name view) = IsName name
    × (name ≡ before_first (λ byte. byte == slash) named)
    × (view_at (after_first (λ byte. byte == slash) named) ≡ Some view)
ShowsWorkspace named _ = ⊥

-- What a path shows: a file, the workspaces at `/api/workspaces`, or a workspace below that.
abbrev pub Shows : List ℕ → WebRoute → Type 0
Shows path (routes.File file) = file_at path ≡ Some file
Shows path routes.Workspaces = path ≡ codes "/api/workspaces"
Shows path (routes.Workspace name view) = (named : List ℕ) × (path ≡ codes "/api/workspaces/" ++ named)
    × ShowsWorkspace named (routes.Workspace name view)
