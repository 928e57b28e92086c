-- Lemmas about paths.
use Rattle.std.proofs.Common.{◌≡◌, ℕ, List, ◌++◌, codes, None, false, sym, ◌∙◌}
use Rattle.std.specs.Str.{bytes_eq}
use Rattle.std.proofs.lemmas.Slice.Eq.{bytes_eq-Decides}
use Rattle.std.proofs.lemmas.Bool.{false≢true}
use Rattle.std.proofs.lemmas.Option.{none-some}
use Rattle.tfs_web.specs.Routes.{Shows, ShowsWorkspace, file_at}
use Rattle.tfs_web.specs.declared.routes.WebRoute.{WebRoute}
use Rattle.tfs_web.specs.declared.routes.WebRoute.TheVariants.{File, Workspaces, Workspace}

-- A path that no file has and that isn't the list's shows at most a workspace.
pub below_list : (path : List ℕ) → file_at path ≡ None → bytes_eq path (codes "/api/workspaces") ≡ false
    → ((named : List ℕ) (route : WebRoute) → path ≡ codes "/api/workspaces/" ++ named → ¬ (ShowsWorkspace named route))
    → (route : WebRoute) → ¬ (Shows path route)
below_list path no_file no_list none (File file) shows = none-some file (sym no_file ∙ shows)
below_list path no_file no_list none Workspaces shows = false≢true (sym no_list ∙ (bytes_eq-Decides path (codes "/api/workspaces")).1 shows)
below_list path no_file no_list none (Workspace name view) (named, is, own) = none named (Workspace name view) is own
