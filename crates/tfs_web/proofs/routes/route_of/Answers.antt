-- The part after `/api/workspaces/` is one text.
use Rattle.std.proofs.Common.{rules, ◌≡◌, ◌∙◌, sym, None, false, List, ℕ, ◌++◌, codes, subst}
use Rattle.std.specs.Str.{bytes_eq}
use Rattle.std.proofs.lemmas.List.{append_cancel_left}
use Rattle.std.proofs.lemmas.Result.{IfOk-weaker}
use Rattle.tfs_web.specs.Routes.{ShowsWorkspace, file_at}
use Rattle.tfs_web.proofs.RouteLemmas.{below_list}
use Rattle.tfs_web.proofs.routes.route_of.Goals as goal

pub returns-in-Some-strip_prefix-clause-none : goal.returns-in-Some-strip_prefix-clause-none
returns-in-Some-strip_prefix-clause-none c =
    let path = c.args.path.now in
    let own = c.in-Some-strip_prefix.named.now in
    let no_file : file_at path ≡ None = search rules in
    let no_list : bytes_eq path (codes "/api/workspaces") ≡ false = search rules in
    let whole : path ≡ codes "/api/workspaces/" ++ own = search rules in
    IfOk-weaker c.named_route.result _ _
    (λ found none is. below_list path no_file no_list (λ named route same.
    subst (λ (rest : List ℕ). ShowsWorkspace rest route → ⊥)
    (append_cancel_left (codes "/api/workspaces/") own named (sym whole ∙ same)) (none is route)))
    c.named_route.ensures.none

pub returns-in-None-clause-none : goal.returns-in-None-clause-none
returns-in-None-clause-none c =
    let path = c.args.path.now in
    let no_file : file_at path ≡ None = search rules in
    let no_list : bytes_eq path (codes "/api/workspaces") ≡ false = search rules in
    λ is. below_list path no_file no_list (λ named route same own. c.in-None.ensures.cases named same)
