-- The parameter `name` is the part of the path.
use Rattle.std.proofs.Common.{subst, MatchOption}
use Rattle.tfs_http.specs.Routing.{IsPathOf, route_of}
use Rattle.tfs_http.proofs.TargetLemmas.{part_found, none_found}
use Rattle.tfs_http.proofs.routes.Routes.find.Goals as goal

pub returns-in_default-clause-absent : goal.returns-in_default-clause-absent
returns-in_default-clause-absent c = none_found c.args.path.now c.self.inside.router c.self.invariant c.type_inv.path c.in_default.ensures.missing

pub returns-in-Some-clause-found : goal.returns-in-Some-clause-found
returns-in-Some-clause-found c =
    let params = c.in-Ok.found.params in
    subst (λ o. MatchOption o ⊥ (λ part. IsPathOf (route_of c.in-Ok.found.value.now) c.args.path.now part.now)) c.in-Some.is
    (part_found c.get.result c.args.path.now params.path.now params.pattern.now params.text.now params.names.now
    c.in-Ok.found.value.now c.self.inside.router c.self.invariant c.type_inv.path c.utf8.path c.in-Ok.ensures.path c.in-Ok.ensures.found c.get.ensures)

pub returns-in-None-clause-absent : goal.returns-in-None-clause-absent
returns-in-None-clause-absent c =
    let params = c.in-Ok.found.params in
    absurd (subst (λ o. MatchOption o ⊥ (λ part. IsPathOf (route_of c.in-Ok.found.value.now) c.args.path.now part.now)) c.in-None.is
    (part_found c.get.result c.args.path.now params.path.now params.pattern.now params.text.now params.names.now
    c.in-Ok.found.value.now c.self.inside.router c.self.invariant c.type_inv.path c.utf8.path c.in-Ok.ensures.path c.in-Ok.ensures.found c.get.ensures))
