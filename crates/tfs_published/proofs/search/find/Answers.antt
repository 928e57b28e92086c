-- The number is the name's, and the result is the state that the acts of the name leave.
use Rattle.std.proofs.Common.{sym, subst, ap, IfSome}
use Rattle.tfs_rules.specs.History.{state_of}
use Rattle.tfs_published.specs.Lookup.{IsLookup}
use Rattle.tfs_published.specs.Place.{place_view}
use Rattle.tfs_published.specs.declared.place.Place.{Place}
use Rattle.tfs_published.proofs.Finding.{lookup_at, number_at, acts_nowhere}
use Rattle.tfs_published.proofs.search.find.Goals as goal

pub returns-in-Some-clause-number : goal.returns-in-Some-clause-number
returns-in-Some-clause-number c = λ j are.
    number_at c.args.name.now j c.args.places.now c.in-Some.number c.index-places-number.result (sym c.in-Some.ensures.value) are

pub returns-in-Some-clause-lookup : goal.returns-in-Some-clause-lookup
returns-in-Some-clause-lookup c = λ j are.
    let place = c.index-places-number.result in
    let here = subst (λ (p : Place). IfSome (place_view p) (λ view. IsLookup c.at.result view.state)) c.index-places-number.is c.at.ensures.value in
    lookup_at c.args.name.now j c.args.places.now c.in-Some.number place c.at.result (sym c.in-Some.ensures.value) here are

pub returns-in-None-clause-number : goal.returns-in-None-clause-number
returns-in-None-clause-number c = λ j are. acts_nowhere c.args.name.now j c.args.places.now (sym c.in-None.ensures.value) are

pub returns-in-None-clause-lookup : goal.returns-in-None-clause-lookup
returns-in-None-clause-lookup c = λ j are. ap state_of (acts_nowhere c.args.name.now j c.args.places.now (sym c.in-None.ensures.value) are)
