-- The next place is the next number's; after the last number there are all places.
use Rattle.std.proofs.Common.{arith, ◌∙◌}
use Rattle.tfs_published.specs.Published.{place_given}
use Rattle.tfs_published.proofs.Places.{one_place_more, all_places, as_many_places}
use Rattle.tfs_published.proofs.published.places_of.Goals as goal

pub loop-number-preserved : goal.loop-number-preserved
loop-number-preserved g c =
    one_place_more (place_given c.args.table.now.journal) _ _ _ _ (omega (arith, c.loop-number-test.true)) c.in_ok-push.ensures.items
    c.loop-number.invariant c.in_ok-first_place.ensures.value

pub returns-clause-value : goal.returns-clause-value
returns-clause-value g c =
    all_places (place_given c.args.table.now.journal) c.loop-number.places.items c.loop-number.number (omega (arith, c.loop-number-test.false))
    c.loop-number.invariant

pub returns-clause-wide : goal.returns-clause-wide
returns-clause-wide g c =
    let f = place_given c.args.table.now.journal in
    let all = all_places f c.loop-number.places.items c.loop-number.number (omega (arith, c.loop-number-test.false)) c.loop-number.invariant in
    c.loop-number.places.ok.0 ∙ as_many_places f c.loop-number.places.items all
