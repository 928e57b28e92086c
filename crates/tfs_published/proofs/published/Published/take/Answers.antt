-- The copy after an update.
use Rattle.std.proofs.Common.{refl}
use Rattle.std.proofs.lemmas.List.{map-set}
use Rattle.tfs_published.specs.Place.{place_view}
use Rattle.tfs_published.proofs.published.Published.take.Goals as goal

pub returns : goal.returns
returns c = record {
  value = rw (
    ← c.self.view_is,
    ← c.update.view_is,
    map-set place_view c.self.inside.places.items c.update.inside.number c.place_for.result,
    c.place_for.ensures.value,
    c.again.ensures.value,
    c.again-2.ensures.value,
  ) refl;
}
