-- The first comma ends the first part; a text without a comma is a single part.
use Rattle.std.proofs.Common.{ap, sym, ◌+◌, ◌-◌, arith, take, drop, length, length-drop, ◌∷◌, ◌∙◌}
use Rattle.std.proofs.lemmas.List.{take_all}
use Rattle.tfs_framing.specs.Connection.{parts_of}
use Rattle.tfs_framing.proofs.ConnectionLemmas.{parts_at, parts_whole}
use Rattle.tfs_framing.proofs.fields.split_at_comma.Goals as goal

pub returns-in-Some-clause-found : goal.returns-in-Some-clause-found
returns-in-Some-clause-found c =
    let first = c.in-Some.ensures in
    let text = c.args.text.now in
    let behind = drop (c.in-Some.place + 1) text in
    let size = length-drop (c.in-Some.place + 1) text in
    parts_at text c.in-Some.place first.0.high first.1 first.0.before
    ∙ ap (λ t. take c.in-Some.place text ∷ parts_of t) (sym (take_all (length text - (c.in-Some.place + 1)) behind (omega arith)))

pub returns-in-None-clause-absent : goal.returns-in-None-clause-absent
returns-in-None-clause-absent c = parts_whole c.args.text.now c.in-None.ensures
