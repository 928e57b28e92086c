-- The bytes before the mark are units.
use Rattle.std.proofs.Common.{◌-◌, length, take, drop, sym, ap, ◌∙◌, arith, length-drop, take_all}
use Rattle.std.proofs.lemmas.List.{take-append-drop}
use Rattle.tfs_addr.specs.Address.{quote, backslash}
use Rattle.tfs_addr.specs.Steps.{units_rest}
use Rattle.tfs_addr.proofs.EitherLemmas.{either-front_bytes}
use Rattle.tfs_addr.proofs.EndLemmas.{units_rest-front}
use Rattle.tfs_addr.proofs.stripping.from_mark.Goals as goal

pub returns-clause-same : goal.returns-clause-same
returns-clause-same c =
    let bytes = c.args.bytes.now in
    let mark = c.unwrap_or-mark.result in
    let free = either-front_bytes quote backslash (omega arith) (omega arith) bytes c.find_either.result c.find_either.ensures in
    let front = rw (sym c.unwrap_or-mark.ensures) at free in
    ap units_rest (sym (take-append-drop mark bytes)) ∙ units_rest-front (take mark bytes) (drop mark bytes) front
    ∙ ap units_rest (sym (take_all (length bytes - mark) (drop mark bytes) (omega (arith, length-drop mark bytes))))
