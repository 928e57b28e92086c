-- A number that is written is parsed as itself.
use Rattle.std.proofs.Common.{◌≡◌, Some, Ok, decimal, sym, ap, ◌∙◌}
use Rattle.std.proofs.lemmas.Fmt.{parse-decimal}
use Rattle.tfs_store.proofs.number.read_number.Goals as goal

pub returns-in-Ok-clause-written : goal.returns-in-Ok-clause-written
returns-in-Ok-clause-written c n fits are =
    let gives : c.parse.result ≡ Ok n = parse-decimal 64 n c.args.text.now c.parse.result fits fits are c.parse.ensures.value.0 in
    let same : n ≡ c.in-Ok.number = cc in
    c.written_alike.ensures.written (are ∙ ap decimal same) ∙ ap Some (sym same)

pub returns-in-Err-clause-written : goal.returns-in-Err-clause-written
returns-in-Err-clause-written c n fits are =
    let gives : c.parse.result ≡ Ok n = parse-decimal 64 n c.args.text.now c.parse.result fits fits are c.parse.ensures.value.0 in
    absurd (cc)
