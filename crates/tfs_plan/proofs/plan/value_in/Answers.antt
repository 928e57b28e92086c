-- The reader's value is the text's, because the text is UTF-8.
use Rattle.std.proofs.Common.{◌≡◌, refl, subst, ◌∙◌, true, false}
use Rattle.std.specs.Bool.{IsTrue}
use Rattle.std.proofs.lemmas.Str.{is_utf8-from_IsUtf8}
use Rattle.serde_json.specs.Read.{read}
use Rattle.tfs_json.specs.Json.{json_value}
use Rattle.tfs_plan.proofs.PlanLemmas.{no_value, not_json}
use Rattle.tfs_plan.proofs.plan.value_in.Goals as goal

pub returns-in-Ok-clause-ok : goal.returns-in-Ok-clause-ok
returns-in-Ok-clause-ok c =
    let same : json_value c.args.bytes.now ≡ read c.args.bytes.now = rw (is_utf8-from_IsUtf8 c.args.bytes.now c.in-Ok.ensures.ok.0) refl in
    same ∙ c.in-Ok.ensures.ok.1

pub returns-else-is_memory-clause-err : goal.returns-else-is_memory-clause-err
returns-else-is_memory-clause-err c = λ other. not_json c.args.bytes.now (no_value c.args.bytes.now (c.in-Err.ensures.err
    (λ memory. let told : false ≡ true = subst IsTrue c.if-is_memory.false (c.is_memory.ensures.1 memory) in cc)))
