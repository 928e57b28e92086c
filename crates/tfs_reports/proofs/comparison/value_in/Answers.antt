-- The reader's value is the text's, because the text is UTF-8.
use Rattle.std.proofs.Common.{◌≡◌, refl, ◌∙◌}
use Rattle.std.proofs.lemmas.Str.{is_utf8-from_IsUtf8}
use Rattle.serde_json.specs.Read.{read}
use Rattle.tfs_json.specs.Json.{json_value}
use Rattle.tfs_reports.proofs.comparison.value_in.Goals as goal

pub returns-in-Ok : goal.returns-in-Ok
returns-in-Ok c =
    let same : json_value c.args.text.now ≡ read c.args.text.now = rw (is_utf8-from_IsUtf8 c.args.text.now c.in-Ok.ensures.ok.0) refl in
    same ∙ c.in-Ok.ensures.ok.1
