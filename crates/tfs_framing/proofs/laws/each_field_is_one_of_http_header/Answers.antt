-- This holds of each field.
use Rattle.tfs_framing.proofs.FieldLemmas.{fields_taken}
use Rattle.tfs_framing.proofs.laws.each_field_is_one_of_http_header.Goals as goal

pub returns : goal.returns
returns c = record { fields = fields_taken }
