-- Distinct keys have distinct texts, and the inserted text is at its index.
use Rattle.std.proofs.Common.{◌∙◌, ap, slice_get, map, string_bytes}
use Rattle.std.proofs.lemmas.Result.{IfOk-weaker}
use Rattle.tfs_state.proofs.NamesLemmas.{keys_apart, stored_text}
use Rattle.tfs_state.proofs.names.Names.number.Goals as goal

pub invariant_of-self-2 : goal.invariant_of-self-2
invariant_of-self-2 c = keys_apart c.insert_full.new.self.keys c.insert_full.ensures.unique

pub returns-clause-ok : goal.returns-clause-ok
returns-clause-ok c =
    let stored = c.in_ok-number.ensures.stored in
    let at = stored_text c.insert_full.new.self.keys c.in_ok-number.number c.args.text stored.0 stored.1 stored.2 in
    IfOk-weaker c.short.result _ _ (λ n same. ap (slice_get (map string_bytes c.insert_full.new.self.keys)) same ∙ at) c.short.ensures.ok
