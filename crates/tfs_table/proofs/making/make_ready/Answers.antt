-- The change is ready because the journal accepts its entry.
use Rattle.std.proofs.Common.{◌≡◌, None, sym, ap, subst}
use Rattle.tfs_rules.specs.Act.{act_value}
use Rattle.tfs_records.specs.Journal.{Journal, EntryValue}
use Rattle.tfs_calls.specs.Transition.{act_refusal, open_model}
use Rattle.tfs_table.proofs.TableLemmas.{is_ready}
use Rattle.tfs_table.proofs.making.make_ready.Goals as goal

pub invariant_of-result : goal.invariant_of-result
invariant_of-result c =
    let given : Journal = record { base = c.args.base.now; entries = c.args.entries.now.items } in
    let is = c.prepared.invariant in
    is_ready _ c.args.base.now _ c.args.entries.now.items c.prepared.inside.entry c.prepared.inside.name c.number_after-number.result
    (act_value c.prepared.inside.act) c.args.workspaces.now _ _ c.of.ensures (ap (λ v. v.items) c.of-2.ensures) is.name is.act is.read
    is.text
    c.requires.workspaces c.in-Ok.ensures.value (c.number_after-number.ensures given (act_value c.prepared.inside.act)
    c.requires.workspaces)
    c.requires.lawful
    (subst (λ (x : EntryValue). act_refusal (open_model given) x.name x.act ≡ None) (sym c.prepared.view_is) c.requires.accepted)
