-- The members of the row are the result.
use Rattle.std.proofs.Common.{◌≡◌, ◌∙◌, ℕ, List, map, length, Some, Bor, sym, ap, subst, arith}
use Rattle.std.specs.Arc.{arc_value}
use Rattle.std.proofs.Math.ListN.{length-map}
use Rattle.tfs_state.specs.Document.{Document}
use Rattle.tfs_index.specs.Impact.{all_impact}
use Rattle.tfs_index.specs.Index.{HasIndex}
use Rattle.tfs_index.proofs.ImpactLemmas.{fault_of_texts, no_all, all_members, some_text}
use Rattle.tfs_index.proofs.LawLemmas.{all_listed}
use Rattle.tfs_index.proofs.version.Version.all.Goals as goal

pub returns-in-Some-clause-memory : goal.returns-in-Some-clause-memory
returns-in-Some-clause-memory c is =
    absurd (fault_of_texts c.deref.result.now (map (λ (t : Bor (List ℕ)). t.now) c.args.texts.now)
    (sym c.first_fault.ensures ∙ c.in-Some.is ∙ ap Some is))

pub returns-in_default-index-clause-ok : goal.returns-in_default-index-clause-ok
returns-in_default-index-clause-ok c =
    let none : length (arc_value c.self.inside.doc).instances ≡ 0 = subst (HasIndex (arc_value c.self.inside.doc)) c.in_default-index.is c.self.invariant.0 in
    c.new.ensures.items
    ∙ no_all c.args.self.now (map (λ (t : Bor (List ℕ)). t.now) c.args.texts.now)
    (subst (λ (d : Document). length d.instances ≡ 0) c.self.view_is none)

pub returns-clause-ok : goal.returns-clause-ok
returns-clause-ok c =
    c.in_ok-members.ensures.members
    ∙ all_members c.deref-2.result.now c.args.texts.now c.in_ok-row.row c.in_ok-row.ensures.size c.in_ok-row.ensures.members
    ∙ ap (λ (d : Document). all_impact d (map (λ (t : Bor (List ℕ)). t.now) c.args.texts.now)) (c.deref-2.ensures ∙ c.self.view_is)

pub all_row-requires-clause-some : goal.all_row-requires-clause-some
all_row-requires-clause-some c =
    let long = length-map c.args.texts.now (λ (t : Bor (List ℕ)). t.now) in
    let some = some_text c.deref.result.now (map (λ (t : Bor (List ℕ)). t.now) c.args.texts.now) (sym c.first_fault.ensures ∙ c.in_default.is) in
    omega (arith, long, some)

pub returns-in_default-index-clause-walks : goal.returns-in_default-index-clause-walks
returns-in_default-index-clause-walks c =
    all_listed c.args.self.now (map (λ (t : Bor (List ℕ)). t.now) c.args.texts.now) _ (returns-in_default-index-clause-ok c)

pub returns-clause-walks : goal.returns-clause-walks
returns-clause-walks c = all_listed c.args.self.now (map (λ (t : Bor (List ℕ)). t.now) c.args.texts.now) _ (returns-clause-ok c)
