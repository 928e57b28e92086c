-- All that the reception has read and written came since it began.
use Rattle.std.proofs.Common.{is_some, sym, ◌∙◌, ap, subst}
use Rattle.tfs_serve.specs.Working.{HasReplied, end_of_work, nothing_written}
use Rattle.tfs_serve.proofs.Working.{replied_since}
use Rattle.tfs_serve.proofs.member.Member.run.Goals as goal
use Rattle.tfs_serve.proofs.member.Member.run.Goals.{in-Ok, in-Err}

pub returns-clause-worked : goal.returns-clause-worked
returns-clause-worked g c =
    let told = g.G.Gate.told in
    let old = c.args.self.now in
    let read = ap (λ w. w.read) c.of.ensures ∙ c.into_written.ensures.read in
    let texts = ap (λ w. w.texts) c.of.ensures ∙ c.into_written.ensures.texts in
    let new = c.new-reception.ensures in
    elim c.match-work_over.branch [
      | in-Ok w ↦ subst (λ m. HasReplied g.H.Hold.durable g.J.Naming.opening (told old.gate) (told m.gate) old.session m.session (end_of_work (is_some m.fault)) nothing_written
          c.of.result.value) (sym w.self-is)
          (replied_since _ _ _ _ _ _ _ _ _ _ new.read new.written read texts w.in-Ok.ensures.worked)
      | in-Err w ↦ subst (λ m. HasReplied g.H.Hold.durable g.J.Naming.opening (told old.gate) (told m.gate) old.session m.session (end_of_work (is_some m.fault)) nothing_written
          c.of.result.value) (sym w.self-is)
          (replied_since _ _ _ _ _ _ _ _ _ _ new.read new.written read texts w.in-Err.ensures.broken)
    ]
