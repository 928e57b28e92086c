-- A query over a lost version is answered over its state.
use Rattle.std.proofs.Common.{IsSome, inr, rules}
use Rattle.tfs_rules.specs.History.{state_of}
use Rattle.tfs_records.specs.Journal.{acts_of}
use Rattle.tfs_calls.specs.Refusal.{refusal_value}
use Rattle.tfs_calls.specs.Reply.{refused}
use Rattle.tfs_shared.proofs.Refusing.{lost_answer}
use Rattle.tfs_shared.proofs.session.Session.impact_within.Goals as goal

pub returns-in-Some-Lost-clause-answer : goal.returns-in-Some-Lost-clause-answer
returns-in-Some-Lost-clause-answer g c =
    let there : IsSome (state_of (acts_of c.args.name.now c.look_within.new.self.journal)) = search rules in
    inr (lost_answer c.look_within.new.self.journal c.args.name.now c.args.query.now (refused (refusal_value c.refusal_of_lost.result))
    c.in-Some-Lost.ensures.lawful there c.refusal_of_lost.ensures)
