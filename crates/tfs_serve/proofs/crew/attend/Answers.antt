-- Each worker has served, from the opening journal to the last one.
use Rattle.std.proofs.Common.{◌≡◌, ◌+◌, true, List, length, sum_by, All, refl, sym, ◌∙◌, ap, subst}
use Rattle.tfs_published.specs.Beginning.{BeginsWith}
use Rattle.tfs_shared.specs.Signed.{AreSigned}
use Rattle.tfs_shared.specs.Stops.{as_number}
use Rattle.tfs_shared.specs.View.{SessionView}
use Rattle.tfs_serve.proofs.Running.{run_of}
use Rattle.tfs_serve.proofs.crew.attend.Goals as goal

pub returns-in-Ok : goal.returns-in-Ok
returns-in-Ok g c =
    let told = g.G.Gate.told in
    let opening = g.J.Naming.opening in
    let last = c.in-Ok.table.journal in
    let sessions = c.split_members-sessions.ensures.sessions in
    let begun = subst (λ (l : List SessionView). All (λ (s : SessionView). BeginsWith last s.journal) l) sessions c.in-Ok.ensures.seen in
    let signed = subst (λ (l : List SessionView). AreSigned opening last l) sessions c.in-Ok.ensures.signed in
    let faulted = sym (ap (λ (l : List SessionView). sum_by (λ (s : SessionView). as_number s.faulted) l) sessions) ∙ c.in-Ok.ensures.faulted in
    let stopped = subst (λ (l : List SessionView). All (λ (s : SessionView). s.stopped ≡ true → c.in-Ok.table.stopped ≡ true) l) sessions
    c.in-Ok.ensures.stopped in
    let grows = c.in-Ok.ensures.counted
    ∙ ap (λ (l : List SessionView). length opening.entries + sum_by (λ (s : SessionView). s.accepted) l) sessions in
    record {
      run = run_of g.H.Hold.durable (λ m. m.gate) told (λ m. m.session) (λ m. m.fault) (λ m. m.written.value) _ _ opening last c.args.crew.stopped
          c.in-Ok.table.stopped c.args.crew.gates.items c.make_members-members.result.items
          c.run_members-members.result.items c.split_members-sessions.result.1.items (λ m. refl) c.make_members-members.ensures.gates
          c.split_members-sessions.ensures.served c.requires.some c.in-Ok.ensures.lawful c.in-Ok.ensures.opening
          c.make_members-members.ensures.sessions c.run_members-members.ensures.caused c.run_members-members.ensures.worked c.run_members-members.ensures.len begun signed
          grows (faulted, stopped);
      kept = tt;
    }
