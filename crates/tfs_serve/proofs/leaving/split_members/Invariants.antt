-- The sessions and the outcomes of the members so far.
use Rattle.std.proofs.Common.{◌≡◌, ◌≤◌, is_some, length, map, vec_capacity}
use Rattle.tfs_records.specs.Journal.{position_of}
use Rattle.tfs_serve.proofs.leaving.split_members.Given as goal

abbrev pub invariant-loop-member : goal.invariant-loop-member
invariant-loop-member g l = record {
  sessions : l.sessions.items ≡ map (λ member. member.session) l.yielded;
  served : l.all.items ≡ map (λ member. record {
    gate = member.gate;
    failed = is_some member.fault;
    fault = member.fault;
    seen = position_of member.session.journal;
    accepted = member.session.accepted;
    written = member.written;
  }) l.yielded;
  sessions_room : length l.fn.members.items ≤ vec_capacity l.sessions;
  served_room : length l.fn.members.items ≤ vec_capacity l.all;
}
