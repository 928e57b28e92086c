-- The share has the parts and the amounts of the sessions so far.
use Rattle.std.proofs.Common.{◌≡◌, ◌+◌, ◌*◌, ◌≤◌, length, sum_by}
use Rattle.tfs_shared.specs.View.{counted_for}
use Rattle.tfs_shared.proofs.merge.merge_shares.Given as goal

abbrev pub invariant-loop-session : goal.invariant-loop-session
invariant-loop-session g l = record {
  parts : l.all.parts ≡ 1 + length l.yielded;
  amount : l.all.amount ≡ l.initial.all.amount + sum_by counted_for l.yielded;
  few : sum_by (λ session. session.accepted) l.yielded ≤ 65536 * length l.yielded;
  apart : l.all.parts ≤ g.J.Ledger.parts;
}
