-- Routing every request has an outcome, and only one.
use Rattle.tfs_http.proofs.EachRequest.{each_routed, routed_once}
use Rattle.tfs_http.proofs.laws.what_becomes_of_a_request_is_one_thing.Goals as goal

pub returns-clause-each : goal.returns-clause-each
returns-clause-each c = each_routed

pub returns-clause-once : goal.returns-clause-once
returns-clause-once c = routed_once
