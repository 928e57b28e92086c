-- The names are computed.
use Rattle.std.proofs.Common.{refl}
use Rattle.std.specs.Path.{rsplit_once}
use Rattle.percent_encoding.specs.Percent.{percent_decode}
use Rattle.tfs_across.specs.Address.{name_in}
use Rattle.tfs_across.proofs.laws.addresses_name_workspaces.Goals as goal

pub returns-clause-plain : goal.returns-clause-plain
unfolding name_in rsplit_once percent_decode
returns-clause-plain c = refl

pub returns-clause-prefix : goal.returns-clause-prefix
unfolding name_in rsplit_once percent_decode
returns-clause-prefix c = refl

pub returns-clause-escaped : goal.returns-clause-escaped
unfolding name_in rsplit_once percent_decode
returns-clause-escaped c = refl

pub returns-clause-host : goal.returns-clause-host
unfolding name_in rsplit_once percent_decode
returns-clause-host c = refl

pub returns-clause-other : goal.returns-clause-other
unfolding name_in rsplit_once percent_decode
returns-clause-other c = refl

pub returns-clause-deeper : goal.returns-clause-deeper
unfolding name_in rsplit_once percent_decode
returns-clause-deeper c = refl

pub returns-clause-relative : goal.returns-clause-relative
unfolding name_in rsplit_once percent_decode
returns-clause-relative c = refl
