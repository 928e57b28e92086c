-- The decoded part of the address.
use Rattle.std.proofs.Common.{◌∙◌, Some, ap}
use Rattle.std.specs.Option.{option_map}
use Rattle.percent_encoding.specs.Percent.{percent_decode}
use Rattle.tfs_across.specs.Address.{name_in}
use Rattle.tfs_across.proofs.address.name_in.Goals as goal

pub returns-in_ok-decode-in-Some : goal.returns-in_ok-decode-in-Some
unfolding name_in
returns-in_ok-decode-in-Some c = ap Some c.in_ok-decode-in-Some.ensures ∙ ap (option_map percent_decode) c.in-Some.ensures

pub returns-in-None : goal.returns-in-None
unfolding name_in
returns-in-None c = ap (option_map percent_decode) c.in-None.ensures
