-- The value found so far, if any, and the values of the remaining fields are all values.
use Rattle.std.proofs.Common.{◌≡◌, ◌++◌, length, map, All}
use Rattle.std.specs.Option.{option_to_list, option_copied}
use Rattle.httparse.specs.Spans.{IsHeaderWithin, header_bytes}
use Rattle.tfs_framing.specs.Fields.{lower, values_named}
use Rattle.tfs_framing.proofs.fields.values_like.Given as goal

abbrev pub invariant-loop-field : goal.invariant-loop-field
invariant-loop-field l = record {
  within : All (IsHeaderWithin (length l.head)) l.rest;
  values : values_named (lower l.name) (map (header_bytes l.head) l.fields)
      ≡ option_to_list (option_copied l.found) ++ values_named (lower l.name) (map (header_bytes l.head) l.rest);
}

abbrev pub decreases-loop-field : goal.decreases-loop-field
decreases-loop-field l = length l.rest
