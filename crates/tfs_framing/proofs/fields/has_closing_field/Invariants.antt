-- No field so far lists `close`.
use Rattle.std.proofs.Common.{◌≡◌, length, map, codes, All}
use Rattle.std.specs.List.{list_any}
use Rattle.httparse.specs.Spans.{IsHeaderWithin, header_bytes}
use Rattle.tfs_framing.specs.Fields.{values_named}
use Rattle.tfs_framing.specs.Connection.{lists_close}
use Rattle.tfs_framing.proofs.fields.has_closing_field.Given as goal

abbrev pub invariant-loop-field : goal.invariant-loop-field
invariant-loop-field l = record {
  within : All (IsHeaderWithin (length l.head)) l.rest;
  same : list_any lists_close (values_named (codes "connection") (map (header_bytes l.head) l.fields))
      ≡ list_any lists_close (values_named (codes "connection") (map (header_bytes l.head) l.rest));
}

abbrev pub decreases-loop-field : goal.decreases-loop-field
decreases-loop-field l = length l.rest
