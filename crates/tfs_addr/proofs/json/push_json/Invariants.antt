-- The bytes written so far and those left to write are the JSON form of the text.
use Rattle.std.proofs.Common.{◌≡◌, ◌++◌}
use Rattle.std.specs.Prelude.{string_bytes}
use Rattle.std.specs.Str.Iter.{chars_rest}
use Rattle.tfs_addr.specs.Steps.{after_quote}
use Rattle.tfs_addr.proofs.json.push_json.Given as goal

abbrev pub invariant-loop-c : goal.invariant-loop-c
invariant-loop-c l =
    (goal.iterator-loop-c).can_next l.c-iterator × (goal.iterator-loop-c).is_finite l.c-iterator
    × (string_bytes l.out ++ after_quote (chars_rest l.c-iterator) ≡ string_bytes l.initial.out ++ after_quote l.text)
