-- The numbers and the limits of the readers so far, and those that are left, are the earlier readers'
-- and all given.
use Rattle.std.proofs.Common.{◌≡◌, ◌++◌, length, map}
use Rattle.std.specs.Io.Take.{take_limit}
use Rattle.tfs_files.specs.Zeros.{limit_of}
use Rattle.tfs_files.proofs.readers.add_readers.Given as goal

abbrev pub invariant-loop-number : goal.invariant-loop-number
invariant-loop-number l = record {
  numbers : map (λ one. one.number) l.readers.items ++ l.rest ≡ map (λ one. one.number) l.initial.readers.items ++ l.numbers;
  limits : map (λ one. take_limit one.reader.inner) l.readers.items ++ map (limit_of l.zeros) l.rest
      ≡ map (λ one. take_limit one.reader.inner) l.initial.readers.items ++ map (limit_of l.zeros) l.numbers;
}

abbrev pub decreases-loop-number : goal.decreases-loop-number
decreases-loop-number l = length l.rest
