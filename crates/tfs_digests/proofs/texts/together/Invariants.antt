use Rattle.std.proofs.Common.{◌≡◌, min}
use Rattle.tfs_digests.specs.Blocks.{block_count, hash_of_blocks}
use Rattle.tfs_digests.specs.Lanes.{hash_of}
use Rattle.tfs_digests.proofs.texts.together.Given as goal

abbrev pub invariant-loop-i : goal.invariant-loop-i
invariant-loop-i l =
    (hash_of 0 l.state ≡ hash_of_blocks l.a (min l.i (block_count l.a)))
    × (hash_of 1 l.state ≡ hash_of_blocks l.b (min l.i (block_count l.b)))
    × (hash_of 2 l.state ≡ hash_of_blocks l.c (min l.i (block_count l.c)))
    × (hash_of 3 l.state ≡ hash_of_blocks l.d (min l.i (block_count l.d)))
