-- The vector of a sized body has capacity for all of its bytes.
use Rattle.std.proofs.Common.{length, refl, subst, arith}
use Rattle.tfs_framing.specs.Decoder.{HasRoomFor, IsAt}
use Rattle.tfs_framing.specs.declared.progress.Progress.{Progress}
use Rattle.tfs_framing.proofs.DecoderLemmas.{apart_more, grown}
use Rattle.tfs_framing.proofs.progress.put.Goals as goal

pub unwrap-requires : goal.unwrap-requires
unwrap-requires c =
    let apart = subst (λ (s : Progress). IsAt c.requires.at.0 s c.args.unused.now.items) c.in-Sized.is c.requires.at.1 in
    let room = apart.room in
    let few = subst (λ (s : Progress). HasRoomFor (length c.args.bytes.now) s c.args.unused.now.spare) c.in-Sized.is c.requires.room in
    let own = c.in-Sized.sized.body.ok in
    c.extend_from_slice.ensures.succeeds (omega arith)

pub returns-in-Sized-clause-at : goal.returns-in-Sized-clause-at
returns-in-Sized-clause-at c = λ old at.
    apart_more old c.args.unused.now.items c.args.bytes.now c.in-Sized.sized
    (record { request = c.in-Sized.sized.request; size = c.in-Sized.sized.size; body = c.extend_from_slice.new.self }) refl refl
    (subst (λ (s : Progress). IsAt old s c.args.unused.now.items) c.in-Sized.is at)
    (grown c.extend_from_slice.result c.unwrap.result _ _ _ c.unwrap.ensures c.extend_from_slice.ensures.items)
    (subst (λ (s : Progress). HasRoomFor (length c.args.bytes.now) s c.args.unused.now.spare) c.in-Sized.is c.requires.room)
    c.extend_from_slice.ensures.capacity
