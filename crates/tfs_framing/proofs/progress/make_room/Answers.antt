-- If the message is unfinished, bytes of its body are missing.
use Rattle.std.proofs.Common.{sym, subst, arith}
use Rattle.tfs_framing.specs.Decoder.{HasRoomFor, IsAt}
use Rattle.tfs_framing.specs.declared.progress.Progress.{Progress}
use Rattle.tfs_framing.proofs.DecoderLemmas.{apart_lacks}
use Rattle.tfs_framing.proofs.progress.make_room.Goals as goal

pub returns-in-Sized-clause-room : goal.returns-in-Sized-clause-room
returns-in-Sized-clause-room c =
    let apart = subst (λ (p : Progress). IsAt c.requires.0 p c.args.unused.now.items) c.in-Sized.is c.requires.1 in
    let few = apart_lacks c.requires.0 c.args.unused.now.items c.in-Sized.sized apart c.requires.2 in
    let own = c.in-Sized.sized.body.ok in
    let size = c.len.ensures in
    let least = c.min.ensures in (
      subst (λ (p : Progress). HasRoomFor c.min.result p c.args.unused.now.spare) (sym c.in-Sized.is) (omega arith),
      omega arith,
      omega arith,
    )
