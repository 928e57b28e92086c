-- Without the whole body more bytes are needed; with it, the bytes begin with a message.
use Rattle.std.proofs.Common.{◌≡◌, ◌<◌, [], Ok, length, refl, sym, arith, append-nil}
use Rattle.tfs_framing.specs.declared.lines.BodyLength.TheVariants.{Sized}
use Rattle.tfs_framing.proofs.DecoderLemmas.{apart_wants}
use Rattle.tfs_framing.proofs.OpensLemmas.{whole_framed}
use Rattle.tfs_framing.proofs.progress.fill.Goals as goal

pub returns-then-len-sized : goal.returns-then-len-sized
returns-then-len-sized c = λ bytes apart.
    let own = c.args.sized.body.ok in
    let size = c.len.ensures in
    let some = c.if-len-sized.true in
    let few : length c.args.sized.body.items < c.args.sized.size = omega arith in
    (apart_wants bytes [] c.args.sized apart few, ([], ([], refl), refl, omega arith, apart, refl))

pub returns : goal.returns
returns c = λ bytes apart.
    let own = c.args.sized.body.ok in
    let size = c.len.ensures in
    let none = c.if-len-sized.false in
    let within = apart.within in
    let full : length c.args.sized.body.items ≡ c.args.sized.size = omega arith in
    whole_framed bytes c.args.sized.body.items c.args.sized.body.items c.args.sized.body.items [] [] (Ok c.args.sized.request)
    (Sized c.args.sized.size) c.args.sized.request _ 0 apart.opens (sym (append-nil c.args.sized.body.items)) (refl, full) refl
    c.complete-request.ensures ([], refl) refl
