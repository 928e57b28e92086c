-- A body is complete if at least the stated number of bytes has arrived.
use Rattle.std.proofs.Common.{[], length, refl, sym, ap, arith, append-nil}
use Rattle.tfs_framing.specs.declared.lines.BodyLength.TheVariants.{Sized}
use Rattle.tfs_framing.proofs.HeadLemmas.{halves}
use Rattle.tfs_framing.proofs.OpensLemmas.{more_framed, opens_unfinished, whole_anyway, whole_framed}
use Rattle.tfs_framing.proofs.WantedLemmas.{too_few}
use Rattle.tfs_framing.proofs.framing.frame_sized.Goals as goal

pub returns-then-rest-size-clause-ok : goal.returns-then-rest-size-clause-ok
returns-then-rest-size-clause-ok c = λ bytes k.
    more_framed bytes c.args.rest.now [] 0 c.begin_sized-progress.result
    (opens_unfinished bytes c.args.rest.now c.args.request (Sized c.args.size) k (too_few c.args.size c.args.rest.now c.if-rest-size.true))
    (c.args.rest.now, sym (append-nil c.args.rest.now)) refl (omega arith)
    (c.begin_sized-progress.ensures.at bytes k) c.begin_sized-progress.ensures.over

pub returns-in_err-body-clause-memory : goal.returns-in_err-body-clause-memory
returns-in_err-body-clause-memory c = λ bytes k.
    let enough = c.if-rest-size.false in
    let size = c.split_at.ensures.front_len in
    whole_anyway _ bytes c.args.rest.now c.split_at.result.0.now c.split_at.result.0.now c.split_at.result.1.now c.args.request (Sized c.args.size) k
    (halves _ _ _ _ c.split_at.ensures.front c.split_at.ensures.back) (refl, omega arith)

pub returns-in_err-request-clause-memory : goal.returns-in_err-request-clause-memory
returns-in_err-request-clause-memory c = λ bytes k.
    let enough = c.if-rest-size.false in
    let size = c.split_at.ensures.front_len in
    whole_anyway _ bytes c.args.rest.now c.split_at.result.0.now c.split_at.result.0.now c.split_at.result.1.now c.args.request (Sized c.args.size) k
    (halves _ _ _ _ c.split_at.ensures.front c.split_at.ensures.back) (refl, omega arith)

pub returns-clause-ok : goal.returns-clause-ok
returns-clause-ok c = λ bytes k.
    let enough = c.if-rest-size.false in
    let size = c.split_at.ensures.front_len in
    let same = ap length c.in_ok-body.ensures.items in
    let parts = halves _ _ _ _ c.split_at.ensures.front c.split_at.ensures.back in
    whole_framed bytes c.args.rest.now c.split_at.result.0.now c.in_ok-body.body.items c.split_at.result.1.now c.args.rest.now c.args.request
    (Sized c.args.size) c.in_ok-request.field-0 _ (length c.split_at.result.1.now) k parts (sym c.in_ok-body.ensures.items, omega arith)
    c.in_ok-request.was c.complete-request.ensures (c.split_at.result.0.now, parts) refl
