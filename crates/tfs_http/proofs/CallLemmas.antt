-- Lemmas about the size of the states that calls carry.
use Rattle.std.proofs.Common.{◌≤◌, ℕ, List, length, sym, subst}
use Rattle.tfs_calls.specs.Draft.{CarriesFittingState}
use Rattle.tfs_calls.specs.declared.call.Call.{Call}
use Rattle.tfs_calls.specs.declared.call.Call.TheVariants.{Read, Change, Impact}
use Rattle.tfs_calls.specs.declared.call.Raw.TheVariants.{Lock, Unlock, Push, Delete}
use Rattle.tfs_framing.specs.Request.{RequestValue}
use Rattle.tfs_http.specs.Routing.{HasCall, HasChange}

-- If the body of a request has at most 16 MiB, its call carries a state that fits.
pub call_fits : (r : RequestValue) (call : Call) → HasCall r call → length r.body ≤ 16777216 → CarriesFittingState call
call_fits r (Read name) has fits = tt
call_fits r (Impact name query) has fits = tt
call_fits r (Change name (Push id body)) has fits =
    let change : HasChange r (Push id body) = has.1 in
    subst (λ (t : List ℕ). length t ≤ 16777216) (sym change.2) fits
call_fits r (Change name (Delete id)) has fits = tt
call_fits r (Change name (Lock body)) has fits = tt
call_fits r (Change name (Unlock body id)) has fits = tt
