-- Lemmas about results whose fault is returned unchanged.
use Rattle.std.proofs.Common.{◌≡◌, Result, Ok, Err, IfErr, sym, subst}
use Rattle.std.specs.Result.{IsErrAnd}

-- A property of a fault holds for the result that returns this fault.
pub err_carried : {T F : Type 0} (r : Result T F) (e : F) (P : F → Type 0) → IsErrAnd r (λ x. x ≡ e) → P e → IfErr r P
err_carried (Ok x) e P h p = absurd h
err_carried (Err x) e P h p = subst P (sym h) p
