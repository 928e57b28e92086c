-- The listed text and the addresses left after it are the addresses that were left before.
use Rattle.std.proofs.Common.{◌≡◌, ◌≤◌, ◌<◌, ◌+◌, ◌-◌, ◌++◌, ◌∙◌, List, ℕ, Bool, length, drop, arith, sym, ap, subst, true, if◌then◌else◌}
use Rattle.tfs_http.specs.Pieces.{addresses_left}
use Rattle.tfs_http.proofs.PieceLemmas.{listed_told}
use Rattle.tfs_http.proofs.pieces.listed_place.Goals.{then-later, else-later}
use Rattle.tfs_http.proofs.pieces.listed_place.Goals as goal

pub returns-clause-some : goal.returns-clause-some
returns-clause-some c =
    let d = c.args.version.now in
    let first = c.in_ok-first.first.now in
    let end = c.run_end-end.result in
    let text = c.in_ok-text.text.now in
    let shown = c.in_ok-shown.shown.now in
    let behind = c.split_at.result.1.now in
    let skipped : c.if-later.split_at_checked ≡ (if c.args.later then 0 else 2) =
    elim c.if-later.branch [
      | then-later w ↦ w.split_at_checked-is ∙ ap (λ (b : Bool). if b then 0 else 2) (sym w.if-later.true)
      | else-later w ↦ w.split_at_checked-is ∙ ap (λ (b : Bool). if b then 0 else 2) (sym w.if-later.false)
    ] in
    let some : 0 < end - first = omega (arith, c.run_end-end.ensures.within.0, c.if-end-first.false) in
    let inside : first + (end - first) ≤ length d.instances = omega (arith, c.in_ok-text.ensures.within.0, c.in_ok-text.ensures.within.1) in
    let long : (if c.args.later then 0 else 2) ≤ length text = subst (λ (n : ℕ). n ≤ length text) skipped c.in_ok-shown.ensures.cases.0 in
    ap (λ (t : List ℕ). t ++ addresses_left d true behind) c.plain.ensures
    ∙ listed_told d c.args.later c.args.numbers.now text shown behind first (end - first) c.run_end-end.ensures.run c.run_end-end.ensures.within.1 some inside
    c.in_ok-text.ensures.text long (c.in_ok-shown.ensures.cases.2 ∙ ap (λ (n : ℕ). drop n text) skipped) c.split_at.ensures.back
