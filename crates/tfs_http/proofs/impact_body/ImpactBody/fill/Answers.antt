-- The addresses are produced before the ending.
use Rattle.std.proofs.Common.{◌≡◌, ◌≤◌, ◌-◌, ◌∙◌, List, ℕ, ◌++◌, length, drop, arith, ap, sym}
use Rattle.std.proofs.lemmas.Bool.{eqb-true}
use Rattle.std.proofs.lemmas.List.{nil_from_length}
use Rattle.tfs_http.specs.Pieces.{place_text}
use Rattle.tfs_http.proofs.EscapedLemmas.{end_of}
use Rattle.tfs_http.proofs.PieceLemmas.{told_before, told_behind}
use Rattle.tfs_http.proofs.impact_body.ImpactBody.fill.Goals as goal

pub returns-then-not-is_empty-clause-joined : goal.returns-then-not-is_empty-clause-joined
returns-then-not-is_empty-clause-joined c =
    let d = c.self.inside.version.now in
    told_before c.tell_addresses-self-inside.new.out.items c.args.out.now.items (place_text d c.tell_addresses-self-inside.result)
    (place_text d c.self.inside.place) (drop c.self.inside.told c.self.inside.ending.items) c.args.self.now c.tell_addresses-self-inside.ensures.joined
    (sym c.self.view_is)

pub returns-clause-joined : goal.returns-clause-joined
returns-clause-joined c =
    let d = c.self.inside.version.now in
    let items = c.self.inside.ending.items in
    let now = place_text d c.tell_addresses-self-inside.result in
    let left = c.tell-left.result.now in
    let begun = c.tell_addresses-self-inside.result.begun.plain.now in
    let size : length c.as_slice-ending.result.now ≡ length items = ap length c.as_slice-ending.ensures.value in
    let within : c.self.inside.told ≤ length items = omega (arith, c.self.invariant, size, c.as_slice-ending.ensures.len) in
    let behind : c.split_at.result.1.now ≡ drop c.self.inside.told items =
    c.split_at.ensures.back ∙ ap (drop c.self.inside.told) c.as_slice-ending.ensures.value in
    let end : left ≡ drop (length c.as_slice-ending.result.now - length left) items =
    end_of items c.split_at.result.1.now left c.self.inside.told (length c.as_slice-ending.result.now) behind within size c.tell-left.ensures.left in
    ap (λ (t : List ℕ). c.tell-left.new.out.items ++ (now ++ t)) (sym end)
    ∙ told_behind c.tell-left.new.out.items c.tell_addresses-self-inside.new.out.items c.args.out.now.items now (place_text d c.self.inside.place)
    (drop c.self.inside.told items) left c.args.self.now c.tell_addresses-self-inside.ensures.joined
    (c.tell_addresses-self-inside.ensures.done (nil_from_length begun (eqb-true (length begun) 0 (sym c.is_empty.ensures ∙ c.if-not-is_empty.false))))
    (c.tell-left.ensures.joined ∙ ap (λ (t : List ℕ). c.tell_addresses-self-inside.new.out.items ++ t) behind) (sym c.self.view_is)
