-- Each member is split, and there is space for all.
use Rattle.std.proofs.Common.{rules, ◌≡◌, length, map, sym, ◌∙◌, ap, arith}
use Rattle.std.proofs.lemmas.List.{length-map, map-id}
use Rattle.std.proofs.lemmas.Iterator.Adapters.{YieldsList-from_vec}
use Rattle.std.proofs.lemmas.Iterator.Consumers.{YieldsList-turn, YieldsList-end}
use Rattle.tfs_serve.proofs.leaving.split_members.Goals as goal

pub returns-clause-sessions : goal.returns-clause-sessions
returns-clause-sessions g c =
    let road = YieldsList-from_vec {s = c.into_iter-member-iterator.result} c.args.members.items c.into_iter-member-iterator.ensures.into_iter_gives.0
    (search rules) in
    let end = YieldsList-end road c.loop-member.yielded c.loop-member.member-iterator c.loop-member.yielded_by c.next.result c.next.new.self
    c.in-None.is c.next.ensures.steps in
    c.loop-member.invariant.sessions ∙ ap (map (λ member. member.session)) (sym (map-id c.loop-member.yielded) ∙ end.0)

pub returns-clause-served : goal.returns-clause-served
returns-clause-served g c =
    let road = YieldsList-from_vec {s = c.into_iter-member-iterator.result} c.args.members.items c.into_iter-member-iterator.ensures.into_iter_gives.0
    (search rules) in
    let end = YieldsList-end road c.loop-member.yielded c.loop-member.member-iterator c.loop-member.yielded_by c.next.result c.next.new.self
    c.in-None.is c.next.ensures.steps in
    c.loop-member.invariant.served ∙ ap (map _) (sym (map-id c.loop-member.yielded) ∙ end.0)

pub unwrap-requires-in-loop-member : goal.unwrap-requires-in-loop-member
unwrap-requires-in-loop-member g c =
    let road = YieldsList-from_vec {s = c.into_iter-member-iterator.result} c.args.members.items c.into_iter-member-iterator.ensures.into_iter_gives.0
    (search rules) in
    let turn = YieldsList-turn road c.loop-member.yielded c.loop-member.member-iterator c.loop-member.yielded_by c.next.result c.next.new.self
    c.in-Some.member c.in-Some.is c.next.ensures.steps in
    let room = c.loop-member.invariant.served_room in
    let inside = turn.0 in
    let many : length c.loop-member.all.items ≡ length c.loop-member.yielded = ap length c.loop-member.invariant.served ∙ length-map _ _ in
    let len : c.loop-member.all.len ≡ length c.loop-member.all.items = search rules in
    c.push-in-loop-member.ensures.succeeds (omega (arith, room, inside, many, len))
