-- The next gate gets a member, with the last of the sessions that are left.
use Rattle.std.proofs.Common.{◌++◌, ◌∷◌, [], length, map, is_ok, arith, sym, ◌∙◌, ap, subst}
use Rattle.std.specs.Option.{option_to_list}
use Rattle.std.proofs.lemmas.List.{length-map, map-append, length_push}
use Rattle.tfs_serve.proofs.Returning.{HaveNumbers, numbers_more, pushed, without_last}
use Rattle.tfs_serve.proofs.crew.make_members.Goals as goal

pub loop-gate-preserved : goal.loop-gate-preserved
loop-gate-preserved g c =
    let opening = g.J.Naming.opening in
    let session = c.unwrap-session.result in
    let rest = c.pop.new.self.items in
    let is = c.pop.ensures.items ∙ ap (λ o. rest ++ option_to_list o) c.unwrap-session.ensures in
    let parts = without_last opening _ _ _ rest session c.loop-gate.invariant.new is in
    let full = pushed c.push.result is_ok _ c.loop-gate.members.items _ c.push.ensures.items (ap is_ok c.unwrap.ensures) in
    let left = c.loop-gate.invariant.left in
    let room = c.loop-gate.invariant.room in
    let capacity = c.push.ensures.capacity in
    let many = ap length is in
    let made = ap length c.loop-gate.invariant.gates in
    record {
      gates = ap (map _) full ∙ map-append _ c.loop-gate.members.items _ ∙ ap (λ l. l ++ c.in-Some.gate ∷ []) c.loop-gate.invariant.gates;
      sessions = subst (HaveNumbers (λ member. member.session) opening _ _) (sym full) (numbers_more (λ member. member.session) opening _ _
          c.loop-gate.members.items _ (length rest) c.loop-gate.invariant.sessions parts.1
          (omega (arith, left, many, made, length_push rest session, length-map c.loop-gate.members.items (λ m. m.gate))));
      room = omega (arith, room, capacity);
      left = omega (arith, left, many, length_push rest session, length_push c.loop-gate.yielded c.in-Some.gate);
      new = parts.0;
    }
