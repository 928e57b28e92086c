-- Each number adds its address, if it has one.
use Rattle.std.proofs.Common.{◌≤◌, ◌∷◌, [], ap, sym, subst, ◌∙◌, map, get_or, Some, None, append-nil}
use Rattle.std.proofs.lemmas.List.{map-append}
use Rattle.serde_json.specs.View.{view}
use Rattle.tfs_http.proofs.AnswerLemmas.{one_more, none_past}
use Rattle.tfs_http.proofs.answer.addresses.Goals.{then-number-len+in_ok-address+in_ok-push, else-number-len}
use Rattle.tfs_http.proofs.answer.addresses.Goals as goal

pub loop-number-preserved : goal.loop-number-preserved
loop-number-preserved c =
    let old = map view c.loop-number.texts.items in
    let within = c.loop-number-test.true in
    elim c.if-number-len.branch [
      | then-number-len+in_ok-address+in_ok-push w ↦ ap (λ t. map view t.items) w.texts-is
          ∙ ap (map view) (w.in_ok-push.ensures.items)
          ∙ map-append view c.loop-number.texts.items (w.in_ok-address.field-0 ∷ [])
          ∙ one_more c.args.doc.now c.args.chosen.now c.loop-number.number-index old (Some (view w.in_ok-address.field-0)) within
          c.loop-number.invariant w.in_ok-address.ensures
      | else-number-len w ↦ ap (λ t. map view t.items) w.texts-is
          ∙ sym (append-nil old)
          ∙ one_more c.args.doc.now c.args.chosen.now c.loop-number.number-index old None within
          c.loop-number.invariant
          (none_past c.args.doc.now (get_or c.args.chosen.now c.loop-number.number-index 0)
          (subst (λ n. n ≤ get_or c.args.chosen.now c.loop-number.number-index 0) c.len.ensures.value w.if-number-len.false))
    ]
