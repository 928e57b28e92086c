-- The number of texts is refused over any state.
use Rattle.std.proofs.Common.{◌≡◌, ◌<◌, ◌≤◌, length, Option, ap, sym, inl, inr, refl, rules}
use Rattle.std.specs.Option.{option_map_or}
use Rattle.tfs_calls.specs.Impact.{chosen_by}
use Rattle.tfs_calls.specs.Refusal.{RefusalValue}
use Rattle.tfs_calls.specs.Reply.{refused, impact}
use Rattle.tfs_calls.proofs.QueryLemmas.{no_text_refused, many_texts_refused}
use Rattle.tfs_shared.proofs.impact.refusal_of_lost.Goals as goal

pub returns-then-is_empty : goal.returns-then-is_empty
returns-then-is_empty c d position =
    let q = c.args.query.now in
    let none : length q.texts ≡ 0 = search rules in
    inl (sym (ap (λ (o : Option RefusalValue). option_map_or refused o (impact d (chosen_by d q) position)) (no_text_refused d q none)))

pub returns-then-texts-gt-MAX_TEXTS : goal.returns-then-texts-gt-MAX_TEXTS
returns-then-texts-gt-MAX_TEXTS c d position =
    let q = c.args.query.now in
    let many : 64 < length q.texts = search rules in
    inl (sym (ap (λ (o : Option RefusalValue). option_map_or refused o (impact d (chosen_by d q) position)) (many_texts_refused d q many)))

pub returns : goal.returns
returns c d position =
    let some : 0 < length c.args.query.now.texts = search rules in
    let few : length c.args.query.now.texts ≤ 64 = search rules in
    inr (refl, (some, few))
