-- Lemmas: a session reports only positions beyond all that it had seen, and made their changes.
use Rattle.std.proofs.Common.{◌≡◌, ◌<◌, ◌≤◌, ℕ, zero, suc, List, [], ◌∷◌, ◌++◌, length, refl, sym, ◌∙◌, ap, subst, arith, append_assoc, append-nil, length-append}
use mathlib.Core.List.{IsPrefix}
use Rattle.tfs_records.specs.Journal.{Journal, BaseValue, position_of}
use Rattle.tfs_calls.specs.Reply.{ReplyValue, done, state, impact, refused}
use Rattle.tfs_published.specs.Beginning.{BeginsWith}
use Rattle.tfs_shared.specs.Signed.{makers_told}
use Rattle.tfs_shared.specs.View.{SessionView}
use Rattle.tfs_serve.specs.Session.{KeepsCount, CaughtUpStep, accepted_by}
use Rattle.tfs_serve.specs.Serving.{accepted_in}
use Rattle.tfs_serve.specs.Told.{position_told, positions_told, times}
use Rattle.tfs_serve.specs.Working.{Answer, Gives}
use Rattle.tfs_serve.proofs.Later.{step_later}
use Rattle.tfs_serve.proofs.Telling.{IsMadeAt, made_later, times_alone, times_both, times_few}
use Rattle.std.proofs.lemmas.List.Sums.{sum_by-cons}

-- The session has advanced and has reported these positions, each once: the position of a change
-- that it made, beyond all that it had seen.
pub record Tells (opening : Journal) (old new : SessionView) (told : List ℕ) : Type 0 where
  pub number : new.number ≡ old.number
  pub seen : IsPrefix old.makers new.makers
  pub later : position_of old.journal ≤ position_of new.journal
  pub once : (p : ℕ) → times p told ≤ 1
  pub made : (p : ℕ) → 1 ≤ times p told → (position_of old.journal < p) × (p ≤ position_of new.journal) × IsMadeAt opening new.makers p old.number

-- A journal isn't at a lower position than one that it begins with.
pub begins_lower : (j k : Journal) → BeginsWith j k → position_of k ≤ position_of j
begins_lower j k begins =
    let base = ap (λ (b : BaseValue). b.position) begins.base in
    let entries = ap length begins.entries.1 in
    omega (arith, base, entries, length-append k.entries begins.entries.0)

-- A prefix of a prefix is a prefix.
prefix_then : (xs ys zs : List ℕ) → IsPrefix xs ys → IsPrefix ys zs → IsPrefix xs zs
prefix_then xs ys zs p q =
    (p.0 ++ q.0, sym (append_assoc xs p.0 q.0) ∙ ap (λ (l : List ℕ). l ++ q.0) p.1 ∙ q.1)

-- A session may advance without reporting a position.
tells_nothing : (opening : Journal) (old new : SessionView) → new.number ≡ old.number → IsPrefix old.makers new.makers
    → position_of old.journal ≤ position_of new.journal → Tells opening old new []
tells_nothing opening old new number seen later = record {
  number = number;
  seen = seen;
  later = later;
  once = λ p. omega arith;
  made = λ p some. absurd (omega (arith, some));
}

-- A session that gave a reply has reported the position in it, if there is one.
tells_reply : (opening : Journal) (old new : SessionView) (reply : ReplyValue) → KeepsCount opening old reply new
    → position_of old.journal ≤ position_of new.journal → Tells opening old new (position_told reply)
tells_reply opening old new reply count later = by reply count
  where
    seen : IsPrefix old.makers new.makers
    seen = prefix_then old.makers count.signed.before new.makers count.signed.fresh
        (makers_told old.number reply, sym count.signed.made)

    by : (r : ReplyValue) → KeepsCount opening old r new → Tells opening old new (position_told r)
    by (done p) told =
        let at = told.numbered p refl in
        let made = ap length told.signed.made in
        let counted = told.signed.counted in
        record {
          number = told.signed.number;
          seen = seen;
          later = later;
          once = λ q. times_few q p;
          made = λ q some.
              let same : p ≡ q = times_alone q p some in
              subst (λ (n : ℕ). (position_of old.journal < n) × (n ≤ position_of new.journal) × IsMadeAt opening new.makers n old.number) same (
                at.1,
                omega (arith, at.0),
                record {
                  front = told.signed.before;
                  rest = [];
                  parts = told.signed.made;
                  position_is = omega (arith, at.0, made, counted, length-append told.signed.before (old.number ∷ []));
                },
              );
        }
    by (state d) told = tells_nothing opening old new told.signed.number seen later
    by (impact d chosen position) told = tells_nothing opening old new told.signed.number seen later
    by (refused refusal) told = tells_nothing opening old new told.signed.number seen later

-- A session that has reported positions and then others has reported all of them.
tells_then : (opening : Journal) (a b c : SessionView) (xs ys : List ℕ) → Tells opening a b xs → Tells opening b c ys
    → Tells opening a c (xs ++ ys)
tells_then opening a b c xs ys first then = record {
  number = then.number ∙ first.number;
  seen = prefix_then a.makers b.makers c.makers first.seen then.seen;
  later = omega (arith, first.later, then.later);
  once = λ p. once p (times p xs) (times p ys) refl refl;
  made = λ p some. made p (times p xs) refl some;
}
  where
    early : (p : ℕ) → 1 ≤ times p xs → p ≤ position_of b.journal
    early p some = (first.made p some).1

    late : (p : ℕ) → 1 ≤ times p ys → position_of b.journal < p
    late p some = (then.made p some).0

    once : (p n m : ℕ) → times p xs ≡ n → times p ys ≡ m → times p (xs ++ ys) ≤ 1
    once p zero m x y = omega (arith, x, times_both p xs ys, then.once p)
    once p (suc n) zero x y = omega (arith, y, times_both p xs ys, first.once p)
    once p (suc n) (suc m) x y = absurd (omega (arith, early p (omega (arith, x)), late p (omega (arith, y))))

    made : (p n : ℕ) → times p xs ≡ n → 1 ≤ times p (xs ++ ys)
        → (position_of a.journal < p) × (p ≤ position_of c.journal) × IsMadeAt opening c.makers p a.number
    made p zero x some =
        let is = then.made p (omega (arith, x, some, times_both p xs ys)) in
        let above = is.0 in
        (omega (arith, above, first.later), is.1, subst (λ (n : ℕ). IsMadeAt opening c.makers p n) first.number is.2)
    made p (suc n) x some =
        let is = first.made p (omega (arith, x)) in
        let within = is.1 in
        (is.0, omega (arith, within, then.later), made_later opening b.makers c.makers p a.number then.seen is.2)

-- A session that may have caught up and then gave an answer has reported the position in it.
tells_step : (opening : Journal) (old new : SessionView) (a : Answer) → CaughtUpStep opening old a.call a.reply new
    → Tells opening old new (position_told a.reply)
tells_step opening old new a step =
    let caught = step.1.signed in
    tells_then opening old step.0 new [] (position_told a.reply) (tells_nothing opening old step.0 caught.number
    (prefix_then old.makers caught.before step.0.makers caught.fresh ([], sym caught.made)) (begins_lower step.0.journal old.journal step.1.seen))
    (tells_reply opening step.0 new a.reply step.2.0
    (begins_lower new.journal step.0.journal (step_later opening step.0 new a.call a.reply step.2).seen))

-- A session that gave answers has reported the positions in them.
pub gives_tells : (opening : Journal) (old new : SessionView) (answers : List Answer) → Gives opening old answers new
    → Tells opening old new (positions_told answers)
gives_tells opening old new [] gives =
    subst (λ (v : SessionView). Tells opening old v []) (sym gives) (tells_nothing opening old old refl ([], append-nil old.makers) (omega arith))
gives_tells opening old new (a ∷ more) gives =
    tells_then opening old gives.0 new (position_told a.reply) (positions_told more) (tells_step opening old gives.0 a gives.1)
    (gives_tells opening gives.0 new more gives.3)

-- A reply reports as many positions as it counts accepted changes: 1 or 0.
counted_told : (reply : ReplyValue) → length (position_told reply) ≡ accepted_by reply
counted_told (done p) = refl
counted_told (state d) = refl
counted_told (impact d chosen position) = refl
counted_told (refused refusal) = refl

-- Answers report as many positions as they count accepted changes.
pub as_many_told : (answers : List Answer) → length (positions_told answers) ≡ accepted_in answers
as_many_told [] = refl
as_many_told (a ∷ more) =
    let rest = as_many_told more in
    omega (
      arith,
      counted_told a.reply,
      rest,
      length-append (position_told a.reply) (positions_told more),
      sum_by-cons
          (λ (b : Answer). accepted_by b.reply) a more,
    )
