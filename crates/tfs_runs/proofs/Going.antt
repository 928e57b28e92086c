-- Lemmas about successive runs.
use mathlib.Core.List.{IsPrefix}
use Rattle.std.proofs.Common.{◌≡◌, ◌+◌, ◌≤◌, ◌<◌, ℕ, All, suc, length, length-append, get_or, map, List, sum_by, [], ◌∷◌, ◌++◌, append-nil, Option, refl, sym, ◌∙◌, ap, subst, inl, inr, arith}
use Rattle.std.proofs.lemmas.Grind.{flat_map-append}
use Rattle.std.proofs.lemmas.List.Sums.{sum_by-cons, sum_by_push}
use Rattle.tfs_records.specs.Journal.{Journal, position_of}
use Rattle.tfs_calls.specs.Reply.{ReplyValue, done, state, impact, refused}
use Rattle.tfs_calls.specs.Transition.{TableModel}
use Rattle.tfs_published.specs.Beginning.{BeginsWith}
use Rattle.tfs_published.proofs.Beginnings.{begins_with_itself, begins_with_earlier}
use Rattle.tfs_serve.specs.Gate.{Event}
use Rattle.tfs_serve.specs.Hold.{IsDurable}
use Rattle.tfs_serve.specs.Serving.{ServedView, IsServed, IsRun, accepted_in, answers_on}
use Rattle.tfs_serve.specs.Session.{accepted_by}
use Rattle.tfs_serve.specs.Told.{AreToldOnce, position_told, positions_told, times}
use Rattle.tfs_serve.specs.Working.{Answer}
use Rattle.tfs_runs.specs.Runs.{ReturnedRun, IsReturnedRun, IsReturnedRunOf, LeadsTo, GoesBy, GoesOn, EndsOn, HoldsAll, HoldsJust, accepted_of, accepted_by_all, positions_on, positions_of_all}
use Rattle.tfs_runs.proofs.Once.{told_then}

-- A reply reports a position if and only if it reports a change as accepted.
one_told : (r : ReplyValue) → length (position_told r) ≡ accepted_by r
one_told (done position) = refl
one_told (state d) = refl
one_told (impact d chosen position) = refl
one_told (refused refusal) = refl

-- Answers report as many positions as accepted changes.
some_told : (answers : List Answer) → length (positions_told answers) ≡ accepted_in answers
some_told [] = refl
some_told (a ∷ more) =
    let one = one_told a.reply in
    let rest = some_told more in
    let lengths = length-append (position_told a.reply) (positions_told more) in
    let sums = sum_by-cons (λ (b : Answer). accepted_by b.reply) a more in omega (arith, one, rest, lengths, sums)

-- The opening journal of the next run has the position of the last journal.
leads_stays : (durable : ℕ → Type 0) (last next : TableModel) → LeadsTo durable last next → position_of next.journal ≡ position_of last.journal
leads_stays durable last next (inl compact) = compact.compacted.position
leads_stays durable last next (inr same) = ap (λ (m : TableModel). position_of m.journal) same

-- The positions of one more run follow the earlier positions.
positions_then : (t : ReturnedRun) (runs : List ReturnedRun) → positions_of_all (runs ++ t ∷ []) ≡ positions_of_all runs ++ t.positions
positions_then t runs =
    flat_map-append (λ (u : ReturnedRun). u.positions) runs (t ∷ []) ∙ ap (λ (l : List ℕ). positions_of_all runs ++ l) (append-nil t.positions)

-- A journal begins with itself.
pub begins_itself : (j : Journal) → BeginsWith j j
begins_itself = begins_with_itself

-- If the end is the last journal, and the placed journal is still the earlier one, the end begins
-- with it.
pub same_begins : (last end before after : Journal) → end ≡ last → after ≡ before → BeginsWith last before → BeginsWith end after
same_begins last end before after same placed begins =
    subst (λ (j : Journal). BeginsWith j after) (sym same) (subst (λ (p : Journal). BeginsWith last p) (sym placed) begins)

-- A prefix is at most as long as the list.
prefix_is_shorter : {A : Type 0} (xs ys : List A) → IsPrefix xs ys → length xs ≤ length ys
prefix_is_shorter [] ys begins = omega arith
prefix_is_shorter (x ∷ xs) [] begins = absurd (cc (begins.1))
prefix_is_shorter (x ∷ xs) (y ∷ ys) begins =
    let rest = prefix_is_shorter xs ys (begins.0, cc (begins.1)) in omega (arith, rest)

-- A beginning of a journal isn't at a higher position.
begins_below : (j earlier : Journal) → BeginsWith j earlier → position_of earlier ≤ position_of j
begins_below j earlier begins =
    let base = ap (λ b. b.position) begins.base in
    let shorter = prefix_is_shorter earlier.entries j.entries begins.entries in omega (arith, base, shorter)

-- The number of accepted changes of mapped outcomes is the sum over the elements.
pub accepted_mapped : {X : Type 0} (view : X → ServedView) (xs : List X) → accepted_of (map view xs) ≡ sum_by (λ (x : X). (view x).accepted) xs
accepted_mapped view [] = refl
accepted_mapped {X} view (x ∷ xs) =
    let one = sum_by-cons (λ (s : ServedView). s.accepted) (view x) (map view xs) in
    let same = sum_by-cons (λ (y : X). (view y).accepted) x xs in
    let more = accepted_mapped view xs in omega (arith, one, same, more)

-- The count after one more run is the sum of the counts.
pub counts_then : (before accepted more added now mid after : ℕ) → now ≡ before + accepted → mid ≡ now + added → more ≡ added → after ≡ mid
    → after ≡ before + (accepted + more)
counts_then before accepted more added now mid after counts counted same stays = omega (arith, counts, counted, same, stays)

-- Runs whose replies are held back until the journal is durable. This is known of the events that
-- their gates had heard before.
module _ (durable : ℕ → Type 0) (heard_before : Option (List Event) → Type 0) where
  -- The workers of a run report as many positions as accepted changes.
  all_told : (opening last : Journal) (workers : List (List (List Answer))) (told : List (Option (List Event))) (served : List ServedView)
      → length workers ≡ length told → length served ≡ length told
      → ((i : ℕ) (t : Option (List Event)) (s : ServedView) → i < length told
      → IsServed durable opening last (get_or workers i []) (get_or told i t) (get_or served i s))
      → length (positions_on workers) ≡ accepted_of served
  all_told opening last [] [] [] few same each = refl
  all_told opening last [] (t ∷ told) served few same each = absurd (omega (arith, few))
  all_told opening last (w ∷ workers) [] served few same each = absurd (omega (arith, few))
  all_told opening last [] [] (s ∷ served) few same each = absurd (omega (arith, same))
  all_told opening last (w ∷ workers) (t ∷ told) [] few same each = absurd (omega (arith, same))
  all_told opening last (w ∷ workers) (t ∷ told) (s ∷ served) few same each =
      let one = (each 0 t s (omega arith)).accepted_is in
      let more = all_told opening last workers told served (omega (arith, few)) (omega (arith, same))
      (λ i u v inside. each (suc i) u v (omega (arith, inside))) in
      let here = some_told (answers_on w) in
      let lengths = length-append (positions_told (answers_on w)) (positions_on workers) in
      let sums = sum_by-cons (λ (v : ServedView). v.accepted) s served in omega (arith, one, more, here, lengths, sums)

  -- A run reports as many positions as accepted changes.
  term_told : (opening : TableModel) (t : ReturnedRun) → IsReturnedRun durable heard_before opening t → length t.positions ≡ accepted_of t.served
  term_told opening t run =
      let its = run.run in
      ap length run.positions ∙ all_told opening.journal t.last.journal its.connections run.told t.served its.each.0 its.each.1 its.workers

  -- The last journal of a run is at the opening position plus the number of accepted changes.
  term_grows : (opening : TableModel) (t : ReturnedRun) → IsReturnedRun durable heard_before opening t
      → position_of t.last.journal ≡ position_of opening.journal + accepted_of t.served
  term_grows opening t run =
      let base = ap (λ b. b.position) run.run.begins.base in
      let grows = run.run.grows in omega (arith, base, grows)

  -- A run reports each of its positions once.
  term_once : (opening : TableModel) (t : ReturnedRun) → IsReturnedRun durable heard_before opening t → AreToldOnce opening.journal t.last.journal t.positions
  term_once opening t run p above within = ap (times p) run.positions ∙ run.run.once p above within

  -- Successive runs advance the position by the number of accepted changes.
  goes_by_grows : (first now : TableModel) (runs : List ReturnedRun) → GoesBy durable heard_before first runs now
      → position_of now.journal ≡ position_of first.journal + accepted_by_all runs
  goes_by_grows first now [] goes = let same = ap (λ (m : TableModel). position_of m.journal) goes in omega (arith, same)
  goes_by_grows first now (t ∷ runs) goes =
      let grows = term_grows first t goes.1 in
      let stays = leads_stays durable t.last goes.0 goes.2 in
      let more = goes_by_grows goes.0 now runs goes.3 in
      let all = sum_by-cons (λ (u : ReturnedRun). accepted_of u.served) t runs in omega (arith, grows, stays, more, all)

  -- Successive runs report as many positions as accepted changes.
  goes_by_told : (first now : TableModel) (runs : List ReturnedRun) → GoesBy durable heard_before first runs now → length (positions_of_all runs) ≡ accepted_by_all runs
  goes_by_told first now [] goes = refl
  goes_by_told first now (t ∷ runs) goes =
      let one = term_told first t goes.1 in
      let more = goes_by_told goes.0 now runs goes.3 in
      let lengths = length-append t.positions (positions_of_all runs) in
      let all = sum_by-cons (λ (u : ReturnedRun). accepted_of u.served) t runs in omega (arith, one, more, lengths, all)

  -- The difference of the two positions is the number of accepted changes.
  pub goes_on_grows : (first now : TableModel) (accepted : ℕ) → GoesOn durable heard_before first now accepted
      → position_of now.journal ≡ position_of first.journal + accepted
  goes_on_grows first now accepted goes =
      let counts = goes.counts in
      let grows = goes_by_grows first now goes.runs goes.goes in omega (arith, counts, grows)

  -- Successive runs and one more are successive runs.
  goes_by_then : (first opening next : TableModel) (t : ReturnedRun) (runs : List ReturnedRun) → GoesBy durable heard_before first runs opening → IsReturnedRun durable heard_before opening t → LeadsTo durable t.last next
      → GoesBy durable heard_before first (runs ++ t ∷ []) next
  goes_by_then first opening next t [] goes run leads =
      (next, subst (λ (m : TableModel). IsReturnedRun durable heard_before m t) goes run, leads, refl)
  goes_by_then first opening next t (u ∷ runs) goes run leads =
      (goes.0, goes.1, goes.2, goes_by_then goes.0 opening next t runs goes.3 run leads)

  -- No runs lead from the first journal to an equal one.
  pub goes_not_yet : (first now : TableModel) → now ≡ first → GoesOn durable heard_before first now 0
  goes_not_yet first now same = record {
    runs = [];
    goes = same;
    counts = refl;
    once = λ p above within. let stays = ap (λ (m : TableModel). position_of m.journal) same in absurd (omega (arith, above, within, stays));
  }

  -- Without a run, a journal leads to itself.
  pub goes_nowhere : (m : TableModel) → GoesOn durable heard_before m m 0
  goes_nowhere m = goes_not_yet m m refl

  -- A run after others adds its accepted changes.
  pub goes_on_then : (first opening next : TableModel) (accepted : ℕ) (t : ReturnedRun) → GoesOn durable heard_before first opening accepted → IsReturnedRun durable heard_before opening t → LeadsTo durable t.last next
      → GoesOn durable heard_before first next (accepted + accepted_of t.served)
  goes_on_then first opening next accepted t goes run leads =
      let counts = goes.counts in
      let more = sum_by_push (λ (u : ReturnedRun). accepted_of u.served) goes.runs t in
      let before = goes_by_grows first opening goes.runs goes.goes in
      let told = goes_by_told first opening goes.runs goes.goes in
      let grows = term_grows opening t run in
      let here = term_told opening t run in
      let stays = leads_stays durable t.last next leads in record {
        runs = goes.runs ++ t ∷ [];
        goes = goes_by_then first opening next t goes.runs goes.goes run leads;
        counts = omega (arith, counts, more);
        once = λ p above within. ap (times p) (positions_then t goes.runs)
            ∙ told_then (position_of first.journal) (position_of opening.journal) (position_of t.last.journal) (positions_of_all goes.runs) t.positions
            (omega (arith, before, told)) (omega (arith, grows, here)) goes.once (term_once opening t run) p above (omega (arith, within, stays));
      }

  -- The last journal of a run begins with what its opening journal begins with.
  pub term_begins : (placed : Journal) (opening last : TableModel) (served : List ServedView) → IsReturnedRunOf durable heard_before opening last served
      → BeginsWith opening.journal placed → BeginsWith last.journal placed
  term_begins placed opening last served run begins = begins_with_earlier last.journal opening.journal placed run.1.run.begins begins

  -- Runs may end with a journal that begins with the opening journal of the next run.
  pub ends_at : (first opening : TableModel) (end : Journal) (accepted before after : ℕ) → GoesOn durable heard_before first opening accepted
      → BeginsWith end opening.journal → after ≡ before + accepted → EndsOn durable heard_before first end before after
  ends_at first opening end accepted before after goes begins counts = record {
    opening = opening;
    accepted = accepted;
    goes = goes;
    begins = begins;
    counts = counts;
  }

  -- The last journal has positions for all changes that were reported as accepted.
  pub holds_all : (first : TableModel) (end : Journal) (before after : ℕ) → EndsOn durable heard_before first end before after → HoldsAll first.journal end before after
  holds_all first end before after ends =
      let counts = ends.counts in
      let grows = goes_on_grows first ends.opening ends.accepted ends.goes in
      let below = begins_below end ends.opening.journal ends.begins in omega (arith, counts, grows, below)

  -- If the end is the opening journal of the next run, it has positions for no other changes.
  pub holds_just : (first opening : TableModel) (end : Journal) (accepted before after : ℕ) → GoesOn durable heard_before first opening accepted
      → end ≡ opening.journal → after ≡ before + accepted → HoldsJust first.journal end before after
  holds_just first opening end accepted before after goes same counts =
      let grows = goes_on_grows first opening accepted goes in
      let stays = ap position_of same in omega (arith, counts, grows, stays)

  -- After one more run, the journals lead to the next one, and the count includes its changes.
  pub grows_then : (first opening last next : TableModel) (served : List ServedView) (accepted before added now mid after : ℕ)
      → GoesOn durable heard_before first opening accepted → IsReturnedRunOf durable heard_before opening last served → LeadsTo durable last next → now ≡ before + accepted → mid ≡ now + added
      → accepted_of served ≡ added → after ≡ mid
      → (all : ℕ) × GoesOn durable heard_before first next all × (after ≡ before + all)
  grows_then first opening last next served accepted before added now mid after goes run leads counts counted same stays = (
    accepted + accepted_of served,
    goes_on_then first opening next accepted _ goes run.1 leads,
    counts_then before accepted (accepted_of served) added now mid after counts counted same stays,
  )

  -- Runs may end with the journal to which they lead.
  pub ends_now : (first now : TableModel) (before after : ℕ) → ((all : ℕ) × GoesOn durable heard_before first now all × (after ≡ before + all))
      → EndsOn durable heard_before first now.journal before after
  ends_now first now before after grown = ends_at first now now.journal grown.0 before after grown.1 (begins_with_itself now.journal) grown.2

  -- The journal to which runs lead has positions for exactly the changes that they reported.
  pub holds_now : (first now : TableModel) (before after : ℕ) → ((all : ℕ) × GoesOn durable heard_before first now all × (after ≡ before + all))
      → HoldsJust first.journal now.journal before after
  holds_now first now before after grown = holds_just first now now.journal grown.0 before after grown.1 refl grown.2

  -- A run, as it returns, is a returned run with its last journal and outcomes.
  pub term_of : (opening last : TableModel) (told : List (Option (List Event))) (served : List ServedView) → All heard_before told
      → IsDurable durable opening.journal → IsRun durable opening.journal last.journal opening.stopped last.stopped told served → IsReturnedRunOf durable heard_before opening last served
  term_of opening last told served new held run =
      (positions_on run.connections, record { told = told; new = new; held = held; run = run; positions = refl })
