-- Lemmas: all replies of a run follow one journal.
use Rattle.std.proofs.Common.{◌≡◌, ◌⊎◌, ◌+◌, ◌<◌, Bool, true, false, Option, None, ℕ, suc, List, length, get_or, sum_by, All, [], ◌∷◌, ◌++◌, refl, sym, ◌∙◌, ap, inl, inr, arith}
use Rattle.std.specs.List.{flat_map}
use Rattle.std.proofs.lemmas.Grind.{flat_map-append}
use Rattle.std.proofs.lemmas.List.Elements.{All-nil, All-cons, All-append}
use Rattle.std.proofs.lemmas.List.Sums.{sum_by-append, sum_by-cons}
use Rattle.tfs_records.specs.Journal.{Journal}
use Rattle.tfs_calls.specs.Reply.{done, refused}
use Rattle.tfs_calls.specs.Refusal.{no_copy}
use Rattle.tfs_shared.specs.Stops.{as_number, reports_fault, reports_stop}
use Rattle.tfs_serve.specs.Following.{FollowsJournal, FollowOneJournal}
use Rattle.tfs_serve.specs.Serving.{ServedView, IsServed, IsRun, Replies, RepliesInTurn, answers_on, faults_in}
use Rattle.tfs_serve.specs.Standing.{IsAcceptedAt}
use Rattle.tfs_serve.specs.Told.{position_told, positions_told, times}
use Rattle.tfs_serve.specs.Working.{Answer}
use Rattle.tfs_serve.specs.Gate.{Event}

-- The reply follows the last journal, or is `NoCopy`.
abbrev pub Follows : Journal → Answer → Type 0
Follows last a = (a.reply ≡ refused no_copy) ⊎ FollowsJournal last a

-- The reply of a worker follows the last journal, or is `NoCopy`.
follows : (opening last seen : Journal) (a : Answer) → Replies opening last seen a → Follows last a
follows opening last seen a (inl none) = inl none.reply
follows opening last seen a (inr over) = inr (record {
  before = over.before;
  after = over.after;
  lawful = over.was_lawful;
  begins = over.stood;
  answer = over.answer;
})

-- All replies of a worker in order follow the last journal, or are `NoCopy`.
all_follow : (opening last seen end : Journal) (answers : List Answer) → RepliesInTurn opening last seen answers end → All (Follows last) answers
all_follow opening last seen end [] replies = All-nil (Follows last)
all_follow opening last seen end (a ∷ more) replies =
    All-cons (Follows last) a more (follows opening last seen a replies.0) (all_follow opening last a.seen end more replies.1)

-- What holds of all elements of each list holds of all elements of their concatenation.
all_of_each : {X Y : Type 0} (P : Y → Type 0) (f : X → List Y) (d : X) (xs : List X) → ((i : ℕ) → i < length xs → All P (f (get_or xs i d)))
    → All P (flat_map f xs)
all_of_each P f d [] each = All-nil P
all_of_each P f d (x ∷ xs) each =
    All-append P (f x) (flat_map f xs) (each 0 (omega arith)) (all_of_each P f d xs (λ i inside. each (suc i) (omega (arith, inside))))

-- The positions that all connections report are those of each connection, concatenated.
positions_of_all : (connections : List (List (List Answer)))
    → positions_told (flat_map answers_on connections) ≡ flat_map (λ (c : List (List Answer)). positions_told (answers_on c)) connections
positions_of_all [] = refl
positions_of_all (c ∷ connections) =
    flat_map-append (λ (a : Answer). position_told a.reply) (answers_on c) (flat_map answers_on connections)
    ∙ ap (λ (l : List ℕ). positions_told (answers_on c) ++ l) (positions_of_all connections)

-- The number of faults that all connections report is the sum of the numbers for each.
faults_of_lists : (connections : List (List (List Answer)))
    → faults_in (flat_map answers_on connections) ≡ sum_by (λ (c : List (List Answer)). faults_in (answers_on c)) connections
faults_of_lists [] = refl
faults_of_lists (c ∷ connections) =
    let rest = faults_of_lists connections in
    omega (
      arith,
      rest,
      sum_by-append (λ (a : Answer). as_number (reports_fault a.reply)) (answers_on c) (flat_map answers_on connections),
      sum_by-cons
          (λ (d : List (List Answer)). faults_in (answers_on d)) c connections,
    )

-- All replies of a run follow one journal.
pub run_follows : (durable : ℕ → Type 0) (opening last : Journal) (was is : Bool) (told : List (Option (List Event))) (served : List ServedView)
    (run : IsRun durable opening last was is told served) → FollowOneJournal opening last was is (flat_map answers_on run.connections)
run_follows durable opening last was is told served run = record {
  lawful = run.lawful;
  begins = run.begins;
  follow = all_of_each (Follows last) answers_on [] run.connections (λ i inside.
      let is = at i inside in all_follow opening last opening is.view (answers_on (get_or run.connections i [])) is.replies);
  stand = all_of_each (λ (a : Answer). (position : ℕ) → a.reply ≡ done position → IsAcceptedAt last a.call position) answers_on [] run.connections
      (λ i inside. (at i inside).stand);
  once = λ p above within. ap (times p) (positions_of_all run.connections) ∙ run.once p above within;
  faulted = run.faulted ∙ ap (λ (n : ℕ). as_number was + n) (sym (faults_of_lists run.connections));
  stopped = all_of_each (λ (a : Answer). reports_stop a.reply ≡ true → is ≡ true) answers_on [] run.connections run.stopped;
}
  where
    nobody : ServedView
    nobody = record { told = None; failed = false; fault = None; seen = 0; accepted = 0; read = []; written = [] }

    at : (i : ℕ) → i < length run.connections → IsServed durable opening last (get_or run.connections i []) (get_or told i None) (get_or served i nobody)
    at i inside = run.workers i None nobody (omega (arith, inside, run.each.0))
