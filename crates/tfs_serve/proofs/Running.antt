-- Lemmas: the outcome of a run, from what its workers did.
use Rattle.std.proofs.Common.{◌≡◌, ◌+◌, ◌<◌, ◌≤◌, ℕ, zero, suc, Bool, true, is_some, List, length, map, get_or, sum_by, All, [], ◌∷◌, Option, refl, sym, ◌∙◌, ap, subst, arith, length-append}
use Rattle.std.specs.List.{flat_map}
use Rattle.std.proofs.lemmas.List.{length-map, get_or-map}
use Rattle.std.proofs.lemmas.List.Sums.{sum_by-cons}
use mathlib.Core.List.{IsPrefix}
use Rattle.tfs_records.specs.Journal.{Journal, BaseValue, position_of}
use Rattle.tfs_table.specs.Lawful.{IsLawful}
use Rattle.tfs_published.specs.Beginning.{BeginsWith}
use Rattle.tfs_shared.specs.Signed.{AreSigned}
use Rattle.tfs_shared.specs.Stops.{as_number}
use Rattle.tfs_shared.specs.View.{SessionView, new_session}
use Rattle.tfs_connections.specs.declared.accepting.AcceptFault.{AcceptFault}
use Rattle.tfs_connections.specs.declared.written.Written.{Written}
use Rattle.tfs_serve.specs.Faults.{IsCaused}
use Rattle.tfs_serve.specs.Gate.{Event}
use Rattle.tfs_serve.specs.Serving.{ServedView, IsServed, IsRun, accepted_in, faults_in, answers_on}
use Rattle.tfs_serve.specs.Told.{positions_told}
use Rattle.tfs_serve.specs.Working.{Answer, AreReplied, HasReplied, end_of_work, nothing_written}
use Rattle.tfs_serve.proofs.Replying.{served, all_given}
use Rattle.tfs_serve.proofs.Returning.{HaveNumbers}
use Rattle.tfs_serve.proofs.Stopping.{HasReported, faults_of_all, gives_reports, stops_as}
use Rattle.tfs_serve.proofs.Tallying.{Tells, gives_tells, as_many_told}
use Rattle.tfs_serve.proofs.Telling.{IsMadeAt, TellApart, TellsAlone, made_later, tell_apart, each_once}

-- A sum over mapped elements is the sum of the function after the map.
sum_made : {W V : Type 0} (made : W → V) (f : V → ℕ) (xs : List W) → sum_by f (map made xs) ≡ sum_by (λ (w : W). f (made w)) xs
sum_made made f [] = refl
sum_made {W} made f (x ∷ xs) =
    let rest = sum_made made f xs in
    omega (arith, rest, sum_by-cons f (made x) (map made xs), sum_by-cons (λ (w : W). f (made w)) x xs)

-- Two sums are equal if the lists have the same length and equal summands at each place.
sums_even : {A B : Type 0} (f : A → ℕ) (g : B → ℕ) (xs : List A) (ys : List B) → length xs ≡ length ys
    → ((i : ℕ) (d : A) (e : B) → i < length xs → f (get_or xs i d) ≡ g (get_or ys i e)) → sum_by f xs ≡ sum_by g ys
sums_even f g [] [] even same = refl
sums_even f g [] (y ∷ ys) even same = absurd (omega (arith, even))
sums_even f g (x ∷ xs) [] even same = absurd (omega (arith, even))
sums_even f g (x ∷ xs) (y ∷ ys) even same =
    let first = same 0 x y (omega arith) in
    let rest = sums_even f g xs ys (omega (arith, even)) (λ i d e inside. same (suc i) d e (omega (arith, inside))) in
    omega (arith, first, rest, sum_by-cons f x xs, sum_by-cons g y ys)

-- The length of concatenated lists is the sum of their lengths.
length_all : {X : Type 0} (tell : X → List ℕ) (count : X → ℕ) (xs : List X) → ((x : X) → length (tell x) ≡ count x)
    → length (flat_map tell xs) ≡ sum_by count xs
length_all tell count [] same = refl
length_all tell count (x ∷ xs) same =
    let rest = length_all tell count xs same in
    omega (arith, rest, same x, length-append (tell x) (flat_map tell xs), sum_by-cons count x xs)

-- Values for the number 0 and for the numbers from 1 to `n` make a list of `n + 1` values.
chosen_more : {X : Type 0} (Q : ℕ → X → Type 0) (n : ℕ) → ((x : X) × Q 0 x)
    → ((xs : List X) × (length xs ≡ n) × ((i : ℕ) (d : X) → i < n → Q (suc i) (get_or xs i d)))
    → (xs : List X) × (length xs ≡ suc n) × ((i : ℕ) (d : X) → i < suc n → Q i (get_or xs i d))
chosen_more {X} Q n first rest = (first.0 ∷ rest.0, ap suc rest.1, at)
  where
    at : (i : ℕ) (d : X) → i < suc n → Q i (get_or (first.0 ∷ rest.0) i d)
    at zero d inside = first.1
    at (suc i) d inside = rest.2 i d (omega (arith, inside))

-- Values for each number below `n` make a list of `n` values.
chosen : {X : Type 0} (Q : ℕ → X → Type 0) (n : ℕ) → ((i : ℕ) → i < n → (x : X) × Q i x)
    → (xs : List X) × (length xs ≡ n) × ((i : ℕ) (d : X) → i < n → Q i (get_or xs i d))
chosen Q zero one = ([], refl, λ i d inside. absurd (omega (arith, inside)))
chosen {X} Q (suc n) one =
    chosen_more Q n (one 0 (omega arith)) (chosen (λ (i : ℕ) (x : X). Q (suc i) x) n (λ i inside. one (suc i) (omega (arith, inside))))

-- The positions that a worker reports on its connections.
abbrev told_on : List (List Answer) → List ℕ
told_on connections = positions_told (answers_on connections)

-- The view of a worker's outcome.
abbrev pub left_of : {W : Type 0} → (W → Option (List Event)) → (W → SessionView) → (W → Option AcceptFault) → (W → Written) → W → ServedView
left_of told session fault written w = record {
  told = told w;
  failed = is_some (fault w);
  fault = fault w;
  seen = position_of (session w).journal;
  accepted = (session w).accepted;
  read = (written w).read;
  written = (written w).texts;
}

-- Workers that began with new sessions, numbered down to 0, and have worked.
module _ {W : Type 0} (durable : ℕ → Type 0) (told : W → Option (List Event)) (session : W → SessionView) (fault : W → Option AcceptFault)
    (written : W → Written) (opening last : Journal) (was is : Bool) (old new : List W)
  where
    abbrev left : W → ServedView
    left = left_of told session fault written

    -- A worker has served these connections, with its number: its position in the list.
    pub record HasServed (d : W) (i : ℕ) (connections : List (List Answer)) : Type 0 where
      pub served : IsServed durable opening last connections (told (get_or old i d)) (left (get_or new i d))
      pub number : ℕ
      pub number_is : number + i + 1 ≡ length old
      pub tells : Tells opening (new_session opening was number) (session (get_or new i d)) (told_on connections)
      pub reported : HasReported (new_session opening was number) (session (get_or new i d)) (answers_on connections)

    abbrev pub AreNumbered : Type 0
    AreNumbered = (i : ℕ) (d : W) → i < length old
        → (number : ℕ) × (number + i + 1 ≡ length old) × (session (get_or old i d) ≡ new_session opening was number)

    abbrev pub WorkedEach : Type 0
    WorkedEach = (i : ℕ) (d : W) → i < length old
        → HasReplied durable opening (told (get_or old i d)) (told (get_or new i d)) (session (get_or old i d)) (session (get_or new i d))
        (end_of_work (is_some (fault (get_or new i d)))) nothing_written (written (get_or new i d))

    abbrev pub AreCaused : Type 0
    AreCaused = (i : ℕ) (d : W) → i < length old → IsCaused (fault (get_or new i d))

    -- The table is stopped at the end (`is`) if and only if exactly one session has the fault;
    -- otherwise none has. It is stopped if any session has reported so.
    abbrev pub HasStopped : Type 0
    HasStopped = (sum_by (λ (s : SessionView). as_number s.faulted) (map session new) ≡ as_number is)
        × All (λ (s : SessionView). s.stopped ≡ true → is ≡ true) (map session new)

    -- A worker has served its connections.
    one_served : IsLawful last → AreNumbered → AreCaused → WorkedEach → length new ≡ length old
        → All (λ (s : SessionView). BeginsWith last s.journal) (map session new)
        → (d : W) (i : ℕ) → i < length old → (connections : List (List Answer)) × HasServed d i connections
    one_served lawful numbered caused worked same begins d i inside =
        let number = numbered i d inside in
        let now = get_or new i d in
        let in_new : i < length new = omega (arith, inside, same) in
        let in_sessions : i < length (map session new) = omega (arith, in_new, length-map new session) in
        let has : BeginsWith last (session now).journal =
        subst (λ (s : SessionView). BeginsWith last s.journal) (get_or-map session new i d (session d) in_new) (begins i (session d) in_sessions) in
        let did : HasReplied durable opening (told (get_or old i d)) (told now) (new_session opening was number.0) (session now)
        (end_of_work (is_some (fault now))) nothing_written (written now) =
        subst (λ (s : SessionView). HasReplied durable opening (told (get_or old i d)) (told now) s (session now) (end_of_work (is_some (fault now))) nothing_written
        (written now)) number.2 (worked i d inside) in
        let given = all_given opening (told (get_or old i d)) (told now) (new_session opening was number.0) (session now)
        (end_of_work (is_some (fault now))) did.worked in (
          did.worked.connections,
          record {
            served = served durable opening last (told (get_or old i d)) (told now) was number.0 (session now) (fault now) (written now).read
                (written now).texts lawful has (caused i d inside) did.worked (subst (AreReplied durable did.worked.connections (written now).read) (sym did.since.has_written)
                (subst (λ (read : List (List ℕ)). AreReplied durable did.worked.connections read did.texts) (sym did.since.has_read) did.replied));
            number = number.0;
            number_is = number.1;
            tells = gives_tells opening (new_session opening was number.0) (session now) (answers_on did.worked.connections) given;
            reported = gives_reports opening (new_session opening was number.0) (session now) (answers_on did.worked.connections) given;
          },
        )

    -- A worker reports only positions whose changes its own session made.
    tells_alone : (makers : List ℕ) → All (λ (s : SessionView). IsPrefix s.makers makers) (map session new) → length new ≡ length old
        → (d : W) (i : ℕ) (connections : List (List Answer)) → i < length old → HasServed d i connections
        → TellsAlone opening makers i (length old) (told_on connections)
    tells_alone makers seen same d i connections inside has = record {
      once = has.tells.once;
      made = λ p some. (
        has.number,
        has.number_is,
        made_later opening (session (get_or new i d)).makers makers p has.number early (has.tells.made p some).2,
      );
    }
      where
        in_new : i < length new
        in_new = omega (arith, inside, same)

        early : IsPrefix (session (get_or new i d)).makers makers
        early = subst (λ (s : SessionView). IsPrefix s.makers makers) (get_or-map session new i d (session d) in_new)
            (seen i (session d) (omega (arith, in_new, length-map new session)))

    -- The position of a change made in the run is beyond the opening one, and at most the last one.
    made_within : (makers : List ℕ) (p m : ℕ) → IsMadeAt opening makers p m → (position_of opening < p) × (p ≤ position_of opening + length makers)
    made_within makers p m made =
        let at = made.position_is in
        let parts = ap length made.parts in
        let more = length-append made.front (m ∷ made.rest) in
        (omega (arith, at), omega (arith, at, parts, more))

    -- What the workers did is a run from the opening journal to the last one.
    pub is_run : IsLawful last → BeginsWith last opening → AreNumbered → AreCaused → WorkedEach → length new ≡ length old
        → All (λ (s : SessionView). BeginsWith last s.journal) (map session new) → AreSigned opening last (map session new)
        → length last.entries ≡ length opening.entries + sum_by (λ (s : SessionView). s.accepted) (map session new)
        → HasStopped → 1 ≤ length old → (d : W) → IsRun durable opening last was is (map told old) (map left new)
    is_run lawful begins numbered caused worked same seen signed grows stops some d = record {
      lawful = lawful;
      begins = begins;
      connections = all.0;
      each = (omega (arith, all.1, many), omega (arith, length-map new left, same, many));
      workers = λ i t s inside.
          let in_old : i < length old = omega (arith, inside, many) in
          let in_new : i < length new = omega (arith, in_old, same) in
          subst (λ (v : ServedView). IsServed durable opening last (get_or all.0 i []) (get_or (map told old) i t) v)
          (sym (get_or-map left new i d s in_new))
          (subst (λ (o : Option (List Event)). IsServed durable opening last (get_or all.0 i []) o (left (get_or new i d)))
          (sym (get_or-map told old i d t in_old)) (all.2 i [] in_old).served);
      grows = grows ∙ ap (λ (n : ℕ). length opening.entries + n) accepted_same;
      once = λ p above within. each_once (position_of opening) (length signed.makers) told_all as_many apart.once
          (λ q some. let made = apart.made q some in made_within signed.makers q made.0 made.2) p above (omega (arith, within, signed.counted));
      faulted = sym stops.0 ∙ faulted;
      stopped = λ i inside.
          let in_old : i < length old = omega (arith, inside, all.1) in
          let in_new : i < length new = omega (arith, in_old, same) in
          let now = session (get_or new i d) in
          stops_as now.stopped is (answers_on (get_or all.0 i []))
          (subst (λ (s : SessionView). s.stopped ≡ true → is ≡ true) (get_or-map session new i d (session d) in_new)
          (stops.1 i (session d) (omega (arith, in_new, length-map new session)))) (all.2 i [] in_old).reported.stopped;
    }
      where
        many : length (map told old) ≡ length old
        many = length-map old told

        all : (xs : List (List (List Answer))) × (length xs ≡ length old)
            × ((i : ℕ) (e : List (List Answer)) → i < length old → HasServed d i (get_or xs i e))
        all = chosen (HasServed d) (length old) (one_served lawful numbered caused worked same seen d)

        told_all : List ℕ
        told_all = flat_map told_on all.0

        apart : TellApart opening signed.makers 0 (length old) told_all
        apart = tell_apart told_on opening signed.makers 0 (length old) all.0 (λ i e inside.
            let in_old : i < length old = omega (arith, inside, all.1) in
            let first : i ≡ 0 + i = omega arith in
            subst (λ (n : ℕ). TellsAlone opening signed.makers n (length old) (told_on (get_or all.0 i e))) first
            (tells_alone signed.makers signed.seen same d i (get_or all.0 i e) in_old (all.2 i e in_old)))

        counted : sum_by (λ (s : SessionView). s.accepted) (map session new) ≡ sum_by (λ (c : List (List Answer)). accepted_in (answers_on c)) all.0
        counted = sums_even (λ (s : SessionView). s.accepted) (λ (c : List (List Answer)). accepted_in (answers_on c)) (map session new) all.0
            (length-map new session ∙ same ∙ sym all.1) (λ i s e inside.
            let in_new : i < length new = omega (arith, inside, length-map new session) in
            let in_old : i < length old = omega (arith, in_new, same) in
            ap (λ (v : SessionView). v.accepted) (get_or-map session new i d s in_new) ∙ (all.2 i e in_old).served.accepted_is)

        faulted : sum_by (λ (s : SessionView). as_number s.faulted) (map session new)
            ≡ as_number was + sum_by (λ (c : List (List Answer)). faults_in (answers_on c)) all.0
        faulted = faults_of_all was (λ (c : List (List Answer)). faults_in (answers_on c)) (map session new) all.0
            (omega (arith, some, same, length-map new session)) (length-map new session ∙ same ∙ sym all.1) (λ i s e inside.
            let in_new : i < length new = omega (arith, inside, length-map new session) in
            let in_old : i < length old = omega (arith, in_new, same) in
            let one = all.2 i e in_old in
            let place = one.number_is in (
              one.number,
              omega (arith, place, same, length-map new session),
              ap (λ (v : SessionView). as_number v.faulted) (get_or-map session new i d s in_new) ∙ one.reported.faulted,
            ))

        accepted_same : sum_by (λ (s : SessionView). s.accepted) (map session new) ≡ sum_by (λ (s : ServedView). s.accepted) (map left new)
        accepted_same = sum_made session (λ (s : SessionView). s.accepted) new ∙ sym (sum_made left (λ (s : ServedView). s.accepted) new)

        as_many : length told_all ≡ length signed.makers
        as_many =
            let base = ap (λ (b : BaseValue). b.position) begins.base in
            let told_count = length_all told_on (λ (c : List (List Answer)). accepted_in (answers_on c)) all.0 (λ c. as_many_told (answers_on c)) in
            let end = signed.counted in
            omega (arith, base, grows, counted, told_count, end)

-- Mapping twice is mapping the composition.
map_made : {W V U : Type 0} (made : W → V) (f : V → U) (xs : List W) → map f (map made xs) ≡ map (λ (w : W). f (made w)) xs
map_made made f [] = refl
map_made made f (x ∷ xs) = ap (λ l. f (made x) ∷ l) (map_made made f xs)

-- Mapping two functions that agree on all elements gives equal lists.
map_alike : {W U : Type 0} (f g : W → U) (xs : List W) → ((w : W) → f w ≡ g w) → map f xs ≡ map g xs
map_alike f g [] same = refl
map_alike f g (x ∷ xs) same = ap (λ u. u ∷ map f xs) (same x) ∙ ap (λ l. g x ∷ l) (map_alike f g xs same)

-- The workers of gates make a run, with the outcomes that the call returns.
pub run_of : {W G V : Type 0} (durable : ℕ → Type 0) (gate : W → G) (told : G → Option (List Event)) (session : W → SessionView) (fault : W → Option AcceptFault)
    (written : W → Written) (made : W → V) (view : V → ServedView) (opening last : Journal) (was is : Bool) (gates : List G) (old new : List W)
    (all : List V)
    → ((w : W) → left_of (λ (x : W). told (gate x)) session fault written w ≡ view (made w))
    → map gate old ≡ gates → all ≡ map made new → 1 ≤ length gates → IsLawful last → BeginsWith last opening
    → HaveNumbers session opening was (length gates) old
    → AreCaused durable (λ (w : W). told (gate w)) session fault written opening last was is old new
    → WorkedEach durable (λ (w : W). told (gate w)) session fault written opening last was is old new → length new ≡ length old
    → All (λ (s : SessionView). BeginsWith last s.journal) (map session new) → AreSigned opening last (map session new)
    → length last.entries ≡ length opening.entries + sum_by (λ (s : SessionView). s.accepted) (map session new)
    → HasStopped durable (λ (w : W). told (gate w)) session fault written opening last was is old new
    → IsRun durable opening last was is (map told gates) (map view all)
run_of durable gate told session fault written made view opening last was is gates old [] all views are_gates are_all some lawful begins numbered caused
    worked same seen signed grows stops =
    absurd (omega (arith, some, same, ap length are_gates, length-map old gate))
run_of {W} {G} {V} durable gate told session fault written made view opening last was is gates old (w ∷ rest) all views are_gates are_all some lawful begins
    numbered caused worked same seen signed grows stops =
    subst (λ (gs : List G). IsRun durable opening last was is (map told gs) (map view all)) are_gates
    (subst (λ (os : List (Option (List Event))). IsRun durable opening last was is os (map view all)) (sym (map_made gate told old))
    (subst (λ (vs : List V). IsRun durable opening last was is (map (λ (x : W). told (gate x)) old) (map view vs)) (sym are_all)
    (subst (λ (ss : List ServedView). IsRun durable opening last was is (map (λ (x : W). told (gate x)) old) ss)
    (map_alike (left_of (λ (x : W). told (gate x)) session fault written) (λ (x : W). view (made x)) (w ∷ rest) views
    ∙ sym (map_made made view (w ∷ rest)))
    (is_run durable (λ (x : W). told (gate x)) session fault written opening last was is old (w ∷ rest) lawful begins (λ i d inside.
    let x = numbered i d inside in
    let at = x.1 in
    (x.0, omega (arith, at, ap length are_gates, length-map old gate), x.2)) caused worked same seen signed grows stops
    (omega (arith, some, ap length are_gates, length-map old gate)) w))))
