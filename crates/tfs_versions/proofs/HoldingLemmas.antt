-- Lemmas about specs/Holding.antt.
use Rattle.std.proofs.Common.{◌≡◌, ◌<◌, ◌+◌, ◌++◌, ◌∷◌, ◌≤ℤ◌, ◌<ℤ◌, ℕ, ℤ, List, [], Bool, true, false, cond, length, take, get_or, Option, None, Some, arith, refl, sym, ◌∙◌, ap, subst, append-nil}
use Rattle.std.specs.Prelude.{int_lt, option_and_then, option_to_list}
use Rattle.std.specs.List.{filter_map, cons_option, slice_get}
use Rattle.std.proofs.lemmas.Int.{ints}
use Rattle.std.proofs.lemmas.List.{take_more}
use Rattle.std.proofs.lemmas.List.Elements.{All-nil, All-push, All-weaker, Contains-append_left, Contains-append_right, filter_map-append}
use Rattle.std.proofs.lemmas.Option.{slice_get-get_or}
use Rattle.tfs_versions.specs.Holding.{IsEarliest, earlier}

-- A single time is the earliest of a list of one.
alone : (time : ℤ) → IsEarliest ([] ++ time ∷ []) (Some time)
alone time = ((0, omega arith, refl), All-push (λ other. time ≤ℤ other) [] time (All-nil (λ other. time ≤ℤ other)) (omega (arith, ints)))

-- The earliest time stays the earliest if the appended time isn't earlier.
later : (times : List ℤ) (first second : ℤ) → IsEarliest times (Some first) → first ≤ℤ second → IsEarliest (times ++ second ∷ []) (Some first)
later times first second is less =
    (Contains-append_left times (second ∷ []) first is.0, All-push (λ other. first ≤ℤ other) times second is.1 less)

-- An earlier time that is appended becomes the earliest.
sooner : (times : List ℤ) (first second : ℤ) → IsEarliest times (Some first) → second <ℤ first → IsEarliest (times ++ second ∷ []) (Some second)
sooner times first second is less =
    let below : (other : ℤ) → first ≤ℤ other → second ≤ℤ other = λ other le. omega (arith, ints) in (
      Contains-append_right times (second ∷ []) second (0, omega arith, refl),
      All-push (λ other. second ≤ℤ other) times second (All-weaker (λ other. first ≤ℤ other) (λ other. second ≤ℤ other) below times is.1) (omega (arith, ints)),
    )

-- The earliest of a list with a time appended is the earlier of both.
with_one : (times : List ℤ) (first second : ℤ) (is_sooner : Bool) → int_lt second first ≡ is_sooner → IsEarliest times (Some first)
    → IsEarliest (times ++ second ∷ []) (Some (cond is_sooner second first))
with_one times first second true less is = sooner times first second is (omega (arith, ints))
with_one times first second false less is = later times first second is (omega (arith, ints))

-- `with_one`, for times that may be unknown.
pub earliest_more : (times : List ℤ) (one other : Option ℤ) → IsEarliest times one → IsEarliest (times ++ option_to_list other) (earlier one other)
earliest_more times None None is = append-nil times ∙ is
earliest_more times None (Some second) is = subst (λ l. IsEarliest (l ++ second ∷ []) (Some second)) (sym is) (alone second)
earliest_more times (Some first) None is = subst (λ l. IsEarliest l (Some first)) (sym (append-nil times)) is
earliest_more times (Some first) (Some second) is = with_one times first second (int_lt second first) refl is

-- The times of a list of one name are its time, if it is known.
one_time : (f : List ℕ → Option ℤ) (name : List ℕ) → option_to_list (f name) ≡ filter_map f (name ∷ [])
one_time f name = elim (f name) as (λ o. option_to_list o ≡ cons_option o []) [ None ↦ refl | Some time ↦ refl ]

-- The times of the first `i + 1` names are those of the first `i` and that of the next, if it is
-- known.
pub times_next : (f : List ℕ → Option ℤ) (names : List (List ℕ)) (i : ℕ) → i < length names
    → filter_map f (take i names) ++ option_to_list (option_and_then f (slice_get names i)) ≡ filter_map f (take (i + 1) names)
times_next f names i less =
    ap (λ (o : Option (List ℕ)). filter_map f (take i names) ++ option_to_list (option_and_then f o)) (slice_get-get_or names i [] less)
    ∙ ap (λ l. filter_map f (take i names) ++ l) (one_time f (get_or names i []))
    ∙ sym (filter_map-append f (take i names) (get_or names i [] ∷ []))
    ∙ ap (λ l. filter_map f l) (sym (take_more names i [] less))

-- The earliest time of the first `i + 1` names is the earlier of that of the first `i` and that of
-- the next.
pub earliest_next : (f : List ℕ → Option ℤ) (names : List (List ℕ)) (i : ℕ) (one : Option ℤ) → i < length names
    → IsEarliest (filter_map f (take i names)) one
    → IsEarliest (filter_map f (take (i + 1) names)) (earlier one (option_and_then f (slice_get names i)))
earliest_next f names i one less is =
    let other = option_and_then f (slice_get names i) in
    subst (λ times. IsEarliest times (earlier one other)) (times_next f names i less) (earliest_more (filter_map f (take i names)) one other is)
