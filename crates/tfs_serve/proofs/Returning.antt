-- Lemmas about sessions that have made no calls.
use Rattle.std.proofs.Common.{◌≡◌, ◌+◌, ◌<◌, ◌↔◌, ℕ, suc, nat_lt, Bool, true, false, if◌then◌else◌, List, [], ◌∷◌, ◌++◌, length, get_or, sum_by, All, Any, refl, sym, ◌∙◌, ap, arith, append-nil, length-append}
use Rattle.std.proofs.lemmas.Bool.Decides.{nat_tests}
use Rattle.std.proofs.lemmas.List.{nil_from_length, length_push, get_or_append_left, get_or_push}
use Rattle.std.proofs.lemmas.List.Sums.{sum_by-append}
use Rattle.tfs_records.specs.Journal.{Journal, BaseValue, EntryValue, position_of}
use Rattle.tfs_published.specs.Beginning.{BeginsWith}
use Rattle.tfs_shared.specs.View.{SessionView, AreNew, new_session}
use Rattle.tfs_shared.specs.Locked.{IsAhead}
use Rattle.tfs_shared.specs.declared.gathering.Lack.{Lack}
use Rattle.tfs_shared.specs.declared.gathering.Lack.TheVariants.{Missing, NoCopy}

-- The session, of any number, has seen this journal and made no changes.
abbrev pub IsNew : Journal → SessionView → Type 0
IsNew j s = (stopped : Bool) × (number : ℕ) × (s ≡ new_session j stopped number)

-- New sessions have seen the opening journal and made no changes.
pub all_new : (opening : Journal) (stopped : Bool) (number : ℕ) (sessions : List SessionView) → AreNew opening stopped number sessions
    → All (IsNew opening) sessions
all_new opening stopped number sessions new k d within = (stopped, k, new.each k d (omega (arith, within, new.many)))

-- Without the last one, new sessions are new, and the last one has the highest number.
pub without_last : (opening : Journal) (stopped : Bool) (number : ℕ) (sessions ys : List SessionView) (x : SessionView)
    → AreNew opening stopped number sessions → sessions ≡ ys ++ x ∷ []
    → AreNew opening stopped (length ys) ys × (x ≡ new_session opening stopped (length ys)) × (number ≡ length ys + 1)
without_last opening stopped number sessions ys x new is = (
  record {
    many = refl;
    each = λ k d within.
        sym (get_or_append_left ys (x ∷ []) d k within) ∙ (ap (λ (l : List SessionView). get_or l k d) (sym is)
        ∙ new.each k d (omega (arith, within, all)));
  },
  sym (get_or_push ys x x (length ys) refl) ∙ (ap (λ (l : List SessionView). get_or l (length ys) x) (sym is)
      ∙ new.each (length ys) x (omega (arith, all))),
  all,
)
  where
    all : number ≡ length ys + 1
    all = sym new.many ∙ ap length is ∙ length_push ys x

-- The sessions of these elements are new, with the highest number first.
abbrev pub HaveNumbers : {W : Type 0} → (W → SessionView) → Journal → Bool → ℕ → List W → Type 0
HaveNumbers {W} session opening stopped all ws = (i : ℕ) (d : W) → i < length ws
    → (number : ℕ) × (number + i + 1 ≡ all) × (session (get_or ws i d) ≡ new_session opening stopped number)

-- Appending an element whose session has the next lower number keeps this order.
pub numbers_more : {W : Type 0} (session : W → SessionView) (opening : Journal) (stopped : Bool) (all : ℕ) (ws : List W) (w : W) (number : ℕ)
    → HaveNumbers session opening stopped all ws → session w ≡ new_session opening stopped number → number + length ws + 1 ≡ all
    → HaveNumbers session opening stopped all (ws ++ w ∷ [])
numbers_more session opening stopped all ws w number have one next i d within = by (nat_lt i (length ws)) refl
  where
    by : (t : Bool) → nat_lt i (length ws) ≡ t
        → (n : ℕ) × (n + i + 1 ≡ all) × (session (get_or (ws ++ w ∷ []) i d) ≡ new_session opening stopped n)
    by true e =
        let inside : i < length ws = grind (arith, nat_tests, e) in
        let is = have i d inside in
        (is.0, is.1, ap session (get_or_append_left ws (w ∷ []) d i inside) ∙ is.2)
    by false e =
        let at : length ws ≡ i = grind (arith, nat_tests, e, within, length_push ws w) in
        (number, omega (arith, at, next), ap session (get_or_push ws w d i at) ∙ one)

-- New sessions have no accepted changes.
none_accepted : (j : Journal) (sessions : List SessionView) → All (IsNew j) sessions → sum_by (λ (s : SessionView). s.accepted) sessions ≡ 0
none_accepted j [] new = refl
none_accepted j (s ∷ rest) new =
    let first = ap (λ (v : SessionView). v.accepted) (new 0 s (omega arith)).2 in
    let others = none_accepted j rest (λ k d within. new (suc k) d (omega (arith, within))) in
    let parts = sum_by-append (λ (v : SessionView). v.accepted) (s ∷ []) rest in
    omega (arith, first, others, parts)

-- A journal that begins with another one of the same length is equal to it.
begins_whole : (j k : Journal) → BeginsWith j k → length j.entries ≡ length k.entries → j ≡ k
begins_whole j k begins same =
    let none : begins.entries.0 ≡ [] = nil_from_length begins.entries.0
    (omega (arith, same, length-append k.entries begins.entries.0, ap length begins.entries.1)) in
    ap (λ (b : BaseValue). record { base = b; entries = j.entries }) begins.base
    ∙ ap (λ (es : List EntryValue). record { base = k.base; entries = es })
    (sym begins.entries.1 ∙ ap (λ (es : List EntryValue). k.entries ++ es) none ∙ append-nil k.entries)

-- If all sessions are new, the last journal is the opening one.
pub taken_back : (opening last : Journal) (sessions : List SessionView) → All (IsNew opening) sessions → BeginsWith last opening
    → length last.entries ≡ length opening.entries + sum_by (λ (s : SessionView). s.accepted) sessions → last ≡ opening
taken_back opening last sessions new begins counted =
    begins_whole last opening begins (omega (arith, counted, none_accepted opening sessions new))

-- If all sessions are given back and are new, gathering the table lacks no session and is not
-- refused with `NoCopy`.
pub no_strangers : (opening : Journal) (sessions : List SessionView) (number : ℕ) (why : Lack) → length sessions ≡ number
    → All (IsNew opening) sessions → ((why ≡ Missing) ↔ (length sessions < number)) → (why ≡ NoCopy → Any (IsAhead opening) sessions) → ⊥
no_strangers opening sessions number Missing all new missing ahead = let fewer = missing.0 refl in omega (arith, fewer, all)
no_strangers opening sessions number NoCopy all new missing ahead =
    let one = ahead refl in
    let is = sym one.3 ∙ (new one.0 one.1 one.2).2 in
    let seen = ap (λ (v : SessionView). position_of v.journal) is in
    let base = ap (λ (b : BaseValue). b.position) one.4.begins.base in
    let entries = ap length one.4.begins.entries.1 in
    let lower = one.4.lower in
    omega (arith, seen, base, entries, lower, length-append opening.entries one.4.begins.entries.0)

-- If pushing an element succeeded, the list ends with it.
pub pushed : {X R : Type 0} (result : R) (ok : R → Bool) (items xs : List X) (x : X) → items ≡ (if ok result then xs ++ x ∷ [] else xs)
    → ok result ≡ true → items ≡ xs ++ x ∷ []
pushed result ok items xs x is well = is ∙ ap (λ (b : Bool). if b then xs ++ x ∷ [] else xs) well
