-- Lemmas about the numbers of names.
use Rattle.std.proofs.Common.{◌≡◌, ◌<◌, ℕ, List, [], ◌∷◌, Bool, true, false, cond, Option, Some, None, is_some, option_map, All}
use Rattle.std.proofs.Common.{refl, sym, ◌∙◌, ap, subst, arith}
use Rattle.std.specs.List.{find, slice_get}
use Rattle.std.specs.Str.{bytes_eq}
use Rattle.std.proofs.lemmas.Bool.{eq-eqb, eqb-true}
use Rattle.std.proofs.lemmas.Cmp.{nat_list_eq_equiv}
use Rattle.std.proofs.lemmas.List.Elements.{All-nil, All-cons, All-head, All-tail}
use Rattle.std.proofs.lemmas.Map.Keys.{any_passes_from_place}
use Rattle.std.proofs.lemmas.Option.{slice_get_within, get_or_from_slice_get}
use Rattle.tfs_records.specs.Journal.{Journal, names_of}
use Rattle.tfs_records.proofs.NameLemmas.{bytes_same}
use Rattle.tfs_records.proofs.JournalLemmas.{names_once}
use Rattle.tfs_table.specs.declared.workspace.Workspace.{Workspace}
use Rattle.tfs_table.specs.Workspaces.{is_of, has_number, AreWorkspacesOf, IsNumbered}

-- If each element has a property, the element that a test finds has it, and it passes the test.
found_has : {A : Type 0} (P : A → Type 0) (test : A → Bool) (xs : List A) (x : A) → All P xs → find test xs ≡ Some x
    → P x × (test x ≡ true)
found_has P test [] x all e = absurd cc
found_has P test (first ∷ xs) x all e =
    elim (test first) as (λ b. test first ≡ b → cond b (Some first) (find test xs) ≡ Some x → P x × (test x ≡ true)) [
      | true ↦ λ passes same.
          let is : first ≡ x = cc in
          (subst P is (All-head P first xs all), ap test (sym is) ∙ passes)
      | false ↦ λ fails later. found_has P test xs x (All-tail P first xs all) later
    ] refl e

-- If a test finds no element, each element fails it.
all_fail : {A : Type 0} (test : A → Bool) (xs : List A) → find test xs ≡ None → All (λ x. test x ≡ false) xs
all_fail test [] e = All-nil (λ x. test x ≡ false)
all_fail test (first ∷ xs) e =
    elim (test first) as (λ b. test first ≡ b → cond b (Some first) (find test xs) ≡ None → All (λ x. test x ≡ false) (first ∷ xs)) [
      | true ↦ λ passes same. absurd cc
      | false ↦ λ fails later. All-cons (λ x. test x ≡ false) first xs fails (all_fail test xs later)
    ] refl e

-- A name of a journal has only one number.
one_number : (j : Journal) (i k : ℕ) (name : List ℕ) → slice_get (names_of j) i ≡ Some name → slice_get (names_of j) k ≡ Some name → i ≡ k
one_number j i k name at_i at_k =
    let own_i = get_or_from_slice_get (names_of j) i name name at_i in
    let own_k = get_or_from_slice_get (names_of j) k name name at_k in
    let within_i = slice_get_within (names_of j) i name at_i in
    let within_k = slice_get_within (names_of j) k name at_k in
    let lower : i < k → ⊥ = λ p. names_once j i k name p within_k (own_i ∙ sym own_k) in
    let upper : k < i → ⊥ = λ p. names_once j k i name p within_i (own_k ∙ sym own_i) in
    omega arith

-- If a name of the journal has this number, some workspace has it.
numbered_in : (j : Journal) (ws : List Workspace) (number : ℕ) (name : List ℕ) (o : Option Workspace) → find (is_of name) ws ≡ o
    → find (has_number number) ws ≡ None → AreWorkspacesOf j ws → slice_get (names_of j) number ≡ Some name → ⊥
numbered_in j ws number name None known none are at =
    let there = any_passes_from_place (bytes_eq name) (names_of j) number name at (nat_list_eq_equiv.refl name) in
    let no : false ≡ true = sym (ap is_some known) ∙ are.names name ∙ there in
    cc
numbered_in j ws number name (Some w) known none are at =
    let has = found_has (IsNumbered (names_of j)) (is_of name) ws w are.numbers known in
    let fails = found_has (λ (v : Workspace). has_number number v ≡ false) (is_of name) ws w (all_fail (has_number number) ws none) known in
    let here : slice_get (names_of j) w.number ≡ Some name = has.0 ∙ ap (λ n. Some n) (bytes_same w.name name has.1) in
    let passes : has_number number w ≡ true = eq-eqb w.number number (one_number j w.number number name here at) in
    let no : false ≡ true = sym fails.0 ∙ passes in
    cc

-- The name of the workspace with a number is the name with this number in the journal.
pub named_by_number : (j : Journal) (ws : List Workspace) (number : ℕ) (o : Option Workspace) → find (has_number number) ws ≡ o
    → AreWorkspacesOf j ws → option_map (λ (w : Workspace). w.name) o ≡ slice_get (names_of j) number
named_by_number j ws number (Some w) known are =
    let has = found_has (IsNumbered (names_of j)) (has_number number) ws w are.numbers known in
    sym (ap (slice_get (names_of j)) (sym (eqb-true w.number number has.1)) ∙ has.0)
named_by_number j ws number None known are =
    elim (slice_get (names_of j) number) as (λ o. slice_get (names_of j) number ≡ o → None ≡ o) [
      | None ↦ λ at. refl
      | Some name ↦ λ at. absurd (numbered_in j ws number name (find (is_of name) ws) refl known are at)
    ] refl
