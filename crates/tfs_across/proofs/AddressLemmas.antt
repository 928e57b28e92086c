-- Lemmas about specs/Address.antt.
use Rattle.std.proofs.Common.{◌≡◌, ◌≢◌, ℕ, zero, suc, ◌+◌, ◌-◌, ◌<◌, ◌≤◌, List, [], ◌∷◌, length, take, drop, get_or, Option, Some, None, MatchOption, Bor, cond, refl, ap, sym, ◌∙◌, ⊎_elim, arith, length-drop, get_or-drop}
use Rattle.std.specs.Option.{option_map, option_copied}
use Rattle.std.specs.Str.Pattern.{RFindsChar}
use Rattle.std.specs.Path.{rfind_below, rsplit_once}
use Rattle.std.proofs.lemmas.Bool.{cases_eq, cond-true, cond-false, eq-eqb, ne_eqb}
use Rattle.std.proofs.lemmas.Str.{len_utf8_ascii}
use Rattle.std.proofs.lemmas.Str.Pattern.{NoCharPasses-char}
use Rattle.tfs_across.specs.Address.{after_slash}

-- The text after a first slash, by cases on whether there is one.
pub stripped : (text : List ℕ) (r : Option (Bor (List ℕ))) → MatchOption r ((rest : List ℕ) → text ≢ 47 ∷ rest) (λ x. text ≡ 47 ∷ x.now)
    → option_copied r ≡ after_slash text
stripped text (Some x) is = sym (ap after_slash is)
stripped [] None not = refl
stripped (byte ∷ rest) None not =
    sym (ap (λ b. cond b (Some rest) None) (ne_eqb byte 47 (λ e. not rest (ap (λ b. b ∷ rest) e))))

-- Without the byte among the first n, its last index is none.
none_below : (c : ℕ) (text : List ℕ) (n : ℕ) → ((i : ℕ) → i < n → get_or text i 0 ≢ c) → rfind_below c text n ≡ None
none_below c text zero lacks = refl
none_below c text (suc n) lacks =
    cond-false _ _ _ (ne_eqb _ c (lacks n (omega arith))) ∙ none_below c text n (λ i less. lacks i (omega arith))

-- The index of the byte after which it doesn't come among the first n is its last index.
last_below : (c : ℕ) (text : List ℕ) (k n : ℕ) → k < n → get_or text k 0 ≡ c → ((i : ℕ) → k < i → i < n → get_or text i 0 ≢ c)
    → rfind_below c text n ≡ Some k
last_below c text k zero less here later = absurd (omega arith)
last_below c text k (suc n) less here later =
    ⊎_elim
    (λ same. cond-true _ _ _ (eq-eqb _ c (ap (λ j. get_or text j 0) (sym same) ∙ here)) ∙ ap Some (sym same))
    (λ other. cond-false _ _ _ (ne_eqb _ c (later n (omega arith) (omega arith)))
    ∙ last_below c text k n (omega arith) here (λ i above below. later i above (omega arith)))
    (cases_eq k n)

-- The clause of `rsplit_once` at an ASCII character.
abbrev pub IsLastSplit : ℕ → List ℕ → Option (Bor (List ℕ) × Bor (List ℕ)) → Type 0
IsLastSplit c text r = MatchOption r (RFindsChar c text None) (λ x. (i : ℕ) × (j : ℕ) × RFindsChar c text (Some (i, j))
    × (x.0.now ≡ take i text) × (x.1.now ≡ drop j text) × (i ≤ j) × (length x.0.now ≡ i) × (length x.1.now + j ≡ length text))

-- The call `rsplit_once` gives what its definition gives.
pub split_last : (c : ℕ) (text : List ℕ) (r : Option (Bor (List ℕ) × Bor (List ℕ))) → IsLastSplit c text r → c < 128
    → option_map (λ x. (x.0.now, x.1.now)) r ≡ rsplit_once c text
unfolding rsplit_once
split_last c text None is ascii =
    sym (ap (option_map (λ i. (take i text, drop (i + 1) text)))
    (none_below c text (length text) (λ i. NoCharPasses-char c text i is ascii)))
split_last c text (Some x) is ascii =
    let i = is.0 in
    let j = is.1 in
    let next : j ≡ i + 1 = omega (arith, is.2.1.ends, len_utf8_ascii c ascii) in
    let later : (k : ℕ) → i < k → k < length text → get_or text k 0 ≡ c → ⊥ = λ k above below here.
    let back : j + (k - j) ≡ k = omega arith in
    NoCharPasses-char c (drop j text) (k - j) is.2.0 ascii (omega (arith, length-drop j text))
    (get_or-drop j text (k - j) 0 ∙ ap (λ n. get_or text n 0) back ∙ here) in
    let found = last_below c text i (length text) (omega (arith, is.7)) (is.2.1.byte ascii) later in
    let second = is.4 ∙ ap (λ n. drop n text) next in
    (λ t. Some (is.3 t, second t)) ∙ sym (ap (option_map (λ k. (take k text, drop (k + 1) text))) found)
