-- Lemmas about specs/Directory.antt.
use Rattle.std.proofs.Common.{◌≡◌, ℕ, ◌<◌, Bool, true, false, ◌&&◌, ◌||◌, IsTrue, get_or, List, length, not, Option, Some, None, is_some, IfSome, IfNone}
use Rattle.std.proofs.Common.{refl, sym, ap, subst, ◌∙◌, inl, inr, arith}
use Rattle.std.specs.List.{range_with_len}
use Rattle.std.proofs.lemmas.Bool.{cases_Bool, eq-eqb, and_parts, and_from, or_cases, or_left, or_right, not-true, not-false, true≢false}
use Rattle.std.proofs.lemmas.Bool.Decides.{same_from_decides}
use Rattle.std.proofs.lemmas.List.Folds.{Any-from_list_any, list_any_at}
use Rattle.std.proofs.lemmas.List.FromFn.{length-range_with_len, get_or-range_with_len}
use Rattle.tfs_state.specs.Document.{Document}
use Rattle.tfs_state.specs.Dependency.{address_of, config_of}
use Rattle.tfs_index.specs.Directory.{bucket_of, AreBuckets, IsDirectory}
use Rattle.tfs_index.specs.Impact.{names, Names, is_unknown, is_reached, is_reached_from, IsReached}
use Rattle.tfs_index.specs.Links.{has_number}
use Rattle.tfs_index.specs.declared.directory.Directory.{Directory}
use Rattle.tfs_index.proofs.ImpactLemmas.{known, unknown}
use Rattle.tfs_index.specs.Reach.{Reaches, reaches}
use Rattle.tfs_index.proofs.LawLemmas.{names_told, names_within, reached_told}
use Rattle.tfs_index.proofs.ReachLemmas.{reach_told, reaches_alike}
use Rattle.tfs_index.proofs.LinkLemmas.{has_told}

-- An instance with a text is in the text's bucket.
bucket_has : (mask : ℕ) (text_of : ℕ → Option (List ℕ)) (numbers text : List ℕ) → AreBuckets mask text_of numbers → (v : ℕ) → v < length numbers →
    text_of v ≡ Some text → has_number numbers (bucket_of mask text) v ≡ true
bucket_has mask text_of numbers text are v h is =
    has_told numbers (bucket_of mask text) v (bucket_of mask text) (are v text h is) ∙ eq-eqb (bucket_of mask text) (bucket_of mask text) refl

module _ (d : Document) (directory : Directory) (is : IsDirectory d directory) (text : List ℕ) where
  -- An instance with the address is in the bucket of the address.
  pub address_in_bucket : (k : ℕ) → k ≡ bucket_of directory.mask text → (v : ℕ) → address_of d v ≡ Some text → has_number directory.addresses k v ≡ true
  address_in_bucket k e v address =
      let within = names_within d text v (inl address) in
      let long = is.addresses_len in
      subst (λ n. has_number directory.addresses n v ≡ true) (sym e)
      (bucket_has directory.mask (address_of d) directory.addresses text is.addresses v (omega (arith, within, long)) address)

  -- An instance with the configuration address is in the bucket of the configuration address.
  pub config_in_bucket : (k : ℕ) → k ≡ bucket_of directory.mask text → (v : ℕ) → config_of d v ≡ Some text → has_number directory.configs k v ≡ true
  config_in_bucket k e v config =
      let within = names_within d text v (inr config) in
      let long = is.configs_len in
      subst (λ n. has_number directory.configs n v ≡ true) (sym e)
      (bucket_has directory.mask (config_of d) directory.configs text is.configs v (omega (arith, within, long)) config)

  -- An instance that a text names is in one of the text's two buckets.
  in_bucket : (v : ℕ) → names d text v ≡ true →
      (has_number directory.addresses (bucket_of directory.mask text) v || has_number directory.configs (bucket_of directory.mask text) v) ≡ true
  in_bucket v named =
      let k : ℕ = bucket_of directory.mask text in
      let a : Bool = has_number directory.addresses k v in
      let c : Bool = has_number directory.configs k v in
      elim ((names_told d text v).0 named) [
        | inl address ↦ or_left a c (address_in_bucket k refl v address)
        | inr config ↦ or_right a c (config_in_bucket k refl v config)
      ]

  -- If a text names no instance in its two buckets, it names no instance.
  pub none_in_buckets :
      ((v : ℕ) → has_number directory.addresses (bucket_of directory.mask text) v ≡ true → names d text v ≡ false) →
      ((v : ℕ) → has_number directory.configs (bucket_of directory.mask text) v ≡ true → names d text v ≡ false) →
      (v : ℕ) → names d text v ≡ false
  none_in_buckets addresses configs v =
      elim (cases_Bool (names d text v)) [
        | inl named ↦ elim (or_cases (has_number directory.addresses (bucket_of directory.mask text) v)
            (has_number directory.configs (bucket_of directory.mask text) v) (in_bucket v named)) [
              | inl address ↦ addresses v address
              | inr config ↦ configs v config
            ]
        | inr not ↦ not
      ]

  -- If no instance in the first bucket is found, the text is unknown if and only if none is found
  -- in the second bucket either.
  pub not_found : (k : ℕ) → k ≡ bucket_of directory.mask text → (first second : Option ℕ) (none : Bool) → is_some first ≡ false → is_some second ≡ not none →
      IfNone first ((v : ℕ) → has_number directory.addresses k v ≡ true → names d text v ≡ false) →
      IfSome second (λ v. v < length d.instances) → IfSome second (λ v. names d text v ≡ true) →
      IfNone second ((v : ℕ) → has_number directory.configs k v ≡ true → names d text v ≡ false) → none ≡ is_unknown d text
  not_found k e (Some at) second none a b one within named other = absurd (true≢false a)
  not_found k e None (Some at) none a b one within named other = not-true none (sym b) ∙ known d text at within named
  not_found k e None None none a b one within named other =
      not-false none (sym b)
      ∙ unknown d text (λ v h. none_in_buckets
      (subst (λ n. (v : ℕ) → has_number directory.addresses n v ≡ true → names d text v ≡ false) e one)
      (subst (λ n. (v : ℕ) → has_number directory.configs n v ≡ true → names d text v ≡ false) e other) v)

-- ---- what is reached from two buckets

module _ (d : Document) (text : List ℕ) (u : ℕ) where
  -- If an instance is reached from the instances that pass a test, it is reached.
  from_test : (passes : ℕ → Bool) → IsTrue (is_reached_from d text passes u) → IsReached d text u
  unfolding is_reached_from
  from_test passes is =
      let r : ℕ → Bool = λ v. names d text v && reaches d v u in
      let one = Any-from_list_any (λ v. passes v && r v) (range_with_len 0 (length d.instances)) is in
      let both = and_parts (passes one.1) (r one.1) one.4 in
      let named = and_parts (names d text one.1) (reaches d one.1 u) both.1 in
      record { from = one.1; named = (names_told d text one.1).0 named.0; reaches = (reach_told d one.1 u).0 named.1 }

  -- What an instance reaches that passes the test and is named is reached from the test.
  from_one : (passes : ℕ → Bool) (v : ℕ) → passes v ≡ true → Names d text v → Reaches d v u → IsTrue (is_reached_from d text passes u)
  unfolding is_reached_from
  from_one passes v is named walk =
      let within = names_within d text v named in
      let there = get_or-range_with_len 0 (length d.instances) v 0 within in
      let long = length-range_with_len 0 (length d.instances) in
      let same : get_or (range_with_len 0 (length d.instances)) v 0 ≡ v = omega (arith, there) in
      list_any_at (λ w. passes w && (names d text w && reaches d w u)) (range_with_len 0 (length d.instances)) v 0 (omega (arith, long, within))
      (ap (λ w. passes w && (names d text w && reaches d w u)) same
      ∙ and_from (passes v) (names d text v && reaches d v u) is
      (and_from (names d text v) (reaches d v u) ((names_told d text v).1 named) ((reach_told d v u).1 walk)))

  module _ (passes : ℕ → Bool) (all : (v : ℕ) → address_of d v ≡ Some text → passes v ≡ true) where
    -- Together with the instances that have the address, one instance with the configuration
    -- address reaches everything that is reached.
    pub reached_found : (v : ℕ) → config_of d v ≡ Some text → (is_reached_from d text passes u || reaches d v u) ≡ is_reached d text u
    reached_found v config =
        let b : Bool = is_reached_from d text passes u in
        same_from_decides {P = IsReached d text u} (b || reaches d v u) (is_reached d text u) (
          λ is. elim (or_cases b (reaches d v u) is) [
            | inl one ↦ from_test passes one
            | inr other ↦ record { from = v; named = inr config; reaches = (reach_told d v u).0 other }
          ],
          λ reached. elim reached.named [
            | inl address ↦ or_left b (reaches d v u) (from_one passes reached.from (all reached.from address) (inl address) reached.reaches)
            | inr other ↦ or_right b (reaches d v u)
                ((reach_told d v u).1 (reaches_alike d reached.from v u (other ∙ sym config) reached.reaches))
          ],
        ) (reached_told d text u)

    -- If no instance has the configuration address, the instances with the address reach everything
    -- that is reached.
    pub reached_rest : ((v : ℕ) → config_of d v ≡ Some text → ⊥) → is_reached_from d text passes u ≡ is_reached d text u
    reached_rest none =
        same_from_decides {P = IsReached d text u} (is_reached_from d text passes u) (is_reached d text u) (
          λ is. from_test passes is,
          λ reached. elim reached.named [
            | inl address ↦ from_one passes reached.from (all reached.from address) (inl address) reached.reaches
            | inr config ↦ absurd (none reached.from config)
          ],
        ) (reached_told d text u)
