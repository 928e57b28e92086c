-- One step of each loop of the grammar, applied to the kept part. Follows
-- `Rattle.serde_json.proofs.Reading`.
use Rattle.std.proofs.Common.{◌≡◌, ℕ, zero, suc, ◌-◌, ◌<◌, ◌≤◌, List, length, Bool, true, false, is_some, Option, Some, None, option_map, option_and_then, refl, sym, ap, ◌∙◌}
use Rattle.std.specs.Prelude.{MatchBool}
use Rattle.std.specs.Borrow.{Bor}
use Rattle.json.specs.Token.{Token}
use Rattle.json.specs.Json.{Json, array, object, Items, no_items, item, Members, no_members, member, value, Parse, parse_map, after_end_array, read_key, items_step, items, members}
use Rattle.json.specs.Value.{value_view}
use Rattle.json.specs.declared.value.Value.{Value}
use Rattle.json.proofs.Grammar.{left, left-parse_map, left_some, items_end, items_more, members_end, members_no_key, members_more}
use Rattle.json.proofs.Trees.{members_before, one_more_member, none_before}
use Rattle.serde_json.specs.Read.{converted}
use Rattle.tfs_json.specs.Kept.{is_wanted, with_member, kept, kept_items, kept_members}
use Rattle.tfs_json.specs.Taken.{PutsLast, PassesOver}

-- The value of an option, or a default.
abbrev pick : {A : Type 0} → A → Option A → A
pick d None = d
pick d (Some a) = a

-- If an option paired with tokens gives a pair, the option has the pair's value, and the tokens are
-- the pair's.
found : {A B : Type 0} (a : A) (r s : List Token) (x : Option B) (b : B) → option_map {U = B × List Token} (λ y. (y, r)) x ≡ Some (b, s)
    → (r ≡ s) × (x ≡ Some b)
found a r s None b e = absurd (cc)
found a r s (Some y) b e = let same = ap (pick (y, r)) e in (ap (λ p. p.1) same, ap (λ p. Some p.0) same)

-- If a kept part was read, a value was read from which it was kept.
pub converted_some : {A B : Type 0} (f : A → Option B) (o : Option (A × List Token)) (b : B) (r : List Token) → converted f o ≡ Some (b, r)
    → (a : A) × (o ≡ Some (a, r)) × (f a ≡ Some b)
converted_some f None b r e = absurd (cc)
converted_some f (Some p) b r e = let both = found p.0 p.1 r (f p.0) b e in (p.0, ap (λ s. Some (p.0, s)) both.0, both.1)

-- If an option paired with tokens gives None, the option is None.
refused : {B : Type 0} (r : List Token) (x : Option B) → option_map {U = B × List Token} (λ y. (y, r)) x ≡ None → x ≡ None
refused r None e = refl
refused r (Some y) e = absurd (cc)

-- Mapping the result before or after the remaining tokens are added gives the same.
twice : {A B : Type 0} (g : A → B) (r : List Token) (x : Option A) → option_map (λ b. (b, r)) (option_map g x) ≡ parse_map g (option_map (λ a. (a, r)) x)
twice g r None = refl
twice g r (Some a) = refl

-- The kept part of a list is the list of its kept elements.
pub kept-array : (o : Option (Items × List Token)) → converted kept (parse_map array o) ≡ parse_map array (converted kept_items o)
kept-array None = refl
kept-array (Some p) = twice array p.1 (kept_items p.0)

-- The kept part of an object is the object of its kept members.
pub kept-object : (o : Option (Members × List Token)) → converted kept (parse_map object o) ≡ parse_map object (converted kept_members o)
kept-object None = refl
kept-object (Some p) = twice object p.1 (kept_members p.0)

-- If the first element has a kept part, the kept part of the list begins with it.
one_item : (j d : Json) → kept j ≡ Some d → (o : Option (Items × List Token))
    → converted kept_items (parse_map (item j) o) ≡ parse_map (item d) (converted kept_items o)
one_item j d e None = refl
one_item j d e (Some p) = rw e (twice (item d) p.1 (kept_items p.0))

-- If the first element has no kept part, the list has none.
without_item : (j : Json) → kept j ≡ None → (o : Option (Items × List Token)) → converted kept_items (parse_map (item j) o) ≡ None
without_item j e None = refl
without_item j e (Some p) = rw e

-- If the first member has a kept part, the kept part of the object begins with it if its name is
-- kept.
one_member : (k : List ℕ) (j d : Json) → kept j ≡ Some d → (o : Option (Members × List Token))
    → converted kept_members (parse_map (member k j) o) ≡ parse_map (with_member (is_wanted k) k d) (converted kept_members o)
one_member k j d e None = refl
one_member k j d e (Some p) = rw e (twice (with_member (is_wanted k) k d) p.1 (kept_members p.0))

-- If the first member has no kept part, the object has none.
without_member : (k : List ℕ) (j : Json) → kept j ≡ None → (o : Option (Members × List Token)) → converted kept_members (parse_map (member k j) o) ≡ None
without_member k j e None = refl
without_member k j e (Some p) = rw e

module _ (p : Parse Json) where
  -- One step: an element is read, and its kept part is the first of the list.
  pub item_read : (n : ℕ) (ts r : List Token) (d : Json) → 0 < n → after_end_array ts ≡ None → converted kept (p ts) ≡ Some (d, r)
      → converted kept_items (items p n ts) ≡ parse_map (item d) (converted kept_items (items p (n - 1) r))
  item_read n ts r d some going e =
      let j = converted_some kept (p ts) d r e in ap (converted kept_items) (items_more p n ts r j.0 some going j.1) ∙ one_item j.0 d j.2 _

  -- If the next element has no kept part, the rest of the list has none.
  no_item : (more : Parse Items) (o : Option (Json × List Token)) → converted kept o ≡ None
      → converted kept_items (option_and_then (λ q. parse_map (item q.0) (more q.1)) o) ≡ None
  no_item more None e = refl
  no_item more (Some q) e = without_item q.0 (refused q.1 (kept q.0) e) (more q.1)

  -- If the next element's tokens have no kept part, the rest of the list has none.
  pub item_refused : (n : ℕ) (ts : List Token) → after_end_array ts ≡ None → converted kept (p ts) ≡ None → converted kept_items (items p n ts) ≡ None
  unfolding items
  item_refused zero ts going e = refl
  item_refused (suc n) ts going e = ap (λ o. converted kept_items (items_step p (items p n) ts o)) going ∙ no_item (items p n) (p ts) e

  -- At the end of the list, no elements remain.
  pub items_over : (n : ℕ) (ts r : List Token) → length ts ≤ n → after_end_array ts ≡ Some r → converted kept_items (items p n ts) ≡ Some (no_items, r)
  items_over n ts r enough e = ap (converted kept_items) (items_end p n ts r enough e)

  -- One step: a member is read, and its kept part is the first of the object if its name is kept.
  pub member_read : (n : ℕ) (k : List ℕ) (ts s r : List Token) (d : Json) → 0 < n → read_key ts ≡ Some (Some k, s) → converted kept (p s) ≡ Some (d, r)
      → converted kept_members (members p n ts) ≡ parse_map (with_member (is_wanted k) k d) (converted kept_members (members p (n - 1) r))
  member_read n k ts s r d some key e =
      let j = converted_some kept (p s) d r e in
      ap (converted kept_members) (members_more p n k ts s r j.0 some key j.1) ∙ one_member k j.0 d j.2 _

  -- If the next member has no kept part, the rest of the object has none.
  no_member : (k : List ℕ) (more : Parse Members) (o : Option (Json × List Token)) → converted kept o ≡ None
      → converted kept_members (option_and_then (λ q. parse_map (member k q.0) (more q.1)) o) ≡ None
  no_member k more None e = refl
  no_member k more (Some q) e = without_member k q.0 (refused q.1 (kept q.0) e) (more q.1)

  -- If the next member's tokens have no kept part, the rest of the object has none.
  pub member_refused : (n : ℕ) (k : List ℕ) (ts s : List Token) → read_key ts ≡ Some (Some k, s) → converted kept (p s) ≡ None
      → converted kept_members (members p n ts) ≡ None
  unfolding members
  member_refused zero k ts s key e = refl
  member_refused (suc n) k ts s key e = rw key (no_member k (members p n) (p s) e)

  -- If the tokens begin with neither a name nor the end, the rest of the object has no kept part.
  pub key_refused : (n : ℕ) (ts : List Token) → read_key ts ≡ None → converted kept_members (members p n ts) ≡ None
  key_refused n ts e = ap (converted kept_members) (members_no_key p n ts e)

  -- At the end of the object, no members remain.
  pub members_over : (n : ℕ) (ts r : List Token) → length ts ≤ n → read_key ts ≡ Some (None, r) → converted kept_members (members p n ts) ≡ Some (no_members, r)
  members_over n ts r enough e = ap (converted kept_members) (members_end p n ts r enough e)

  -- One step: an element is skipped.
  pub item_passed : (n : ℕ) (ts r : List Token) → 0 < n → after_end_array ts ≡ None → left (converted kept (p ts)) ≡ Some r
      → left (converted kept_items (items p n ts)) ≡ left (converted kept_items (items p (n - 1) r))
  item_passed n ts r some going e = let d = left_some (converted kept (p ts)) r e in ap left (item_read n ts r d.0 some going d.1) ∙ left-parse_map (item d.0) _

  -- One step: a member is skipped.
  pub member_passed : (n : ℕ) (k : List ℕ) (ts s r : List Token) → 0 < n → read_key ts ≡ Some (Some k, s) → left (converted kept (p s)) ≡ Some r
      → left (converted kept_members (members p n ts)) ≡ left (converted kept_members (members p (n - 1) r))
  member_passed n k ts s r some key e =
      let d = left_some (converted kept (p s)) r e in
      ap left (member_read n k ts s r d.0 some key d.1) ∙ left-parse_map (with_member (is_wanted k) k d.0) _

-- If the option has a value, mapping it to a constant gives that constant.
pub there : {A B : Type 0} (b : B) (o : Option A) → true ≡ is_some o → option_map (λ _. b) o ≡ Some b
there b None e = cc
there b (Some a) e = refl

-- If the option has no value, mapping it gives None.
pub not_there : {A B : Type 0} (b : B) (o : Option A) → false ≡ is_some o → option_map (λ _. b) o ≡ None
not_there b None e = refl
not_there b (Some a) e = cc

-- One step of the loop over members: the member is appended to those found, or it is skipped.
pub member_taken : {A : Type 0} (depth n : ℕ) (name : Bor (List ℕ)) (ts s r : List Token) (found more : List (Bor (List ℕ) × Value A))
    → 0 < n → read_key ts ≡ Some (Some name.now, s)
    → (b : Bool) → is_wanted name.now ≡ b → MatchBool b (PutsLast depth name s r found more) (PassesOver depth s r found more)
    → parse_map (members_before found) (converted kept_members (members (value depth) n ts))
    ≡ parse_map (members_before more) (converted kept_members (members (value depth) (n - 1) r))
member_taken depth n name ts s r found more some key true wanted put =
    let v = value_view put.member in
    let rest = converted kept_members (members (value depth) (n - 1) r) in
    ap (parse_map (members_before found)) (member_read (value depth) n name.now ts s r v some key put.read
    ∙ ap (λ b. parse_map (with_member b name.now v) rest) wanted)
    ∙ one_more_member found (name, put.member) rest
    ∙ ap (λ ms. parse_map (members_before ms) rest) (sym put.last)
member_taken depth n name ts s r found more some key false other over =
    let rest = converted kept_members (members (value depth) (n - 1) r) in
    let d = left_some (converted kept (value depth s)) r over.passed in
    ap (parse_map (members_before found))
    (member_read (value depth) n name.now ts s r d.0 some key d.1 ∙ ap (λ b. parse_map (with_member b name.now d.0) rest) other ∙ sym (none_before rest))
    ∙ ap (λ ms. parse_map (members_before ms) rest) (sym over.same)
