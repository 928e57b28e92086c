-- The whole value of a lock text and the part of it that is kept give the same identifier and the
-- same first fault.
use Rattle.std.proofs.Common.{codes, ◌≡◌, List, ℕ, is_some, is_none, cond, IsSome, Option, Some, None, refl, sym, ap, subst, ◌∙◌}
use Rattle.std.specs.Option.{option_map_or}
use Rattle.json.specs.Json.{Json}
use Rattle.json.specs.Value.{value_view}
use Rattle.serde_json.specs.Data.{Data}
use Rattle.serde_json.specs.Find.{as_object}
use Rattle.tfs_json.specs.Kept.{SpellsKept}
use Rattle.tfs_json.specs.Tree.{Tree, tree_data, tree_view}
use Rattle.tfs_json.proofs.Looking.{kept_of}
use Rattle.tfs_json.proofs.Alike.{kept_data, as_object-pruned, same_text}
use Rattle.tfs_lock.specs.LockText.{id_of, GivesId, SpellsId, id_fault, first_value_fault, first_text_fault}
use Rattle.tfs_lock.specs.declared.fault.LockFault.{LockFault}
use Rattle.tfs_lock.specs.declared.fault.LockFault.TheVariants.{NotJson, NotObject}

-- If two options are both Some or both None, the test for None has the same result for both.
none_as : {A B : Type 0} (o : Option A) (p : Option B) → is_some o ≡ is_some p → is_none o ≡ is_none p
none_as None None e = refl
none_as None (Some b) e = cc
none_as (Some a) None e = cc
none_as (Some a) (Some b) e = refl

-- If two options are both Some or both None and one is Some, so is the other.
some_as : {A B : Type 0} (o : Option A) (p : Option B) → is_some o ≡ is_some p → IsSome o → IsSome p
some_as None None e i = i
some_as None (Some b) e i = cc
some_as (Some a) None e i = cc
some_as (Some a) (Some b) e i = refl

-- A value and what is kept of it have the same identifier.
same_id : (j : Json) → id_of (kept_data j) ≡ id_of (tree_data j)
same_id j = same_text (codes "ID") j refl

-- A value and what is kept of it have the same first fault.
same_fault : (j : Json) → first_value_fault (kept_data j) ≡ first_value_fault (tree_data j)
same_fault j =
    ap (λ b. cond b (Some NotObject) (id_fault (id_of (kept_data j)))) (none_as (as_object (kept_data j)) (as_object (tree_data j)) (as_object-pruned j))
    ∙ ap (λ o. cond (is_none (as_object (tree_data j))) (Some NotObject) (id_fault o)) (same_id j)

-- If what is kept of a text's value gives an identifier, the text spells it.
pub id_kept : (bytes : List ℕ) (tree : Tree) (id : List ℕ) → SpellsKept bytes (value_view tree) → GivesId (tree_view tree) id → SpellsId bytes id
id_kept bytes tree id s g =
    let w = kept_of bytes (value_view tree) s in
    let h = subst (λ t. GivesId (tree_data t) id) w.2 g in (
      tree_data w.0,
      w.1,
      record {
        object = some_as (as_object (kept_data w.0)) (as_object (tree_data w.0)) (as_object-pruned w.0) h.object;
        given = sym (same_id w.0) ∙ h.given;
        valid = h.valid;
      },
    )

-- The first fault of a text is that of what is kept of its value.
pub fault_kept : (bytes : List ℕ) (tree : Tree) → SpellsKept bytes (value_view tree) → first_text_fault bytes ≡ first_value_fault (tree_view tree)
fault_kept bytes tree s =
    let w = kept_of bytes (value_view tree) s in
    ap (λ o. option_map_or first_value_fault o (Some NotJson)) w.1 ∙ sym (same_fault w.0) ∙ ap (λ t. first_value_fault (tree_data t)) (sym w.2)
