-- Laws of specs/Draft.antt.
use Rattle.std.proofs.Common.{◌≡◌, ◌≢◌, ◌⊎◌, ◌∙◌, ℕ, List, Option, Some, None, refl, sym, ap, inl, inr}
use Rattle.std.specs.Option.{option_map_or}
use Rattle.tfs_state.specs.StateText.{first_state_fault, document_of}
use Rattle.tfs_state.specs.declared.fault.StateFault.{StateFault}
use Rattle.tfs_state.specs.declared.fault.StateFault.TheVariants.{NotJson, Version, Serial, Lineage, Resource, Instance, Dependency}
use Rattle.tfs_state.specs.declared.fault.StateFault.TheVariants.{TooManyInstances, NoMemory}
use Rattle.tfs_calls.specs.Draft.{state_refusal, state_text_refusal}
use Rattle.tfs_calls.specs.Refusal.{RefusalValue, bad_state, out_of_memory}

-- A state text with a fault is refused for lack of memory, or it is no state and is refused for its
-- first fault.
pub state_text_refused : (bytes : List ℕ) (fault : StateFault) (given : RefusalValue) → given ≡ state_refusal fault
    → (fault ≢ NoMemory → first_state_fault bytes ≡ Some fault)
    → ((first : StateFault) → first_state_fault bytes ≡ Some first → document_of bytes ≡ None)
    → (given ≡ out_of_memory) ⊎ ((given ≡ state_text_refusal bytes) × (document_of bytes ≡ None))
state_text_refused bytes fault given is told none =
    elim fault as (λ f. fault ≡ f → (given ≡ out_of_memory) ⊎ ((given ≡ state_text_refusal bytes) × (document_of bytes ≡ None))) [
      | NotJson ↦ λ e. inr (first (λ m. cc) e)
      | Version ↦ λ e. inr (first (λ m. cc) e)
      | Serial ↦ λ e. inr (first (λ m. cc) e)
      | Lineage ↦ λ e. inr (first (λ m. cc) e)
      | Resource i ↦ λ e. inr (first (λ m. cc) e)
      | Instance i j ↦ λ e. inr (first (λ m. cc) e)
      | Dependency i j k ↦ λ e. inr (first (λ m. cc) e)
      | TooManyInstances ↦ λ e. inr (first (λ m. cc) e)
      | NoMemory ↦ λ e. inl (is ∙ ap state_refusal e)
    ] refl
  where
    first : {f : StateFault} → (fault ≢ NoMemory) → fault ≡ f → (given ≡ state_text_refusal bytes) × (document_of bytes ≡ None)
    first other e = (
      is ∙ sym (ap (λ (o : Option StateFault). option_map_or state_refusal o bad_state) (told other)),
      none fault (told
          other),
    )
