-- The answer of a table to a query for the impact of changes.
use Rattle.std.specs.Prelude.{ℕ, List, Option, option_map}
use Rattle.tfs_state.specs.Document.{Document}
use Rattle.tfs_index.specs.Impact.{any_impact, all_impact, query_fault}
use Rattle.tfs_index.specs.declared.fault.ImpactFault.{ImpactFault}
use Rattle.tfs_index.specs.declared.fault.ImpactFault.TheVariants as impact_fault
use Rattle.tfs_calls.specs.Refusal.{RefusalValue, no_address, too_many_addresses, unknown_address, out_of_memory}
use Rattle.tfs_calls.specs.declared.query.Kind.{Kind}
use Rattle.tfs_calls.specs.declared.query.Kind.TheVariants.{Any, All}
use Rattle.tfs_calls.specs.declared.query.Query.{Query}

-- The instances that a query of this kind chooses, in ascending order.
abbrev pub chosen_of : Kind → Document → List (List ℕ) → List ℕ
chosen_of Any d texts = any_impact d texts
chosen_of All d texts = all_impact d texts

-- The instances that a query chooses, in ascending order.
abbrev pub chosen_by : Document → Query → List ℕ
chosen_by d query = chosen_of query.kind d query.texts

-- The refusal for a fault of a query.
abbrev pub fault_refusal : ImpactFault → RefusalValue
fault_refusal impact_fault.NoAddress = no_address
fault_refusal impact_fault.TooManyAddresses = too_many_addresses
fault_refusal (impact_fault.UnknownAddress k) = unknown_address k
fault_refusal impact_fault.NoMemory = out_of_memory

-- The refusal of a query, by the first fault of its texts; none if they have no fault.
abbrev pub query_refusal : Document → Query → Option RefusalValue
query_refusal d query = option_map fault_refusal (query_fault d query.texts)
