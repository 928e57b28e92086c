-- Each level has one lemma.
use Rattle.tfs_state.proofs.FirstFaultLemmas.{resources_fault, resource_fault, instance_fault, dependency_fault}
use Rattle.tfs_state.proofs.laws.faults_are_first_by_position.Goals as goal

pub returns-clause-resources : goal.returns-clause-resources
returns-clause-resources c = resources_fault

pub returns-clause-resource : goal.returns-clause-resource
returns-clause-resource c = resource_fault

pub returns-clause-instance : goal.returns-clause-instance
returns-clause-instance c = instance_fault

pub returns-clause-dependency : goal.returns-clause-dependency
returns-clause-dependency c = dependency_fault
