mod ChainLemmas
mod FilterLemmas
mod FindLemmas
mod PlanLemmas
mod ReachLemmas
mod SearchLemmas
