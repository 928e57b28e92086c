mod CountLemmas
mod DiffLemmas
mod EventLemmas
mod HoldingLemmas
mod ToldLemmas
mod WholeLemmas
