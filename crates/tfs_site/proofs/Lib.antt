mod ChangesLemmas
mod Crossing
mod WorkspacesLemmas
