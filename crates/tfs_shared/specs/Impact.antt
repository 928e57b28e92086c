-- The answers to impact queries over snapshots.
use Rattle.std.specs.Prelude.{◌≡◌, ◌⊎◌, ◌<◌, ◌≤◌, ℕ, List, length, IsSome}
use Rattle.std.specs.Option.{option_map_or}
use Rattle.tfs_state.specs.Document.{Document}
use Rattle.tfs_rules.specs.History.{state_of}
use Rattle.tfs_records.specs.Journal.{Journal, acts_of}
use Rattle.tfs_table.specs.Lawful.{IsLawful}
use Rattle.tfs_calls.specs.Impact.{chosen_by, query_refusal}
use Rattle.tfs_calls.specs.Refusal.{out_of_memory}
use Rattle.tfs_calls.specs.Reply.{ReplyValue, impact, refused}
use Rattle.tfs_calls.specs.Transition.{answer_of, open_model}
use Rattle.tfs_calls.specs.declared.call.Call.TheVariants.{Impact as CallImpact}
use Rattle.tfs_calls.specs.declared.query.Query.{Query}

-- The query isn't refused for the number of its texts: it has 1 to 64.
abbrev pub HasFewTexts : Query → Type 0
HasFewTexts query = (0 < length query.texts) × (length query.texts ≤ 64)

-- The reply over a lawful journal: the model's answer or, if the name has a state and the query 1
-- to 64 texts, `OutOfMemory`.
abbrev pub AnswersImpact : Journal → List ℕ → Query → ReplyValue → Type 0
AnswersImpact j name query reply = IsLawful j × ((reply ≡ answer_of (open_model j) (CallImpact name query))
    ⊎ ((reply ≡ refused out_of_memory) × IsSome (state_of (acts_of name j)) × HasFewTexts query))

-- The reply over a state, at a position: the model's answer or, if the query has 1 to 64 texts,
-- `OutOfMemory`.
abbrev pub AnswersQuery : Document → Query → ℕ → ReplyValue → Type 0
AnswersQuery d query position reply = (reply ≡ option_map_or refused (query_refusal d query) (impact d (chosen_by d query) position))
    ⊎ ((reply ≡ refused out_of_memory) × HasFewTexts query)
