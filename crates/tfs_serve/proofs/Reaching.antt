-- Lemmas: a relation that each step of a desk keeps, a conversation keeps.
use Rattle.std.proofs.Common.{◌≡◌, List, ℕ, [], ◌∷◌, sym, subst, inl, inr}
use Rattle.tfs_calls.specs.declared.call.Call.{Call}
use Rattle.tfs_conversation.specs.Conversation.{AnswersRequest, Exchange, Said, Runs, HasSpoken}
use Rattle.tfs_conversation.proofs.StepLemmas.{runs_keep, talked_run}

-- A reflexive and transitive relation that each step keeps.
module _ {S : Type 0} (step : S → Call → Said → S → Type 0) (reaches : S → S → Type 0) (itself : (s : S) → reaches s s)
    (then : (a b c : S) → reaches a b → reaches b c → reaches a c)
    (steps : (old new : S) (call : Call) (said : Said) → step old call said new → reaches old new) where
  -- Exchanges in order keep the relation.
  runs_reach : (old new : S) (xs : List Exchange) → Runs step old xs new → reaches old new
  runs_reach old new [] run = subst (λ (t : S). reaches old t) (sym run) (itself old)
  runs_reach old new (x ∷ xs) run = then old run.0 new (between run.1) (runs_reach run.0 new xs run.2)
    where
      between : AnswersRequest step old x.request x.reply run.0 → reaches old run.0
      between (inl a) = subst (λ (t : S). reaches old t) (sym a.3) (itself old)
      between (inr (inl a)) = subst (λ (t : S). reaches old t) (sym a.1) (itself old)
      between (inr (inr a)) = steps old run.0 a.0 x.reply a.2

  -- A conversation keeps the relation.
  pub talk_reaches : (old new : S) (bytes text : List ℕ) → HasSpoken step old new bytes text → reaches old new
  talk_reaches old new bytes text talk = let run = talked_run step old new bytes text talk in runs_reach old new run.0 run.1

-- What no step of a desk changes, a conversation doesn't change.
pub talk_keeps : {S U : Type 0} (step : S → Call → Said → S → Type 0) (part : S → U)
    → ((old new : S) (call : Call) (said : Said) → step old call said new → part new ≡ part old)
    → (old new : S) (bytes text : List ℕ) → HasSpoken step old new bytes text → part new ≡ part old
talk_keeps step part keeps old new bytes text talk =
    let run = talked_run step old new bytes text talk in runs_keep step part keeps old new run.0 run.1
