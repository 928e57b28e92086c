-- Accepted histories, act by act.
use Rattle.std.proofs.Common.{◌≡◌, [], ◌∷◌, ◌++◌, append_assoc, refl, ◌∙◌, ap, subst}
use Rattle.tfs_rules.specs.Act.{ActValue}
use Rattle.tfs_rules.specs.History.{History, Standing, standing_of}
use Rattle.tfs_rules.specs.Verdict.{verdict_of, verdict_over, IsAccepted}
use Rattle.tfs_rules.specs.declared.verdict.Verdict.TheVariants.{Accept}
use Rattle.tfs_rules.proofs.HistoryLemmas.{standing_after, standing_from, standing_behind}

-- From this state and holder on, each of the acts is accepted after the acts before it.
abbrev pub AreAcceptedFrom : Standing → History → Type 0
AreAcceptedFrom s [] = Unit {0}
AreAcceptedFrom s (act ∷ rest) = (verdict_over s act ≡ Accept) × AreAcceptedFrom (standing_after s act) rest

-- The last acts of an accepted history are accepted from the state and holder that the acts before
-- them leave.
pub accepted_from : (before rest : History) → IsAccepted (before ++ rest) → AreAcceptedFrom (standing_of before) rest
accepted_from before [] accepted = tt
accepted_from before (act ∷ rest) accepted =
    let more : IsAccepted ((before ++ act ∷ []) ++ rest) = rw append_assoc accepted in
    (accepted before rest act refl, subst (λ s. AreAcceptedFrom s rest) (standing_behind before (act ∷ [])) (accepted_from (before ++ act ∷ []) rest more))

-- An act among accepted acts is accepted over what the acts before it leave.
accepted_at : (s : Standing) (before after : History) (act : ActValue) → AreAcceptedFrom s (before ++ act ∷ after)
    → verdict_over (standing_from s before) act ≡ Accept
accepted_at s [] after act p = p.0
accepted_at s (first ∷ before) after act p = accepted_at (standing_after s first) before after act p.1

-- Accepted acts followed by an act that is accepted over what they leave are accepted.
accepted_then : (s : Standing) (h : History) (act : ActValue) → AreAcceptedFrom s h → verdict_over (standing_from s h) act ≡ Accept
    → AreAcceptedFrom s (h ++ act ∷ [])
accepted_then s [] act p accept = (accept, tt)
accepted_then s (first ∷ h) act p accept = (p.0, accepted_then (standing_after s first) h act p.1 accept)

-- The empty history is accepted.
pub accepted_none : IsAccepted []
accepted_none before after act split = none before split
  where
    none : (front : History) → [] ≡ front ++ act ∷ after → verdict_of before act ≡ Accept
    none [] e = cc
    none (first ∷ front) e = cc

-- An accepted history followed by an act that is accepted after it is accepted.
pub accepted_more : (h : History) (act : ActValue) → IsAccepted h → verdict_of h act ≡ Accept → IsAccepted (h ++ act ∷ [])
accepted_more h act accepted accept before after other split =
    let all = accepted_then (standing_of []) h act (accepted_from [] h accepted) accept in
    accepted_at (standing_of []) before after other (subst (AreAcceptedFrom (standing_of [])) split all)

-- A prefix of an accepted history is accepted.
pub accepted_front : (h before rest : History) → h ≡ before ++ rest → IsAccepted h → IsAccepted before
accepted_front h before rest parts accepted front after act split =
    accepted front (after ++ rest) act (parts ∙ ap (λ t. t ++ rest) split ∙ append_assoc front (act ∷ after) rest)

-- If a history with one more act is accepted, the history is accepted, and the act is accepted
-- after it.
pub accepted_last : (h : History) (act : ActValue) → IsAccepted (h ++ act ∷ []) → IsAccepted h × (verdict_of h act ≡ Accept)
accepted_last h act accepted = (accepted_front (h ++ act ∷ []) h (act ∷ []) refl accepted, accepted h [] act refl)
