-- `of` chooses the bytes that the conversation has left. Assumes `Logic`.
use Rattle.tfs_connections.proofs.Walks.{List, [], ◌∷◌, ◌++◌, refl, Val, vptr, Goal, proved_at, tables, ‵, raw, ◌⊛◌, prop, ◌$◌, ◌∵◌, !, qed, move, keep, drop, split, fsplit, fjoin, feq_l, regoal, suffices, done, agg, enter, returns, no_more, alloc_all, pass_all, free_all, look_at, sets, yes, owns, types_at, nothing, alive, says, Stays, stay_dropped, walk_of, ends_at, Goes-dropped, WpFn, none, none_made}
use denote.Builtin.{RefOf}
use denote.Signature.{plain}
use Rattle.tfs_conversation.specs.contracts.resumed.Conversation as Conversation
use Rattle.tfs_connections.specs.contracts.written.Text as Text
use Rattle.tfs_connections.specs.contracts.written.Text.of as F
use Rattle.tfs_connections.specs.contracts.written.Text.of.Key.{name as #self}
use Rattle.tfs_connections.proofs.written.Text.of.Statement.{statement}
use Rattle.tfs_connections.proofs.written.Text.of.Code as code

abbrev stayed : Stays F.ended.signature.params F.ended.kept
stayed = (stay_dropped _ yes, tt)

-- The proof walks the body to its return.
pub of_spec : {M : Type 1} → statement M
of_spec 𝓤 𝓛 𝓜 𝓡 wired =
    let c = F.clauses 𝓛 𝓜.mem 𝓡.returns in let W = walk_of 𝓛 F.ended stayed c in let 𝓣 = tables 𝓤 𝓛.H 𝓜 𝓡 𝓡.env in
    let runs : List Val → W.Ghost → Goal 𝓤 𝓛.H = λ us y. prop (WpFn 𝓤 𝓛.H 𝓣.C 𝓣.Λ code.function us (W.post y)) in
    proved_at 𝓛 F.ended stayed c 𝓜 𝓡 (Goes-dropped 𝓛 1 (RefOf (0 ∷ []) tt (plain (λ _. Conversation.the_row)) (λ _. tt)) yes (λ κs x f. refl), tt)
    #self code.function (code.unfolded 𝓤 𝓛.H 𝓜 𝓡 wired) (λ y are.
    let a = y.0.3 in
    let u : Val = vptr a.0.ref_ptr.0 a.0.ref_ptr.1 in
    let made : (Text.the_row).Denot = record { bytes = a.0.now.rest } in
    qed 𝓛 ((raw (alive 𝓛 F.ended.signature y.0.0 y.0.1) ⊛ ‵ (owns (types_at F.ended.signature.params y.0.0) a y.0.4))
    ∷ raw ((c y.0.0 a).requires y.1) ∷ []) ∵
    keep ! (0 ∷ []) $ split ! $ move ! (1 ∷ []) $ fsplit ! $ fsplit ! $ feq_l ! (λ is₀. drop ! $ drop ! $
    regoal ! (λ us. runs (us ++ []) y) is₀ refl $
    enter ! 𝓣.C 𝓣.Λ code.function (u ∷ []) (W.post y) $ alloc_all ! (λ l. pass_all ! refl ((tt, tt), tt) $
    sets ! (agg ! (no_more !)) refl (tt, tt) $ nothing ! $ none_made ! $ fjoin ! $
    returns ! (look_at ! 0 refl) $ free_all ! refl $
    suffices ! _ (ends_at 𝓛 F.ended stayed c y none made (tt, tt) (tt, tt)) $ says ! refl $
    nothing ! $ nothing ! $ fjoin ! $ move ! (2 ∷ 0 ∷ 1 ∷ []) $ done !)))
