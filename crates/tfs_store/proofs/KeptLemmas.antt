-- That moves which were carried out stay, and what servers know of them.
use Rattle.std.proofs.Common.{◌≡◌, ℕ, Bool, true, false, ◌&&◌, append_assoc, List, [], ◌∷◌, ◌++◌, Option, Some, None, ltb, refl, sym, ap, subst, ◌∙◌}
use Rattle.std.specs.Prelude.{is_none}
use Rattle.std.specs.List.{slice_get}
use Rattle.tfs_store.specs.Values.{RowValue, MoveValue}
use Rattle.tfs_store.specs.Register.{same_head, position_of, move_of, is_done, Server, World, empty, Event, Start, Send, Arrive, Hear, started, sent_if, sent_by, arrived_if, arrived, heard_if, heard_by, heard, happens, run, Has, EndsWith, Knows}
use Rattle.tfs_store.specs.declared.store.Answer.{Answer}
use Rattle.tfs_store.proofs.ChainLemmas.{has_left, has_right}
use Rattle.tfs_store.proofs.RegisterLemmas.{IsSeated, sound}

-- ---- what was carried out stays

-- A list ends with itself.
no_newer : (ms : List MoveValue) → EndsWith ms ms
no_newer ms = record { newer = []; are = refl }

-- A start carries no move out.
started_kept : (token : ℕ) (o : Option Server) (w : World) → EndsWith (started token o w).moves w.moves
started_kept token None w = no_newer w.moves
started_kept token (Some s) w = no_newer w.moves

-- Sending carries no move out.
sent_if_kept : (b : Bool) (token : ℕ) (m : MoveValue) (s : Server) (w : World) → EndsWith (sent_if b token m s w).moves w.moves
sent_if_kept true token m s w = no_newer w.moves
sent_if_kept false token m s w = no_newer w.moves

-- Nor does a server's sending.
sent_kept : (token position : ℕ) (rows : List RowValue) (o : Option Server) (w : World) → EndsWith (sent_by token position rows o w).moves w.moves
sent_kept token position rows None w = no_newer w.moves
sent_kept token position rows (Some s) w =
    sent_if_kept (is_none s.waiting && ltb (position_of s.head) position) token (move_of token s.head position rows) s w

-- An arrival carries one move out, or none.
arrived_if_kept : (b : Bool) (m : MoveValue) (w : World) → EndsWith (arrived_if b m w).moves w.moves
arrived_if_kept true m w = record { newer = m ∷ []; are = refl }
arrived_if_kept false m w = no_newer w.moves

-- So does any arrival.
arrived_kept : (o : Option MoveValue) (w : World) → EndsWith (arrived o w).moves w.moves
arrived_kept None w = no_newer w.moves
arrived_kept (Some m) w = arrived_if_kept (same_head w.register.head m.from) m w

-- Hearing an answer carries no move out.
heard_if_kept : (b : Bool) (token : ℕ) (m : MoveValue) (s : Server) (w : World) → EndsWith (heard_if b token m s w).moves w.moves
heard_if_kept true token m s w = no_newer w.moves
heard_if_kept false token m s w = no_newer w.moves

-- Nor does it for a server that waits.
heard_by_kept : (token : ℕ) (o : Option MoveValue) (s : Server) (answer : Option (MoveValue × Answer)) (w : World)
    → EndsWith (heard_by token o s answer w).moves w.moves
heard_by_kept token None s answer w = no_newer w.moves
heard_by_kept token (Some m) s None w = no_newer w.moves
heard_by_kept token (Some m) s (Some r) w = heard_if_kept (same_head (Some m.to) (Some (r.0).to) && is_done m r.1) token m s w

-- Nor for any server.
heard_kept : (token : ℕ) (o : Option Server) (answer : Option (MoveValue × Answer)) (w : World) → EndsWith (heard token o answer w).moves w.moves
heard_kept token None answer w = no_newer w.moves
heard_kept token (Some s) answer w = heard_by_kept token s.waiting s answer w

-- An event only adds moves.
happens_kept : (w : World) (e : Event) → EndsWith (happens w e).moves w.moves
happens_kept w (Start token) = started_kept token (w.servers token) w
happens_kept w (Send token position rows) = sent_kept token position rows (w.servers token) w
happens_kept w (Arrive which) = arrived_kept (slice_get w.sent which) w
happens_kept w (Hear token which) = heard_kept token (w.servers token) (slice_get w.answers which) w

-- The end of an end is an end.
ends_again : (xs ys zs : List MoveValue) → EndsWith xs ys → EndsWith ys zs → EndsWith xs zs
ends_again xs ys zs first second = record {
  newer = first.newer ++ second.newer;
  are = first.are ∙ ap (λ (ms : List MoveValue). first.newer ++ ms) second.are ∙ sym (append_assoc first.newer second.newer zs);
}

-- Events only add moves.
run_kept : (es : List Event) (w : World) → EndsWith (run es w).moves w.moves
run_kept [] w = no_newer w.moves
run_kept (e ∷ es) w = ends_again (run es (happens w e)).moves (happens w e).moves w.moves (run_kept es (happens w e)) (happens_kept w e)

-- Events after events.
run_append : (es more : List Event) (w : World) → run (es ++ more) w ≡ run more (run es w)
run_append [] more w = refl
run_append (e ∷ es) more w = run_append es more (happens w e)

-- Later events only add moves to those of a world.
pub kept : (es more : List Event) → EndsWith (run (es ++ more) empty).moves (run es empty).moves
kept es more = subst (λ (w : World). EndsWith w.moves (run es empty).moves) (sym (run_append es more empty)) (run_kept more (run es empty))

-- ---- servers

-- What a server knows in a world.
pub known : (es : List Event) (token : ℕ) (s : Server) → (run es empty).servers token ≡ Some s → Knows s (run es empty).moves
known es token s at =
    let seat : IsSeated (run es empty).moves (run es empty).sent (Some s) =
    subst (λ (o : Option Server). IsSeated (run es empty).moves (run es empty).sent o) at ((sound es).seated token) in
    seat.0

-- An element of a list's end is an element of the list.
pub has_end : (ms last : List MoveValue) (m : MoveValue) → EndsWith ms last → Has last m → Has ms m
has_end ms last m ends here = subst (λ (x : List MoveValue). Has x m) (sym ends.are) (has_right ends.newer last m here)

-- A move that a server heard is done stays.
pub done_kept : (es more : List Event) (token : ℕ) (s : Server) (m : MoveValue) → (run es empty).servers token ≡ Some s → Has s.done m
    → Has (run (es ++ more) empty).moves m
done_kept es more token s m at done =
    has_end (run (es ++ more) empty).moves (run es empty).moves m (kept es more)
    (has_end (run es empty).moves (s.done ++ s.before) m (known es token s at).carried (has_left s.done s.before m done))
