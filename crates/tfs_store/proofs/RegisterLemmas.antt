-- What holds of every world of specs/Register.antt.
use Rattle.std.proofs.Common.{◌≡◌, ℕ, ◌<◌, ◌≤◌, ◌⊎◌, Bool, true, false, ◌&&◌, if◌then◌else◌, List, [], ◌∷◌, ◌++◌, Option, Some, None, eqb, ltb, refl, sym, ap, subst, ◌∙◌, inl, inr, arith}
use Rattle.std.specs.Prelude.{is_none}
use Rattle.std.specs.List.{slice_get}
use Rattle.std.specs.Option.{option_or}
use Rattle.std.proofs.lemmas.Bool.{and_parts, eqb-true, eqb-false, ltb-true, false≢true}
use Rattle.tfs_store.specs.Values.{RowValue, MoveValue}
use Rattle.tfs_store.specs.Register.{same_head, position_of, row_in, move_of, is_done, Server, World, empty, Event, Start, Send, Arrive, Hear, put_server, started, sent_if, sent_by, arrived_if, arrived, heard_if, heard_by, heard, happens, run, Has, head_of, IsChain, newest, EndsWith, Knows}
use Rattle.tfs_store.specs.declared.head.Head.{Head}
use Rattle.tfs_store.specs.declared.store.Answer.{Answer}
use Rattle.tfs_store.specs.declared.store.Answer.TheVariants.{Moved, Found, Unknown}
use Rattle.tfs_store.proofs.ChainLemmas.{same_head_told, got, follows}

-- ---- the invariant

-- A move with a server's token is to its head's position or an earlier one, or the server waits for it.
abbrev pub Owns : Option Server → MoveValue → Type 0
Owns None m = ⊥
Owns (Some s) m = (m.to.position ≤ position_of s.head) ⊎ (s.waiting ≡ Some m)

-- What an answer to a move says is true of the moves that were carried out.
abbrev pub Tells : List MoveValue → MoveValue → Answer → Type 0
Tells moves m Moved = Has moves m
Tells moves m (Found None) = Unit {0}
Tells moves m (Found (Some h)) = (n : MoveValue) × Has moves n × (n.to ≡ h)
Tells moves m Unknown = Unit {0}

-- The move that a server waits for was sent, from the head that the server knows.
abbrev pub Waits : List MoveValue → Server → Type 0
Waits sent s = (m : MoveValue) → s.waiting ≡ Some m → Has sent m × (m.from ≡ s.head)

-- A server knows what the moves leave, and what it waits for was sent.
abbrev pub IsSeated : List MoveValue → List MoveValue → Option Server → Type 0
IsSeated moves sent None = Unit {0}
IsSeated moves sent (Some s) = Knows s moves × Waits sent s

-- What every world keeps. `one`: two moves to one head are the same move.
pub record IsSound (w : World) : Type 0 where
  pub heads : w.register.head ≡ head_of w.moves
  pub rows : (name : List ℕ) → w.register.rows name ≡ newest name w.moves
  pub chain : IsChain w.moves
  pub carried : (m : MoveValue) → Has w.moves m → Has w.sent m
  pub rising : (m : MoveValue) → Has w.sent m → position_of m.from < m.to.position
  pub one : (m n : MoveValue) → Has w.sent m → Has w.sent n → m.to ≡ n.to → m ≡ n
  pub owned : (m : MoveValue) → Has w.sent m → Owns (w.servers m.to.token) m
  pub told : (r : MoveValue × Answer) → Has w.answers r → Tells w.moves r.0 r.1 × Has w.sent r.0
  pub seated : (t : ℕ) → IsSeated w.moves w.sent (w.servers t)

-- What holds of the server that is put, and of the one that was there, holds of the one that is there.
put_by : (P : Option Server → Type 0) (token : ℕ) (s : Server) (servers : ℕ → Option Server) (t : ℕ) (b : Bool) → eqb t token ≡ b
    → (t ≡ token → P (Some s)) → ((t ≡ token → ⊥) → P (servers t)) → P (if b then Some s else servers t)
put_by P token s servers t true test here there = here (eqb-true t token test)
put_by P token s servers t false test here there = there (eqb-false t token test)

-- The same of the servers with one of them put.
put_cases : (P : Option Server → Type 0) (token : ℕ) (s : Server) (servers : ℕ → Option Server) (t : ℕ)
    → (t ≡ token → P (Some s)) → ((t ≡ token → ⊥) → P (servers t)) → P (put_server token s servers t)
put_cases P token s servers t here there = put_by P token s servers t (eqb t token) refl here there

-- ---- a server starts

-- A start keeps the invariant.
start_sound : (w : World) (token : ℕ) (o : Option Server) → IsSound w → w.servers token ≡ o → IsSound (started token o w)
start_sound w token (Some s) is at = is
start_sound w token None is at =
    let s : Server = record { head = w.register.head; rows = w.register.rows; before = w.moves; done = []; waiting = None } in
    record {
      heads = is.heads;
      rows = is.rows;
      chain = is.chain;
      carried = is.carried;
      rising = is.rising;
      one = is.one;
      told = is.told;
      owned = λ m sent. put_cases (λ (o : Option Server). Owns o m) token s w.servers m.to.token
          (λ same. absurd (subst (λ (o : Option Server). Owns o m) (ap w.servers same ∙ at) (is.owned m sent)))
          (λ other. is.owned m sent);
      seated = λ t. put_cases (λ (o : Option Server). IsSeated w.moves w.sent o) token s w.servers t
          (λ same. (record { carried = record { newer = []; are = refl }; head = is.heads; rows = is.rows }, λ m waits. absurd (cc)))
          (λ other. is.seated t);
    }

-- ---- a server sends a move

-- A new move to a new head keeps that two moves to one head are the same.
one_more : (m : MoveValue) (sent : List MoveValue) → ((n k : MoveValue) → Has sent n → Has sent k → n.to ≡ k.to → n ≡ k)
    → ((n : MoveValue) → Has sent n → n.to ≡ m.to → ⊥) → (n k : MoveValue) → Has (m ∷ sent) n → Has (m ∷ sent) k → n.to ≡ k.to → n ≡ k
one_more m sent one new n k (inl a) (inl b) same = sym a ∙ b
one_more m sent one new n k (inl a) (inr b) same = absurd (new k b (sym same ∙ ap (λ (x : MoveValue). x.to) (sym a)))
one_more m sent one new n k (inr a) (inl b) same = absurd (new n a (same ∙ ap (λ (x : MoveValue). x.to) (sym b)))
one_more m sent one new n k (inr a) (inr b) same = one n k a b same

-- A new move to a later position keeps that all are.
rising_more : (m : MoveValue) (sent : List MoveValue) → position_of m.from < m.to.position
    → ((n : MoveValue) → Has sent n → position_of n.from < n.to.position) → (n : MoveValue) → Has (m ∷ sent) n → position_of n.from < n.to.position
rising_more m sent up rising n (inl same) = subst (λ (x : MoveValue). position_of x.from < x.to.position) same up
rising_more m sent up rising n (inr here) = rising n here

-- A server's standing does not change if another move is sent.
seated_more : (m : MoveValue) (moves sent : List MoveValue) (o : Option Server) → IsSeated moves sent o → IsSeated moves (m ∷ sent) o
seated_more m moves sent None is = tt
seated_more m moves sent (Some s) is = (is.0, λ n waits. (inr (is.1 n waits).0, (is.1 n waits).1))

-- A server that passes the test waits for nothing.
none_waits : (o : Option MoveValue) → is_none o ≡ true → o ≡ None
none_waits None is = refl
none_waits (Some m) is = absurd (false≢true is)

-- The moves of a server that waits for nothing are to its head's position or an earlier one.
own_before : (s : Server) (n : MoveValue) → s.waiting ≡ None → Owns (Some s) n → n.to.position ≤ position_of s.head
own_before s n free (inl below) = below
own_before s n free (inr waits) = absurd (cc)

-- Every move with the token of a server that sends a move is an earlier one, or the one that is sent.
owned_sent : (m : MoveValue) (sent : List MoveValue) (s' : Server) (n : MoveValue) → s'.waiting ≡ Some m
    → (Has sent n → n.to.position ≤ position_of s'.head) → Has (m ∷ sent) n → Owns (Some s') n
owned_sent m sent s' n waits before (inl same) = inr (waits ∙ ap Some same)
owned_sent m sent s' n waits before (inr here) = inl (before here)

-- The moves with another server's token are as before.
owned_other : (m : MoveValue) (sent : List MoveValue) (token : ℕ) (servers : ℕ → Option Server) (n : MoveValue) → m.to.token ≡ token
    → (n.to.token ≡ token → ⊥) → (Has sent n → Owns (servers n.to.token) n) → Has (m ∷ sent) n → Owns (servers n.to.token) n
owned_other m sent token servers n own other owned (inl same) =
    absurd (other (ap (λ (x : MoveValue). x.to.token) (sym same) ∙ own))
owned_other m sent token servers n own other owned (inr here) = owned here

-- Sending a move keeps the invariant.
send_if_sound : (w : World) (token : ℕ) (m : MoveValue) (s : Server) (b : Bool) → IsSound w → w.servers token ≡ Some s → m.from ≡ s.head
    → m.to.token ≡ token → (is_none s.waiting && ltb (position_of s.head) m.to.position) ≡ b → IsSound (sent_if b token m s w)
send_if_sound w token m s false is at from own test = is
send_if_sound w token m s true is at from own test =
    let parts = and_parts (is_none s.waiting) (ltb (position_of s.head) m.to.position) test in
    let later : position_of s.head < m.to.position = ltb-true (position_of s.head) m.to.position parts.1 in
    let free : s.waiting ≡ None = none_waits s.waiting parts.0 in
    let s' : Server = record { head = s.head; rows = s.rows; before = s.before; done = s.done; waiting = Some m } in
    let mine : (n : MoveValue) → Has w.sent n → n.to.token ≡ token → n.to.position ≤ position_of s.head =
    λ n sent same. own_before s n free (subst (λ (o : Option Server). Owns o n) (ap w.servers same ∙ at) (is.owned n sent)) in
    let new : (n : MoveValue) → Has w.sent n → n.to ≡ m.to → ⊥ =
    λ n sent same.
    let below : n.to.position ≤ position_of s.head = mine n sent (ap (λ (h : Head). h.token) same ∙ own) in
    let e : n.to.position ≡ m.to.position = ap (λ (h : Head). h.position) same in
    omega arith in
    let up : position_of m.from < m.to.position = subst (λ (h : Option Head). position_of h < m.to.position) (sym from) later in
    let seat : IsSeated w.moves w.sent (Some s) = subst (λ (o : Option Server). IsSeated w.moves w.sent o) at (is.seated token) in
    record {
      heads = is.heads;
      rows = is.rows;
      chain = is.chain;
      carried = λ n here. inr (is.carried n here);
      rising = rising_more m w.sent up is.rising;
      one = one_more m w.sent is.one new;
      owned = λ n sent. put_cases (λ (o : Option Server). Owns o n) token s' w.servers n.to.token
          (λ same. owned_sent m w.sent s' n refl (λ here. mine n here same) sent)
          (λ other. owned_other m w.sent token w.servers n own other (is.owned n) sent);
      told = λ r here. ((is.told r here).0, inr (is.told r here).1);
      seated = λ t. put_cases (λ (o : Option Server). IsSeated w.moves (m ∷ w.sent) o) token s' w.servers t
          (λ same. (
            record { carried = seat.0.carried; head = seat.0.head; rows = seat.0.rows },
            λ n waits. let e : m ≡ n = cc in (inl e, ap (λ (x : MoveValue). x.from) (sym e) ∙ from),
          ))
          (λ other. seated_more m w.moves w.sent (w.servers t) (is.seated t));
    }

-- So does a server's sending.
send_sound : (w : World) (token position : ℕ) (rows : List RowValue) (o : Option Server) → IsSound w → w.servers token ≡ o
    → IsSound (sent_by token position rows o w)
send_sound w token position rows None is at = is
send_sound w token position rows (Some s) is at =
    send_if_sound w token (move_of token s.head position rows) s (is_none s.waiting && ltb (position_of s.head) position) is at refl refl refl

-- ---- a move arrives

-- The head that is found is one that a move left.
found_tells : (moves : List MoveValue) (head : Option Head) (m : MoveValue) → head ≡ head_of moves → Tells moves m (Found head)
found_tells moves None m e = tt
found_tells [] (Some h) m e = absurd (cc)
found_tells (n ∷ ms) (Some h) m e = (n, inl refl, cc)

-- What an answer says stays true after another move.
tells_more : (moves : List MoveValue) (m n : MoveValue) (a : Answer) → Tells moves n a → Tells (m ∷ moves) n a
tells_more moves m n Moved is = inr is
tells_more moves m n (Found None) is = tt
tells_more moves m n (Found (Some h)) is = (is.0, inr is.1, is.2)
tells_more moves m n Unknown is = tt

-- One more answer that says what is true.
told_more : (moves sent : List MoveValue) (answers : List (MoveValue × Answer)) (m : MoveValue) (a : Answer) → Tells moves m a → Has sent m
    → ((r : MoveValue × Answer) → Has answers r → Tells moves r.0 r.1 × Has sent r.0)
    → (r : MoveValue × Answer) → Has ((m, a) ∷ answers) r → Tells moves r.0 r.1 × Has sent r.0
told_more moves sent answers m a tells here told r (inl same) =
    subst (λ (x : MoveValue × Answer). Tells moves x.0 x.1 × Has sent x.0) same (tells, here)
told_more moves sent answers m a tells here told r (inr before) = told r before

-- A server's standing does not change if another move is carried out.
seated_arrived : (m : MoveValue) (moves sent : List MoveValue) (o : Option Server) → IsSeated moves sent o → IsSeated (m ∷ moves) sent o
seated_arrived m moves sent None is = tt
seated_arrived m moves sent (Some s) is = (
  record {
    carried = record { newer = m ∷ is.0.carried.newer; are = ap (λ (ms : List MoveValue). m ∷ ms) is.0.carried.are };
    head = is.0.head;
    rows = is.0.rows;
  },
  is.1,
)

-- A move that was sent is carried out.
carried_more : (m : MoveValue) (moves sent : List MoveValue) → Has sent m → ((n : MoveValue) → Has moves n → Has sent n)
    → (n : MoveValue) → Has (m ∷ moves) n → Has sent n
carried_more m moves sent here carried n (inl same) = subst (Has sent) same here
carried_more m moves sent here carried n (inr before) = carried n before

-- An arrival keeps the invariant.
arrive_if_sound : (w : World) (m : MoveValue) (b : Bool) → IsSound w → Has w.sent m → same_head w.register.head m.from ≡ b → IsSound (arrived_if b m w)
arrive_if_sound w m false is sent test = record {
  heads = is.heads;
  rows = is.rows;
  chain = is.chain;
  carried = is.carried;
  rising = is.rising;
  one = is.one;
  owned = is.owned;
  seated = is.seated;
  told = told_more w.moves w.sent w.answers m (Found w.register.head) (found_tells w.moves w.register.head m is.heads) sent is.told;
}
arrive_if_sound w m true is sent test = record {
  heads = refl;
  rows = λ name. ap (λ (o : Option RowValue). option_or (row_in name m.rows) o) (is.rows name);
  chain = (sym (same_head_told w.register.head m.from test) ∙ is.heads, is.rising m sent, is.chain);
  carried = carried_more m w.moves w.sent sent is.carried;
  rising = is.rising;
  one = is.one;
  owned = is.owned;
  told = told_more (m ∷ w.moves) w.sent w.answers m Moved (inl refl) sent
      (λ r here. (tells_more w.moves m r.0 r.1 (is.told r here).0, (is.told r here).1));
  seated = λ t. seated_arrived m w.moves w.sent (w.servers t) (is.seated t);
}

-- So does the arrival of any move that was sent.
arrive_sound : (w : World) (o : Option MoveValue) → IsSound w → ((m : MoveValue) → o ≡ Some m → Has w.sent m) → IsSound (arrived o w)
arrive_sound w None is sent = is
arrive_sound w (Some m) is sent = arrive_if_sound w m (same_head w.register.head m.from) is (sent m refl) refl

-- ---- a server hears an answer

-- A move that an answer shows to be done was carried out.
done_moves : (w : World) (m n : MoveValue) (a : Answer) → IsSound w → Has w.sent m → n ≡ m → Tells w.moves n a → is_done m a ≡ true → Has w.moves m
done_moves w m n Moved is sent same tells done = subst (Has w.moves) same tells
done_moves w m n (Found None) is sent same tells done = absurd (false≢true done)
done_moves w m n (Found (Some h)) is sent same tells done =
    let e : Some h ≡ Some m.to = same_head_told (Some h) (Some m.to) done in
    let f : h ≡ m.to = cc in
    subst (Has w.moves) (is.one tells.0 m (is.carried tells.0 tells.1) sent (tells.2 ∙ f)) tells.1
done_moves w m n Unknown is sent same tells done = absurd (false≢true done)

-- A server's own moves are no later than the one that it waited for.
own_done : (s : Server) (m n : MoveValue) → s.waiting ≡ Some m → position_of s.head < m.to.position → Owns (Some s) n → n.to.position ≤ m.to.position
own_done s m n waits up (inl below) = omega arith
own_done s m n waits up (inr same) =
    let e : n ≡ m = cc in
    let f : n.to.position ≡ m.to.position = ap (λ (x : MoveValue). x.to.position) e in
    omega arith

-- A server that hears that its move is done keeps the invariant, if the move was carried out.
hear_if_sound : (w : World) (token : ℕ) (m : MoveValue) (s : Server) (b : Bool) → IsSound w → w.servers token ≡ Some s → s.waiting ≡ Some m
    → (b ≡ true → Has w.moves m) → IsSound (heard_if b token m s w)
hear_if_sound w token m s false is at waits done = is
hear_if_sound w token m s true is at waits done =
    let s' : Server = record { head = Some m.to; rows = λ name. option_or (row_in name m.rows) (s.rows name); before = s.before; done = m ∷ s.done; waiting = None } in
    let seat : IsSeated w.moves w.sent (Some s) = subst (λ (o : Option Server). IsSeated w.moves w.sent o) at (is.seated token) in
    let base : List MoveValue = s.done ++ s.before in
    let from : m.from ≡ s.head = (seat.1 m waits).1 in
    let up : position_of m.from < m.to.position = is.rising m (seat.1 m waits).0 in
    let later : position_of s.head < m.to.position = subst (λ (h : Option Head). position_of h < m.to.position) from up in
    let are : w.moves ≡ seat.0.carried.newer ++ base = seat.0.carried.are in
    let chain : IsChain (seat.0.carried.newer ++ base) = subst IsChain are is.chain in
    let here : Has (seat.0.carried.newer ++ base) m = subst (λ (ms : List MoveValue). Has ms m) are (done refl) in
    let next : EndsWith (seat.0.carried.newer ++ base) (m ∷ base) = follows seat.0.carried.newer base m chain here (from ∙ seat.0.head) in
    record {
      heads = is.heads;
      rows = is.rows;
      chain = is.chain;
      carried = is.carried;
      rising = is.rising;
      one = is.one;
      told = is.told;
      owned = λ n sent. put_cases (λ (o : Option Server). Owns o n) token s' w.servers n.to.token
          (λ same. inl (own_done s m n waits later (subst (λ (o : Option Server). Owns o n) (ap w.servers same ∙ at) (is.owned n sent))))
          (λ other. is.owned n sent);
      seated = λ t. put_cases (λ (o : Option Server). IsSeated w.moves w.sent o) token s' w.servers t
          (λ same. (
            record {
              carried = record { newer = next.newer; are = are ∙ next.are };
              head = refl;
              rows = λ name. ap (λ (o : Option RowValue). option_or (row_in name m.rows) o) (seat.0.rows name);
            },
            λ n waits'. absurd (cc),
          ))
          (λ other. is.seated t);
    }

-- So does a server that hears an answer to the move that it waits for.
hear_by_sound : (w : World) (token : ℕ) (s : Server) (o : Option MoveValue) (answer : Option (MoveValue × Answer)) → IsSound w → w.servers token ≡ Some s
    → s.waiting ≡ o → ((r : MoveValue × Answer) → answer ≡ Some r → Has w.answers r) → IsSound (heard_by token o s answer w)
hear_by_sound w token s None answer is at waits here = is
hear_by_sound w token s (Some m) None is at waits here = is
hear_by_sound w token s (Some m) (Some r) is at waits here =
    let test : Bool = same_head (Some m.to) (Some (r.0).to) && is_done m r.1 in
    let seat : IsSeated w.moves w.sent (Some s) = subst (λ (o : Option Server). IsSeated w.moves w.sent o) at (is.seated token) in
    let told : Tells w.moves r.0 r.1 × Has w.sent r.0 = is.told r (here r refl) in
    hear_if_sound w token m s test is at waits
    (λ yes.
    let parts = and_parts (same_head (Some m.to) (Some (r.0).to)) (is_done m r.1) yes in
    let e : Some m.to ≡ Some (r.0).to = same_head_told (Some m.to) (Some (r.0).to) parts.0 in
    let f : (r.0).to ≡ m.to = cc in
    done_moves w m r.0 r.1 is (seat.1 m waits).0 (is.one r.0 m told.1 (seat.1 m waits).0 f) told.0 parts.1)

-- So does any server that hears an answer.
hear_sound : (w : World) (token : ℕ) (o : Option Server) (answer : Option (MoveValue × Answer)) → IsSound w → w.servers token ≡ o
    → ((r : MoveValue × Answer) → answer ≡ Some r → Has w.answers r) → IsSound (heard token o answer w)
hear_sound w token None answer is at here = is
hear_sound w token (Some s) answer is at here = hear_by_sound w token s s.waiting answer is at refl here

-- ---- every world

-- Every event keeps the invariant.
happens_sound : (w : World) (e : Event) → IsSound w → IsSound (happens w e)
happens_sound w (Start token) is = start_sound w token (w.servers token) is refl
happens_sound w (Send token position rows) is = send_sound w token position rows (w.servers token) is refl
happens_sound w (Arrive which) is = arrive_sound w (slice_get w.sent which) is (λ m at. got w.sent which m at)
happens_sound w (Hear token which) is =
    hear_sound w token (w.servers token) (slice_get w.answers which) is refl (λ r at. got w.answers which r at)

-- So do events one after another.
run_sound : (es : List Event) (w : World) → IsSound w → IsSound (run es w)
run_sound [] w is = is
run_sound (e ∷ es) w is = run_sound es (happens w e) (happens_sound w e is)

-- An empty register satisfies the invariant.
empty_sound : IsSound empty
empty_sound = record {
  heads = refl;
  rows = λ name. refl;
  chain = tt;
  carried = λ m here. here;
  rising = λ m here. absurd here;
  one = λ m n here there same. absurd here;
  owned = λ m here. absurd here;
  told = λ r here. absurd here;
  seated = λ t. tt;
}

-- Every world satisfies the invariant.
pub sound : (es : List Event) → IsSound (run es empty)
sound es = run_sound es empty empty_sound
