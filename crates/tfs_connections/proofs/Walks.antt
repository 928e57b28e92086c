-- Definitions shared by the proofs for `src/written.rt`.
use seplogic.Ra.Ura.{Ura}
use types.Logic.{Logic}
use types.Kit.{Goal, Step, step, Item, feq_i, fpack}
use denote.RattleType.{Valss}
use denote.Struct.Struct.{Struct, within}
use mir.Val.{Val, vstruct, vnil}
pub use Rattle.std.proofs.Common.{ℕ, ◌+◌, ◌<◌, ◌^◌, List, [], ◌∷◌, ◌++◌, length, refl, MutBor}
pub use Rattle.std.proofs.raw_atomic.Walks.{proved_at}
pub use seplogic.Ra.Ura.{Ura}
pub use mir.Syntax.{named}
pub use mir.Val.{Val, vptr, vunit}
pub use base.Logic.{SProp, ent, sep, emp, via, fst∗, id⊢}
pub use base.Fml.{Fml, GName, Lft, Share, ftrue, flft, fobs, fbor}
pub use contract.Monad.{Fun}
pub use contract.Running.{tables}
pub use prog.Memory.{Memory}
pub use prog.Routine.{Routine}
pub use prog.Wp.{WpFn, Calls, Loops, Tables}
pub use sound.WpLaws.{WpFn-mono}
pub use types.ByLocal.{alloc_all, pass_all, free_all, look_at, sets}
pub use types.Kit.{Goal, ‵, raw, ◌⊛◌, prop, ◌$◌, ◌∵◌, !, qed, by, move, keep, drop, use1, split, join, fsplit, fsplit3, fjoin, fjoin3, feq_i, feq_l, regoal, suffices, frame, done}
pub use types.Logic.{Logic}
pub use types.Part.{agg}
pub use types.Run.{enter, returns, no_more, unit_lit, of_opd}
pub use types.SemTy.{Body}
pub use denote.Builtin.{RefOf, u8}
pub use denote.Exit.{yes}
pub use denote.Memory.{mem}
pub use denote.RattleType.{owns}
pub use denote.Ref.{Bor, MutRef, mut_vals, mut_Tells}
pub use denote.Signature.{types_at, plain}
pub use denote.Slice.{ShrSlice, slice_val, shr_slice_vals, shr_slice_Tells}
pub use denote.Steps.{nothing, opens, closes}
pub use denote.Triple.Entry.{alive, on_entry}
pub use denote.Triple.Spec.{Meets, triple_of}
pub use denote.Triple.Table.{entered}
pub use denote.Triple.Walked.{says, Stays, stay_dropped, stay_ref, stay_none_slice, walk_of, Walks, walked, walk_Meets, ends_at, AllGo, Goes-dropped, Goes-ref, Goes-none_slice}

-- The value of a struct without fields.
abbrev pub none : Val
none = vstruct vnil

module _ {M : Type 1} {𝓤 : Ura M} {𝓛 : Logic 𝓤} {K : Type 0} {Γ : List (Item 𝓤)} {G : Goal 𝓤 𝓛.H} where
  -- A proof can create this value: it owns nothing.
  pub none_made : K → Step K 𝓛 (‵ ((Struct (record { name = []; args = []; types = []; fields = [] })).own_val tt (none ∷ [])) ∷ Γ) G Γ G
  none_made t = step (λ s.
      nothing t $ feq_i t (List Val) (none ∷ []) (none ∷ []) refl $ fjoin t $
      fpack t (Valss []) (within (record { name = []; args = []; types = []; fields = [] }) tt (none ∷ [])) tt $ s)
