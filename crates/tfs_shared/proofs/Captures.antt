-- Lemmas: a closure may be used by several threads if all that it borrows may be.
use mathlib.Core.List.{[], ◌∷◌}
use mir.Syntax.{Sym}
use denote.RattleType.{RattleType}
use denote.Param.Send.{IsSync, recorded_sync, struct_sync}
use denote.Struct.Declared.{shape}
use denote.Struct.Tuple.{TupleAt, field_at, type_at}

-- A closure that borrows two values may be used by several threads if both values may be.
pub two_sync : (name : Sym) (R S : RattleType) → IsSync R → IsSync S → IsSync (TupleAt name (R ∷ S ∷ []))
two_sync name R S r s =
    recorded_sync (field_at name (R ∷ S ∷ [])).row _ _ (type_at name (R ∷ S ∷ [])).to_one (struct_sync (shape (type_at name (R ∷ S ∷ []))) (r, (s, tt)))

-- A closure that borrows three values may be used by several threads if all three may be.
pub three_sync : (name : Sym) (R S T : RattleType) → IsSync R → IsSync S → IsSync T → IsSync (TupleAt name (R ∷ S ∷ T ∷ []))
three_sync name R S T r s t =
    recorded_sync (field_at name (R ∷ S ∷ T ∷ [])).row _ _ (type_at name (R ∷ S ∷ T ∷ [])).to_one
    (struct_sync (shape (type_at name (R ∷ S ∷ T ∷ []))) (r, (s, (t, tt))))
