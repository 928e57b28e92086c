-- Lemmas: a closure may be used by several threads if all that it borrows may be.
use mathlib.Core.List.{List, [], ◌∷◌}
use mir.Syntax.{Sym}
use denote.RattleType.{RattleType}
use denote.Param.Send.{IsSync, recorded_sync, struct_sync}
use denote.Struct.Declared.{shape}
use denote.Struct.Tuple.{TupleAt, field_at, type_at}

module _ (name : Sym) (A B C D E F G H : RattleType) where
  abbrev all : List RattleType
  all = A ∷ B ∷ C ∷ D ∷ E ∷ F ∷ G ∷ H ∷ []

  pub eight_sync : IsSync A → IsSync B → IsSync C → IsSync D → IsSync E → IsSync F → IsSync G → IsSync H
      → IsSync (TupleAt name (A ∷ B ∷ C ∷ D ∷ E ∷ F ∷ G ∷ H ∷ []))
  eight_sync a b c d e f g h =
      recorded_sync (field_at name all).row _ _ (type_at name all).to_one
      (struct_sync (shape (type_at name all)) (a, (b, (c, (d, (e, (f, (g, (h, tt)))))))))

module _ (name : Sym) (A B C D E F G H I K : RattleType) where
  abbrev all_ten : List RattleType
  all_ten = A ∷ B ∷ C ∷ D ∷ E ∷ F ∷ G ∷ H ∷ I ∷ K ∷ []

  pub ten_sync : IsSync A → IsSync B → IsSync C → IsSync D → IsSync E → IsSync F → IsSync G → IsSync H → IsSync I → IsSync K
      → IsSync (TupleAt name (A ∷ B ∷ C ∷ D ∷ E ∷ F ∷ G ∷ H ∷ I ∷ K ∷ []))
  ten_sync a b c d e f g h i k =
      recorded_sync (field_at name all_ten).row _ _ (type_at name all_ten).to_one
      (struct_sync (shape (type_at name all_ten)) (a, (b, (c, (d, (e, (f, (g, (h, (i, (k, tt)))))))))))
