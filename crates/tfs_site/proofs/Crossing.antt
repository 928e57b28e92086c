-- Lemmas: what several threads may use.
use mathlib.Core.List.{List, [], ◌∷◌}
use mir.Syntax.{Sym}
use denote.Ref.{NamedLft}
use denote.RattleType.{RattleType}
use denote.Param.Send.{IsSend, IsSync, sendable, recorded_sync, struct_sync}
use denote.Struct.Declared.{shape}
use denote.Struct.Tuple.{TupleAt, field_at, type_at}
use Rattle.std.proofs.Crossing.{crosses}
use Rattle.tfs_records.proofs.base.Base.TheSendSync as base
use Rattle.tfs_records.proofs.entry.Entry.TheSendSync as entry
use Rattle.tfs_records.proofs.out.Out.TheSendSync as out
use Rattle.tfs_table.proofs.workspace.Workspace.TheSendSync as workspace
use Rattle.tfs_reports.proofs.clients.Record.TheSendSync as client
use Rattle.tfs_site.specs.contracts.reading.Kept as Kept
use Rattle.tfs_site.specs.contracts.site.Source as Source

module _ (name : Sym) (A B C D E : RattleType) where
  abbrev all : List RattleType
  all = A ∷ B ∷ C ∷ D ∷ E ∷ []

  -- Several threads may use a closure if they may use all that it borrows.
  pub five_sync : IsSync A → IsSync B → IsSync C → IsSync D → IsSync E → IsSync (TupleAt name (A ∷ B ∷ C ∷ D ∷ E ∷ []))
  five_sync a b c d e =
      recorded_sync (field_at name all).row _ _ (type_at name all).to_one (struct_sync (shape (type_at name all)) (a, (b, (c, (d, (e, tt))))))

-- The newest journal may move to another thread.
kept_send : IsSend Kept.the_row
kept_send = search (sendable, crosses, base.the_send, entry.the_send, out.the_send, workspace.the_send, client.the_send) depth 60

-- Several threads may use what all workers answer from.
pub source_sync : (a : NamedLft) → IsSync (Source.the_row a)
source_sync a = search (sendable, crosses, kept_send) depth 40
