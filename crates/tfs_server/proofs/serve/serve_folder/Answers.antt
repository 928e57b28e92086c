-- If the folder isn't read, there are no runs. The gates and the connections of a run may move to
-- other threads, which share its listener.
use denote.Exit.{no}
use denote.Param.Send.{IsSend, IsSync, sendable, param_send, param_sync, arg_send, arg_sync}
use denote.RattleType.{RattleType}
use denote.Ref.{NamedLft}
use Rattle.std.proofs.Crossing.{crosses}
use Rattle.std.proofs.Common.{ℕ, refl, ap}
use Rattle.tfs_table.specs.Table.{model_of}
use Rattle.tfs_published.proofs.Beginnings.{begins_with_itself}
use Rattle.tfs_runs.proofs.Going.{goes_nowhere, ends_at, holds_all, same_begins}
use Rattle.tfs_connections.proofs.Sent.{lasting_send, place_send, place_sync}
use Rattle.tfs_durable.proofs.file.FileDevice.TheSendSync as device
use Rattle.tfs_files.proofs.guard.ServedJournal.TheSendSync as journal
use Rattle.tfs_serve.specs.contracts.heard.Heard as Heard
use Rattle.tfs_server.proofs.watch.Watch.TheSendSync as watch
use Rattle.tfs_server.specs.contracts.gate.Watching as Watching
use Rattle.tfs_server.specs.contracts.listening.Listening as Listening
use Rattle.tfs_metrics.proofs.meter.Meter.TheSendSync as meter
use Rattle.tfs_server.proofs.serve.serve_folder.Goals as goal

heard_send : IsSend Heard.the_row
heard_send = search sendable depth 20

watching_send : (a b : NamedLft) (R : RattleType) → IsSync R → IsSend (Watching.the_row a b R)
watching_send a b R s = search (sendable, crosses, heard_send, meter.the_sync, watch.the_sync, device.the_send, journal.the_send, journal.the_sync) depth 40

pub serve_runs-table-requires-send-T-Gate : goal.serve_runs-table-requires-send-T-Gate
serve_runs-table-requires-send-T-Gate g c κs within = param_send _ _ (arg_send _ no _ (watching_send _ _ _ c.type_bounds.sync-R))

listening_sync : (a b : NamedLft) (R : RattleType) → IsSync R → IsSync (Listening.the_row a b R)
listening_sync a b R s = search (sendable, crosses, watch.the_sync, journal.the_send, journal.the_sync, place_send, place_sync) depth 40

pub serve_runs-table-requires-send-T-Stream : goal.serve_runs-table-requires-send-T-Stream
serve_runs-table-requires-send-T-Stream g c κs within = param_send _ _ (arg_send _ no _ lasting_send)

pub serve_runs-table-requires-sync-T-Listener : goal.serve_runs-table-requires-sync-T-Listener
serve_runs-table-requires-sync-T-Listener g c κs within = param_sync _ _ (arg_sync _ no _ (listening_sync _ _ _ c.type_bounds.sync-R))

pub returns-in_default : goal.returns-in_default
returns-in_default g c =
    let first = model_of c.args.begun.table in
    let last = c.unread.result.table.journal in
    let begins = same_begins first.journal last first.journal first.journal (ap (λ t. t.journal) c.unread.ensures.table) refl
    (begins_with_itself first.journal) in record {
      ends = ends_at _ _ first first last 0 0 _ (goes_nowhere _ _ first) begins c.unread.ensures.reported;
      holds = holds_all (λ (n : ℕ). Unit {0}) (λ told. Unit {0}) first last 0 _
          (ends_at _ _ first first last 0 0 _ (goes_nowhere _ _ first) begins c.unread.ensures.reported);
    }
