-- Refusals as plain values, and the table of refusals: number, name and HTTP status of each (RFC
-- 9110, RFC 4918 and RFC 6585).
use Rattle.std.specs.Prelude.{ℕ, List, codes}
use Rattle.std.specs.Arc.{arc_value}
use Rattle.tfs_lock.specs.LockInfo.{LockInformation}
use Rattle.tfs_calls.specs.declared.refusal.Methods.{Methods}
use Rattle.tfs_calls.specs.declared.refusal.Refusal.{Refusal}
use Rattle.tfs_calls.specs.declared.refusal.Refusal.TheVariants.{HeadTooLarge, BadHead, NoHost, BadLength, TransferCoding, BodyTooLarge}
use Rattle.tfs_calls.specs.declared.refusal.Refusal.TheVariants.{BadChunk, NoRoute, MethodNotAllowed, BadName, BadDigest}
use Rattle.tfs_calls.specs.declared.refusal.Refusal.TheVariants.{BadLockInfo, BadState, TooManyInstances, JournalStopped, Locked}
use Rattle.tfs_calls.specs.declared.refusal.Refusal.TheVariants.{LockLost, LineageDiffers, SerialTooLow, SerialReused, NoState}
use Rattle.tfs_calls.specs.declared.refusal.Refusal.TheVariants.{NoAddress, TooManyAddresses, UnknownAddress, TableFull, JournalFull}
use Rattle.tfs_calls.specs.declared.refusal.Refusal.TheVariants.{OutOfMemory, JournalFault, NoCopy}

-- Why a request is refused. `locked` has the lock information of the holder, to which the program's
-- refusal has a pointer; `method_not_allowed` has the methods of the route.
pub data RefusalValue : Type 0 where
  head_too_large : RefusalValue
  bad_head : RefusalValue
  no_host : RefusalValue
  bad_length : RefusalValue
  transfer_coding : RefusalValue
  body_too_large : RefusalValue
  bad_chunk : RefusalValue
  no_route : RefusalValue
  method_not_allowed : Methods → RefusalValue
  bad_name : RefusalValue
  bad_digest : RefusalValue
  bad_lock_info : RefusalValue
  bad_state : RefusalValue
  too_many_instances : RefusalValue
  journal_stopped : RefusalValue
  locked : LockInformation → RefusalValue
  lock_lost : RefusalValue
  lineage_differs : RefusalValue
  serial_too_low : RefusalValue
  serial_reused : RefusalValue
  no_state : RefusalValue
  no_address : RefusalValue
  too_many_addresses : RefusalValue
  unknown_address : ℕ → RefusalValue
  table_full : RefusalValue
  journal_full : RefusalValue
  out_of_memory : RefusalValue
  journal_fault : RefusalValue
  no_copy : RefusalValue

-- The program's refusal as a plain value.
abbrev pub refusal_value : Refusal → RefusalValue
refusal_value HeadTooLarge = head_too_large
refusal_value BadHead = bad_head
refusal_value NoHost = no_host
refusal_value BadLength = bad_length
refusal_value TransferCoding = transfer_coding
refusal_value BodyTooLarge = body_too_large
refusal_value BadChunk = bad_chunk
refusal_value NoRoute = no_route
refusal_value (MethodNotAllowed methods) = method_not_allowed methods
refusal_value BadName = bad_name
refusal_value BadDigest = bad_digest
refusal_value BadLockInfo = bad_lock_info
refusal_value BadState = bad_state
refusal_value TooManyInstances = too_many_instances
refusal_value JournalStopped = journal_stopped
refusal_value (Locked info) = locked (arc_value info)
refusal_value LockLost = lock_lost
refusal_value LineageDiffers = lineage_differs
refusal_value SerialTooLow = serial_too_low
refusal_value SerialReused = serial_reused
refusal_value NoState = no_state
refusal_value NoAddress = no_address
refusal_value TooManyAddresses = too_many_addresses
refusal_value (UnknownAddress k) = unknown_address k
refusal_value TableFull = table_full
refusal_value JournalFull = journal_full
refusal_value OutOfMemory = out_of_memory
refusal_value JournalFault = journal_fault
refusal_value NoCopy = no_copy

-- What a reply reports of a refusal.
pub record RefusalRow : Type 0 where
  pub number : ℕ
  pub name : List ℕ
  pub status : ℕ

-- A row of the table.
abbrev row : ℕ → List ℕ → ℕ → RefusalRow
row number name status = record { number = number; name = name; status = status }

-- The table of refusals.
abbrev pub row_of : RefusalValue → RefusalRow
row_of head_too_large = row 1 (codes "HeadTooLarge") 431
row_of bad_head = row 2 (codes "BadHead") 400
row_of no_host = row 3 (codes "NoHost") 400
row_of bad_length = row 4 (codes "BadLength") 400
row_of transfer_coding = row 5 (codes "TransferCoding") 501
row_of body_too_large = row 6 (codes "BodyTooLarge") 413
row_of bad_chunk = row 28 (codes "BadChunk") 400
row_of no_route = row 7 (codes "NoRoute") 404
row_of (method_not_allowed methods) = row 8 (codes "MethodNotAllowed") 405
row_of bad_name = row 9 (codes "BadName") 400
row_of bad_digest = row 10 (codes "BadDigest") 400
row_of bad_lock_info = row 11 (codes "BadLockInfo") 400
row_of bad_state = row 12 (codes "BadState") 400
row_of too_many_instances = row 13 (codes "TooManyInstances") 413
row_of journal_stopped = row 14 (codes "JournalStopped") 503
row_of (locked info) = row 15 (codes "Locked") 423
row_of lock_lost = row 16 (codes "LockLost") 409
row_of lineage_differs = row 17 (codes "LineageDiffers") 409
row_of serial_too_low = row 18 (codes "SerialTooLow") 409
row_of serial_reused = row 19 (codes "SerialReused") 409
row_of no_state = row 20 (codes "NoState") 404
row_of no_address = row 21 (codes "NoAddress") 400
row_of too_many_addresses = row 22 (codes "TooManyAddresses") 400
row_of (unknown_address k) = row 23 (codes "UnknownAddress") 404
row_of table_full = row 24 (codes "TableFull") 507
row_of journal_full = row 25 (codes "JournalFull") 507
row_of out_of_memory = row 26 (codes "OutOfMemory") 503
row_of journal_fault = row 27 (codes "JournalFault") 500
row_of no_copy = row 29 (codes "NoCopy") 503
