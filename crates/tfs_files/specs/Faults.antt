-- The faults of failed operations on files.
use Rattle.std.specs.Prelude.{Bool, true, false}
use Rattle.std.specs.declared.io.ErrorKind.{ErrorKind}
use Rattle.std.specs.declared.io.ErrorKind.TheVariants as kind
use Rattle.tfs_files.specs.declared.fault.CommandFault.{CommandFault}
use Rattle.tfs_files.specs.declared.fault.CommandFault.TheVariants as fault
use Rattle.tfs_files.specs.declared.fault.FaultPlace.{FaultPlace}
use Rattle.tfs_files.specs.declared.fault.FaultPlace.TheVariants as place

-- Whether the subject is the folder.
abbrev pub is_folder : FaultPlace → Bool
is_folder place.Folder = true
is_folder unsaid = false

-- The fault by the kind of the system's error: of the folder, or of another subject.
abbrev pub by_kind : Bool → CommandFault → ErrorKind → CommandFault
by_kind of_folder otherwise kind.OutOfMemory = fault.OutOfMemory
by_kind of_folder otherwise kind.PermissionDenied = fault.NotAllowed
by_kind true otherwise kind.NotFound = fault.NoFolder
by_kind true otherwise kind.NotADirectory = fault.NotFolder
by_kind of_folder otherwise unsaid = otherwise
