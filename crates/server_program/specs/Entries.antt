-- The entry of a path for which the system gives an error.
use Rattle.std.specs.{Prelude.{Bool, true, false, Result, Ok, Err, alloc_error}, declared.alloc.AllocError.AllocError}
use Rattle.std.specs.declared.io.ErrorKind.{ErrorKind, TheVariants.{FilesystemLoop, InvalidFilename, NotADirectory}}
use Rattle.std.specs.declared.io.ErrorKind.TheVariants.{NotFound, OutOfMemory, PermissionDenied}
use Rattle.server_service.specs.declared.file.Entry.{Entry, TheVariants.{Missing, Forbidden, Unavailable, Folder}}
use Rattle.server_service.specs.declared.file.Entry.TheVariants.{Listed, Readable}

-- nothing, what may not be read, or what can't be read now; that memory ran out stays an error
abbrev pub entry_for : ErrorKind → Result Entry AllocError
entry_for NotFound = Ok Missing
entry_for NotADirectory = Ok Missing
entry_for InvalidFilename = Ok Missing
entry_for PermissionDenied = Ok Forbidden
entry_for FilesystemLoop = Ok Forbidden
entry_for OutOfMemory = Err alloc_error
entry_for _ = Ok Unavailable

abbrev pub is_missing : Entry → Bool
is_missing Missing = true
is_missing Forbidden = false
is_missing Unavailable = false
is_missing Folder = false
is_missing (Listed listing) = false
is_missing (Readable file) = false
