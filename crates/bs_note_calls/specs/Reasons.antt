-- The reasons for which a file does not read or an output takes no more, by the kind of the system's error.
use Rattle.std.specs.Prelude.{ℕ, List, codes, Option, Some, None, if◌then◌else◌}
use Rattle.std.specs.Str.{bytes_eq}
use Rattle.std.specs.declared.io.ErrorKind.{ErrorKind}
use Rattle.std.specs.declared.io.ErrorKind.TheVariants as E

-- the words for a kind of error, as the system's library has them
abbrev pub kind_words : ErrorKind → List ℕ
kind_words E.NotFound = codes "entity not found"
kind_words E.PermissionDenied = codes "permission denied"
kind_words E.ConnectionRefused = codes "connection refused"
kind_words E.ConnectionReset = codes "connection reset"
kind_words E.HostUnreachable = codes "host unreachable"
kind_words E.NetworkUnreachable = codes "network unreachable"
kind_words E.ConnectionAborted = codes "connection aborted"
kind_words E.NotConnected = codes "not connected"
kind_words E.AddrInUse = codes "address in use"
kind_words E.AddrNotAvailable = codes "address not available"
kind_words E.NetworkDown = codes "network down"
kind_words E.BrokenPipe = codes "broken pipe"
kind_words E.AlreadyExists = codes "entity already exists"
kind_words E.WouldBlock = codes "operation would block"
kind_words E.NotADirectory = codes "not a directory"
kind_words E.IsADirectory = codes "is a directory"
kind_words E.DirectoryNotEmpty = codes "directory not empty"
kind_words E.ReadOnlyFilesystem = codes "read-only filesystem or storage medium"
kind_words E.FilesystemLoop = codes "filesystem loop or indirection limit (e.g. symlink loop)"
kind_words E.StaleNetworkFileHandle = codes "stale network file handle"
kind_words E.InvalidInput = codes "invalid input parameter"
kind_words E.InvalidData = codes "invalid data"
kind_words E.TimedOut = codes "timed out"
kind_words E.WriteZero = codes "write zero"
kind_words E.StorageFull = codes "no storage space"
kind_words E.NotSeekable = codes "seek on unseekable file"
kind_words E.QuotaExceeded = codes "quota exceeded"
kind_words E.FileTooLarge = codes "file too large"
kind_words E.ResourceBusy = codes "resource busy"
kind_words E.ExecutableFileBusy = codes "executable file busy"
kind_words E.Deadlock = codes "deadlock"
kind_words E.CrossesDevices = codes "cross-device link or rename"
kind_words E.TooManyLinks = codes "too many links"
kind_words E.InvalidFilename = codes "invalid filename"
kind_words E.ArgumentListTooLong = codes "argument list too long"
kind_words E.Interrupted = codes "operation interrupted"
kind_words E.Unsupported = codes "unsupported"
kind_words E.UnexpectedEof = codes "unexpected end of file"
kind_words E.OutOfMemory = codes "out of memory"
kind_words E.InProgress = codes "in progress"
kind_words E.Other = codes "other error"
kind_words E.Uncategorized = codes "uncategorized error"

-- the words for an error of a file: the three that most files fail for as the system's shell has them
abbrev pub file_words : ErrorKind → List ℕ
file_words E.NotFound = codes "No such file or directory (os error 2)"
file_words E.IsADirectory = codes "Is a directory (os error 21)"
file_words E.PermissionDenied = codes "Permission denied (os error 13)"
file_words kind = kind_words kind

-- the same, where the kind is known
abbrev pub cause_words : Option ErrorKind → List ℕ
cause_words None = codes "this file could not be read"
cause_words (Some kind) = file_words kind

-- the reason for which a file of this name does not read: `-` is a name as any other
abbrev pub unread_reason : List ℕ → Option ErrorKind → List ℕ
unread_reason path kind =
    if bytes_eq path (codes "-") then codes "there is no such file, and standard input is read as /dev/stdin alone" else cause_words kind

-- the reason for which an output takes no more
abbrev pub output_reason : Option ErrorKind → List ℕ
output_reason None = codes "no reason is known"
output_reason (Some kind) = kind_words kind
