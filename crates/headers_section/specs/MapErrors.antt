-- The program's error for each error of a header map.
use Rattle.http_header.specs.declared.map.HeaderMapError.{HeaderMapError}
use Rattle.http_header.specs.declared.map.HeaderMapError.TheVariants.{MaxSizeReached, OutOfMemory}
use Rattle.headers_section.specs.declared.status.RunError.{RunError}
use Rattle.headers_section.specs.declared.status.RunError.TheVariants.{Memory, Room}

abbrev pub run_error_of : HeaderMapError → RunError
run_error_of MaxSizeReached = Room
run_error_of OutOfMemory = Memory
