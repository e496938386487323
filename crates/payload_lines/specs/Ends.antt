-- How the program ends.
use Rattle.std.specs.Prelude.{◌≡◌, ◌≢◌, ℕ}
use Rattle.std.specs.IoError.{error_kind}
use Rattle.std.specs.declared.io.Error.{Error}
use Rattle.std.specs.declared.io.ErrorKind.TheVariants as kinds
use Rattle.payload_lines.specs.declared.streams.ProgramFault.{ProgramFault}
use Rattle.payload_lines.specs.declared.streams.ProgramFault.TheVariants.{BadLine, TooLong, OutOfMemory, Io}

-- the exit status: 2 for what the input is, 1 for what the machine lacks
abbrev pub status_of : ProgramFault → ℕ
status_of (BadLine _) = 2
status_of TooLong = 2
status_of OutOfMemory = 1
status_of Io = 1

-- an error of reading or writing is reported as out of memory if it is one
abbrev pub IsFaultOf : Error → ProgramFault → Type 0
IsFaultOf e fault =
    (error_kind e ≡ kinds.OutOfMemory → fault ≡ OutOfMemory) × (error_kind e ≢ kinds.OutOfMemory → fault ≡ Io)
