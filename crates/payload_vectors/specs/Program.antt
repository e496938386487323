-- How reading lines ends.
use Rattle.std.specs.Prelude.{◌<◌, ⊤}
use Rattle.payload_lines.specs.declared.streams.ProgramFault.{ProgramFault}
use Rattle.payload_lines.specs.declared.streams.ProgramFault.TheVariants.{BadLine, TooLong, OutOfMemory, Io}

-- what can be wrong with the lines read: one of them, by its number from 1, or out of memory
abbrev pub IsLineFault : ProgramFault → Type 0
IsLineFault (BadLine line) = 0 < line
IsLineFault TooLong = ⊥
IsLineFault OutOfMemory = ⊤
IsLineFault Io = ⊥
