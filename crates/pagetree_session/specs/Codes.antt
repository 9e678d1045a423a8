-- The exit codes of the program.
use Rattle.std.specs.Prelude.{ℕ}
use Rattle.pagetree_session.specs.declared.status.Status.{Status}
use Rattle.pagetree_session.specs.declared.status.Status.TheVariants.{Done, Usage, ReadFault, WriteFault, DiskFault, Memory, BadStore, Cut, Refused, Spent}

-- the code of each end: 0 where all was done, and a number of its own for each other
abbrev pub code_of : Status → ℕ
code_of Done = 0
code_of Usage = 2
code_of ReadFault = 3
code_of WriteFault = 4
code_of DiskFault = 5
code_of Memory = 6
code_of (BadStore file offset) = 7
code_of (Cut count) = 8
code_of (Refused status) = 10
code_of Spent = 11
