-- The statuses with which the top call ends.
use Rattle.std.specs.Prelude.{ℕ}
use Rattle.nb_endpoint.specs.declared.status.Status.{Status}
use Rattle.nb_endpoint.specs.declared.status.Status.TheVariants.{Done, NotDrained, Words, Script, Settings, Input, ReadFault, WriteFault, BaseFault, PostFault, NoMemory, Damaged, Spent}

-- the exit status of the program
abbrev pub code_of : Status → ℕ
code_of Done = 0
code_of (NotDrained takes) = 1
code_of Words = 2
code_of (Script line column kind) = 3
code_of (Settings key kind) = 4
code_of (Input line kind) = 5
code_of (ReadFault source) = 6
code_of WriteFault = 7
code_of BaseFault = 8
code_of PostFault = 9
code_of NoMemory = 10
code_of (Damaged store space key) = 11
code_of Spent = 12
