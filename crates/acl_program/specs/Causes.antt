-- How the program may end.
use Rattle.std.specs.Prelude.{ℕ, List, [], ◌++◌, codes, decimal, Result, Ok, Err}
use Rattle.acl_program.specs.Streams.{most_bytes}
use Rattle.acl_program.specs.declared.cause.Cause.{Cause}
use Rattle.acl_program.specs.declared.cause.Cause.TheVariants.{Fine, Usage, BadScript, ReadFault, WriteFault, NoMemory, Limit}
use Rattle.acl_program.specs.declared.input.InputFault.{InputFault}
use Rattle.acl_program.specs.declared.input.InputFault.TheVariants.{Failed, TooLong, NoMemory as NoMemoryForInput}
use Rattle.grant_refusal.specs.declared.ParseRefusal.{ParseRefusal}
use Rattle.grant_refusal.specs.declared.ParseRefusal.TheVariants as parse
use Rattle.priv_sets.specs.Privileges.{privilege_name}
use Rattle.script_lines.specs.declared.refusal.ScriptRefusal.{ScriptRefusal}
use Rattle.script_lines.specs.declared.refusal.ScriptRefusal.TheVariants.{BadLine, Limit as LimitOfScript, NoMemory as NoMemoryForScript}
use Rattle.script_lines.specs.declared.refusal.Which.{Which}
use Rattle.script_lines.specs.declared.refusal.Which.TheVariants.{Bytes, Lines, Sessions}

-- the exit status
abbrev pub status : Cause → ℕ
status Fine = 0
status Usage = 2
status (BadScript line refusal) = 3
status ReadFault = 4
status WriteFault = 5
status NoMemory = 8
status (Limit which number) = 9

-- what a limit counts
abbrev pub limit_name : Which → List ℕ
limit_name Bytes = codes "bytes"
limit_name Lines = codes "lines"
limit_name Sessions = codes "sessions"

-- why a line is refused
abbrev pub refusal_text : ParseRefusal → List ℕ
refusal_text parse.Limit = codes "too long"
refusal_text (parse.Syntax offset) = codes "syntax at " ++ decimal offset
refusal_text (parse.WrongLevel privilege) = codes "wrong level " ++ privilege_name privilege
refusal_text parse.NoMemory = codes "no memory"

-- the line on the error stream
abbrev pub text_of_cause : Cause → List ℕ
text_of_cause Fine = []
text_of_cause Usage = codes "usage: acl step SCRIPT JOURNAL, acl make NUMBER SESSIONS LINES\n"
text_of_cause (BadScript line refusal) = codes "line " ++ (decimal line ++ (codes ": " ++ (refusal_text refusal ++ codes "\n")))
text_of_cause ReadFault = codes "read fault\n"
text_of_cause WriteFault = codes "write fault\n"
text_of_cause NoMemory = codes "no memory\n"
text_of_cause (Limit which number) = codes "limit " ++ (limit_name which ++ (codes " " ++ (decimal number ++ codes "\n")))

-- how the program ends where its input is not read
abbrev pub cause_of_fault : InputFault → Cause
cause_of_fault Failed = ReadFault
cause_of_fault TooLong = Limit Bytes most_bytes
cause_of_fault NoMemoryForInput = NoMemory

-- how it ends where its script is refused
abbrev pub cause_of_refusal : ScriptRefusal → Cause
cause_of_refusal (BadLine line refusal) = BadScript line refusal
cause_of_refusal (LimitOfScript which number) = Limit which number
cause_of_refusal NoMemoryForScript = NoMemory

-- how it ends so far, before the report is written
abbrev pub cause_so_far : {Made : Type 0} → Result Made Cause → Cause
cause_so_far (Ok made) = Fine
cause_so_far (Err cause) = cause
