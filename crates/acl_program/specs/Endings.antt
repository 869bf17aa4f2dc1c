-- What an end of the program says of its words, its script and its devices.
use Rattle.std.specs.Prelude.{◌≡◌, ◌⊎◌, ℕ, ◌≤◌, List, [], ◌++◌, Option, None, Some, IsSome}
use Rattle.acl_ports.specs.Faults.{next_count}
use Rattle.acl_program.specs.Scripts.{HasScript, IsBadScript, IsTooMuch}
use Rattle.acl_program.specs.Streams.{IsCutBeyond, IsEndLeft, IsPrefixWritten, most_bytes}
use Rattle.acl_program.specs.declared.cause.Cause.{Cause}
use Rattle.acl_program.specs.declared.cause.Cause.TheVariants.{Fine, Usage, BadScript, ReadFault, WriteFault, NoMemory, Limit}
use Rattle.grant_refusal.specs.declared.ParseRefusal.{ParseRefusal}
use Rattle.line_answers.specs.declared.report.Report.{Report}
use Rattle.script_lines.specs.declared.refusal.Which.{Which}
use Rattle.script_lines.specs.declared.refusal.Which.TheVariants.{Bytes, Lines, Sessions}

-- this cause, unless a read failed or memory ran out before
abbrev pub IsOrEarlier : Cause → Cause → Type 0
IsOrEarlier cause wanted = (cause ≡ wanted) ⊎ ((cause ≡ ReadFault) ⊎ (cause ≡ NoMemory))

-- a cause comes exactly where this holds, unless a read failed or memory ran out before
pub record ComesExactly (cause wanted : Cause) (Holds : Type 0) : Type 0 where
  pub only : cause ≡ wanted → Holds
  pub always : Holds → IsOrEarlier cause wanted

-- words without a form end the program as such, unless memory ran out before
abbrev pub IsUsageOrWant : Cause → Type 0
IsUsageOrWant cause = (cause ≡ Usage) ⊎ (cause ≡ NoMemory)

-- bytes that are no script are told
pub record IsDue (bytes : List ℕ) (cause : Cause) : Type 0 where
  pub bad : (line : ℕ) (refusal : ParseRefusal) → IsBadScript bytes line refusal → IsOrEarlier cause (BadScript line refusal)
  pub limit : (which : Which) (number : ℕ) → IsTooMuch bytes which number → IsOrEarlier cause (Limit which number)

-- what the program has read of these bytes when it ends so, by what is left of them
abbrev pub IsReadFor : Cause → List ℕ → Option (List ℕ) → Type 0
IsReadFor Fine bytes left = left ≡ Some []
IsReadFor Usage bytes left = left ≡ Some bytes
IsReadFor (BadScript line refusal) bytes left = left ≡ Some []
IsReadFor ReadFault bytes left = IsEndLeft bytes left
IsReadFor WriteFault bytes left = left ≡ Some []
IsReadFor NoMemory bytes left = IsEndLeft bytes left
IsReadFor (Limit Bytes number) bytes left = IsCutBeyond most_bytes bytes left
IsReadFor (Limit Lines number) bytes left = left ≡ Some []
IsReadFor (Limit Sessions number) bytes left = left ≡ Some []

-- which end keeps the report: where the lines were run to their end, and nowhere else; want of memory may come before or behind
abbrev pub HasReport : Cause → Option Report → Type 0
HasReport Fine report = IsSome report
HasReport Usage report = report ≡ None
HasReport (BadScript line refusal) report = report ≡ None
HasReport ReadFault report = report ≡ None
HasReport WriteFault report = IsSome report
HasReport NoMemory report = Unit {0}
HasReport (Limit which number) report = report ≡ None

-- all of the text stands behind what was written before, or a front of it where the count of faults rose
abbrev pub IsTold : List ℕ → List ℕ → ℕ → ℕ → Option (List ℕ) → Type 0
IsTold before text old_faults new_faults written =
    (written ≡ Some (before ++ text)) ⊎ ((next_count old_faults ≤ new_faults) × IsPrefixWritten before text written)

-- what the bytes of the script have to do with an end
abbrev pub IsCausedBy : List ℕ → Cause → Type 0
IsCausedBy bytes Fine = HasScript bytes
IsCausedBy bytes Usage = ⊥
IsCausedBy bytes (BadScript line refusal) = IsBadScript bytes line refusal
IsCausedBy bytes ReadFault = Unit {0}
IsCausedBy bytes WriteFault = HasScript bytes
IsCausedBy bytes NoMemory = Unit {0}
IsCausedBy bytes (Limit which number) = IsTooMuch bytes which number

-- what bytes within the limit have to do with an end, once they were read
abbrev pub IsMade : List ℕ → Cause → Type 0
IsMade bytes Fine = HasScript bytes
IsMade bytes Usage = ⊥
IsMade bytes (BadScript line refusal) = IsBadScript bytes line refusal
IsMade bytes ReadFault = ⊥
IsMade bytes WriteFault = ⊥
IsMade bytes NoMemory = Unit {0}
IsMade bytes (Limit Bytes number) = ⊥
IsMade bytes (Limit which number) = IsTooMuch bytes which number
