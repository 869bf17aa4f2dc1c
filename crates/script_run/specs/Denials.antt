-- The number of a static privilege, the refusal that is want of memory, and how a verdict is told.
use Rattle.std.specs.Prelude.{ℕ, Bool, true, false, Option, Some, None}
use Rattle.acl_stmt.specs.declared.privileges.PrivList.{PrivList}
use Rattle.acl_stmt.specs.declared.refusal.Missing.{Missing}
use Rattle.acl_stmt.specs.declared.refusal.Refusal.{Refusal}
use Rattle.acl_stmt.specs.declared.refusal.Refusal.TheVariants.{NoMemory}
use Rattle.acl_stmt.specs.declared.target.Target.{Target}
use Rattle.line_answers.specs.declared.answer.Answer.{Answer}
use Rattle.line_answers.specs.declared.answer.Answer.TheVariants.{Allowed, Denied}
use Rattle.priv_sets.specs.declared.privilege.Privilege.{Privilege}
use Rattle.priv_sets.specs.declared.privilege.Privilege.TheVariants.{Plain, Dynamic}
use Rattle.session_rules.specs.Answers.{denial_for}

abbrev pub static_number : Privilege → Option ℕ
static_number (Plain number) = Some number
static_number (Dynamic number) = None

-- want of memory
abbrev pub is_want : Refusal → Bool
is_want NoMemory = true
is_want _ = false

abbrev pub verdict_told : PrivList → Target → Option Missing → Answer
verdict_told privileges target None = Allowed
verdict_told privileges target (Some missing) = Denied (denial_for privileges target missing)
