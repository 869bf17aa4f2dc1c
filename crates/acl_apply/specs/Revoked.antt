-- Why REVOKE of privileges is refused.
use Rattle.std.specs.Prelude.{◌≡◌, List, Some}
use Rattle.acl_names.specs.declared.auth.AuthId.{AuthId}
use Rattle.acl_model.specs.Refusals.{first_fault}
use Rattle.acl_model.specs.State.{State}
use Rattle.acl_stmt.specs.declared.privileges.PrivList.{PrivList}
use Rattle.acl_stmt.specs.declared.refusal.Refusal.{Refusal}
use Rattle.acl_stmt.specs.declared.refusal.Refusal.TheVariants.{NoMemory, NoSuchAccount, NoSuchGrant}
use Rattle.acl_stmt.specs.declared.statement.Statement.TheVariants.{Revoke}
use Rattle.acl_stmt.specs.declared.target.Target.{Target}
use Rattle.revoke_effects.specs.Found.{IsGrantFault}

-- want of memory, an account that does not stand, or one of which nothing is found
abbrev pub IsRevokeCause : State → PrivList → Target → List AuthId → Refusal → Type 0
IsRevokeCause state privileges target accounts NoMemory = Unit {0}
IsRevokeCause state privileges target accounts (NoSuchAccount account) = first_fault state (Revoke privileges target accounts) ≡ Some (NoSuchAccount account)
IsRevokeCause state privileges target accounts (NoSuchGrant account) = IsGrantFault state privileges target accounts (Some account)
IsRevokeCause state privileges target accounts _ = ⊥
