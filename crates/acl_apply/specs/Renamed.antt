-- Renaming, pair by pair.
use Rattle.std.specs.Prelude.{Bool, Option, Some, None, if◌then◌else◌}
use Rattle.acl_names.specs.declared.auth.AuthId.{AuthId}
use Rattle.acl_stmt.specs.declared.refusal.Refusal.{Refusal}
use Rattle.acl_stmt.specs.declared.refusal.Refusal.TheVariants.{AccountExists, NoSuchAccount}

-- the old name has to stand, and the new one must not
abbrev pub pair_fault : (AuthId → Bool) → AuthId → AuthId → Option Refusal
pair_fault there old new = if there old then (if there new then Some (AccountExists new) else None) else Some (NoSuchAccount old)
