-- CREATE USER, account by account.
use Rattle.std.specs.Prelude.{◌≡◌, false, None, Option, Some, IsTrue, if◌then◌else◌}
use Rattle.acl_names.specs.AuthId.{same_auth}
use Rattle.acl_names.specs.declared.auth.AuthId.{AuthId}
use Rattle.acl_names.specs.declared.policy.Verifier.{Verifier}
use Rattle.acl_model.specs.Accounts.{new_account, with_options, with_verifier}
use Rattle.acl_model.specs.Counts.{HasMoreThan}
use Rattle.acl_model.specs.State.{State, stands}
use Rattle.acl_model.specs.declared.account_data.AccountData.{AccountData}
use Rattle.acl_model.specs.declared.row.Row.TheVariants.{Account}
use Rattle.acl_rows.specs.Changes.{with_data, with_row}
use Rattle.acl_stmt.specs.declared.options.AccountOptions.{AccountOptions}
use Rattle.acl_stmt.specs.declared.refusal.Full.TheVariants as full
use Rattle.acl_stmt.specs.declared.refusal.Refusal.{Refusal}
use Rattle.acl_stmt.specs.declared.refusal.Refusal.TheVariants.{AccountExists, Full, NoMemory}

-- the data of an account that is created with options
abbrev pub created_data : AccountOptions → Verifier → AccountData
created_data options verifier = with_options options (with_verifier verifier new_account)

-- more accounts stand than may
abbrev pub IsCrowded : State → Type 0
IsCrowded state = HasMoreThan same_auth (λ a. IsTrue (stands state a)) 4096

-- want of memory, a fault, or too many accounts after it
abbrev pub IsCreateCause : Option Refusal → State → Refusal → Type 0
IsCreateCause wanted after NoMemory = Unit {0}
IsCreateCause wanted after (AccountExists account) = wanted ≡ Some (AccountExists account)
IsCreateCause wanted after (Full full.Accounts) = (wanted ≡ None) × IsCrowded after
IsCreateCause wanted after _ = ⊥

-- the state with an account with these data, where it does not stand
abbrev pub with_account : AuthId → AccountData → State → State
with_account account value state = if stands state account then state else with_data account value (with_row (Account account) state)

-- want of memory, or an account more than may stand
abbrev pub IsNoRoom : AuthId → State → Refusal → Type 0
IsNoRoom account state NoMemory = Unit {0}
IsNoRoom account state (Full full.Accounts) = (stands state account ≡ false) × HasMoreThan same_auth (λ a. IsTrue (stands state a)) 4095
IsNoRoom account state _ = ⊥
