-- The parts of statements, as they are written: each has one space before it.
use Rattle.std.specs.Prelude.{ℕ, Bool, true, false, List, [], ◌++◌, Option, Some, None, codes, decimal}
use Rattle.acl_names.specs.AuthId.{auth_text}
use Rattle.acl_names.specs.Quoted.{pair_text}
use Rattle.acl_names.specs.declared.auth.AuthId.{AuthId}
use Rattle.acl_names.specs.declared.policy.LockTime.{LockTime}
use Rattle.acl_names.specs.declared.policy.LockTime.TheVariants.{Days, Unbounded}
use Rattle.acl_names.specs.declared.policy.Verifier.{Verifier}
use Rattle.acl_stmt.specs.declared.options.AccountOptions.{AccountOptions}
use Rattle.acl_stmt.specs.declared.target.Target.{Target}
use Rattle.acl_stmt.specs.declared.target.Target.TheVariants as on
use Rattle.hex.specs.Hex.{encode_lower}
use Rattle.canonical_texts.specs.Lists.{list_text}
use Rattle.canonical_texts.specs.Quotes.{schema_text}

-- members with `, ` between them
abbrev pub members_text : {A : Type 0} → (A → List ℕ) → List A → List ℕ
members_text print members = list_text (codes " ") (codes ", ") print members

abbrev pub accounts_text : List AuthId → List ℕ
accounts_text accounts = members_text auth_text accounts

-- the 64 digits of a verifier
abbrev pub digits_text : Verifier → List ℕ
digits_text verifier = codes " '" ++ (encode_lower verifier.0 ++ codes "'")

abbrev pub password_text : Verifier → List ℕ
password_text verifier = codes " IDENTIFIED BY VERIFIER" ++ digits_text verifier

-- an account that is made
abbrev pub new_text : AuthId × Verifier → List ℕ
new_text (account, verifier) = auth_text account ++ password_text verifier

-- an account that is altered, with its new password where it has one
abbrev pub altered_text : AuthId × Option Verifier → List ℕ
altered_text (account, None) = auth_text account
altered_text (account, Some verifier) = auth_text account ++ password_text verifier

abbrev pub renamed_text : AuthId × AuthId → List ℕ
renamed_text (old, new_name) = auth_text old ++ (codes " TO " ++ auth_text new_name)

abbrev pub attempts_text : Option ℕ → List ℕ
attempts_text None = []
attempts_text (Some attempts) = codes " FAILED_LOGIN_ATTEMPTS " ++ decimal attempts

abbrev pub days_text : Option LockTime → List ℕ
days_text None = []
days_text (Some (Days days)) = codes " PASSWORD_LOCK_TIME " ++ decimal days
days_text (Some Unbounded) = codes " PASSWORD_LOCK_TIME UNBOUNDED"

abbrev pub locked_text : Option Bool → List ℕ
locked_text None = []
locked_text (Some true) = codes " ACCOUNT LOCK"
locked_text (Some false) = codes " ACCOUNT UNLOCK"

abbrev pub options_text : AccountOptions → List ℕ
options_text options = attempts_text options.attempts ++ (days_text options.days ++ locked_text options.locked)

abbrev pub target_text : Target → List ℕ
target_text on.Global = codes " *.*"
target_text (on.Schema schema) = codes " " ++ (schema_text schema ++ codes ".*")
target_text (on.Table schema table) = codes " " ++ pair_text schema table
target_text (on.Function schema name) = codes " FUNCTION " ++ pair_text schema name
target_text (on.Procedure schema name) = codes " PROCEDURE " ++ pair_text schema name
