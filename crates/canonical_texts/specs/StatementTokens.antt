-- The tokens of the canonical text of each statement.
use Rattle.std.specs.Prelude.{ℕ, if◌then◌else◌, List, [], ◌∷◌, ◌++◌, Option, Some, None, codes}
use Rattle.acl_names.specs.declared.auth.AuthId.{AuthId}
use Rattle.acl_stmt.specs.declared.roles.DefaultForm.{DefaultForm}
use Rattle.acl_stmt.specs.declared.roles.DefaultForm.TheVariants as form
use Rattle.acl_stmt.specs.declared.statement.Statement.{Statement}
use Rattle.acl_stmt.specs.declared.statement.Statement.TheVariants.{CreateUser, AlterUser, DropUser, RenameUser, CreateRole, DropRole, Grant, GrantRoles, Revoke, RevokeAll, RevokeRoles, SetDefaultRole, SetPassword, SetMandatory, SetActivateAll}
use Rattle.grant_lex.specs.Printed.{Printed}
use Rattle.mandatory_roles.specs.Text.{roles_text}
use Rattle.canonical_texts.specs.Quotes.{string_text}
use Rattle.canonical_texts.specs.Tokens.{account_tokens, accounts_tokens, altered_tokens, digits_token, list_tokens, mark, new_tokens, opening_word, options_tokens, privileges_tokens, renamed_tokens, spaced_mark, string, target_tokens, tokens_if, word, words_of}

abbrev pub default_tokens : DefaultForm → List Printed
default_tokens form.Nothing = word (codes "NONE") ∷ []
default_tokens form.All = word (codes "ALL") ∷ []
default_tokens (form.List roles) = accounts_tokens roles

abbrev pub for_tokens : Option AuthId → List Printed
for_tokens None = []
for_tokens (Some account) = word (codes "FOR") ∷ account_tokens account

-- what follows the first word
unfoldable pub further_tokens : Statement → List Printed
further_tokens (CreateUser if_not_exists accounts options) =
    word (codes "USER") ∷ (tokens_if if_not_exists (words_of (codes "IF NOT EXISTS")) ++ (list_tokens new_tokens accounts ++ options_tokens options))
further_tokens (AlterUser accounts options) = word (codes "USER") ∷ (list_tokens altered_tokens accounts ++ options_tokens options)
further_tokens (DropUser if_exists accounts) = word (codes "USER") ∷ (tokens_if if_exists (words_of (codes "IF EXISTS")) ++ accounts_tokens accounts)
further_tokens (RenameUser pairs) = word (codes "USER") ∷ list_tokens renamed_tokens pairs
further_tokens (CreateRole if_not_exists roles) = word (codes "ROLE") ∷ (tokens_if if_not_exists (words_of (codes "IF NOT EXISTS")) ++ accounts_tokens roles)
further_tokens (DropRole if_exists roles) = word (codes "ROLE") ∷ (tokens_if if_exists (words_of (codes "IF EXISTS")) ++ accounts_tokens roles)
further_tokens (Grant privileges target accounts with_grant_option) =
    privileges_tokens privileges ++ word (codes "ON") ∷ (target_tokens target ++ word (codes "TO") ∷ (accounts_tokens accounts ++ tokens_if with_grant_option (words_of (codes "WITH GRANT OPTION"))))
further_tokens (GrantRoles roles accounts with_admin_option) =
    accounts_tokens roles ++ word (codes "TO") ∷ (accounts_tokens accounts ++ tokens_if with_admin_option (words_of (codes "WITH ADMIN OPTION")))
further_tokens (Revoke privileges target accounts) =
    privileges_tokens privileges ++ word (codes "ON") ∷ (target_tokens target ++ word (codes "FROM") ∷ accounts_tokens accounts)
further_tokens (RevokeAll accounts) =
    word (codes "ALL") ∷ word (codes "PRIVILEGES") ∷ mark 44 ∷ word (codes "GRANT") ∷ word (codes "OPTION") ∷ word (codes "FROM") ∷ accounts_tokens accounts
further_tokens (RevokeRoles roles accounts) = accounts_tokens roles ++ word (codes "FROM") ∷ accounts_tokens accounts
further_tokens (SetDefaultRole form accounts) =
    word (codes "DEFAULT") ∷ word (codes "ROLE") ∷ (default_tokens form ++ word (codes "TO") ∷ accounts_tokens accounts)
further_tokens (SetPassword account verifier) =
    word (codes "PASSWORD") ∷ (for_tokens account ++ spaced_mark 61 ∷ word (codes "VERIFIER") ∷ digits_token verifier ∷ [])
further_tokens (SetMandatory roles) =
    word (codes "PERSIST") ∷ word (codes "mandatory_roles") ∷ spaced_mark 61 ∷ string (string_text (roles_text roles)) ∷ []
further_tokens (SetActivateAll on) =
    word (codes "PERSIST") ∷ word (codes "activate_all_roles_on_login") ∷ spaced_mark 61 ∷ word (if on then codes "ON" else codes "OFF") ∷ []

abbrev pub first_word : Statement → List ℕ
first_word (CreateUser _ _ _) = codes "CREATE"
first_word (AlterUser _ _) = codes "ALTER"
first_word (DropUser _ _) = codes "DROP"
first_word (RenameUser _) = codes "RENAME"
first_word (CreateRole _ _) = codes "CREATE"
first_word (DropRole _ _) = codes "DROP"
first_word (Grant _ _ _ _) = codes "GRANT"
first_word (GrantRoles _ _ _) = codes "GRANT"
first_word (Revoke _ _ _) = codes "REVOKE"
first_word (RevokeAll _) = codes "REVOKE"
first_word (RevokeRoles _ _) = codes "REVOKE"
first_word (SetDefaultRole _ _) = codes "SET"
first_word (SetPassword _ _) = codes "SET"
first_word (SetMandatory _) = codes "SET"
first_word (SetActivateAll _) = codes "SET"

-- the tokens of the canonical text, in order
abbrev pub canonical_tokens : Statement → List Printed
canonical_tokens statement = opening_word (first_word statement) ∷ further_tokens statement
