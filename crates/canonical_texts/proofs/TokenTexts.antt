-- What the tokens of a statement print.
use Rattle.std.proofs.Common.{◌≡◌, ℕ, Bool, true, false, List, ◌++◌, Option, Some, None, refl, ap, ◌∙◌, append-nil}
use Rattle.std.specs.Prelude.{codes}
use Rattle.acl_names.specs.declared.auth.AuthId.{AuthId}
use Rattle.acl_stmt.specs.declared.roles.DefaultForm.{DefaultForm}
use Rattle.acl_stmt.specs.declared.roles.DefaultForm.TheVariants as form
use Rattle.acl_stmt.specs.declared.statement.Statement.{Statement}
use Rattle.acl_stmt.specs.declared.statement.Statement.TheVariants.{CreateUser, AlterUser, DropUser, RenameUser, CreateRole, DropRole, Grant, GrantRoles, Revoke, RevokeAll, RevokeRoles, SetDefaultRole, SetPassword, SetMandatory, SetActivateAll}
use Rattle.grant_lex.specs.Printed.{Printed, printed}
use Rattle.mandatory_roles.specs.Text.{roles_text}
use Rattle.canonical_texts.specs.Lists.{text_if}
use Rattle.canonical_texts.specs.Quotes.{string_text}
use Rattle.canonical_texts.specs.StatementTokens.{canonical_tokens, default_tokens, for_tokens, further_tokens}
use Rattle.canonical_texts.specs.Statements.{canonical_text, default_text, for_text}
use Rattle.canonical_texts.specs.Texts.{altered_text, new_text, renamed_text}
use Rattle.canonical_texts.specs.Tokens.{accounts_tokens, altered_tokens, list_tokens, new_tokens, options_tokens, privileges_tokens, renamed_tokens, target_tokens, tokens_if, words_of}
use Rattle.canonical_texts.proofs.PartTexts.{account_text, accounts_print, altered_print, if_print, list_print, new_print, options_print, printed-append, privileges_print, renamed_print, target_print, words_text}

-- two parts, one after the other
two : (xs ys : List Printed) (a b : List ℕ) → printed xs ≡ a → printed ys ≡ b → printed (xs ++ ys) ≡ a ++ b
two xs ys a b e f = printed-append xs ys ∙ ap (λ l. l ++ printed ys) e ∙ ap (λ l. a ++ l) f

default_print : (form : DefaultForm) → printed (default_tokens form) ≡ default_text form
default_print form.Nothing = refl
default_print form.All = refl
default_print (form.List roles) = accounts_print roles

for_print : (account : Option AuthId) → printed (for_tokens account) ≡ for_text account
for_print None = refl
for_print (Some account) = ap (λ l. codes " FOR" ++ l) (account_text account)

-- a flag in front of a part
flagged : (test : Bool) (words : List ℕ) (ys : List Printed) (b : List ℕ) → printed ys ≡ b → printed (tokens_if test (words_of words) ++ ys) ≡ text_if test (codes " " ++ words) ++ b
flagged test words ys b e = two (tokens_if test (words_of words)) ys (text_if test (codes " " ++ words)) b (if_print test (words_of words) (codes " " ++ words) (words_text words)) e

flag_behind : (test : Bool) (words : List ℕ) → printed (tokens_if test (words_of words)) ≡ text_if test (codes " " ++ words)
flag_behind test words = if_print test (words_of words) (codes " " ++ words) (words_text words)

pub tokens_text : (s : Statement) → printed (canonical_tokens s) ≡ canonical_text s
unfolding canonical_text further_tokens
tokens_text (CreateUser if_not_exists accounts options) =
    ap (λ l. codes "CREATE USER" ++ l)
    (flagged if_not_exists (codes "IF NOT EXISTS") _ _ (two (list_tokens new_tokens accounts) (options_tokens options) _ _ (list_print new_tokens new_text new_print accounts) (options_print options)))
tokens_text (AlterUser accounts options) =
    ap (λ l. codes "ALTER USER" ++ l) (two (list_tokens altered_tokens accounts) (options_tokens options) _ _ (list_print altered_tokens altered_text altered_print accounts) (options_print options))
tokens_text (DropUser if_exists accounts) = ap (λ l. codes "DROP USER" ++ l) (flagged if_exists (codes "IF EXISTS") _ _ (accounts_print accounts))
tokens_text (RenameUser pairs) = ap (λ l. codes "RENAME USER" ++ l) (list_print renamed_tokens renamed_text renamed_print pairs)
tokens_text (CreateRole if_not_exists roles) = ap (λ l. codes "CREATE ROLE" ++ l) (flagged if_not_exists (codes "IF NOT EXISTS") _ _ (accounts_print roles))
tokens_text (DropRole if_exists roles) = ap (λ l. codes "DROP ROLE" ++ l) (flagged if_exists (codes "IF EXISTS") _ _ (accounts_print roles))
tokens_text (Grant privileges target accounts with_grant_option) =
    ap (λ l. codes "GRANT" ++ l)
    (two (privileges_tokens privileges) _ _ _ (privileges_print privileges)
    (ap (λ l. codes " ON" ++ l)
    (two (target_tokens target) _ _ _ (target_print target)
    (ap (λ l. codes " TO" ++ l) (two (accounts_tokens accounts) _ _ _ (accounts_print accounts) (flag_behind with_grant_option (codes "WITH GRANT OPTION")))))))
tokens_text (GrantRoles roles accounts with_admin_option) =
    ap (λ l. codes "GRANT" ++ l)
    (two (accounts_tokens roles) _ _ _ (accounts_print roles)
    (ap (λ l. codes " TO" ++ l) (two (accounts_tokens accounts) _ _ _ (accounts_print accounts) (flag_behind with_admin_option (codes "WITH ADMIN OPTION")))))
tokens_text (Revoke privileges target accounts) =
    ap (λ l. codes "REVOKE" ++ l)
    (two (privileges_tokens privileges) _ _ _ (privileges_print privileges)
    (ap (λ l. codes " ON" ++ l) (two (target_tokens target) _ _ _ (target_print target) (ap (λ l. codes " FROM" ++ l) (accounts_print accounts)))))
tokens_text (RevokeAll accounts) = ap (λ l. codes "REVOKE ALL PRIVILEGES, GRANT OPTION FROM" ++ l) (accounts_print accounts)
tokens_text (RevokeRoles roles accounts) =
    ap (λ l. codes "REVOKE" ++ l) (two (accounts_tokens roles) _ _ _ (accounts_print roles) (ap (λ l. codes " FROM" ++ l) (accounts_print accounts)))
tokens_text (SetDefaultRole form accounts) =
    ap (λ l. codes "SET DEFAULT ROLE" ++ l) (two (default_tokens form) _ _ _ (default_print form) (ap (λ l. codes " TO" ++ l) (accounts_print accounts)))
tokens_text (SetPassword account verifier) =
    ap (λ l. codes "SET PASSWORD" ++ l)
    (two (for_tokens account) _ _ _ (for_print account) (ap (λ l. codes " = VERIFIER " ++ l) (append-nil _)))
tokens_text (SetMandatory roles) = ap (λ l. codes "SET PERSIST mandatory_roles = " ++ l) (append-nil (string_text (roles_text roles)))
tokens_text (SetActivateAll true) = refl
tokens_text (SetActivateAll false) = refl
