-- The canonical text of a statement is cut into just its tokens.
use Rattle.std.proofs.Common.{◌≡◌, ℕ, Bool, true, false, cond, List, [], ◌∷◌, Option, Some, None, refl, subst}
use Rattle.std.specs.Cmp.{second_so}
use Rattle.std.specs.Prelude.{IsTrue, codes}
use Rattle.acl_names.specs.declared.auth.AuthId.{AuthId}
use Rattle.acl_stmt.specs.Lists.{is_some_list}
use Rattle.acl_stmt.specs.Statements.{are_options, is_statement}
use Rattle.acl_stmt.specs.declared.roles.DefaultForm.{DefaultForm}
use Rattle.acl_stmt.specs.declared.roles.DefaultForm.TheVariants as form
use Rattle.acl_stmt.specs.declared.statement.Statement.{Statement}
use Rattle.acl_stmt.specs.declared.statement.Statement.TheVariants.{CreateUser, AlterUser, DropUser, RenameUser, CreateRole, DropRole, Grant, GrantRoles, Revoke, RevokeAll, RevokeRoles, SetDefaultRole, SetPassword, SetMandatory, SetActivateAll}
use Rattle.grant_lex.proofs.Prints.{printed_cut}
use Rattle.grant_lex.specs.Printed.{ArePrinted, tokens_of}
use Rattle.grant_lex.specs.Token.{IsCut}
use Rattle.mandatory_roles.specs.Text.{roles_text}
use Rattle.canonical_texts.specs.StatementTokens.{canonical_tokens, default_tokens, first_word, for_tokens, further_tokens}
use Rattle.canonical_texts.specs.Statements.{canonical_text}
use Rattle.canonical_texts.specs.Tokens.{altered_tokens, new_tokens, opening_word, renamed_tokens, tokens_if, word, words_of}
use Rattle.canonical_texts.proofs.Chains.{IsSegment, chain_printed, follows_start, no_tokens, segment_append, segment_list, segment_mark}
use Rattle.canonical_texts.proofs.Segments.{account_segment, accounts_segment, altered_segment, digits_segment, if_segment, is_word_text, new_segment, opening_token, options_segment, privileges_segment, renamed_segment, string_then, target_segment, word_then, words_segment}
use Rattle.canonical_texts.proofs.TokenTexts.{tokens_text}

default_segment : (form : DefaultForm) → IsSegment (default_tokens form)
default_segment form.Nothing = word_then (codes "NONE") [] refl no_tokens
default_segment form.All = word_then (codes "ALL") [] refl no_tokens
default_segment (form.List roles) = accounts_segment roles

for_segment : (account : Option AuthId) → IsSegment (for_tokens account)
for_segment None = no_tokens
for_segment (Some account) = word_then (codes "FOR") _ refl (account_segment account)

flag_segment : (test : Bool) (words : List ℕ) → IsSegment (words_of words) → IsSegment (tokens_if test (words_of words))
flag_segment test words segment = if_segment test (words_of words) segment

on_segment : (on : Bool) → IsSegment (word (cond on (codes "ON") (codes "OFF")) ∷ [])
on_segment true = word_then (codes "ON") [] refl no_tokens
on_segment false = word_then (codes "OFF") [] refl no_tokens

further_segment : (s : Statement) → IsTrue (is_statement s) → IsSegment (further_tokens s)
unfolding further_tokens is_statement
further_segment (CreateUser if_not_exists accounts options) ok =
    word_then (codes "USER") _ refl
    (segment_append _ _ (flag_segment if_not_exists (codes "IF NOT EXISTS") (words_segment (codes "IF NOT EXISTS") refl))
    (segment_append _ _ (segment_list new_tokens new_segment accounts) (options_segment options (second_so (is_some_list accounts) (are_options options) ok))))
further_segment (AlterUser accounts options) ok =
    word_then (codes "USER") _ refl
    (segment_append _ _ (segment_list altered_tokens altered_segment accounts) (options_segment options (second_so (is_some_list accounts) (are_options options) ok)))
further_segment (DropUser if_exists accounts) ok =
    word_then (codes "USER") _ refl (segment_append _ _ (flag_segment if_exists (codes "IF EXISTS") (words_segment (codes "IF EXISTS") refl)) (accounts_segment accounts))
further_segment (RenameUser pairs) ok = word_then (codes "USER") _ refl (segment_list renamed_tokens renamed_segment pairs)
further_segment (CreateRole if_not_exists roles) ok =
    word_then (codes "ROLE") _ refl (segment_append _ _ (flag_segment if_not_exists (codes "IF NOT EXISTS") (words_segment (codes "IF NOT EXISTS") refl)) (accounts_segment roles))
further_segment (DropRole if_exists roles) ok =
    word_then (codes "ROLE") _ refl (segment_append _ _ (flag_segment if_exists (codes "IF EXISTS") (words_segment (codes "IF EXISTS") refl)) (accounts_segment roles))
further_segment (Grant privileges target accounts with_grant_option) ok =
    segment_append _ _ (privileges_segment privileges)
    (word_then (codes "ON") _ refl
    (segment_append _ _ (target_segment target)
    (word_then (codes "TO") _ refl
    (segment_append _ _ (accounts_segment accounts) (flag_segment with_grant_option (codes "WITH GRANT OPTION") (words_segment (codes "WITH GRANT OPTION") refl))))))
further_segment (GrantRoles roles accounts with_admin_option) ok =
    segment_append _ _ (accounts_segment roles)
    (word_then (codes "TO") _ refl
    (segment_append _ _ (accounts_segment accounts) (flag_segment with_admin_option (codes "WITH ADMIN OPTION") (words_segment (codes "WITH ADMIN OPTION") refl))))
further_segment (Revoke privileges target accounts) ok =
    segment_append _ _ (privileges_segment privileges)
    (word_then (codes "ON") _ refl (segment_append _ _ (target_segment target) (word_then (codes "FROM") _ refl (accounts_segment accounts))))
further_segment (RevokeAll accounts) ok =
    word_then (codes "ALL") _ refl
    (word_then (codes "PRIVILEGES") _ refl
    (segment_mark 44 [] _ tt refl
    (word_then (codes "GRANT") _ refl (word_then (codes "OPTION") _ refl (word_then (codes "FROM") _ refl (accounts_segment accounts)))).chain))
further_segment (RevokeRoles roles accounts) ok =
    segment_append _ _ (accounts_segment roles) (word_then (codes "FROM") _ refl (accounts_segment accounts))
further_segment (SetDefaultRole form accounts) ok =
    word_then (codes "DEFAULT") _ refl
    (word_then (codes "ROLE") _ refl (segment_append _ _ (default_segment form) (word_then (codes "TO") _ refl (accounts_segment accounts))))
further_segment (SetPassword account verifier) ok =
    word_then (codes "PASSWORD") _ refl
    (segment_append _ _ (for_segment account) (segment_mark 61 (codes " ") _ (refl, tt) refl (word_then (codes "VERIFIER") _ refl (digits_segment verifier)).chain))
further_segment (SetMandatory roles) ok =
    word_then (codes "PERSIST") _ refl
    (word_then (codes "mandatory_roles") _ refl (segment_mark 61 (codes " ") _ (refl, tt) refl (string_then (roles_text roles)).chain))
further_segment (SetActivateAll on) ok =
    word_then (codes "PERSIST") _ refl
    (word_then (codes "activate_all_roles_on_login") _ refl (segment_mark 61 (codes " ") _ (refl, tt) refl (on_segment on).chain))

first_is_word : (s : Statement) → is_word_text (first_word s) ≡ true
first_is_word (CreateUser _ _ _) = refl
first_is_word (AlterUser _ _) = refl
first_is_word (DropUser _ _) = refl
first_is_word (RenameUser _) = refl
first_is_word (CreateRole _ _) = refl
first_is_word (DropRole _ _) = refl
first_is_word (Grant _ _ _ _) = refl
first_is_word (GrantRoles _ _ _) = refl
first_is_word (Revoke _ _ _) = refl
first_is_word (RevokeAll _) = refl
first_is_word (RevokeRoles _ _) = refl
first_is_word (SetDefaultRole _ _) = refl
first_is_word (SetPassword _ _) = refl
first_is_word (SetMandatory _) = refl
first_is_word (SetActivateAll _) = refl

pub canonical_printed : (s : Statement) → IsTrue (is_statement s) → ArePrinted (canonical_tokens s)
canonical_printed s ok =
    let rest = further_segment s ok in
    chain_printed (canonical_tokens s) (opening_token (first_word s) (first_is_word s), follows_start (opening_word (first_word s)) (further_tokens s) rest.starts, rest.chain)

pub canonical_cut : (s : Statement) → IsTrue (is_statement s) → IsCut (canonical_text s) (tokens_of 0 (canonical_tokens s))
canonical_cut s ok = subst (λ l. IsCut l (tokens_of 0 (canonical_tokens s))) (tokens_text s) (printed_cut (canonical_tokens s) (canonical_printed s ok))
