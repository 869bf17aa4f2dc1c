-- The tokens of the lines that SHOW GRANTS prints.
use Rattle.std.specs.Prelude.{if◌then◌else◌, List, [], ◌∷◌, ◌++◌, codes}
use Rattle.std.specs.List.{flat_map}
use Rattle.acl_model.specs.Words.{is_dynamic_alone}
use Rattle.acl_stmt.specs.declared.privileges.PrivList.{PrivList}
use Rattle.acl_stmt.specs.declared.statement.Statement.{Statement}
use Rattle.acl_stmt.specs.declared.statement.Statement.TheVariants.{Grant, GrantRoles}
use Rattle.canonical_texts.specs.StatementTokens.{canonical_tokens}
use Rattle.canonical_texts.specs.Tokens.{account_tokens, accounts_tokens, mark, opening_word, privileges_tokens, target_tokens, tokens_if, word, words_of}
use Rattle.grant_lex.specs.Printed.{Printed}
use Rattle.shown_texts.specs.Lines.{dynamic_texts}

-- without the blanks before the first token
abbrev pub unspaced : List Printed → List Printed
unspaced [] = []
unspaced (first ∷ rest) = record { blanks = []; kind = first.kind; text = first.text } ∷ rest

-- the members with commas between them, and no blank behind a comma
abbrev pub tight_list : {A : Type 0} → (A → List Printed) → List A → List Printed
tight_list print [] = []
tight_list print (first ∷ others) = print first ++ flat_map (λ other. mark 44 ∷ unspaced (print other)) others

abbrev pub line_privilege_tokens : PrivList → List Printed
line_privilege_tokens privileges = if is_dynamic_alone privileges then tight_list words_of (dynamic_texts privileges.dynamic) else privileges_tokens privileges

unfoldable pub line_tokens : Statement → List Printed
line_tokens (Grant privileges target accounts with_grant_option) =
    opening_word (codes "GRANT") ∷ (line_privilege_tokens privileges
    ++ word (codes "ON") ∷ (target_tokens target ++ word (codes "TO") ∷ (accounts_tokens accounts ++ tokens_if with_grant_option (words_of (codes "WITH GRANT OPTION")))))
line_tokens (GrantRoles roles accounts with_admin_option) =
    opening_word (codes "GRANT") ∷ (tight_list account_tokens roles
    ++ word (codes "TO") ∷ (accounts_tokens accounts ++ tokens_if with_admin_option (words_of (codes "WITH ADMIN OPTION"))))
line_tokens statement = canonical_tokens statement
