-- The text of each line that SHOW GRANTS prints (MySQL 8.0 Reference Manual, "SHOW GRANTS Statement").
use Rattle.std.specs.Prelude.{ℕ, if◌then◌else◌, List, ◌++◌, codes}
use Rattle.acl_model.specs.Words.{is_dynamic_alone}
use Rattle.acl_names.specs.AuthId.{auth_text}
use Rattle.acl_stmt.specs.declared.privileges.PrivList.{PrivList}
use Rattle.acl_stmt.specs.declared.statement.Statement.{Statement}
use Rattle.acl_stmt.specs.declared.statement.Statement.TheVariants.{Grant, GrantRoles}
use Rattle.canonical_texts.specs.Lists.{list_text, text_if}
use Rattle.canonical_texts.specs.Privileges.{item_text, privileges_text, same_text}
use Rattle.canonical_texts.specs.Statements.{canonical_text}
use Rattle.canonical_texts.specs.Texts.{accounts_text, target_text}
use Rattle.priv_items.specs.Canonical.{dynamic_at, each_below, or_usage}

-- the names of the dynamic privileges of a set, in order
abbrev pub dynamic_texts : ℕ → List (List ℕ)
dynamic_texts dynamic = or_usage item_text (each_below 20 (dynamic_at item_text dynamic))

-- dynamic privileges alone have commas between them, others a comma and a space
abbrev pub line_privileges : PrivList → List ℕ
line_privileges privileges =
    if is_dynamic_alone privileges then list_text (codes " ") (codes ",") same_text (dynamic_texts privileges.dynamic) else privileges_text privileges

-- so it is with roles; all else is written as in the canonical text of the statement
unfoldable pub line_text : Statement → List ℕ
line_text (Grant privileges target accounts with_grant_option) =
    codes "GRANT" ++ (line_privileges privileges ++ (codes " ON" ++ (target_text target ++ (codes " TO" ++ (accounts_text accounts ++ text_if with_grant_option (codes " WITH GRANT OPTION"))))))
line_text (GrantRoles roles accounts with_admin_option) =
    codes "GRANT" ++ (list_text (codes " ") (codes ",") auth_text roles ++ (codes " TO" ++ (accounts_text accounts ++ text_if with_admin_option (codes " WITH ADMIN OPTION"))))
line_text statement = canonical_text statement
