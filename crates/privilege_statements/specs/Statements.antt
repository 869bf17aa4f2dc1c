-- GRANT and REVOKE of privileges, and requests (MySQL 8.0 Reference Manual, "GRANT Statement" and "REVOKE Statement").
use Rattle.std.specs.Prelude.{Bool, true, false, codes}
use Rattle.acl_stmt.specs.declared.target.Target.{Target}
use Rattle.grant_words.specs.Classes.{word}
use Rattle.grant_words.specs.Lists.{accounts}
use Rattle.grant_words.specs.Syntax.{Syntax}
use Rattle.grant_words.specs.Syntax.Syntax.{after, empty, both, to, choice}
use Rattle.priv_items.specs.declared.item.Named.{Named}
use Rattle.privilege_statements.specs.PrivilegeItems.{privileges}
use Rattle.privilege_statements.specs.Targets.{request_target, target}
use Rattle.privilege_statements.specs.declared.statement.RawStatement.{RawStatement}
use Rattle.privilege_statements.specs.declared.statement.RawStatement.TheVariants.{Grant, Revoke}

-- [ WITH GRANT OPTION ]
unfoldable pub with_grant_option : Syntax Bool
with_grant_option = choice (after (word (codes "WITH")) (after (word (codes "GRANT")) (after (word (codes "OPTION")) (empty true)))) (empty false)

-- privileges ON target
unfoldable pub privileges_on_target : Syntax (Named × Target)
privileges_on_target = both privileges (after (word (codes "ON")) target)

-- privileges ON target TO account, .. [ WITH GRANT OPTION ]
unfoldable pub grant : Syntax RawStatement
grant = to (λ v. Grant v.0.0 v.0.1 v.1.0 v.1.1) (both privileges_on_target (after (word (codes "TO")) (both accounts with_grant_option)))

-- privileges ON target FROM account, ..
unfoldable pub revoke : Syntax RawStatement
revoke = to (λ v. Revoke v.0.0 v.0.1 v.1) (both privileges_on_target (after (word (codes "FROM")) accounts))

-- a GRANT or a REVOKE of privileges, without a semicolon
unfoldable pub privilege_statement : Syntax RawStatement
privilege_statement = choice (after (word (codes "GRANT")) grant) (after (word (codes "REVOKE")) revoke)

-- privileges ON target, with no escapes in the name of a schema
unfoldable pub request : Syntax (Named × Target)
request = both privileges (after (word (codes "ON")) request_target)
