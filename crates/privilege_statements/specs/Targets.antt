-- What privileges are held on, as it is written behind ON (MySQL 8.0 Reference Manual, "GRANT Statement").
use Rattle.std.specs.Prelude.{ℕ, Bool, List, Option, Some, None, codes}
use Rattle.acl_stmt.specs.declared.target.Target.{Target}
use Rattle.acl_stmt.specs.declared.target.Target.TheVariants as on
use Rattle.grant_words.specs.Classes.{Class, is_identifier, word}
use Rattle.grant_words.specs.Classes.Class.{longer, mark}
use Rattle.grant_words.specs.Names.{ident}
use Rattle.grant_words.specs.Syntax.{Syntax}
use Rattle.grant_words.specs.Syntax.Syntax.{token, after, empty, both, to, choice}
use Rattle.priv_items.specs.Escapes.{unescaped}

-- `*`
abbrev pub star : Class
star = mark 42

-- `.`
abbrev pub dot : Class
dot = mark 46

-- ident.ident
unfoldable pub dotted : Syntax (List ℕ × List ℕ)
dotted = both ident (after dot ident)

-- .*
unfoldable pub behind_star : Syntax Target
behind_star = after dot (after star (empty on.Global))

-- a target that begins with a mark or a keyword: *.*, FUNCTION ident.ident, PROCEDURE ident.ident, TABLE ident.ident
unfoldable pub marked_target : Syntax Target
marked_target =
    choice (after star behind_star)
    (choice (after (word (codes "FUNCTION")) (to (λ v. on.Function v.0 v.1) dotted))
    (choice (after (word (codes "PROCEDURE")) (to (λ v. on.Procedure v.0 v.1) dotted)) (after (word (codes "TABLE")) (to (λ v. on.Table v.0 v.1) dotted))))

-- `*`, or the name of a table
unfoldable pub star_or_table : Syntax (Option (List ℕ))
star_or_table = choice (after star (empty None)) (to Some ident)

-- a schema, or a table of it
abbrev pub on_schema : List ℕ → Option (List ℕ) → Target
on_schema schema None = on.Schema schema
on_schema schema (Some table) = on.Table schema table

-- the same where a schema may be written with escaped wildcards
abbrev pub on_escaped_schema : List ℕ → Option (List ℕ) → Target
on_escaped_schema schema None = on.Schema (unescaped schema)
on_escaped_schema schema (Some table) = on.Table schema table

-- ident.* or ident.ident
unfoldable pub plain_target : Syntax Target
plain_target = to (λ v. on_schema v.0 v.1) (both ident (after dot star_or_table))

-- the target of a request
unfoldable pub request_target : Syntax Target
request_target = choice marked_target plain_target

-- a text that stands for an identifier
abbrev pub is_long_schema : List ℕ → Bool
is_long_schema text = is_identifier (unescaped text)

-- 65 characters that stand for 64
abbrev pub long_schema : List ℕ
long_schema = codes "abcdefghijklmnopqrstuvwxyzabcdefghijklmnopqrstuvwxyzabcdefghijk\\%"

-- a name that is too long as it is written, and stands for an identifier
abbrev pub long_class : Class
long_class = longer is_long_schema long_schema

-- ident.* with escapes, or ident.ident
unfoldable pub escaped_target : Syntax Target
escaped_target = to (λ v. on_escaped_schema v.0 v.1) (both ident (after dot star_or_table))

-- a longer name and .*
unfoldable pub long_target : Syntax Target
long_target = to (λ v. on.Schema v.0) (both (token long_class unescaped) (after dot (after star (empty (tt {0})))))

-- a schema with escapes, or a table
unfoldable pub schema_target : Syntax Target
schema_target = choice escaped_target long_target

-- the target of a GRANT or a REVOKE
unfoldable pub target : Syntax Target
target = choice marked_target schema_target
