-- What stands between GRANT, REVOKE or a request and its ON (MySQL 8.0 Reference Manual, "GRANT Statement").
use Rattle.std.specs.Prelude.{ℕ, List, Option, Some, None, codes}
use Rattle.grant_words.specs.Classes.{Class, word}
use Rattle.grant_words.specs.Classes.Class.{mark}
use Rattle.grant_words.specs.Lists.{comma}
use Rattle.grant_words.specs.Names.{ident}
use Rattle.grant_words.specs.Syntax.{Syntax}
use Rattle.grant_words.specs.Syntax.Syntax.{token, after, empty, both, to, choice, list}
use Rattle.priv_items.specs.declared.item.Item.{Item}
use Rattle.priv_items.specs.declared.item.Item.TheVariants.{Plain, Columns, Dynamic, Usage}
use Rattle.priv_items.specs.declared.item.Named.{Named}
use Rattle.priv_items.specs.declared.item.Named.TheVariants.{All, Listed}
use Rattle.priv_sets.specs.Levels.{grant_option}
use Rattle.privilege_statements.specs.PrivilegeNames.{dynamic_class, dynamic_number, static_name}

-- `(`
abbrev pub opening : Class
opening = mark 40

-- `)`
abbrev pub closing : Class
closing = mark 41

-- column, .. )
unfoldable pub column_names : Syntax (List (List ℕ))
column_names = to (λ v. v.0) (both (list comma ident) (after closing (empty (tt {0}))))

-- [ ( column, .. ) ]
unfoldable pub maybe_columns : Syntax (Option (List (List ℕ)))
maybe_columns = choice (after opening (to Some column_names)) (empty None)

abbrev pub static_item : ℕ → Option (List (List ℕ)) → Item
static_item number None = Plain number
static_item number (Some columns) = Columns number columns

-- a static privilege, which may have columns
unfoldable pub static_privilege : Syntax Item
static_privilege = to (λ v. static_item v.0 v.1) (both static_name maybe_columns)

-- a dynamic privilege, or a static one
unfoldable pub privilege_item : Syntax Item
privilege_item = choice (to Dynamic (token dynamic_class dynamic_number)) static_privilege

-- USAGE, GRANT OPTION, or a privilege
unfoldable pub item : Syntax Item
item =
    choice (after (word (codes "USAGE")) (empty Usage))
    (choice (after (word (codes "GRANT")) (after (word (codes "OPTION")) (empty (Plain grant_option)))) privilege_item)

-- [ PRIVILEGES ]
unfoldable pub maybe_privileges : Syntax Named
maybe_privileges = choice (after (word (codes "PRIVILEGES")) (empty All)) (empty All)

-- ALL [ PRIVILEGES ], or items
unfoldable pub privileges : Syntax Named
privileges = choice (after (word (codes "ALL")) maybe_privileges) (to Listed (list comma item))
