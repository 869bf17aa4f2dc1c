-- Lists of privileges, as they are written. MySQL 8.0 Reference Manual, "GRANT Statement".
use Rattle.std.specs.Prelude.{ℕ, if◌then◌else◌, List, ◌++◌, codes}
use Rattle.acl_names.specs.Quoted.{quoted}
use Rattle.acl_stmt.specs.declared.columns.ColumnPriv.{ColumnPriv}
use Rattle.acl_stmt.specs.declared.privileges.PrivList.{PrivList}
use Rattle.priv_items.specs.Canonical.{PerItem, listed_by}
use Rattle.priv_sets.specs.DynamicNames.{dynamic_name}
use Rattle.priv_sets.specs.PlainNames.{plain_name}
use Rattle.canonical_texts.specs.Lists.{list_text}
use Rattle.canonical_texts.specs.Texts.{members_text}

-- a privilege with its columns in parentheses
abbrev pub columns_item : ColumnPriv → List ℕ
columns_item columns = plain_name columns.privilege ++ (list_text (codes " (") (codes ", ") quoted columns.names ++ codes ")")

abbrev pub item_text : PerItem (List ℕ)
item_text = record { plain = plain_name; columns = columns_item; dynamic = dynamic_name; usage = codes "USAGE" }

abbrev pub same_text : List ℕ → List ℕ
same_text text = text

abbrev pub privileges_text : PrivList → List ℕ
privileges_text privileges = if privileges.all then codes " ALL" else members_text same_text (listed_by item_text privileges)
