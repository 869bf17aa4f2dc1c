-- Which entries a history may hold.
use Rattle.std.specs.Prelude.{ℕ, Bool, true, false, ◌&&◌, ◌||◌, ◌==◌, not, List, [], ◌∷◌, None}
use Rattle.std.specs.List.{list_all}
use Rattle.std.specs.Ordering.{is_lt}
use Rattle.acl_names.specs.Text.{text_cmp}
use Rattle.acl_stmt.specs.Lists.{is_some_list}
use Rattle.acl_stmt.specs.Requests.{all_below}
use Rattle.acl_stmt.specs.Statements.{is_statement}
use Rattle.acl_stmt.specs.declared.limit.Limit.{Limit}
use Rattle.acl_stmt.specs.declared.privileges.PrivList.{PrivList}
use Rattle.acl_stmt.specs.declared.statement.Statement.{Statement}
use Rattle.acl_stmt.specs.declared.statement.Statement.TheVariants.{Grant, SetPassword}
use Rattle.acl_stmt.specs.declared.target.Target.TheVariants.{Global}
use Rattle.priv_sets.specs.Levels.{grant_option}
use Rattle.priv_sets.specs.StaticSet.{holds}

-- by the bytes of the schemas, each once
abbrev pub are_limits_in_order : List Limit → Bool
are_limits_in_order [] = true
are_limits_in_order (first ∷ []) = true
are_limits_in_order (first ∷ second ∷ rest) = is_lt (text_cmp first.schema second.schema) && are_limits_in_order (second ∷ rest)

-- whether a grant on `*.*` of this list gives the static privilege of a number: ALL gives each but GRANT OPTION
abbrev pub names_globally : PrivList → ℕ → Bool
names_globally privileges number = (privileges.all && not (number == grant_option)) || holds privileges.plain number

-- each limit is on privileges that the list gives
abbrev pub limits_fit : PrivList → Limit → Bool
limits_fit privileges limit = all_below 31 (λ number. not (holds limit.privileges number) || names_globally privileges number)

-- only a grant on `*.*` has limits
abbrev pub may_have_limits : List Limit → Statement → Bool
may_have_limits limits (Grant privileges Global accounts with_grant_option) = list_all (limits_fit privileges) limits
may_have_limits limits _ = not (is_some_list limits)

-- SET PASSWORD names its account
abbrev pub is_complete : Statement → Bool
is_complete (SetPassword None verifier) = false
is_complete _ = true

unfoldable pub is_entry : List Limit → Statement → Bool
is_entry limits statement = is_statement statement && is_complete statement && are_limits_in_order limits && may_have_limits limits statement
