-- Worked examples: what is printed of an account, and what it gives to one that holds nothing.
use Rattle.std.specs.Prelude.{◌≡◌, ℕ, ◌==◌, ◌||◌, if◌then◌else◌, true, false, List, [], ◌∷◌, length, codes, refl}
use Rattle.acl_names.specs.declared.auth.AuthId.{AuthId}
use Rattle.acl_model.specs.Effects.{becomes, changed}
use Rattle.acl_model.specs.State.{State, opening}
use Rattle.acl_model.specs.declared.row.Row.{Row}
use Rattle.acl_model.specs.declared.row.Row.TheVariants.{Admin, Column, Dynamic, DynamicGrant, Edge, Global, Restriction, Schema, Table}
use Rattle.acl_stmt.specs.Columns.{is_column_list}
use Rattle.acl_stmt.specs.declared.statement.Statement.{Statement}
use Rattle.acl_stmt.specs.declared.statement.Statement.TheVariants.{CreateRole, Grant, GrantRoles, Revoke}
use Rattle.acl_stmt.specs.declared.target.Target.TheVariants as on
use Rattle.listed_privileges.specs.Sets.{bits_below}
use Rattle.priv_sets.specs.Levels.{grant_option, has_level}
use Rattle.priv_sets.specs.StaticSet.{holds}
use Rattle.show_grants.specs.Carried.{carried}
use Rattle.show_grants.specs.Keys.{in_order, put_in}
use Rattle.show_grants.specs.Lines.{column_privileges, dynamic_list, global_line, lines_of, plain_list, shown}
use Rattle.show_grants.specs.Rights.{held_by}

abbrev at_any_host : List ℕ → AuthId
at_any_host user = record { user = user; host = codes "%" }

abbrev ann : AuthId
ann = at_any_host (codes "ann")

abbrev reader : AuthId
reader = at_any_host (codes "reader")

abbrev writer : AuthId
writer = at_any_host (codes "writer")

abbrev world : List ℕ
world = codes "world"

abbrev city : List ℕ
city = codes "city"

abbrev area : List ℕ
area = codes "area"

abbrev next : Statement → State → State
next statement before = changed [] statement before

-- three accounts that hold nothing
abbrev nothing_held : State
nothing_held = next (CreateRole false (ann ∷ reader ∷ writer ∷ [])) opening

-- what ann holds in a state, given to it where nobody holds anything
abbrev given_again : State → List Row → State
given_again state rows = carried (shown state rows (ann ∷ []) ann) nothing_held

-- ---- an account that holds nothing has one line

example-usage_alone : shown nothing_held [] (ann ∷ []) ann ≡ global_line ann (held_by nothing_held (ann ∷ []) ann) ∷ []
unfolding lines_of in_order bits_below becomes changed
example-usage_alone = refl

-- ---- a restriction beside rows of other privileges on the same schema

-- SELECT and INSERT everywhere but INSERT on `world`, where ann holds DELETE and may grant it
abbrev restricted : State
restricted =
    next (Grant (plain_list (λ p. p == 3)) (on.Schema world) (ann ∷ []) true)
    (next (Revoke (plain_list (λ p. p == 1)) (on.Schema world) (ann ∷ []))
    (next (Grant (plain_list (λ p. p == 0 || p == 1)) on.Global (ann ∷ []) false) nothing_held))

abbrev restricted_rows : List Row
restricted_rows = Global ann 0 ∷ Global ann 1 ∷ Restriction ann 1 world ∷ Schema ann world 3 ∷ Schema ann world grant_option ∷ []

example-three_lines : length (shown restricted restricted_rows (ann ∷ []) ann) ≡ 3
unfolding lines_of in_order put_in bits_below becomes changed holds
example-three_lines = refl

example-restriction_again : (given_again restricted restricted_rows).rows (Restriction ann 1 world) ≡ true
unfolding carried lines_of in_order put_in bits_below becomes changed holds
example-restriction_again = refl

example-held_everywhere_again : (given_again restricted restricted_rows).rows (Global ann 1) ≡ true
unfolding carried lines_of in_order put_in bits_below becomes changed holds
example-held_everywhere_again = refl

example-schema_privilege_again : (given_again restricted restricted_rows).rows (Schema ann world 3) ≡ true
unfolding carried lines_of in_order put_in bits_below becomes changed holds
example-schema_privilege_again = refl

example-schema_option_again : (given_again restricted restricted_rows).rows (Schema ann world grant_option) ≡ true
unfolding carried lines_of in_order put_in bits_below becomes changed holds
example-schema_option_again = refl

example-no_other_schema_privilege : (given_again restricted restricted_rows).rows (Schema ann world 1) ≡ false
unfolding carried lines_of in_order put_in bits_below becomes changed holds
example-no_other_schema_privilege = refl

-- ---- a grant option of a dynamic privilege alone

abbrev backup_granted : State
backup_granted = next (Grant (dynamic_list (λ d. d == 2)) on.Global (ann ∷ []) true) nothing_held

abbrev backup_rows : List Row
backup_rows = Dynamic ann 2 ∷ DynamicGrant ann 2 ∷ []

example-dynamic_option_again : (given_again backup_granted backup_rows).rows (DynamicGrant ann 2) ≡ true
unfolding carried lines_of in_order put_in bits_below becomes changed holds
example-dynamic_option_again = refl

example-no_static_option : (given_again backup_granted backup_rows).rows (Global ann grant_option) ≡ false
unfolding carried lines_of in_order put_in bits_below becomes changed holds
example-no_static_option = refl

-- ---- columns beside a privilege on the table

-- SELECT (city, area), and DELETE on the whole table
abbrev select_columns : ℕ → List (List ℕ)
select_columns p = if p == 0 then city ∷ area ∷ [] else []

abbrev columns_granted : State
columns_granted = next (Grant (column_privileges (λ p. p == 3) select_columns) (on.Table world city) (ann ∷ []) false) nothing_held

abbrev column_rows : List Row
column_rows = Table ann world city 3 ∷ Column ann world city city 0 ∷ Column ann world city area 0 ∷ []

example-columns_again : (given_again columns_granted column_rows).rows (Column ann world city area 0) ≡ true
unfolding carried lines_of in_order put_in bits_below becomes changed holds is_column_list has_level
example-columns_again = refl

example-table_again : (given_again columns_granted column_rows).rows (Table ann world city 3) ≡ true
unfolding carried lines_of in_order put_in bits_below becomes changed holds is_column_list has_level
example-table_again = refl

example-columns_alone : (given_again columns_granted column_rows).rows (Table ann world city 0) ≡ false
unfolding carried lines_of in_order put_in bits_below becomes changed holds is_column_list has_level
example-columns_alone = refl

-- ---- roles with admin option and without

abbrev roles_granted : State
roles_granted = next (GrantRoles (writer ∷ []) (ann ∷ []) true) (next (GrantRoles (reader ∷ []) (ann ∷ []) false) nothing_held)

abbrev role_rows : List Row
role_rows = Edge reader ann ∷ Edge writer ann ∷ Admin writer ann ∷ []

example-role_again : (given_again roles_granted role_rows).rows (Edge reader ann) ≡ true
unfolding carried lines_of in_order put_in bits_below becomes changed holds
example-role_again = refl

example-no_admin_option : (given_again roles_granted role_rows).rows (Admin reader ann) ≡ false
unfolding carried lines_of in_order put_in bits_below becomes changed holds
example-no_admin_option = refl

example-admin_option_again : (given_again roles_granted role_rows).rows (Admin writer ann) ≡ true
unfolding carried lines_of in_order put_in bits_below becomes changed holds
example-admin_option_again = refl

-- ---- why the lines stand in this order

abbrev everywhere : Statement
everywhere = Grant (plain_list (λ p. p == 1)) on.Global (ann ∷ []) false

abbrev not_on_world : Statement
not_on_world = Revoke (plain_list (λ p. p == 1)) (on.Schema world) (ann ∷ [])

abbrev on_world : Statement
on_world = Grant (plain_list (λ p. p == 1)) (on.Schema world) (ann ∷ []) false

-- a privilege has to be held everywhere before it is restricted
example-restricted_behind : (carried (everywhere ∷ not_on_world ∷ []) nothing_held).rows (Restriction ann 1 world) ≡ true
unfolding carried bits_below becomes changed holds
example-restricted_behind = refl

example-not_restricted_before : (carried (not_on_world ∷ everywhere ∷ []) nothing_held).rows (Restriction ann 1 world) ≡ false
unfolding carried bits_below becomes changed holds
example-not_restricted_before = refl

-- a grant on `*.*` lifts a restriction that stands before it
example-lifted_everywhere : (carried (everywhere ∷ not_on_world ∷ everywhere ∷ []) nothing_held).rows (Restriction ann 1 world) ≡ false
unfolding carried bits_below becomes changed holds
example-lifted_everywhere = refl

-- a grant on the schema lifts the restriction, and gives no row: so both never stand beside each other
example-lifted_on_world : (carried (everywhere ∷ not_on_world ∷ on_world ∷ []) nothing_held).rows (Restriction ann 1 world) ≡ false
unfolding carried bits_below becomes changed holds
example-lifted_on_world = refl

example-no_row_for_it : (carried (everywhere ∷ not_on_world ∷ on_world ∷ []) nothing_held).rows (Schema ann world 1) ≡ false
unfolding carried bits_below becomes changed holds
example-no_row_for_it = refl
