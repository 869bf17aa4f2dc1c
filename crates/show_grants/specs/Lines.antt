-- The statements that give an account what is held, in the order in which SHOW GRANTS prints them (MySQL 8.0 Reference Manual,
-- "SHOW GRANTS Statement"; that privileges are listed one by one, and that restrictions follow the lines of `*.*`, is this
-- product's own choice).
use Rattle.std.specs.Prelude.{ℕ, Bool, true, false, ◌&&◌, ◌||◌, not, if◌then◌else◌, List, [], ◌∷◌, ◌++◌, filter}
use Rattle.std.specs.List.{flat_map}
use Rattle.acl_names.specs.declared.auth.AuthId.{AuthId}
use Rattle.acl_model.specs.State.{State}
use Rattle.acl_model.specs.declared.row.Row.{Row}
use Rattle.acl_stmt.specs.Lists.{is_some_list}
use Rattle.acl_stmt.specs.declared.privileges.PrivList.{PrivList}
use Rattle.acl_stmt.specs.declared.statement.Statement.{Statement}
use Rattle.acl_stmt.specs.declared.statement.Statement.TheVariants.{Grant, GrantRoles, Revoke}
use Rattle.acl_stmt.specs.declared.target.Target.{Target}
use Rattle.acl_stmt.specs.declared.target.Target.TheVariants as on
use Rattle.listed_privileges.proofs.Listed.{columns-listed, dynamic-listed, plain-listed}
use Rattle.listed_privileges.specs.Columns.{column_lists}
use Rattle.listed_privileges.specs.Sets.{bits_below, but_option, some_below}
use Rattle.priv_sets.specs.Levels.{grant_option}
use Rattle.show_grants.specs.Keys.{Pair}
use Rattle.show_grants.specs.Listing.{Listing, listing_of}
use Rattle.show_grants.specs.Rights.{Held, held_by}

-- ---- lists of privileges

-- the static privileges that pass the test
abbrev pub plain_list : (ℕ → Bool) → PrivList
plain_list test = record { all = false; plain = record { 0 = bits_below 31 test }; columns = []; dynamic = 0; listed = plain-listed test }

-- those, and each privilege on its columns
abbrev pub column_privileges : (ℕ → Bool) → (ℕ → List (List ℕ)) → PrivList
column_privileges test names = record {
  all = false;
  plain = record { 0 = bits_below 31 test };
  columns = column_lists 0 31 names;
  dynamic = 0;
  listed = columns-listed test names;
}

-- the dynamic privileges that pass the test
abbrev pub dynamic_list : (ℕ → Bool) → PrivList
dynamic_list test = record { all = false; plain = record { 0 = 0 }; columns = []; dynamic = bits_below 20 test; listed = dynamic-listed test }

-- ---- lines

abbrev pub line_if : Bool → Statement → List Statement
line_if test line = if test then line ∷ [] else []

-- GRANT OPTION is written behind the account
abbrev pub granting : Target → AuthId → (ℕ → Bool) → Statement
granting target a test = Grant (plain_list (but_option test)) target (a ∷ []) (test grant_option)

-- of `*.*`, also where nothing is held there
abbrev pub global_line : AuthId → Held → Statement
global_line a held = granting on.Global a held.plain

abbrev pub ungrantable : Held → ℕ → Bool
ungrantable held d = held.dynamic d && not (held.grantable d)

abbrev pub grantable : Held → ℕ → Bool
grantable held d = held.dynamic d && held.grantable d

abbrev pub dynamic_lines : AuthId → Held → List Statement
dynamic_lines a held =
    line_if (some_below 20 (ungrantable held)) (Grant (dynamic_list (ungrantable held)) on.Global (a ∷ []) false)
    ++ line_if (some_below 20 (grantable held)) (Grant (dynamic_list (grantable held)) on.Global (a ∷ []) true)

abbrev pub restriction_line : AuthId → Held → List ℕ → List Statement
restriction_line a held s = line_if (some_below 31 (held.restricted s)) (Revoke (plain_list (held.restricted s)) (on.Schema s) (a ∷ []))

abbrev pub schema_line : AuthId → Held → List ℕ → List Statement
schema_line a held s = line_if (some_below 31 (held.on_schema s)) (granting (on.Schema s) a (held.on_schema s))

-- the columns of a table on which a privilege is held
abbrev pub columns_held : Held → Listing → Pair → ℕ → List (List ℕ)
columns_held held listing pair p = filter (λ c. held.on_column pair.0 pair.1 c p) listing.columns

abbrev pub table_privileges : Held → Listing → Pair → PrivList
table_privileges held listing pair = column_privileges (but_option (held.on_table pair.0 pair.1)) (columns_held held listing pair)

abbrev pub table_line : AuthId → Held → Listing → Pair → List Statement
table_line a held listing pair =
    line_if (some_below 31 (λ p. held.on_table pair.0 pair.1 p || is_some_list (columns_held held listing pair p)))
    (Grant (table_privileges held listing pair) (on.Table pair.0 pair.1) (a ∷ []) (held.on_table pair.0 pair.1 grant_option))

abbrev pub function_line : AuthId → Held → Pair → List Statement
function_line a held pair = line_if (some_below 31 (held.on_function pair.0 pair.1)) (granting (on.Function pair.0 pair.1) a (held.on_function pair.0 pair.1))

abbrev pub procedure_line : AuthId → Held → Pair → List Statement
procedure_line a held pair = line_if (some_below 31 (held.on_procedure pair.0 pair.1)) (granting (on.Procedure pair.0 pair.1) a (held.on_procedure pair.0 pair.1))

-- the roles that are granted with admin option, or those without
abbrev pub roles_of : Held → Listing → Bool → List AuthId
roles_of held listing with_admin_option = filter (λ r. held.role r && (if with_admin_option then held.admin r else not (held.admin r))) listing.roles

abbrev pub role_line : AuthId → Held → Listing → Bool → List Statement
role_line a held listing with_admin_option =
    line_if (is_some_list (roles_of held listing with_admin_option)) (GrantRoles (roles_of held listing with_admin_option) (a ∷ []) with_admin_option)

unfoldable pub lines_of : AuthId → Held → Listing → List Statement
lines_of a held listing =
    global_line a held
    ∷ dynamic_lines a held
    ++ (flat_map (restriction_line a held) listing.schemas
    ++ (flat_map (schema_line a held) listing.schemas
    ++ (flat_map (table_line a held listing) listing.tables
    ++ (flat_map (function_line a held) listing.functions
    ++ (flat_map (procedure_line a held) listing.procedures
    ++ (role_line a held listing false ++ role_line a held listing true))))))

-- what SHOW GRANTS prints of an account with the rights of all these accounts: the account alone, or with what its roles reach
abbrev pub shown : State → List Row → List AuthId → AuthId → List Statement
shown state rows accounts a = lines_of a (held_by state accounts a) (listing_of rows)
