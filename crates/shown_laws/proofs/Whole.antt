-- What all lines together add to a row of the account, kind by kind.
use Rattle.std.proofs.Common.{◌≡◌, ◌∙◌, ap, refl, ℕ, ◌<◌, Bool, true, false, cond, not, ◌&&◌, ◌||◌, List, [], ◌∷◌, ◌++◌}
use Rattle.std.proofs.Math.Bool.{or-false}
use Rattle.std.proofs.lemmas.Bool.{and_parts, or_left, or_right}
use Rattle.std.specs.List.{flat_map, list_any}
use Rattle.acl_names.proofs.SameAuth.{equal_from_same_auth, same_auth_itself}
use Rattle.acl_names.specs.AuthId.{same_auth}
use Rattle.acl_names.specs.declared.auth.AuthId.{AuthId}
use Rattle.acl_model.specs.Rows.{lists}
use Rattle.acl_model.specs.Words.{is_dynamic_alone, names_column, names_dynamic}
use Rattle.acl_model.specs.declared.row.Row.{Row}
use Rattle.acl_model.specs.declared.row.Row.TheVariants.{Account, Global, Dynamic, DynamicGrant, Table, Column, Function, Procedure, Edge, Admin}
use Rattle.acl_stmt.specs.Lists.{is_some_list}
use Rattle.acl_stmt.specs.declared.privileges.PrivList.{PrivList}
use Rattle.acl_stmt.specs.declared.statement.Statement.TheVariants.{Grant, GrantRoles, Revoke}
use Rattle.acl_stmt.specs.declared.target.Target.TheVariants as on
use Rattle.accepted_lists.proofs.Named.{level_below}
use Rattle.listed_privileges.proofs.Bits.{some_below_from}
use Rattle.listed_privileges.specs.Sets.{but_option, some_below}
use Rattle.priv_sets.specs.Levels.{grant_option}
use Rattle.priv_sets.specs.declared.level.Level.TheVariants as level
use Rattle.show_grants.specs.Keys.{Pair, same_pair}
use Rattle.show_grants.specs.Lines.{columns_held, dynamic_lines, dynamic_list, function_line, global_line, grantable, lines_of, plain_list, procedure_line, restriction_line, role_line, roles_of, schema_line, table_line, table_privileges, ungrantable}
use Rattle.show_grants.specs.Listing.{Listing}
use Rattle.show_grants.specs.Rights.{Held}
use Rattle.shown_laws.proofs.ColumnNames.{columns_named, some_columns}
use Rattle.shown_laws.proofs.Found.{any-filter, pair_found, some_and}
use Rattle.shown_laws.proofs.NamedLists.{columns_granted_named, dynamic_named, dynamic_not_static, granted_named, plain_not_dynamic, plain_static}
use Rattle.shown_laws.proofs.Orderly.{IsListed, IsOrderly}
use Rattle.shown_laws.proofs.Runs.{Adds, adds_append, adds_each, adds_if, adds_one, adds_same, leaves_each, leaves_if, leaves_one}
use Rattle.shown_laws.proofs.Steps.{at_admin, at_column, at_dynamic, at_dynamic_grant, at_edge, at_function, at_global, at_procedure, at_table, grant_leaves, is_of_roles, may_touch, named_static, revoke_leaves, roles_leave}
use Rattle.shown_laws.proofs.Tests.{line_stands}

never_both : (x : Bool) → (x && false) ≡ false
never_both true = refl
never_both false = refl

-- whether the table has a line
abbrev shows_table : Held → Listing → Pair → ℕ → Bool
shows_table held listing k p = held.on_table k.0 k.1 p || is_some_list (columns_held held listing k p)

module _ (a : AuthId) (held : Held) (listing : Listing) where
  -- ---- lines that leave a row

  module _ (row : Row) where
    pub global_leaves : may_touch on.Global row ≡ false → Adds row (global_line a held ∷ []) false
    global_leaves other = leaves_one row (global_line a held) (λ st. grant_leaves (plain_list (but_option held.plain)) on.Global (a ∷ []) (held.plain grant_option) row st other)

    pub dynamic_leaves : may_touch on.Global row ≡ false → Adds row (dynamic_lines a held) false
    dynamic_leaves other =
        adds_append
        (leaves_if row (some_below 20 (ungrantable held)) (Grant (dynamic_list (ungrantable held)) on.Global (a ∷ []) false)
        (λ some. leaves_one row (Grant (dynamic_list (ungrantable held)) on.Global (a ∷ []) false) (λ st. grant_leaves (dynamic_list (ungrantable held)) on.Global (a ∷ []) false row st other)))
        (leaves_if row (some_below 20 (grantable held)) (Grant (dynamic_list (grantable held)) on.Global (a ∷ []) true)
        (λ some. leaves_one row (Grant (dynamic_list (grantable held)) on.Global (a ∷ []) true) (λ st. grant_leaves (dynamic_list (grantable held)) on.Global (a ∷ []) true row st other)))

    pub restrictions_leave : ((s : List ℕ) → may_touch (on.Schema s) row ≡ false) → Adds row (flat_map (restriction_line a held) listing.schemas) false
    restrictions_leave other =
        leaves_each row (restriction_line a held)
        (λ s. leaves_if row (some_below 31 (held.restricted s)) (Revoke (plain_list (held.restricted s)) (on.Schema s) (a ∷ []))
        (λ some. leaves_one row (Revoke (plain_list (held.restricted s)) (on.Schema s) (a ∷ [])) (λ st. revoke_leaves (plain_list (held.restricted s)) s (a ∷ []) row st (other s)))) listing.schemas

    pub schemas_leave : ((s : List ℕ) → may_touch (on.Schema s) row ≡ false) → Adds row (flat_map (schema_line a held) listing.schemas) false
    schemas_leave other =
        leaves_each row (schema_line a held)
        (λ s.
        let privileges : PrivList = plain_list (but_option (held.on_schema s)) in
        leaves_if row (some_below 31 (held.on_schema s)) (Grant privileges (on.Schema s) (a ∷ []) (held.on_schema s grant_option))
        (λ some. leaves_one row (Grant privileges (on.Schema s) (a ∷ []) (held.on_schema s grant_option)) (λ st. grant_leaves privileges (on.Schema s) (a ∷ []) (held.on_schema s grant_option) row st (other s)))) listing.schemas

    pub tables_leave : ((s t : List ℕ) → may_touch (on.Table s t) row ≡ false) → Adds row (flat_map (table_line a held listing) listing.tables) false
    tables_leave other =
        leaves_each row (table_line a held listing)
        (λ k.
        let option : Bool = held.on_table k.0 k.1 grant_option in
        leaves_if row (some_below 31 (λ p. held.on_table k.0 k.1 p || is_some_list (columns_held held listing k p))) (Grant (table_privileges held listing k) (on.Table k.0 k.1) (a ∷ []) option)
        (λ some. leaves_one row (Grant (table_privileges held listing k) (on.Table k.0 k.1) (a ∷ []) option)
        (λ st. grant_leaves (table_privileges held listing k) (on.Table k.0 k.1) (a ∷ []) option row st (other k.0 k.1)))) listing.tables

    pub functions_leave : ((s f : List ℕ) → may_touch (on.Function s f) row ≡ false) → Adds row (flat_map (function_line a held) listing.functions) false
    functions_leave other =
        leaves_each row (function_line a held)
        (λ k.
        let privileges : PrivList = plain_list (but_option (held.on_function k.0 k.1)) in
        let option : Bool = held.on_function k.0 k.1 grant_option in
        leaves_if row (some_below 31 (held.on_function k.0 k.1)) (Grant privileges (on.Function k.0 k.1) (a ∷ []) option)
        (λ some. leaves_one row (Grant privileges (on.Function k.0 k.1) (a ∷ []) option) (λ st. grant_leaves privileges (on.Function k.0 k.1) (a ∷ []) option row st (other k.0 k.1)))) listing.functions

    pub procedures_leave : ((s f : List ℕ) → may_touch (on.Procedure s f) row ≡ false) → Adds row (flat_map (procedure_line a held) listing.procedures) false
    procedures_leave other =
        leaves_each row (procedure_line a held)
        (λ k.
        let privileges : PrivList = plain_list (but_option (held.on_procedure k.0 k.1)) in
        let option : Bool = held.on_procedure k.0 k.1 grant_option in
        leaves_if row (some_below 31 (held.on_procedure k.0 k.1)) (Grant privileges (on.Procedure k.0 k.1) (a ∷ []) option)
        (λ some. leaves_one row (Grant privileges (on.Procedure k.0 k.1) (a ∷ []) option) (λ st. grant_leaves privileges (on.Procedure k.0 k.1) (a ∷ []) option row st (other k.0 k.1)))) listing.procedures

    pub role_line_leaves : (b : Bool) → is_of_roles row ≡ false → Adds row (role_line a held listing b) false
    role_line_leaves b other =
        leaves_if row (is_some_list (roles_of held listing b)) (GrantRoles (roles_of held listing b) (a ∷ []) b)
        (λ some. leaves_one row (GrantRoles (roles_of held listing b) (a ∷ []) b) (λ st. roles_leave (roles_of held listing b) (a ∷ []) b row st other))

    pub all_roles_leave : is_of_roles row ≡ false → Adds row (role_line a held listing false ++ role_line a held listing true) false
    all_roles_leave other = adds_append (role_line_leaves false other) (role_line_leaves true other)

    -- ---- all lines

    pub lines_add : (b1 b2 b3 b4 b5 b6 b7 b8 : Bool) → Adds row (global_line a held ∷ []) b1 → Adds row (dynamic_lines a held) b2
        → Adds row (flat_map (restriction_line a held) listing.schemas) b3 → Adds row (flat_map (schema_line a held) listing.schemas) b4
        → Adds row (flat_map (table_line a held listing) listing.tables) b5 → Adds row (flat_map (function_line a held) listing.functions) b6
        → Adds row (flat_map (procedure_line a held) listing.procedures) b7 → Adds row (role_line a held listing false ++ role_line a held listing true) b8
        → Adds row (lines_of a held listing) (b1 || (b2 || (b3 || (b4 || (b5 || (b6 || (b7 || b8)))))))
    unfolding lines_of
    lines_add b1 b2 b3 b4 b5 b6 b7 b8 r1 r2 r3 r4 r5 r6 r7 r8 =
        adds_append r1 (adds_append r2 (adds_append r3 (adds_append r4 (adds_append r5 (adds_append r6 (adds_append r7 r8))))))

  pub account_adds : (b : AuthId) → Adds (Account b) (lines_of a held listing) false
  account_adds b =
      lines_add (Account b) false false false false false false false false (global_leaves (Account b) refl) (dynamic_leaves (Account b) refl)
      (restrictions_leave (Account b) (λ s. refl)) (schemas_leave (Account b) (λ s. refl)) (tables_leave (Account b) (λ s t. refl)) (functions_leave (Account b) (λ s f. refl))
      (procedures_leave (Account b) (λ s f. refl)) (all_roles_leave (Account b) refl)

  module _ (orderly : IsOrderly held a) (listed : IsListed held listing) where
    -- ---- rows of `*.*`

    pub global_line_adds : (p : ℕ) → Adds (Global a p) (global_line a held ∷ []) (held.plain p)
    global_line_adds p =
        adds_same (adds_one (Global a p) (global_line a held) (named_static (plain_list (but_option held.plain)) level.Global (held.plain grant_option) (not (is_dynamic_alone (plain_list (but_option held.plain)))) p)
        (λ st. at_global a (plain_list (but_option held.plain)) (held.plain grant_option) st p))
        (ap (λ t. named_static (plain_list (but_option held.plain)) level.Global (held.plain grant_option) t p) (plain_static (but_option held.plain))
        ∙ granted_named held.plain level.Global p (orderly.plain_below p))

    dynamic_line_static : (T : ℕ → Bool) (option : Bool) (p : ℕ) → some_below 20 T ≡ true → Adds (Global a p) (Grant (dynamic_list T) on.Global (a ∷ []) option ∷ []) false
    dynamic_line_static T option p some =
        adds_same (adds_one (Global a p) (Grant (dynamic_list T) on.Global (a ∷ []) option) (named_static (dynamic_list T) level.Global option (not (is_dynamic_alone (dynamic_list T))) p)
        (λ st. at_global a (dynamic_list T) option st p))
        (dynamic_not_static T level.Global option p some)

    pub dynamic_lines_static : (p : ℕ) → Adds (Global a p) (dynamic_lines a held) false
    dynamic_lines_static p =
        adds_append
        (leaves_if (Global a p) (some_below 20 (ungrantable held)) (Grant (dynamic_list (ungrantable held)) on.Global (a ∷ []) false) (dynamic_line_static (ungrantable held) false p))
        (leaves_if (Global a p) (some_below 20 (grantable held)) (Grant (dynamic_list (grantable held)) on.Global (a ∷ []) true) (dynamic_line_static (grantable held) true p))

    pub global_adds : (p : ℕ) → Adds (Global a p) (lines_of a held listing) (held.plain p)
    global_adds p =
        let row : Row = Global a p in
        adds_same
        (lines_add row (held.plain p) false false false false false false false (global_line_adds p) (dynamic_lines_static p)
        (restrictions_leave row (λ s. refl)) (schemas_leave row (λ s. refl)) (tables_leave row (λ s t. refl)) (functions_leave row (λ s f. refl)) (procedures_leave row (λ s f. refl)) (all_roles_leave row refl))
        (or-false (held.plain p))

    -- ---- dynamic privileges

    ungrantable_below : (d : ℕ) → ungrantable held d ≡ true → d < 20
    ungrantable_below d both = orderly.dynamic_below d (and_parts (held.dynamic d) (not (held.grantable d)) both).0

    grantable_below : (d : ℕ) → grantable held d ≡ true → d < 20
    grantable_below d both = orderly.dynamic_below d (and_parts (held.dynamic d) (held.grantable d) both).0

    dynamic_line_adds : (T : ℕ → Bool) (option : Bool) (d : ℕ) → (T d ≡ true → d < 20) → Adds (Dynamic a d) (Grant (dynamic_list T) on.Global (a ∷ []) option ∷ []) (T d)
    dynamic_line_adds T option d bounded =
        adds_same (adds_one (Dynamic a d) (Grant (dynamic_list T) on.Global (a ∷ []) option) (names_dynamic (dynamic_list T) d) (λ st. at_dynamic a (dynamic_list T) option st d)) (dynamic_named T d bounded)

    either : (x y : Bool) → ((x && not y) || (x && y)) ≡ x
    either true true = refl
    either true false = refl
    either false y = refl

    dynamic_lines_add : (d : ℕ) → Adds (Dynamic a d) (dynamic_lines a held) (held.dynamic d)
    dynamic_lines_add d =
        adds_same
        (adds_append
        (adds_same (adds_if (Dynamic a d) (some_below 20 (ungrantable held)) (Grant (dynamic_list (ungrantable held)) on.Global (a ∷ []) false) (ungrantable held d)
        (λ some. dynamic_line_adds (ungrantable held) false d (ungrantable_below d))) (some_and 20 d (ungrantable held) (ungrantable_below d)))
        (adds_same (adds_if (Dynamic a d) (some_below 20 (grantable held)) (Grant (dynamic_list (grantable held)) on.Global (a ∷ []) true) (grantable held d)
        (λ some. dynamic_line_adds (grantable held) true d (grantable_below d))) (some_and 20 d (grantable held) (grantable_below d))))
        (either (held.dynamic d) (held.grantable d))

    global_line_dynamic : (d : ℕ) → Adds (Dynamic a d) (global_line a held ∷ []) false
    global_line_dynamic d =
        adds_same (adds_one (Dynamic a d) (global_line a held) (names_dynamic (plain_list (but_option held.plain)) d) (λ st. at_dynamic a (plain_list (but_option held.plain)) (held.plain grant_option) st d))
        (plain_not_dynamic (but_option held.plain) d)

    pub dynamic_adds : (d : ℕ) → Adds (Dynamic a d) (lines_of a held listing) (held.dynamic d)
    dynamic_adds d =
        let row : Row = Dynamic a d in
        adds_same
        (lines_add row false (held.dynamic d) false false false false false false (global_line_dynamic d) (dynamic_lines_add d)
        (restrictions_leave row (λ s. refl)) (schemas_leave row (λ s. refl)) (tables_leave row (λ s t. refl)) (functions_leave row (λ s f. refl)) (procedures_leave row (λ s f. refl)) (all_roles_leave row refl))
        (or-false (held.dynamic d))

    option_line_adds : (T : ℕ → Bool) (option : Bool) (d : ℕ) → (T d ≡ true → d < 20) → Adds (DynamicGrant a d) (Grant (dynamic_list T) on.Global (a ∷ []) option ∷ []) (option && T d)
    option_line_adds T option d bounded =
        adds_same (adds_one (DynamicGrant a d) (Grant (dynamic_list T) on.Global (a ∷ []) option) (option && names_dynamic (dynamic_list T) d) (λ st. at_dynamic_grant a (dynamic_list T) option st d))
        (ap (λ t. option && t) (dynamic_named T d bounded))

    within : (x y : Bool) → (y ≡ true → x ≡ true) → (x && y) ≡ y
    within true y follows = refl
    within false true follows = follows refl
    within false false follows = refl

    option_lines_add : (d : ℕ) → Adds (DynamicGrant a d) (dynamic_lines a held) (held.grantable d)
    option_lines_add d =
        adds_same
        (adds_append
        (leaves_if (DynamicGrant a d) (some_below 20 (ungrantable held)) (Grant (dynamic_list (ungrantable held)) on.Global (a ∷ []) false)
        (λ some. option_line_adds (ungrantable held) false d (ungrantable_below d)))
        (adds_same (adds_if (DynamicGrant a d) (some_below 20 (grantable held)) (Grant (dynamic_list (grantable held)) on.Global (a ∷ []) true) (grantable held d)
        (λ some. option_line_adds (grantable held) true d (grantable_below d))) (some_and 20 d (grantable held) (grantable_below d))))
        (within (held.dynamic d) (held.grantable d) (orderly.grantable_held d))

    global_line_option : (d : ℕ) → Adds (DynamicGrant a d) (global_line a held ∷ []) false
    global_line_option d =
        adds_same (adds_one (DynamicGrant a d) (global_line a held) (held.plain grant_option && names_dynamic (plain_list (but_option held.plain)) d)
        (λ st. at_dynamic_grant a (plain_list (but_option held.plain)) (held.plain grant_option) st d))
        (ap (λ t. held.plain grant_option && t) (plain_not_dynamic (but_option held.plain) d) ∙ never_both (held.plain grant_option))

    pub grantable_adds : (d : ℕ) → Adds (DynamicGrant a d) (lines_of a held listing) (held.grantable d)
    grantable_adds d =
        let row : Row = DynamicGrant a d in
        adds_same
        (lines_add row false (held.grantable d) false false false false false false (global_line_option d) (option_lines_add d)
        (restrictions_leave row (λ s. refl)) (schemas_leave row (λ s. refl)) (tables_leave row (λ s t. refl)) (functions_leave row (λ s f. refl)) (procedures_leave row (λ s f. refl)) (all_roles_leave row refl))
        (or-false (held.grantable d))

    -- ---- tables and columns

    table_below : (k : Pair) (p : ℕ) → held.on_table k.0 k.1 p ≡ true → p < 31
    table_below k p holds = level_below level.Table p (orderly.table_level k.0 k.1 p holds)

    table_line_adds : (s t : List ℕ) (p : ℕ) (k : Pair) → Adds (Table a s t p) (table_line a held listing k) (same_pair k (s, t) && held.on_table k.0 k.1 p)
    table_line_adds s t p k =
        let option : Bool = held.on_table k.0 k.1 grant_option in
        adds_same
        (adds_if (Table a s t p) (some_below 31 (shows_table held listing k)) (Grant (table_privileges held listing k) (on.Table k.0 k.1) (a ∷ []) option) (same_pair k (s, t) && held.on_table k.0 k.1 p)
        (λ some. adds_same
        (adds_one (Table a s t p) (Grant (table_privileges held listing k) (on.Table k.0 k.1) (a ∷ []) option) (same_pair k (s, t) && named_static (table_privileges held listing k) level.Table option true p)
        (λ st. at_table a (table_privileges held listing k) option st k.0 k.1 s t p))
        (ap (λ x. same_pair k (s, t) && x) (columns_granted_named (held.on_table k.0 k.1) (columns_held held listing k) level.Table p (table_below k p)))))
        (line_stands (some_below 31 (shows_table held listing k)) (same_pair k (s, t)) (held.on_table k.0 k.1 p)
        (λ holds. some_below_from 31 p (shows_table held listing k) (table_below k p holds) (or_left (held.on_table k.0 k.1 p) (is_some_list (columns_held held listing k p)) holds)))

    pub table_adds : (s t : List ℕ) (p : ℕ) → Adds (Table a s t p) (lines_of a held listing) (held.on_table s t p)
    table_adds s t p =
        let row : Row = Table a s t p in
        let tables : Adds row (flat_map (table_line a held listing) listing.tables) (held.on_table s t p) =
        adds_same (adds_each row (table_line a held listing) (λ k. same_pair k (s, t) && held.on_table k.0 k.1 p) (table_line_adds s t p) listing.tables)
        (pair_found (λ k. held.on_table k.0 k.1 p) (s, t) listing.tables (listed.table s t p)) in
        adds_same
        (lines_add row false false false false (held.on_table s t p) false false false (global_leaves row refl) (dynamic_leaves row refl)
        (restrictions_leave row (λ u. refl)) (schemas_leave row (λ u. refl)) tables (functions_leave row (λ u v. refl)) (procedures_leave row (λ u v. refl)) (all_roles_leave row refl))
        (or-false (held.on_table s t p))

    column_below : (k : Pair) (c : List ℕ) (p : ℕ) → held.on_column k.0 k.1 c p ≡ true → p < 31
    column_below k c p holds = level_below level.Column p (orderly.column_level k.0 k.1 c p holds)

    column_line_adds : (s t c : List ℕ) (p : ℕ) (k : Pair) → Adds (Column a s t c p) (table_line a held listing k) (same_pair k (s, t) && held.on_column k.0 k.1 c p)
    column_line_adds s t c p k =
        let option : Bool = held.on_table k.0 k.1 grant_option in
        adds_same
        (adds_if (Column a s t c p) (some_below 31 (shows_table held listing k)) (Grant (table_privileges held listing k) (on.Table k.0 k.1) (a ∷ []) option) (same_pair k (s, t) && held.on_column k.0 k.1 c p)
        (λ some. adds_same
        (adds_one (Column a s t c p) (Grant (table_privileges held listing k) (on.Table k.0 k.1) (a ∷ []) option) (same_pair k (s, t) && names_column (table_privileges held listing k) p c)
        (λ st. at_column a (table_privileges held listing k) option st k.0 k.1 s t c p))
        (ap (λ x. same_pair k (s, t) && x) (columns_named held listing a orderly listed k.0 k.1 p c))))
        (line_stands (some_below 31 (shows_table held listing k)) (same_pair k (s, t)) (held.on_column k.0 k.1 c p)
        (λ holds. some_below_from 31 p (shows_table held listing k) (column_below k c p holds)
        (or_right (held.on_table k.0 k.1 p) (is_some_list (columns_held held listing k p)) (some_columns held listing a orderly listed k.0 k.1 p c holds))))

    pub column_adds : (s t c : List ℕ) (p : ℕ) → Adds (Column a s t c p) (lines_of a held listing) (held.on_column s t c p)
    column_adds s t c p =
        let row : Row = Column a s t c p in
        let tables : Adds row (flat_map (table_line a held listing) listing.tables) (held.on_column s t c p) =
        adds_same (adds_each row (table_line a held listing) (λ k. same_pair k (s, t) && held.on_column k.0 k.1 c p) (column_line_adds s t c p) listing.tables)
        (pair_found (λ k. held.on_column k.0 k.1 c p) (s, t) listing.tables (listed.column_table s t c p)) in
        adds_same
        (lines_add row false false false false (held.on_column s t c p) false false false (global_leaves row refl) (dynamic_leaves row refl)
        (restrictions_leave row (λ u. refl)) (schemas_leave row (λ u. refl)) tables (functions_leave row (λ u v. refl)) (procedures_leave row (λ u v. refl)) (all_roles_leave row refl))
        (or-false (held.on_column s t c p))

    -- ---- routines

    function_line_adds : (s f : List ℕ) (p : ℕ) (k : Pair) → Adds (Function a s f p) (function_line a held k) (same_pair k (s, f) && held.on_function k.0 k.1 p)
    function_line_adds s f p k =
        let T : ℕ → Bool = held.on_function k.0 k.1 in
        let bounded : T p ≡ true → p < 31 = λ holds. level_below level.Routine p (orderly.function_level k.0 k.1 p holds) in
        adds_same
        (adds_if (Function a s f p) (some_below 31 T) (Grant (plain_list (but_option T)) (on.Function k.0 k.1) (a ∷ []) (T grant_option)) (same_pair k (s, f) && T p)
        (λ some. adds_same
        (adds_one (Function a s f p) (Grant (plain_list (but_option T)) (on.Function k.0 k.1) (a ∷ []) (T grant_option)) (same_pair k (s, f) && named_static (plain_list (but_option T)) level.Routine (T grant_option) true p)
        (λ st. at_function a (plain_list (but_option T)) (T grant_option) st k.0 k.1 s f p))
        (ap (λ x. same_pair k (s, f) && x) (granted_named T level.Routine p bounded))))
        (line_stands (some_below 31 T) (same_pair k (s, f)) (T p) (λ holds. some_below_from 31 p T (bounded holds) holds))

    pub function_adds : (s f : List ℕ) (p : ℕ) → Adds (Function a s f p) (lines_of a held listing) (held.on_function s f p)
    function_adds s f p =
        let row : Row = Function a s f p in
        let functions : Adds row (flat_map (function_line a held) listing.functions) (held.on_function s f p) =
        adds_same (adds_each row (function_line a held) (λ k. same_pair k (s, f) && held.on_function k.0 k.1 p) (function_line_adds s f p) listing.functions)
        (pair_found (λ k. held.on_function k.0 k.1 p) (s, f) listing.functions (listed.function s f p)) in
        adds_same
        (lines_add row false false false false false (held.on_function s f p) false false (global_leaves row refl) (dynamic_leaves row refl)
        (restrictions_leave row (λ u. refl)) (schemas_leave row (λ u. refl)) (tables_leave row (λ u v. refl)) functions (procedures_leave row (λ u v. refl)) (all_roles_leave row refl))
        (or-false (held.on_function s f p))

    procedure_line_adds : (s f : List ℕ) (p : ℕ) (k : Pair) → Adds (Procedure a s f p) (procedure_line a held k) (same_pair k (s, f) && held.on_procedure k.0 k.1 p)
    procedure_line_adds s f p k =
        let T : ℕ → Bool = held.on_procedure k.0 k.1 in
        let bounded : T p ≡ true → p < 31 = λ holds. level_below level.Routine p (orderly.procedure_level k.0 k.1 p holds) in
        adds_same
        (adds_if (Procedure a s f p) (some_below 31 T) (Grant (plain_list (but_option T)) (on.Procedure k.0 k.1) (a ∷ []) (T grant_option)) (same_pair k (s, f) && T p)
        (λ some. adds_same
        (adds_one (Procedure a s f p) (Grant (plain_list (but_option T)) (on.Procedure k.0 k.1) (a ∷ []) (T grant_option)) (same_pair k (s, f) && named_static (plain_list (but_option T)) level.Routine (T grant_option) true p)
        (λ st. at_procedure a (plain_list (but_option T)) (T grant_option) st k.0 k.1 s f p))
        (ap (λ x. same_pair k (s, f) && x) (granted_named T level.Routine p bounded))))
        (line_stands (some_below 31 T) (same_pair k (s, f)) (T p) (λ holds. some_below_from 31 p T (bounded holds) holds))

    pub procedure_adds : (s f : List ℕ) (p : ℕ) → Adds (Procedure a s f p) (lines_of a held listing) (held.on_procedure s f p)
    procedure_adds s f p =
        let row : Row = Procedure a s f p in
        let procedures : Adds row (flat_map (procedure_line a held) listing.procedures) (held.on_procedure s f p) =
        adds_same (adds_each row (procedure_line a held) (λ k. same_pair k (s, f) && held.on_procedure k.0 k.1 p) (procedure_line_adds s f p) listing.procedures)
        (pair_found (λ k. held.on_procedure k.0 k.1 p) (s, f) listing.procedures (listed.procedure s f p)) in
        adds_same
        (lines_add row false false false false false false (held.on_procedure s f p) false (global_leaves row refl) (dynamic_leaves row refl)
        (restrictions_leave row (λ u. refl)) (schemas_leave row (λ u. refl)) (tables_leave row (λ u v. refl)) (functions_leave row (λ u v. refl)) procedures (all_roles_leave row refl))
        (or-false (held.on_procedure s f p))

    -- ---- roles

    pub role_chosen : (r : AuthId) (b : Bool) → lists (roles_of held listing b) r ≡ (held.role r && cond b (held.admin r) (not (held.admin r)))
    role_chosen r b =
        any-filter same_auth equal_from_same_auth same_auth_itself (λ x. held.role x && cond b (held.admin x) (not (held.admin x))) r listing.roles
        ∙ by (held.role r) (cond b (held.admin r) (not (held.admin r))) refl
      where
        by : (x y : Bool) → held.role r ≡ x → ((x && y) && list_any (same_auth r) listing.roles) ≡ (x && y)
        by true true is = listed.role r is
        by true false is = refl
        by false y is = refl

    some_listed : (roles : List AuthId) (r : AuthId) → (is_some_list roles && lists roles r) ≡ lists roles r
    some_listed [] r = refl
    some_listed (first ∷ roles) r = refl

    role_line_edge : (r : AuthId) (b : Bool) → Adds (Edge r a) (role_line a held listing b) (held.role r && cond b (held.admin r) (not (held.admin r)))
    role_line_edge r b =
        let roles : List AuthId = roles_of held listing b in
        adds_same (adds_if (Edge r a) (is_some_list roles) (GrantRoles roles (a ∷ []) b) (lists roles r)
        (λ some. adds_one (Edge r a) (GrantRoles roles (a ∷ []) b) (lists roles r) (λ st. at_edge a roles b st r)))
        (some_listed roles r ∙ role_chosen r b)

    role_line_admin : (r : AuthId) (b : Bool) → Adds (Admin r a) (role_line a held listing b) (b && (held.role r && cond b (held.admin r) (not (held.admin r))))
    role_line_admin r b =
        let roles : List AuthId = roles_of held listing b in
        adds_same (adds_if (Admin r a) (is_some_list roles) (GrantRoles roles (a ∷ []) b) (b && lists roles r)
        (λ some. adds_one (Admin r a) (GrantRoles roles (a ∷ []) b) (b && lists roles r) (λ st. at_admin a roles b st r)))
        (inward (is_some_list roles) b (lists roles r) ∙ ap (λ t. b && t) (some_listed roles r ∙ role_chosen r b))
      where
        inward : (x y z : Bool) → (x && (y && z)) ≡ (y && (x && z))
        inward true true z = refl
        inward true false z = refl
        inward false true z = refl
        inward false false z = refl

    pub edge_adds : (r : AuthId) → Adds (Edge r a) (lines_of a held listing) (held.role r)
    edge_adds r =
        let row : Row = Edge r a in
        let roles : Adds row (role_line a held listing false ++ role_line a held listing true) (held.role r) =
        adds_same (adds_append (role_line_edge r false) (role_line_edge r true)) (either (held.role r) (held.admin r)) in
        lines_add row false false false false false false false (held.role r) (global_leaves row refl) (dynamic_leaves row refl)
        (restrictions_leave row (λ u. refl)) (schemas_leave row (λ u. refl)) (tables_leave row (λ u v. refl)) (functions_leave row (λ u v. refl)) (procedures_leave row (λ u v. refl)) roles

    pub admin_adds : (r : AuthId) → Adds (Admin r a) (lines_of a held listing) (held.admin r)
    admin_adds r =
        let row : Row = Admin r a in
        let roles : Adds row (role_line a held listing false ++ role_line a held listing true) (held.admin r) =
        adds_same (adds_append (role_line_admin r false) (role_line_admin r true)) (within (held.role r) (held.admin r) (orderly.admin_held r)) in
        lines_add row false false false false false false false (held.admin r) (global_leaves row refl) (dynamic_leaves row refl)
        (restrictions_leave row (λ u. refl)) (schemas_leave row (λ u. refl)) (tables_leave row (λ u v. refl)) (functions_leave row (λ u v. refl)) (procedures_leave row (λ u v. refl)) roles
