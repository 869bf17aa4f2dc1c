-- Each printed statement is one that a history may hold, without limits.
use Rattle.std.proofs.Common.{◌≡◌, ◌∙◌, ap, sym, refl, ℕ, ◌<◌, ◌==◌, Bool, true, false, cond, not, ◌&&◌, ◌||◌, List, [], ◌∷◌, arith}
use Rattle.std.proofs.lemmas.Bool.{and_from, and_parts, lt-ltb, or_right}
use Rattle.std.proofs.lemmas.Nat.Bits.{bit_at-zero}
use Rattle.std.specs.List.{list_all}
use Rattle.acl_names.specs.declared.auth.AuthId.{AuthId}
use Rattle.acl_stmt.specs.Entries.{is_complete, is_entry, may_have_limits}
use Rattle.acl_stmt.specs.Lists.{is_some_list}
use Rattle.acl_stmt.specs.Requests.{all_below, is_request}
use Rattle.acl_stmt.specs.Statements.{are_roles, is_named, is_statement}
use Rattle.acl_stmt.specs.Targets.{is_table, is_target, level_of}
use Rattle.acl_stmt.specs.declared.privileges.PrivList.{PrivList}
use Rattle.acl_stmt.specs.declared.statement.Statement.{Statement}
use Rattle.acl_stmt.specs.declared.statement.Statement.TheVariants.{Grant, GrantRoles, Revoke}
use Rattle.acl_stmt.specs.declared.target.Target.{Target}
use Rattle.acl_stmt.specs.declared.target.Target.TheVariants as on
use Rattle.listed_privileges.proofs.Bits.{all_from, bits_within}
use Rattle.listed_privileges.specs.Sets.{but_option}
use Rattle.priv_sets.specs.Levels.{grant_option, has_level}
use Rattle.priv_sets.specs.Privileges.{is_global_level}
use Rattle.priv_sets.specs.StaticSet.{holds}
use Rattle.priv_sets.specs.declared.level.Level.TheVariants as level
use Rattle.show_grants.specs.Keys.{Pair}
use Rattle.show_grants.specs.Lines.{column_privileges, columns_held, dynamic_list, global_line, granting, lines_of, plain_list, roles_of, table_privileges}
use Rattle.show_grants.specs.Listing.{Listing}
use Rattle.show_grants.specs.Rights.{Held}
use Rattle.shown_laws.proofs.ColumnNames.{all-filter}
use Rattle.shown_laws.proofs.EachLine.{all_pass}
use Rattle.shown_laws.proofs.Orderly.{IsOrderly}
use Rattle.shown_laws.proofs.Tests.{implies}

-- ---- requests

-- the static privileges have the level of the target
abbrev HaveLevels : PrivList → Target → Type 0
HaveLevels privileges target = all_below 31 (λ number. not (holds privileges.plain number) || has_level (level_of target) number) ≡ true

request_from : (privileges : PrivList) (target : Target) → HaveLevels privileges target → (not (is_some_list privileges.columns) || is_table target) ≡ true
    → (privileges.dynamic == 0 || is_global_level (level_of target)) ≡ true → is_target target ≡ true → is_request privileges target ≡ true
unfolding is_request
request_from privileges target levels columns dynamic rules =
    let plain : Bool = all_below 31 (λ number. not (holds privileges.plain number) || has_level (level_of target) number) in
    and_from (plain && (not (is_some_list privileges.columns) || is_table target) && (privileges.dynamic == 0 || is_global_level (level_of target))) (is_target target)
    (and_from (plain && (not (is_some_list privileges.columns) || is_table target)) (privileges.dynamic == 0 || is_global_level (level_of target))
    (and_from plain (not (is_some_list privileges.columns) || is_table target) levels columns) dynamic) rules

bits_have_levels : (T : ℕ → Bool) (target : Target) → ((n : ℕ) → T n ≡ true → has_level (level_of target) n ≡ true) → HaveLevels (plain_list T) target
unfolding holds
bits_have_levels T target level_at =
    all_from 31 (λ n. not (holds (plain_list T).plain n) || has_level (level_of target) n)
    (λ n within. implies (holds (plain_list T).plain n) (has_level (level_of target) n) (λ is. level_at n (sym (bits_within 31 n T within) ∙ is)))

plain_request : (T : ℕ → Bool) (target : Target) → ((n : ℕ) → T n ≡ true → has_level (level_of target) n ≡ true) → is_target target ≡ true → is_request (plain_list T) target ≡ true
plain_request T target level_at rules = request_from (plain_list T) target (bits_have_levels T target level_at) refl refl rules

columns_request : (T : ℕ → Bool) (names : ℕ → List (List ℕ)) (s t : List ℕ) → ((n : ℕ) → T n ≡ true → has_level level.Table n ≡ true) → is_request (column_privileges T names) (on.Table s t) ≡ true
columns_request T names s t level_at =
    request_from (column_privileges T names) (on.Table s t) (bits_have_levels T (on.Table s t) level_at) (or_right (not (is_some_list (column_privileges T names).columns)) true refl) refl refl

dynamic_request : (T : ℕ → Bool) → is_request (dynamic_list T) on.Global ≡ true
unfolding holds
dynamic_request T =
    request_from (dynamic_list T) on.Global
    (all_from 31 (λ n. not (holds (dynamic_list T).plain n) || has_level level.Global n) (λ n within. ap (λ bit. not (bit == 1) || has_level level.Global n) (bit_at-zero n)))
    refl (or_right ((dynamic_list T).dynamic == 0) true refl) refl

no_option : (T : ℕ → Bool) → not (holds (plain_list (but_option T)).plain grant_option) ≡ true
unfolding holds
no_option T = ap not (bits_within 31 grant_option (but_option T) (omega arith) ∙ never_both (T grant_option))
  where
    never_both : (x : Bool) → (x && false) ≡ false
    never_both true = refl
    never_both false = refl

-- ---- statements

entry_from : (s : Statement) → is_statement s ≡ true → is_complete s ≡ true → may_have_limits [] s ≡ true → is_entry [] s ≡ true
unfolding is_entry
entry_from s legal complete limits =
    and_from (is_statement s && is_complete s && true) (may_have_limits [] s) (and_from (is_statement s && is_complete s) true (and_from (is_statement s) (is_complete s) legal complete) refl) limits

grant_statement : (a : AuthId) (privileges : PrivList) (target : Target) (option : Bool) → is_request privileges target ≡ true → not (holds privileges.plain grant_option) ≡ true
    → is_statement (Grant privileges target (a ∷ []) option) ≡ true
unfolding is_statement
grant_statement a privileges target option request without =
    and_from (is_request privileges target && not (holds privileges.plain grant_option)) true (and_from (is_request privileges target) (not (holds privileges.plain grant_option)) request without) refl

revoke_statement : (a : AuthId) (privileges : PrivList) (target : Target) → is_request privileges target ≡ true → is_statement (Revoke privileges target (a ∷ [])) ≡ true
unfolding is_statement
revoke_statement a privileges target request = and_from (is_request privileges target) true request refl

roles_statement : (a : AuthId) (roles : List AuthId) (option : Bool) → is_some_list roles ≡ true → list_all is_named roles ≡ true → is_statement (GrantRoles roles (a ∷ []) option) ≡ true
unfolding is_statement
roles_statement a roles option some named = and_from (are_roles roles) true (and_from (is_some_list roles) (list_all is_named roles) some named) refl

-- GRANT of a test's privileges, with GRANT OPTION by the option
but_level : (T : ℕ → Bool) (target : Target) → ((n : ℕ) → T n ≡ true → has_level (level_of target) n ≡ true) → (n : ℕ) → but_option T n ≡ true → has_level (level_of target) n ≡ true
but_level T target level_at n both = level_at n (and_parts (T n) (not (n == grant_option)) both).0

granting_statement : (a : AuthId) (T : ℕ → Bool) (target : Target) → ((n : ℕ) → T n ≡ true → has_level (level_of target) n ≡ true) → is_target target ≡ true
    → is_statement (Grant (plain_list (but_option T)) target (a ∷ []) (T grant_option)) ≡ true
granting_statement a T target level_at rules = grant_statement a (plain_list (but_option T)) target (T grant_option) (plain_request (but_option T) target (but_level T target level_at) rules) (no_option T)

-- ---- lines

global_level : (p : ℕ) → p < 31 → has_level level.Global p ≡ true
unfolding has_level
global_level p below = lt-ltb p 31 below

module _ (a : AuthId) (held : Held) (listing : Listing) (orderly : IsOrderly held a) where
  global_legal : is_entry [] (global_line a held) ≡ true
  global_legal = entry_from (global_line a held) (granting_statement a held.plain on.Global (λ n is. global_level n (orderly.plain_below n is)) refl) refl refl

  dynamic_legal : (T : ℕ → Bool) (option : Bool) → is_entry [] (Grant (dynamic_list T) on.Global (a ∷ []) option) ≡ true
  unfolding holds
  dynamic_legal T option =
      entry_from (Grant (dynamic_list T) on.Global (a ∷ []) option)
      (grant_statement a (dynamic_list T) on.Global option (dynamic_request T) (ap (λ bit. not (bit == 1)) (bit_at-zero grant_option))) refl refl

  restriction_legal : (s : List ℕ) → is_entry [] (Revoke (plain_list (held.restricted s)) (on.Schema s) (a ∷ [])) ≡ true
  restriction_legal s =
      entry_from (Revoke (plain_list (held.restricted s)) (on.Schema s) (a ∷ []))
      (revoke_statement a (plain_list (held.restricted s)) (on.Schema s) (plain_request (held.restricted s) (on.Schema s) (orderly.restricted_level s) refl)) refl refl

  schema_legal : (s : List ℕ) → is_entry [] (Grant (plain_list (but_option (held.on_schema s))) (on.Schema s) (a ∷ []) (held.on_schema s grant_option)) ≡ true
  schema_legal s =
      entry_from (Grant (plain_list (but_option (held.on_schema s))) (on.Schema s) (a ∷ []) (held.on_schema s grant_option))
      (granting_statement a (held.on_schema s) (on.Schema s) (orderly.schema_level s) refl) refl refl

  table_legal : (k : Pair) → is_entry [] (Grant (table_privileges held listing k) (on.Table k.0 k.1) (a ∷ []) (held.on_table k.0 k.1 grant_option)) ≡ true
  table_legal k =
      let T : ℕ → Bool = held.on_table k.0 k.1 in
      entry_from (Grant (table_privileges held listing k) (on.Table k.0 k.1) (a ∷ []) (T grant_option))
      (grant_statement a (table_privileges held listing k) (on.Table k.0 k.1) (T grant_option)
      (columns_request (but_option T) (columns_held held listing k) k.0 k.1 (but_level T (on.Table k.0 k.1) (orderly.table_level k.0 k.1))) (no_option T)) refl refl

  function_legal : (k : Pair) (p : ℕ) → held.on_function k.0 k.1 p ≡ true → is_entry [] (granting (on.Function k.0 k.1) a (held.on_function k.0 k.1)) ≡ true
  function_legal k p holds =
      let T : ℕ → Bool = held.on_function k.0 k.1 in
      entry_from (granting (on.Function k.0 k.1) a T)
      (granting_statement a T (on.Function k.0 k.1) (orderly.function_level k.0 k.1) (orderly.function_lower k.0 k.1 p holds)) refl refl

  procedure_legal : (k : Pair) (p : ℕ) → held.on_procedure k.0 k.1 p ≡ true → is_entry [] (granting (on.Procedure k.0 k.1) a (held.on_procedure k.0 k.1)) ≡ true
  procedure_legal k p holds =
      let T : ℕ → Bool = held.on_procedure k.0 k.1 in
      entry_from (granting (on.Procedure k.0 k.1) a T)
      (granting_statement a T (on.Procedure k.0 k.1) (orderly.procedure_level k.0 k.1) (orderly.procedure_lower k.0 k.1 p holds)) refl refl

  role_legal : (b : Bool) → is_some_list (roles_of held listing b) ≡ true → is_entry [] (GrantRoles (roles_of held listing b) (a ∷ []) b) ≡ true
  role_legal b some =
      entry_from (GrantRoles (roles_of held listing b) (a ∷ []) b)
      (roles_statement a (roles_of held listing b) b some
      (all-filter is_named (λ r. held.role r && cond b (held.admin r) (not (held.admin r)))
      (λ r both. orderly.role_named r (and_parts (held.role r) (cond b (held.admin r) (not (held.admin r))) both).0) listing.roles)) refl refl

  pub all_legal : list_all (is_entry []) (lines_of a held listing) ≡ true
  all_legal = all_pass (is_entry []) a held listing (record {
    global = global_legal;
    dynamic = dynamic_legal;
    restriction = λ s p holds. restriction_legal s;
    schema = λ s p holds. schema_legal s;
    table = λ k p holds. table_legal k;
    function = function_legal;
    procedure = procedure_legal;
    roles = role_legal;
  })
