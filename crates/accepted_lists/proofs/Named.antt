-- What a legal statement names: privileges of the level of its target, columns and routines in lower case, roles with users.
use Rattle.std.proofs.Common.{◌≡◌, ◌∙◌, ap, sym, refl, ℕ, zero, suc, ◌<◌, ◌≤◌, ◌^◌, ◌==◌, nat_lt, Bool, true, false, not, ◌&&◌, ◌||◌, List, [], ◌∷◌, inl, inr, true≢false, arith}
use Rattle.std.proofs.lemmas.Bool.{and_from, and_parts, cases_eq, cases_lt, eqb-true, lt-ltb, ltb-true, or_cases}
use Rattle.std.proofs.lemmas.Nat.Bits.{bit_at_above}
use Rattle.std.specs.Int.{bit_at}
use Rattle.std.specs.List.{list_all, list_any}
use Rattle.acl_names.proofs.SameAuth.{equal_from_same_auth, equal_from_text_eq}
use Rattle.acl_names.specs.AuthId.{same_auth}
use Rattle.acl_names.specs.Text.{is_lower, text_eq}
use Rattle.acl_names.specs.declared.auth.AuthId.{AuthId}
use Rattle.acl_model.specs.Rows.{lists}
use Rattle.acl_model.specs.Words.{gives_grant_option, grants, grants_column, grants_dynamic, grants_dynamic_option, grants_role, limited, names_column, names_dynamic, names_static, revokes, same_target}
use Rattle.acl_stmt.specs.Columns.{is_column_list}
use Rattle.acl_stmt.specs.Entries.{is_entry}
use Rattle.acl_stmt.specs.Limits.{is_limit}
use Rattle.acl_stmt.specs.Lists.{is_some_list}
use Rattle.acl_stmt.specs.Privileges.{are_in_order, is_priv_list}
use Rattle.acl_stmt.specs.Requests.{all_below, have_levels, is_request}
use Rattle.acl_stmt.specs.Statements.{are_roles, is_named, is_statement}
use Rattle.acl_stmt.specs.Targets.{is_table, is_target, level_of}
use Rattle.acl_stmt.specs.declared.columns.ColumnPriv.{ColumnPriv}
use Rattle.acl_stmt.specs.declared.limit.Limit.{Limit}
use Rattle.acl_stmt.specs.declared.privileges.PrivList.{PrivList}
use Rattle.acl_stmt.specs.declared.statement.Statement.{Statement}
use Rattle.acl_stmt.specs.declared.statement.Statement.TheVariants.{Grant, GrantRoles, Revoke}
use Rattle.acl_stmt.specs.declared.target.Target.{Target}
use Rattle.acl_stmt.specs.declared.target.Target.TheVariants as on
use Rattle.priv_sets.proofs.LevelLemmas.{no_level_above}
use Rattle.priv_sets.specs.Levels.{grant_option, has_level}
use Rattle.priv_sets.specs.Privileges.{is_global_level}
use Rattle.priv_sets.specs.StaticSet.{bits_of, holds, is_known}
use Rattle.priv_sets.specs.declared.level.Level.{Level}
use Rattle.priv_sets.specs.declared.level.Level.TheVariants as level
use Rattle.priv_sets.specs.declared.static_set.Static.{Static}

pub never : {A : Type 0} → false ≡ true → A
never is = absurd (true≢false (sym is))

pub implied : (a b : Bool) → (not a || b) ≡ true → a ≡ true → b ≡ true
implied true b either is = either
implied false b either is = never is

-- ---- numbers of privileges

pub below_at : (limit n : ℕ) (test : ℕ → Bool) → all_below limit test ≡ true → n < limit → test n ≡ true
below_at zero n test all within = absurd (omega arith)
below_at (suc limit) n test all within =
    let parts = and_parts (all_below limit test) (test limit) all in
    elim (cases_eq n limit) [
      | inl same ↦ ap test same ∙ parts.1
      | inr other ↦ below_at limit n test parts.0 (omega arith)
    ]

none_above : (set : Static) (q : ℕ) → is_known set ≡ true → 31 ≤ q → holds set q ≡ false
unfolding holds
none_above set q known above = ap (λ bit. bit == 1) (bit_at_above (bits_of set) 31 q (ltb-true (bits_of set) (2 ^ 31) known) above)

pub held_below : (set : Static) (q : ℕ) → is_known set ≡ true → holds set q ≡ true → q < 31
held_below set q known held =
    elim (cases_lt q 31) [
      | inl below ↦ below
      | inr above ↦ absurd (true≢false (sym held ∙ none_above set q known above))
    ]

first_two : (a b c d : Bool) → (a && b && c && d) ≡ true → (a ≡ true) × (b ≡ true)
first_two a b c d all = and_parts a b (and_parts (a && b) c (and_parts (a && b && c) d all).0).0

pub list_rules : (privileges : PrivList) → (is_known privileges.plain ≡ true) × (privileges.dynamic < 2 ^ 20)
unfolding is_priv_list
list_rules privileges =
    let parts = first_two (is_known privileges.plain) (nat_lt privileges.dynamic (2 ^ 20)) (are_in_order privileges.columns)
    (not privileges.all || bits_of privileges.plain == 0 && not (is_some_list privileges.columns) && privileges.dynamic == 0) privileges.listed in
    (parts.0, ltb-true privileges.dynamic (2 ^ 20) parts.1)

pub level_below : (at : Level) (p : ℕ) → has_level at p ≡ true → p < 31
level_below at p has =
    elim (cases_lt p 31) [
      | inl below ↦ below
      | inr above ↦ absurd (true≢false (sym has ∙ no_level_above at p above))
    ]

-- ---- privileges of a target

plain_levels : (privileges : PrivList) (target : Target) → is_request privileges target ≡ true
    → all_below 31 (λ number. not (holds privileges.plain number) || has_level (level_of target) number) ≡ true
unfolding is_request
plain_levels privileges target request =
    let fits = and_parts (have_levels privileges target) (is_target target) request in
    let plain = and_parts (all_below 31 (λ number. not (holds privileges.plain number) || has_level (level_of target) number) && (not (is_some_list privileges.columns) || is_table target))
    (privileges.dynamic == 0 || is_global_level (level_of target)) fits.0 in
    (and_parts (all_below 31 (λ number. not (holds privileges.plain number) || has_level (level_of target) number)) (not (is_some_list privileges.columns) || is_table target) plain.0).0

target_rules : (privileges : PrivList) (target : Target) → is_request privileges target ≡ true → is_target target ≡ true
unfolding is_request
target_rules privileges target request = (and_parts (have_levels privileges target) (is_target target) request).1

pub named_level : (privileges : PrivList) (target : Target) (p : ℕ) → is_request privileges target ≡ true
    → names_static privileges (level_of target) p ≡ true → has_level (level_of target) p ≡ true
named_level privileges target p request named =
    elim (or_cases (privileges.all && has_level (level_of target) p && not (p == grant_option)) (holds privileges.plain p) named) [
      | inl all ↦ (and_parts privileges.all (has_level (level_of target) p) (and_parts (privileges.all && has_level (level_of target) p) (not (p == grant_option)) all).0).1
      | inr held ↦
          implied (holds privileges.plain p) (has_level (level_of target) p)
          (below_at 31 p (λ number. not (holds privileges.plain number) || has_level (level_of target) number) (plain_levels privileges target request)
          (held_below privileges.plain p (list_rules privileges).0 held)) held
    ]

option_level : (target : Target) → has_level (level_of target) grant_option ≡ true
unfolding has_level
option_level on.Global = refl
option_level (on.Schema s) = refl
option_level (on.Table s t) = refl
option_level (on.Function s f) = refl
option_level (on.Procedure s f) = refl

same_level : (t u : Target) → same_target t u ≡ true → level_of t ≡ level_of u
same_level on.Global on.Global same = refl
same_level (on.Schema s) (on.Schema t) same = refl
same_level (on.Table s t) (on.Table u v) same = refl
same_level (on.Function s f) (on.Function u g) same = refl
same_level (on.Procedure s f) (on.Procedure u g) same = refl
same_level _ _ same = cc

same_rules : (t u : Target) → same_target t u ≡ true → is_target t ≡ true → is_target u ≡ true
same_rules (on.Function s f) (on.Function u g) same rules =
    ap is_lower (sym (equal_from_text_eq f g (and_parts (text_eq s u) (text_eq f g) same).1)) ∙ rules
same_rules (on.Procedure s f) (on.Procedure u g) same rules =
    ap is_lower (sym (equal_from_text_eq f g (and_parts (text_eq s u) (text_eq f g) same).1)) ∙ rules
same_rules on.Global on.Global same rules = refl
same_rules (on.Schema s) (on.Schema t) same rules = refl
same_rules (on.Table s t) (on.Table u v) same rules = refl
same_rules _ _ same rules = cc

pub legal_of : (entry_limits : List Limit) (s : Statement) → is_entry entry_limits s ≡ true → is_statement s ≡ true
unfolding is_entry
legal_of entry_limits s legal = (and_parts (is_statement s) _ (and_parts _ _ (and_parts _ _ legal).0).0).0

granted_request : (privileges : PrivList) (target : Target) (accounts : List AuthId) (option : Bool) → is_statement (Grant privileges target accounts option) ≡ true
    → is_request privileges target ≡ true
unfolding is_statement
granted_request privileges target accounts option legal =
    (and_parts (is_request privileges target) (not (holds privileges.plain grant_option))
    (and_parts (is_request privileges target && not (holds privileges.plain grant_option)) (is_some_list accounts) legal).0).0

revoked_request : (privileges : PrivList) (target : Target) (accounts : List AuthId) → is_statement (Revoke privileges target accounts) ≡ true
    → is_request privileges target ≡ true
unfolding is_statement
revoked_request privileges target accounts legal = (and_parts (is_request privileges target) (is_some_list accounts) legal).0

-- what GRANT gives has the level of its target, whose routine is in lower case
pub grants_level : (s : Statement) (at : Target) (a : AuthId) (p : ℕ) → is_statement s ≡ true → grants s at a p ≡ true
    → (has_level (level_of at) p ≡ true) × (is_target at ≡ true)
grants_level (Grant privileges target accounts option) at a p legal granted =
    let named : Bool = names_static privileges (level_of target) p in
    let optional : Bool = option && p == grant_option && gives_grant_option privileges target in
    let outer = and_parts (same_target target at && lists accounts a) (named || optional) granted in
    let same = (and_parts (same_target target at) (lists accounts a) outer.0).0 in
    let request = granted_request privileges target accounts option legal in
    let fits : has_level (level_of target) p ≡ true =
    elim (or_cases named optional outer.1) [
      | inl is_named ↦ named_level privileges target p request is_named
      | inr is_option ↦
          ap (has_level (level_of target)) (eqb-true p grant_option (and_parts option (p == grant_option) (and_parts (option && p == grant_option) (gives_grant_option privileges target) is_option).0).1)
          ∙ option_level target
    ] in
    (ap (λ (l : Level). has_level l p) (sym (same_level target at same)) ∙ fits, same_rules target at same (target_rules privileges target request))
grants_level s at a p legal granted = cc

pub revokes_level : (s : Statement) (at : Target) (a : AuthId) (p : ℕ) → is_statement s ≡ true → revokes s at a p ≡ true → has_level (level_of at) p ≡ true
revokes_level (Revoke privileges target accounts) at a p legal revoked =
    let outer = and_parts (same_target target at && lists accounts a) (names_static privileges (level_of target) p) revoked in
    let same = (and_parts (same_target target at) (lists accounts a) outer.0).0 in
    ap (λ (l : Level). has_level l p) (sym (same_level target at same)) ∙ named_level privileges target p (revoked_request privileges target accounts legal) outer.1
revokes_level s at a p legal revoked = cc

-- ---- columns

member_passes : (test : List ℕ → Bool) (c : List ℕ) (names : List (List ℕ)) → list_any (text_eq c) names ≡ true → list_all test names ≡ true → test c ≡ true
member_passes test c [] there each = never there
member_passes test c (n ∷ names) there each =
    let parts = and_parts (test n) (list_all test names) each in
    elim (or_cases (text_eq c n) (list_any (text_eq c) names) there) [
      | inl here ↦ ap test (equal_from_text_eq c n here) ∙ parts.0
      | inr later ↦ member_passes test c names later parts.1
    ]

column_rules : (listed : ColumnPriv) → (has_level level.Column listed.privilege ≡ true) × (list_all is_lower listed.names ≡ true)
unfolding is_column_list
column_rules listed =
    let fourth = and_parts _ _ (and_parts _ _ listed.listed).0 in
    let second = and_parts _ _ (and_parts _ _ fourth.0).0 in
    (second.0, fourth.1)

columns_rules : (columns : List ColumnPriv) (p : ℕ) (c : List ℕ) → list_any (λ l. l.privilege == p && list_any (text_eq c) l.names) columns ≡ true
    → (has_level level.Column p && is_lower c) ≡ true
columns_rules [] p c named = never named
columns_rules (l ∷ columns) p c named =
    elim (or_cases (l.privilege == p && list_any (text_eq c) l.names) (list_any (λ l. l.privilege == p && list_any (text_eq c) l.names) columns) named) [
      | inl here ↦
          let parts = and_parts (l.privilege == p) (list_any (text_eq c) l.names) here in
          let rules = column_rules l in
          and_from (has_level level.Column p) (is_lower c) (ap (has_level level.Column) (sym (eqb-true l.privilege p parts.0)) ∙ rules.0) (member_passes is_lower c l.names parts.1 rules.1)
      | inr later ↦ columns_rules columns p c later
    ]

pub grants_column_rules : (s : Statement) (at : Target) (a : AuthId) (c : List ℕ) (p : ℕ) → grants_column s at a c p ≡ true → (has_level level.Column p && is_lower c) ≡ true
grants_column_rules (Grant privileges target accounts option) at a c p granted =
    columns_rules privileges.columns p c (and_parts (same_target target at && lists accounts a) (names_column privileges p c) granted).1
grants_column_rules s at a c p granted = cc

-- ---- dynamic privileges

names_dynamic_below : (privileges : PrivList) (d : ℕ) → names_dynamic privileges d ≡ true → nat_lt d 20 ≡ true
names_dynamic_below privileges d named =
    elim (cases_lt d 20) [
      | inl below ↦ lt-ltb d 20 below
      | inr above ↦
          elim (or_cases (privileges.all && nat_lt d 20) (bit_at privileges.dynamic d == 1) named) [
            | inl all ↦ (and_parts privileges.all (nat_lt d 20) all).1
            | inr held ↦ never (sym (ap (λ bit. bit == 1) (bit_at_above privileges.dynamic 20 d (list_rules privileges).1 above)) ∙ held)
          ]
    ]

pub grants_dynamic_below : (s : Statement) (a : AuthId) (d : ℕ) → grants_dynamic s a d ≡ true → nat_lt d 20 ≡ true
grants_dynamic_below (Grant privileges on.Global accounts option) a d granted = names_dynamic_below privileges d (and_parts (lists accounts a) (names_dynamic privileges d) granted).1
grants_dynamic_below s a d granted = cc

-- who gets the grant option gets the privilege
pub option_grants : (s : Statement) (a : AuthId) (d : ℕ) → grants_dynamic_option s a d ≡ true → grants_dynamic s a d ≡ true
option_grants (Grant privileges on.Global accounts option) a d granted =
    let parts = and_parts (option && lists accounts a) (names_dynamic privileges d) granted in
    and_from (lists accounts a) (names_dynamic privileges d) (and_parts option (lists accounts a) parts.0).1 parts.1
option_grants s a d granted = cc

-- ---- restrictions that are handed on

limit_level : (limit : Limit) (p : ℕ) → holds limit.privileges p ≡ true → has_level level.Schema p ≡ true
unfolding is_limit
limit_level limit p held =
    let parts = and_parts (is_known limit.privileges && not (bits_of limit.privileges == 0)) (all_below 31 (λ number. not (holds limit.privileges number) || has_level level.Schema number)) limit.restricts in
    let known = and_parts (is_known limit.privileges) (not (bits_of limit.privileges == 0)) parts.0 in
    implied (holds limit.privileges p) (has_level level.Schema p)
    (below_at 31 p (λ number. not (holds limit.privileges number) || has_level level.Schema number) parts.1 (held_below limit.privileges p known.0 held)) held

pub limited_level : (limits : List Limit) (schema : List ℕ) (p : ℕ) → limited limits schema p ≡ true → has_level level.Schema p ≡ true
limited_level [] schema p is = never is
limited_level (limit ∷ limits) schema p is =
    elim (or_cases (text_eq schema limit.schema && holds limit.privileges p) (limited limits schema p) is) [
      | inl here ↦ limit_level limit p (and_parts (text_eq schema limit.schema) (holds limit.privileges p) here).1
      | inr later ↦ limited_level limits schema p later
    ]

-- ---- roles

named_member : (roles : List AuthId) (role : AuthId) → list_all is_named roles ≡ true → lists roles role ≡ true → is_named role ≡ true
named_member [] role each listed = never listed
named_member (first ∷ roles) role each listed =
    let parts = and_parts (is_named first) (list_all is_named roles) each in
    elim (or_cases (same_auth role first) (lists roles role) listed) [
      | inl here ↦ ap is_named (equal_from_same_auth role first here) ∙ parts.0
      | inr later ↦ named_member roles role parts.1 later
    ]

roles_named : (roles accounts : List AuthId) (option : Bool) → is_statement (GrantRoles roles accounts option) ≡ true → list_all is_named roles ≡ true
unfolding is_statement
roles_named roles accounts option legal = (and_parts (is_some_list roles) (list_all is_named roles) (and_parts (are_roles roles) (is_some_list accounts) legal).0).1

pub grants_named_role : (s : Statement) (role to : AuthId) → is_statement s ≡ true → grants_role s role to ≡ true → is_named role ≡ true
grants_named_role (GrantRoles roles accounts option) role to legal granted =
    named_member roles role (roles_named roles accounts option legal) (and_parts (lists roles role) (lists accounts to) granted).0
grants_named_role s role to legal granted = cc
