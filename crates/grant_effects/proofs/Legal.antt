-- The rows that a legal GRANT gives may stand.
use Rattle.std.proofs.Common.{◌≡◌, ◌∙◌, ap, sym, refl, ℕ, ◌<◌, Bool, true, false, cond, not, ◌&&◌, ◌||◌, List, [], ◌∷◌, Some, None, nat_eq, inl, inr, true≢false}
use Rattle.std.proofs.lemmas.Bool.{and_parts, eqb-true, lt-ltb, or_cases}
use Rattle.std.specs.List.{find, list_any}
use Rattle.std.specs.Option.{option_map}
use Rattle.acl_names.proofs.SameAuth.{equal_from_same_auth}
use Rattle.acl_names.specs.AuthId.{same_auth}
use Rattle.acl_names.specs.Text.{text_eq}
use Rattle.acl_names.specs.declared.auth.AuthId.{AuthId}
use Rattle.acl_model.specs.Effects.{gives}
use Rattle.acl_model.specs.Refusals.{first_fault, no_account}
use Rattle.acl_model.specs.Rows.{holder, lists}
use Rattle.acl_model.specs.State.{State, stands}
use Rattle.acl_model.specs.Words.{gives_grant_option, names_column, names_dynamic, names_static}
use Rattle.acl_model.specs.declared.row.Row.{Row}
use Rattle.acl_model.specs.declared.row.Row.TheVariants.{Account, Global, Dynamic, DynamicGrant, Schema, Table, Column, Function, Procedure, Edge, Admin, Default, Restriction}
use Rattle.acl_rows.specs.Conditions.{has_its_level, names_stand}
use Rattle.acl_stmt.specs.Columns.{is_column_list}
use Rattle.acl_stmt.specs.Entries.{is_entry}
use Rattle.acl_stmt.specs.Limits.{is_limit}
use Rattle.acl_stmt.specs.Requests.{all_below, is_request}
use Rattle.acl_stmt.specs.Statements.{is_statement}
use Rattle.acl_stmt.specs.Targets.{level_of}
use Rattle.acl_stmt.specs.declared.columns.ColumnPriv.{ColumnPriv}
use Rattle.acl_stmt.specs.declared.limit.Limit.{Limit}
use Rattle.acl_stmt.specs.declared.privileges.PrivList.{PrivList}
use Rattle.acl_stmt.specs.declared.refusal.Refusal.TheVariants.{NoSuchAccount}
use Rattle.acl_stmt.specs.declared.statement.Statement.TheVariants.{Grant}
use Rattle.acl_stmt.specs.declared.target.Target.{Target}
use Rattle.acl_stmt.specs.declared.target.Target.TheVariants as on
use Rattle.acl_rows.proofs.Below.{below_at}
use Rattle.acl_rows.proofs.NamedPrivileges.{dynamic_below, held_below, named_below}
use Rattle.grant_effects.proofs.Splitting.{gives_split}
use Rattle.grant_effects.specs.Given.{column_given, dynamic_given, given_of, limit_gives, restriction_given, static_given}
use Rattle.grant_effects.specs.Granted.{grants_number}
use Rattle.priv_sets.specs.Levels.{grant_option, has_level}
use Rattle.priv_sets.specs.StaticSet.{holds, is_known}
use Rattle.priv_sets.specs.declared.level.Level.TheVariants as level

-- each account of the list stands
stands_first : (state : State) (x a : AuthId) (xs : List AuthId) (there : Bool) → stands state x ≡ there → (no_account state xs ≡ None → lists xs a ≡ true → stands state a ≡ true)
    → option_map (λ b. NoSuchAccount b) (cond (not there) (Some x) (find (λ b. not (stands state b)) xs)) ≡ None → (same_auth a x || lists xs a) ≡ true → stands state a ≡ true
stands_first state x a xs false gone rest fault listed = cc
stands_first state x a xs true there rest fault listed = elim (or_cases (same_auth a x) (lists xs a) listed) [
  | inl same ↦ ap (stands state) (equal_from_same_auth a x same) ∙ there
  | inr later ↦ rest fault later
]

listed_stands : (state : State) (accounts : List AuthId) (a : AuthId) → no_account state accounts ≡ None → lists accounts a ≡ true → stands state a ≡ true
listed_stands state [] a none listed = absurd (true≢false (sym listed))
listed_stands state (x ∷ xs) a none listed = stands_first state x a xs (stands state x) refl (listed_stands state xs a) none listed

never : {A : Type 0} → false ≡ true → A
never is = absurd (true≢false (sym is))

module _ (limits : List Limit) (privileges : PrivList) (target : Target) (accounts : List AuthId) (option : Bool) (state : State) where
  holder_stands : (row : Row) → first_fault state (Grant privileges target accounts option) ≡ None
      → gives limits (Grant privileges target accounts option) state row ≡ true → stands state (holder row) ≡ true
  unfolding first_fault
  holder_stands row none given =
      listed_stands state accounts (holder row) none
      (and_parts (lists accounts (holder row)) (given_of state limits privileges target option row) (sym (gives_split state limits privileges accounts option target row) ∙ given)).0

  -- the accounts of its rows stand
  pub given_names : (row : Row) → first_fault state (Grant privileges target accounts option) ≡ None
      → gives limits (Grant privileges target accounts option) state row ≡ true → names_stand state row ≡ true
  given_names (Account a) none given = refl
  given_names (Edge role to) none given = never given
  given_names (Admin role to) none given = never given
  given_names (Default of role) none given = never given
  given_names (Global a p) none given = holder_stands (Global a p) none given
  given_names (Dynamic a d) none given = holder_stands (Dynamic a d) none given
  given_names (DynamicGrant a d) none given = holder_stands (DynamicGrant a d) none given
  given_names (Schema a s p) none given = holder_stands (Schema a s p) none given
  given_names (Table a s t p) none given = holder_stands (Table a s t p) none given
  given_names (Column a s t c p) none given = holder_stands (Column a s t c p) none given
  given_names (Function a s f p) none given = holder_stands (Function a s f p) none given
  given_names (Procedure a s f p) none given = holder_stands (Procedure a s f p) none given
  given_names (Restriction a p s) none given = holder_stands (Restriction a p s) none given

implied : (a b : Bool) → (not a || b) ≡ true → a ≡ true → b ≡ true
implied true b either is = either
implied false b either is = never is

level_of_option : (target : Target) → has_level (level_of target) grant_option ≡ true
unfolding has_level
level_of_option on.Global = refl
level_of_option (on.Schema s) = refl
level_of_option (on.Table s t) = refl
level_of_option (on.Function s f) = refl
level_of_option (on.Procedure s f) = refl

-- what is granted has the level of the target
number_level : (privileges : PrivList) (target : Target) (option : Bool) (p : ℕ) → is_request privileges target ≡ true → grants_number privileges target option p ≡ true → has_level (level_of target) p ≡ true
unfolding is_request grants_number
number_level privileges target option p request granted =
    let named_at = (and_parts (all_below 31 (λ n. not (holds privileges.plain n) || has_level (level_of target) n)) _ (and_parts _ _ (and_parts _ _ request).0).0).0 in
    elim (or_cases (names_static privileges (level_of target) p) (option && nat_eq p grant_option && gives_grant_option privileges target) granted) [
      | inl named ↦
          elim (or_cases (privileges.all && has_level (level_of target) p && not (nat_eq p grant_option)) (holds privileges.plain p) named) [
            | inl all ↦ (and_parts privileges.all (has_level (level_of target) p) (and_parts (privileges.all && has_level (level_of target) p) (not (nat_eq p grant_option)) all).0).1
            | inr held ↦ implied (holds privileges.plain p) (has_level (level_of target) p) (below_at 31 p (λ n. not (holds privileges.plain n) || has_level (level_of target) n) named_at (named_below privileges (level_of target) p named)) held
          ]
      | inr is_option ↦
          ap (has_level (level_of target)) (eqb-true p grant_option (and_parts option (nat_eq p grant_option) (and_parts (option && nat_eq p grant_option) (gives_grant_option privileges target) is_option).0).1)
          ∙ level_of_option target
    ]

column_level : (lists : List ColumnPriv) (p : ℕ) (c : List ℕ) → list_any (λ l. nat_eq l.privilege p && list_any (text_eq c) l.names) lists ≡ true → has_level level.Column p ≡ true
unfolding is_column_list
column_level [] p c named = never named
column_level (l ∷ ls) p c named =
    elim (or_cases (nat_eq l.privilege p && list_any (text_eq c) l.names) (list_any (λ x. nat_eq x.privilege p && list_any (text_eq c) x.names) ls) named) [
      | inl here ↦
          let rules = and_parts (has_level level.Column l.privilege) _ (and_parts _ _ (and_parts _ _ (and_parts _ _ l.listed).0).0).0 in
          ap (has_level level.Column) (sym (eqb-true l.privilege p (and_parts (nat_eq l.privilege p) (list_any (text_eq c) l.names) here).0)) ∙ rules.0
      | inr later ↦ column_level ls p c later
    ]

limit_level : (limit : Limit) (p : ℕ) → p < 31 → holds limit.privileges p ≡ true → has_level level.Schema p ≡ true
unfolding is_limit
limit_level limit p within held =
    let rules = (and_parts _ (all_below 31 (λ n. not (holds limit.privileges n) || has_level level.Schema n)) limit.restricts).1 in
    implied (holds limit.privileges p) (has_level level.Schema p) (below_at 31 p (λ n. not (holds limit.privileges n) || has_level level.Schema n) rules within) held

-- each part of what is given has its level
module _ (state : State) (privileges : PrivList) (option : Bool) where
  static_level : (target : Target) (row : Row) → is_request privileges target ≡ true → static_given state privileges target option row ≡ true → has_its_level row ≡ true
  unfolding static_given
  static_level on.Global (Global a p) request given = number_level privileges on.Global option p request given
  static_level (on.Schema u) (Schema a s p) request given =
      let named = grants_number privileges (on.Schema u) option p in
      number_level privileges (on.Schema u) option p request (and_parts (text_eq s u) named (and_parts (text_eq s u && named) (not (state.rows (Restriction a p s))) given).0).1
  static_level (on.Table u v) (Table a s t p) request given =
      number_level privileges (on.Table u v) option p request (and_parts (text_eq s u && text_eq t v) (grants_number privileges (on.Table u v) option p) given).1
  static_level (on.Function u v) (Function a s f p) request given =
      number_level privileges (on.Function u v) option p request (and_parts (text_eq s u && text_eq f v) (grants_number privileges (on.Function u v) option p) given).1
  static_level (on.Procedure u v) (Procedure a s f p) request given =
      number_level privileges (on.Procedure u v) option p request (and_parts (text_eq s u && text_eq f v) (grants_number privileges (on.Procedure u v) option p) given).1
  static_level target row request given = never given

  columns_level : (target : Target) (row : Row) → column_given privileges target row ≡ true → has_its_level row ≡ true
  unfolding column_given
  columns_level (on.Table u v) (Column a s t c p) given = column_level privileges.columns p c (and_parts (text_eq s u && text_eq t v) (names_column privileges p c) given).1
  columns_level target row given = never given

  dynamic_level : (target : Target) (row : Row) → dynamic_given privileges target option row ≡ true → has_its_level row ≡ true
  unfolding dynamic_given
  dynamic_level on.Global (Dynamic a d) given = lt-ltb d 20 (dynamic_below privileges d given)
  dynamic_level on.Global (DynamicGrant a d) given = lt-ltb d 20 (dynamic_below privileges d (and_parts option (names_dynamic privileges d) given).1)
  dynamic_level target row given = never given

  one_level : (target : Target) (limit : Limit) (row : Row) → limit_gives state privileges target option row limit ≡ true → has_its_level row ≡ true
  unfolding limit_gives is_limit
  one_level on.Global limit (Restriction a p s) given =
      let named = grants_number privileges on.Global option p in
      let rest = holds limit.privileges p && named && not (state.rows (Global a p)) && not (state.rows (Schema a s p)) in
      let held = (and_parts (holds limit.privileges p) named (and_parts (holds limit.privileges p && named) (not (state.rows (Global a p)))
      (and_parts (holds limit.privileges p && named && not (state.rows (Global a p))) (not (state.rows (Schema a s p))) (and_parts (text_eq s limit.schema) rest given).1).0).0).0 in
      let known = (and_parts (is_known limit.privileges) _ (and_parts _ _ limit.restricts).0).0 in
      limit_level limit p (held_below limit.privileges p known held) held
  one_level target limit row given = never given

  limits_level : (limits : List Limit) (target : Target) (row : Row) → restriction_given state limits privileges target option row ≡ true → has_its_level row ≡ true
  limits_level [] target row given = never given
  limits_level (x ∷ xs) target row given =
      elim (or_cases (limit_gives state privileges target option row x) (restriction_given state xs privileges target option row) given) [
        | inl here ↦ one_level target x row here
        | inr later ↦ limits_level xs target row later
      ]

-- each privilege that is given has the level of its row
pub given_level : (limits : List Limit) (privileges : PrivList) (target : Target) (accounts : List AuthId) (option : Bool) (state : State) (row : Row)
    → is_entry limits (Grant privileges target accounts option) ≡ true
    → gives limits (Grant privileges target accounts option) state row ≡ true → has_its_level row ≡ true
unfolding is_entry is_statement
given_level limits privileges target accounts option state row legal given =
    let request : is_request privileges target ≡ true = (and_parts _ _ (and_parts _ _ (and_parts _ _ (and_parts _ _ (and_parts _ _ legal).0).0).0).0).0 in
    let all = (and_parts (lists accounts (holder row)) (given_of state limits privileges target option row) (sym (gives_split state limits privileges accounts option target row) ∙ given)).1 in
    elim (or_cases _ (restriction_given state limits privileges target option row) all) [
      | inr restricts ↦ limits_level state privileges option limits target row restricts
      | inl three ↦ elim (or_cases (static_given state privileges target option row || column_given privileges target row) (dynamic_given privileges target option row) three) [
        | inr dynamic ↦ dynamic_level state privileges option target row dynamic
        | inl two ↦ elim (or_cases (static_given state privileges target option row) (column_given privileges target row) two) [
          | inl static ↦ static_level state privileges option target row request static
          | inr column ↦ columns_level state privileges option target row column
        ]
      ]
    ]
