-- What may be put of what REVOKE gives, and what else goes with what it takes.
use Rattle.std.proofs.Common.{sym, ◌≡◌, ◌∙◌, ap, ℕ, ◌==◌, Bool, true, false, cond, not, ◌&&◌, ◌||◌, List, [], ◌∷◌, Option, Some, None, refl, inl, inr}
use Rattle.std.proofs.lemmas.Bool.{and_from, and_parts, or_cases, or_left}
use Rattle.std.specs.List.{find}
use Rattle.std.specs.Option.{option_map, option_or}
use Rattle.acl_names.proofs.SameAuth.{equal_from_same_auth}
use Rattle.acl_names.specs.AuthId.{same_auth}
use Rattle.acl_names.specs.Text.{text_eq}
use Rattle.acl_names.specs.declared.auth.AuthId.{AuthId}
use Rattle.acl_model.specs.Effects.{gives, takes}
use Rattle.acl_model.specs.Refusals.{first_fault, may_revoke, no_account}
use Rattle.acl_model.specs.Rows.{holder, is_privilege_row, lists}
use Rattle.acl_model.specs.State.{State, stands}
use Rattle.acl_model.specs.Words.{names_dynamic, names_static}
use Rattle.acl_model.specs.declared.row.Row.{Row}
use Rattle.acl_model.specs.declared.row.Row.TheVariants.{Account, Global, Dynamic, DynamicGrant, Schema, Table, Column, Function, Procedure, Edge, Admin, Default, Restriction}
use Rattle.acl_rows.specs.Conditions.{has_its_level, names_stand}
use Rattle.acl_stmt.specs.Lists.{is_some_list}
use Rattle.acl_stmt.specs.Requests.{all_below, have_levels, is_request}
use Rattle.acl_stmt.specs.Statements.{is_statement}
use Rattle.acl_stmt.specs.Targets.{is_table, is_target, level_of}
use Rattle.acl_stmt.specs.declared.privileges.PrivList.{PrivList}
use Rattle.acl_stmt.specs.declared.refusal.Refusal.{Refusal}
use Rattle.acl_stmt.specs.declared.refusal.Refusal.TheVariants.{NoSuchAccount, NoSuchGrant}
use Rattle.acl_stmt.specs.declared.statement.Statement.TheVariants.{Revoke, RevokeAll}
use Rattle.acl_stmt.specs.declared.target.Target.{Target}
use Rattle.acl_stmt.specs.declared.target.Target.TheVariants as on
use Rattle.priv_sets.specs.Levels.{grant_option, has_level}
use Rattle.priv_sets.specs.Privileges.{is_global_level}
use Rattle.priv_sets.specs.StaticSet.{holds}
use Rattle.priv_sets.specs.declared.level.Level.TheVariants as level
use Rattle.revoke_effects.proofs.Giving.{gives_elsewhere, is_schema}
use Rattle.acl_rows.proofs.Below.{below_at}
use Rattle.acl_rows.proofs.NamedPrivileges.{named_below}
use Rattle.revoke_effects.proofs.Taking.{takes_all, takes_at}
use Rattle.revoke_effects.specs.Given.{is_restriction}
use Rattle.revoke_effects.specs.Taken.{taken_at}

-- the first of two is none where both together are
pub first_none : (one other : Option Refusal) → option_or one other ≡ None → one ≡ None
first_none None other none = refl
first_none (Some e) other none = cc

-- each account that is listed stands, where none is missing
all_stand : (state : State) (accounts : List AuthId) (a : AuthId) → find (λ b. not (stands state b)) accounts ≡ None → lists accounts a ≡ true → stands state a ≡ true
all_stand state [] a none listed = cc
all_stand state (b ∷ accounts) a none listed = at (stands state b) (same_auth a b) refl refl none listed (all_stand state accounts a)
  where
    at : (t u : Bool) → stands state b ≡ t → same_auth a b ≡ u → cond (not t) (Some b) (find (λ b. not (stands state b)) accounts) ≡ None
        → (u || lists accounts a) ≡ true → (find (λ b. not (stands state b)) accounts ≡ None → lists accounts a ≡ true → stands state a ≡ true) → stands state a ≡ true
    at false u gone same missing found rest = cc
    at true true there same missing found rest = ap (λ (x : AuthId). stands state x) (equal_from_same_auth a b same) ∙ there
    at true false there same missing found rest = rest missing found

none_missing : (o : Option AuthId) → option_map (λ a. NoSuchAccount a) o ≡ None → o ≡ None
none_missing None none = refl
none_missing (Some a) none = cc

listed_stands : (state : State) (privileges : PrivList) (target : Target) (accounts : List AuthId) (a : AuthId) → first_fault state (Revoke privileges target accounts) ≡ None
    → lists accounts a ≡ true → stands state a ≡ true
unfolding first_fault
listed_stands state privileges target accounts a none listed =
    all_stand state accounts a
    (none_missing (find (λ b. not (stands state b)) accounts)
    (first_none (no_account state accounts) (option_map (λ b. NoSuchGrant b) (find (λ b. not (may_revoke state privileges target b)) accounts)) none)) listed

plain_fits : (privileges : PrivList) (target : Target) (accounts : List AuthId) → is_statement (Revoke privileges target accounts) ≡ true
    → all_below 31 (λ number. not (holds privileges.plain number) || has_level (level_of target) number) ≡ true
unfolding is_statement is_request
plain_fits privileges target accounts legal =
    let request = and_parts (have_levels privileges target && is_target target) (is_some_list accounts) legal in
    let levels = and_parts (have_levels privileges target) (is_target target) request.0 in
    let fits = and_parts (all_below 31 (λ number. not (holds privileges.plain number) || has_level (level_of target) number) && (not (is_some_list privileges.columns) || is_table target))
    (privileges.dynamic == 0 || is_global_level (level_of target)) levels.0 in
    (and_parts (all_below 31 (λ number. not (holds privileges.plain number) || has_level (level_of target) number)) (not (is_some_list privileges.columns) || is_table target) fits.0).0

-- a privilege that is named has the level of the target
named_fits : (privileges : PrivList) (target : Target) (accounts : List AuthId) (p : ℕ) → is_statement (Revoke privileges target accounts) ≡ true
    → names_static privileges (level_of target) p ≡ true → has_level (level_of target) p ≡ true
named_fits privileges target accounts p legal named =
    elim (or_cases (privileges.all && has_level (level_of target) p && not (p == grant_option)) (holds privileges.plain p) named) [
      | inl of_all ↦ (and_parts privileges.all (has_level (level_of target) p) (and_parts (privileges.all && has_level (level_of target) p) (not (p == grant_option)) of_all).0).1
      | inr held ↦ implied (holds privileges.plain p) (has_level (level_of target) p) held
          (below_at 31 p (λ number. not (holds privileges.plain number) || has_level (level_of target) number) (plain_fits privileges target accounts legal)
          (named_below privileges (level_of target) p named))
    ]
  where
    implied : (b c : Bool) → b ≡ true → (not b || c) ≡ true → c ≡ true
    implied true c is either = either
    implied false c is either = cc

second_is_false : (b : Bool) → (b || false) ≡ true → b ≡ true
second_is_false true is = is
second_is_false false is = is

-- what REVOKE at a schema gives
abbrev GivenParts : State → PrivList → List ℕ → List AuthId → Row → Type 0
GivenParts state privileges schema accounts (Restriction a p s) = (lists accounts a ≡ true) × (names_static privileges level.Schema p ≡ true)
GivenParts state privileges schema accounts _ = ⊥

given_parts : (state : State) (privileges : PrivList) (schema : List ℕ) (accounts : List AuthId) (row : Row)
    → gives [] (Revoke privileges (on.Schema schema) accounts) state row ≡ true → GivenParts state privileges schema accounts row
given_parts state privileges schema accounts (Restriction a p s) given =
    let held = and_parts (text_eq schema s && lists accounts a && names_static privileges level.Schema p) (state.rows (Global a p)) (second_is_false _ given) in
    let named = and_parts (text_eq schema s && lists accounts a) (names_static privileges level.Schema p) held.0 in
    ((and_parts (text_eq schema s) (lists accounts a) named.0).1, named.1)
given_parts state privileges schema accounts row given = cc

nowhere_else : (state : State) (privileges : PrivList) (target : Target) (accounts : List AuthId) (row : Row) → is_schema target ≡ false
    → gives [] (Revoke privileges target accounts) state row ≡ true → ⊥
nowhere_else state privileges target accounts row other given =
    let gone : false ≡ gives [] (Revoke privileges target accounts) state row = gives_elsewhere privileges target accounts state row other in
    cc

pub given_kind : (privileges : PrivList) (target : Target) (accounts : List AuthId) (state : State) (row : Row)
    → gives [] (Revoke privileges target accounts) state row ≡ true → is_restriction row ≡ true
given_kind privileges (on.Schema schema) accounts state (Restriction a p s) given = refl
given_kind privileges (on.Schema schema) accounts state row given = cc
given_kind privileges target accounts state row given = absurd (nowhere_else state privileges target accounts row refl given)

pub given_names : (privileges : PrivList) (target : Target) (accounts : List AuthId) (state : State) (row : Row) → first_fault state (Revoke privileges target accounts) ≡ None
    → gives [] (Revoke privileges target accounts) state row ≡ true → names_stand state row ≡ true
given_names privileges (on.Schema schema) accounts state (Restriction a p s) none given =
    listed_stands state privileges (on.Schema schema) accounts a none (given_parts state privileges schema accounts (Restriction a p s) given).0
given_names privileges (on.Schema schema) accounts state row none given = cc
given_names privileges target accounts state row none given = absurd (nowhere_else state privileges target accounts row refl given)

pub given_level : (privileges : PrivList) (target : Target) (accounts : List AuthId) (state : State) (row : Row) → is_statement (Revoke privileges target accounts) ≡ true
    → gives [] (Revoke privileges target accounts) state row ≡ true → has_its_level row ≡ true
given_level privileges (on.Schema schema) accounts state (Restriction a p s) legal given =
    named_fits privileges (on.Schema schema) accounts p legal (given_parts state privileges schema accounts (Restriction a p s) given).1
given_level privileges (on.Schema schema) accounts state row legal given = cc
given_level privileges target accounts state row legal given = absurd (nowhere_else state privileges target accounts row refl given)

-- no other row goes
privilege_taken : (privileges : PrivList) (target : Target) (row : Row) → is_privilege_row row ≡ false → taken_at privileges target row ≡ false
privilege_taken privileges on.Global row other = globally row other
  where
    globally : (r : Row) → is_privilege_row r ≡ false → taken_at privileges on.Global r ≡ false
    globally (Account a) other_row = refl
    globally (Edge role to) other_row = refl
    globally (Admin role to) other_row = refl
    globally (Default of role) other_row = refl
    globally r other_row = cc
privilege_taken privileges (on.Schema schema) (Schema a s p) other = cc
privilege_taken privileges (on.Schema schema) row other = refl
privilege_taken privileges (on.Table schema table) (Table a s t p) other = cc
privilege_taken privileges (on.Table schema table) (Column a s t c p) other = cc
privilege_taken privileges (on.Table schema table) row other = refl
privilege_taken privileges (on.Function schema name) (Function a s f p) other = cc
privilege_taken privileges (on.Function schema name) row other = refl
privilege_taken privileges (on.Procedure schema name) (Procedure a s f p) other = cc
privilege_taken privileges (on.Procedure schema name) row other = refl

pub taken_kind : (privileges : PrivList) (target : Target) (accounts : List AuthId) (row : Row) → takes [] (Revoke privileges target accounts) row ≡ true → is_privilege_row row ≡ true
taken_kind privileges target accounts row taken = at (is_privilege_row row) refl
  where
    at : (t : Bool) → is_privilege_row row ≡ t → t ≡ true
    at true is = refl
    at false other =
        let here = and_parts (lists accounts (holder row)) (taken_at privileges target row) (sym (takes_at privileges accounts target row) ∙ taken) in
        sym (privilege_taken privileges target row other) ∙ here.1

pub taken_option : (privileges : PrivList) (target : Target) (accounts : List AuthId) (a : AuthId) (d : ℕ) → takes [] (Revoke privileges target accounts) (Dynamic a d) ≡ true
    → takes [] (Revoke privileges target accounts) (DynamicGrant a d) ≡ true
taken_option privileges target accounts a d taken =
    let parts = and_parts (lists accounts a) (taken_at privileges target (Dynamic a d)) (sym (takes_at privileges accounts target (Dynamic a d)) ∙ taken) in
    takes_at privileges accounts target (DynamicGrant a d) ∙ and_from (lists accounts a) (taken_at privileges target (DynamicGrant a d)) parts.0 (with_option target parts.1)
  where
    with_option : (on_target : Target) → taken_at privileges on_target (Dynamic a d) ≡ true → taken_at privileges on_target (DynamicGrant a d) ≡ true
    with_option on.Global named = or_left (names_dynamic privileges d) (names_static privileges level.Global grant_option) named
    with_option _ named = named

pub all_taken_kind : (accounts : List AuthId) (row : Row) → takes [] (RevokeAll accounts) row ≡ true → is_privilege_row row ≡ true
all_taken_kind accounts row taken = (and_parts (lists accounts (holder row)) (is_privilege_row row) (sym (takes_all accounts row) ∙ taken)).1
