-- Privilege by privilege, all rows that a GRANT gives to an account come.
use Rattle.std.proofs.Common.{◌≡◌, ◌∙◌, ap, sym, refl, ℕ, ◌≤◌, Bool, true, false, not, ◌&&◌, ◌||◌, List, [], ◌∷◌, nat_eq, arith, Result, Ok, Err}
use Rattle.std.proofs.Math.Bool.{and-false, or-false}
use Rattle.std.proofs.lemmas.Bool.{and_parts}
use Rattle.std.proofs.lemmas.Bool.Decides.{nat_tests}
use Rattle.std.specs.List.{list_any}
use Rattle.std.specs.Result.{IfOk}
use Rattle.acl_names.proofs.SameAuth.{text_eq_itself}
use Rattle.acl_names.specs.AuthId.{same_auth}
use Rattle.acl_names.specs.Text.{text_eq}
use Rattle.acl_names.specs.declared.auth.AuthId.{AuthId}
use Rattle.acl_model.specs.Rows.{holder, same_row}
use Rattle.acl_model.specs.State.{State}
use Rattle.acl_model.specs.Words.{names_column, names_dynamic}
use Rattle.acl_model.specs.declared.row.Row.{Row}
use Rattle.acl_model.specs.declared.row.Row.TheVariants.{Global, Dynamic, DynamicGrant, Schema, Table, Column, Function, Procedure, Restriction}
use Rattle.acl_stmt.specs.declared.columns.ColumnPriv.{ColumnPriv}
use Rattle.acl_stmt.specs.declared.limit.Limit.{Limit}
use Rattle.acl_stmt.specs.declared.privileges.PrivList.{PrivList}
use Rattle.acl_stmt.specs.declared.target.Target.{Target}
use Rattle.acl_stmt.specs.declared.target.Target.TheVariants as on
use Rattle.grant_effects.proofs.Adding.{and_any, no_items, of_same_row, same_added}
use Rattle.grant_effects.proofs.Below.{any_below, covered, none_below, same_tests}
use Rattle.grant_effects.proofs.Bools.{last_first, one_within, one_within_two, two_within}
use Rattle.acl_rows.proofs.NamedPrivileges.{dynamic_below}
use Rattle.grant_effects.proofs.Numbers.{number_below}
use Rattle.grant_effects.specs.Given.{column_given, dynamic_given, limit_gives, restriction_given, row_at, static_given}
use Rattle.grant_effects.specs.Granted.{grants_number}
use Rattle.grant_effects.specs.Lists.{Adds}
use Rattle.priv_sets.specs.StaticSet.{holds}

-- static privileges

none_there : (n : ℕ) (b : Bool) (f : ℕ → Bool) → any_below n (λ m. false && f m) ≡ (b && false)
none_there n b f = none_below n (λ m. false) (λ m. refl) ∙ sym (and-false b)

static_rows : (state : State) (privileges : PrivList) (target : Target) (option : Bool) (account : AuthId) (row : Row)
    → any_below 31 (λ m. static_given state privileges target option row && same_row row (row_at target account m))
    ≡ (same_auth (holder row) account && static_given state privileges target option row)
unfolding static_given
static_rows state privileges on.Global option account (Global a p) =
    covered 31 p (λ m. grants_number privileges on.Global option p) (same_auth a account) _ (number_below privileges on.Global option p) (λ m. refl)
static_rows state privileges (on.Schema u) option account (Schema a s p) =
    let given = grants_number privileges (on.Schema u) option p in
    let free = not (state.rows (Restriction a p s)) in
    covered 31 p (λ m. text_eq s u && given && free) (same_auth a account && text_eq s u) _
    (λ is. number_below privileges (on.Schema u) option p (and_parts (text_eq s u) given (and_parts (text_eq s u && given) free is).0).1) (λ m. refl)
    ∙ one_within_two (same_auth a account) (text_eq s u) given free
static_rows state privileges (on.Table u v) option account (Table a s t p) =
    let given = grants_number privileges (on.Table u v) option p in
    covered 31 p (λ m. text_eq s u && text_eq t v && given) (same_auth a account && text_eq s u && text_eq t v) _
    (λ is. number_below privileges (on.Table u v) option p (and_parts (text_eq s u && text_eq t v) given is).1) (λ m. refl)
    ∙ two_within (same_auth a account) (text_eq s u) (text_eq t v) given
static_rows state privileges (on.Function u v) option account (Function a s f p) =
    let given = grants_number privileges (on.Function u v) option p in
    covered 31 p (λ m. text_eq s u && text_eq f v && given) (same_auth a account && text_eq s u && text_eq f v) _
    (λ is. number_below privileges (on.Function u v) option p (and_parts (text_eq s u && text_eq f v) given is).1) (λ m. refl)
    ∙ two_within (same_auth a account) (text_eq s u) (text_eq f v) given
static_rows state privileges (on.Procedure u v) option account (Procedure a s f p) =
    let given = grants_number privileges (on.Procedure u v) option p in
    covered 31 p (λ m. text_eq s u && text_eq f v && given) (same_auth a account && text_eq s u && text_eq f v) _
    (λ is. number_below privileges (on.Procedure u v) option p (and_parts (text_eq s u && text_eq f v) given is).1) (λ m. refl)
    ∙ two_within (same_auth a account) (text_eq s u) (text_eq f v) given
static_rows state privileges target option account row = none_there 31 (same_auth (holder row) account) (λ m. same_row row (row_at target account m))

pub statics_covered : (state : State) (privileges : PrivList) (target : Target) (option : Bool) (account : AuthId) (row : Row)
    → any_below 31 (λ m. static_given state privileges target option (row_at target account m) && same_row row (row_at target account m))
    ≡ (same_auth (holder row) account && static_given state privileges target option row)
statics_covered state privileges target option account row =
    same_tests 31 _ _ (λ m. of_same_row (static_given state privileges target option) row (row_at target account m)) ∙ static_rows state privileges target option account row

pub statics_done : {old new : List Row} (state : State) (privileges : PrivList) (target : Target) (option : Bool) (account : AuthId) (n : ℕ) → 31 ≤ n → n ≤ 31
    → Adds (λ row. any_below n (λ m. static_given state privileges target option (row_at target account m) && same_row row (row_at target account m))) old new
    → Adds (λ row. same_auth (holder row) account && static_given state privileges target option row) old new
statics_done state privileges target option account n most least added =
    let all : n ≡ 31 = omega arith in
    same_added added (λ row.
    ap (λ k. any_below k (λ m. static_given state privileges target option (row_at target account m) && same_row row (row_at target account m))) all
    ∙ statics_covered state privileges target option account row)

-- whether a row of the target is given
pub not_given : (state : State) (privileges : PrivList) (target : Target) (option : Bool) (account : AuthId) (p : ℕ)
    → grants_number privileges target option p ≡ false → false ≡ static_given state privileges target option (row_at target account p)
unfolding static_given
not_given state privileges on.Global option account p none = sym none
not_given state privileges (on.Schema u) option account p none = rw none (sym (ap (λ t. t && not (state.rows (Restriction account p u))) (and-false (text_eq u u))))
not_given state privileges (on.Table u v) option account p none = rw none (sym (and-false (text_eq u u && text_eq v v)))
not_given state privileges (on.Function u v) option account p none = rw none (sym (and-false (text_eq u u && text_eq v v)))
not_given state privileges (on.Procedure u v) option account p none = rw none (sym (and-false (text_eq u u && text_eq v v)))

own_names : (u v : List ℕ) (given : Bool) → given ≡ true → true ≡ (text_eq u u && text_eq v v && given)
own_names u v given is = rw (text_eq_itself u, text_eq_itself v, is) refl

pub given_elsewhere : (state : State) (privileges : PrivList) (target : Target) (option : Bool) (account : AuthId) (p : ℕ)
    → ((u : List ℕ) → target ≡ on.Schema u → ⊥) → grants_number privileges target option p ≡ true → true ≡ static_given state privileges target option (row_at target account p)
unfolding static_given
given_elsewhere state privileges on.Global option account p other given = sym given
given_elsewhere state privileges (on.Schema u) option account p other given = absurd (other u refl)
given_elsewhere state privileges (on.Table u v) option account p other given = own_names u v _ given
given_elsewhere state privileges (on.Function u v) option account p other given = own_names u v _ given
given_elsewhere state privileges (on.Procedure u v) option account p other given = own_names u v _ given

pub given_at_schema : (state : State) (privileges : PrivList) (option : Bool) (account : AuthId) (u : List ℕ) (p : ℕ)
    → grants_number privileges (on.Schema u) option p ≡ true → not (state.rows (Restriction account p u)) ≡ static_given state privileges (on.Schema u) option (row_at (on.Schema u) account p)
unfolding static_given
given_at_schema state privileges option account u p given = rw (given, text_eq_itself u) refl

pub given_unless_restricted : (state : State) (privileges : PrivList) (target : Target) (option : Bool) (account : AuthId) (p : ℕ) (u : List ℕ) (held : Bool) (a : AuthId) (s : List ℕ)
    → target ≡ on.Schema u → grants_number privileges target option p ≡ true → held ≡ state.rows (Restriction a p s) → a ≡ account → s ≡ u
    → not held ≡ static_given state privileges target option (row_at target account p)
given_unless_restricted state privileges target option account p u held a s is given stood same_account same_schema =
    let at_schema : grants_number privileges (on.Schema u) option p ≡ true = ap (λ (t : Target). grants_number privileges t option p) (sym is) ∙ given in
    ap not (stood ∙ (λ i. state.rows (Restriction (same_account i) p (same_schema i))))
    ∙ given_at_schema state privileges option account u p at_schema
    ∙ ap (λ (t : Target). static_given state privileges t option (row_at t account p)) (sym is)

-- dynamic privileges

or_none : (b o : Bool) → (b || (o && false)) ≡ b
or_none b o = ap (λ t. b || t) (and-false o) ∙ or-false b

neither : (n o : Bool) → (n && (false || (o && false))) ≡ false
neither n o = ap (λ t. n && t) (and-false o) ∙ and-false n

with_option : (n o s t : Bool) → (n && (o && (s && t))) ≡ (n && ((o && s) && t))
with_option n true s t = refl
with_option n false s t = refl

option_last : (o s n : Bool) → ((o && s) && n) ≡ (s && (o && n))
option_last true true n = refl
option_last true false n = refl
option_last false true n = refl
option_last false false n = refl

pub dynamics_covered : (privileges : PrivList) (option : Bool) (account : AuthId) (row : Row)
    → any_below 20 (λ d. names_dynamic privileges d && (same_row row (Dynamic account d) || (option && same_row row (DynamicGrant account d))))
    ≡ (same_auth (holder row) account && dynamic_given privileges on.Global option row)
unfolding dynamic_given
dynamics_covered privileges option account (Dynamic a p) =
    covered 20 p (names_dynamic privileges) (same_auth a account) _ (dynamic_below privileges p) (λ m. ap (λ t. names_dynamic privileges m && t) (or_none (same_auth a account && nat_eq p m) option))
dynamics_covered privileges option account (DynamicGrant a p) =
    covered 20 p (names_dynamic privileges) (option && same_auth a account) _ (dynamic_below privileges p) (λ m. with_option (names_dynamic privileges m) option (same_auth a account) (nat_eq p m))
    ∙ option_last option (same_auth a account) (names_dynamic privileges p)
dynamics_covered privileges option account row = none_below 20 _ (λ d. neither (names_dynamic privileges d) option) ∙ sym (and-false (same_auth (holder row) account))

pub dynamics_done : {old new : List Row} (privileges : PrivList) (option : Bool) (account : AuthId) (target : Target) (n : ℕ) → target ≡ on.Global → 20 ≤ n → n ≤ 20
    → Adds (λ row. any_below n (λ d. names_dynamic privileges d && (same_row row (Dynamic account d) || (option && same_row row (DynamicGrant account d))))) old new
    → Adds (λ row. same_auth (holder row) account && dynamic_given privileges target option row) old new
dynamics_done privileges option account target n is most least added =
    let all : n ≡ 20 = omega arith in
    same_added added (λ row.
    ap (λ k. any_below k (λ d. names_dynamic privileges d && (same_row row (Dynamic account d) || (option && same_row row (DynamicGrant account d))))) all
    ∙ dynamics_covered privileges option account row
    ∙ ap (λ (t : Target). same_auth (holder row) account && dynamic_given privileges t option row) (sym is))

-- without a dynamic privilege
pub no_dynamics : (privileges : PrivList) (target : Target) (option : Bool) (row : Row) (b : Bool) → (target ≡ on.Global → ⊥) → (b && dynamic_given privileges target option row) ≡ false
unfolding dynamic_given
no_dynamics privileges on.Global option row b other = absurd (other refl)
no_dynamics privileges target option row b other = and-false b

-- columns

-- some column of the list makes the row
abbrev pub columns_of : AuthId → List ℕ → List ℕ → Row → ColumnPriv → Bool
columns_of account u v row columns = list_any (λ name. same_row row (Column account u v name columns.privilege)) columns.names

named_columns : (names : List (List ℕ)) (k q : Bool) (c : List ℕ) → list_any (λ name. (k && text_eq c name) && q) names ≡ (k && (q && list_any (text_eq c) names))
named_columns [] k q c = none k q
  where
    none : (k q : Bool) → false ≡ (k && (q && false))
    none true true = refl
    none true false = refl
    none false q = refl
named_columns (x ∷ xs) k q c = ap (λ t. ((k && text_eq c x) && q) || t) (named_columns xs k q c) ∙ by k q (text_eq c x) (list_any (text_eq c) xs)
  where
    by : (k q s t : Bool) → (((k && s) && q) || (k && (q && t))) ≡ (k && (q && (s || t)))
    by true true true t = refl
    by true true false t = refl
    by true false true t = refl
    by true false false t = refl
    by false q s t = refl

back : (p q : ℕ) → nat_eq p q ≡ nat_eq q p
back p q = grind (arith, nat_tests)

listed_columns : (lists : List ColumnPriv) (k : Bool) (p : ℕ) (c : List ℕ)
    → list_any (λ l. list_any (λ name. (k && text_eq c name) && nat_eq p l.privilege) l.names) lists
    ≡ (k && list_any (λ l. nat_eq l.privilege p && list_any (text_eq c) l.names) lists)
listed_columns [] k p c = sym (and-false k)
listed_columns (l ∷ ls) k p c =
    ap (λ t. list_any (λ name. (k && text_eq c name) && nat_eq p l.privilege) l.names || t) (listed_columns ls k p c)
    ∙ ap (λ t. t || (k && list_any (λ l. nat_eq l.privilege p && list_any (text_eq c) l.names) ls))
    (named_columns l.names k (nat_eq p l.privilege) c ∙ ap (λ t. k && (t && list_any (text_eq c) l.names)) (back p l.privilege))
    ∙ by k (nat_eq l.privilege p && list_any (text_eq c) l.names) (list_any (λ l. nat_eq l.privilege p && list_any (text_eq c) l.names) ls)
  where
    by : (k s t : Bool) → ((k && s) || (k && t)) ≡ (k && (s || t))
    by true s t = refl
    by false s t = refl

no_columns : (lists : List ColumnPriv) → list_any (λ l. list_any (λ name. false) l.names) lists ≡ false
no_columns [] = refl
no_columns (l ∷ ls) = ap (λ t. t || list_any (λ l. list_any (λ name. false) l.names) ls) (no_items l.names) ∙ no_columns ls

and_and : (a x y n : Bool) → (((a && x) && y) && n) ≡ (a && ((x && y) && n))
and_and true x y n = refl
and_and false x y n = refl

pub columns_covered : (privileges : PrivList) (u v : List ℕ) (account : AuthId) (row : Row)
    → list_any (λ l. list_any (λ name. same_row row (Column account u v name l.privilege)) l.names) privileges.columns
    ≡ (same_auth (holder row) account && column_given privileges (on.Table u v) row)
unfolding column_given
columns_covered privileges u v account (Column a s t c p) =
    listed_columns privileges.columns (same_auth a account && text_eq s u && text_eq t v) p c ∙ and_and (same_auth a account) (text_eq s u) (text_eq t v) (names_column privileges p c)
columns_covered privileges u v account row = no_columns privileges.columns ∙ sym (and-false (same_auth (holder row) account))

pub columns_done : {old new : List Row} (privileges : PrivList) (target : Target) (u v : List ℕ) (account : AuthId) → target ≡ on.Table u v
    → Adds (λ row. list_any (λ l. list_any (λ name. same_row row (Column account u v name l.privilege)) l.names) privileges.columns) old new
    → Adds (λ row. same_auth (holder row) account && column_given privileges target row) old new
columns_done privileges target u v account is added =
    same_added added (λ row. columns_covered privileges u v account row ∙ ap (λ (t : Target). same_auth (holder row) account && column_given privileges t row) (sym is))

pub no_columns_elsewhere : (privileges : PrivList) (target : Target) (row : Row) (b : Bool) → ((u v : List ℕ) → target ≡ on.Table u v → ⊥) → (b && column_given privileges target row) ≡ false
unfolding column_given
no_columns_elsewhere privileges (on.Table u v) row b other = absurd (other u v refl)
no_columns_elsewhere privileges target row b other = and-false b

-- restrictions

limit_rows : (state : State) (privileges : PrivList) (target : Target) (option : Bool) (limit : Limit) (account : AuthId) (row : Row)
    → any_below 31 (λ m. limit_gives state privileges target option row limit && same_row row (Restriction account m limit.schema))
    ≡ (same_auth (holder row) account && limit_gives state privileges target option row limit)
unfolding limit_gives
limit_rows state privileges on.Global option limit account (Restriction a p s) =
    let given = grants_number privileges on.Global option p in
    let rest = holds limit.privileges p && given && not (state.rows (Global a p)) && not (state.rows (Schema a s p)) in
    covered 31 p (λ m. text_eq s limit.schema && rest) (same_auth a account && text_eq s limit.schema) _
    (λ is.
    let all = (and_parts (text_eq s limit.schema) rest is).1 in
    let parts = and_parts (holds limit.privileges p && given) (not (state.rows (Global a p))) (and_parts (holds limit.privileges p && given && not (state.rows (Global a p))) (not (state.rows (Schema a s p))) all).0 in
    number_below privileges on.Global option p (and_parts (holds limit.privileges p) given parts.0).1)
    (λ m. ap (λ t. (text_eq s limit.schema && rest) && t) (last_first (same_auth a account) (nat_eq p m) (text_eq s limit.schema)))
    ∙ one_within (same_auth a account) (text_eq s limit.schema) rest
limit_rows state privileges target option limit account row = none_there 31 (same_auth (holder row) account) (λ m. same_row row (Restriction account m limit.schema))

pub limit_covered : (state : State) (privileges : PrivList) (target : Target) (option : Bool) (limit : Limit) (account : AuthId) (row : Row)
    → any_below 31 (λ m. limit_gives state privileges target option (Restriction account m limit.schema) limit && same_row row (Restriction account m limit.schema))
    ≡ (same_auth (holder row) account && limit_gives state privileges target option row limit)
limit_covered state privileges target option limit account row =
    same_tests 31 _ _ (λ m. of_same_row (λ r. limit_gives state privileges target option r limit) row (Restriction account m limit.schema)) ∙ limit_rows state privileges target option limit account row

pub limit_done : {old new : List Row} (state : State) (privileges : PrivList) (target : Target) (option : Bool) (limit : Limit) (account : AuthId) (n : ℕ) → 31 ≤ n → n ≤ 31
    → Adds (λ row. any_below n (λ m. limit_gives state privileges target option (Restriction account m limit.schema) limit && same_row row (Restriction account m limit.schema))) old new
    → Adds (λ row. same_auth (holder row) account && limit_gives state privileges target option row limit) old new
limit_done state privileges target option limit account n most least added =
    let all : n ≡ 31 = omega arith in
    same_added added (λ row.
    ap (λ k. any_below k (λ m. limit_gives state privileges target option (Restriction account m limit.schema) limit && same_row row (Restriction account m limit.schema))) all
    ∙ limit_covered state privileges target option limit account row)

pub limits_done : {old new : List Row} (state : State) (limits : List Limit) (privileges : PrivList) (target : Target) (option : Bool) (account : AuthId)
    → Adds (λ row. list_any (λ limit. same_auth (holder row) account && limit_gives state privileges target option row limit) limits) old new
    → Adds (λ row. same_auth (holder row) account && restriction_given state limits privileges target option row) old new
limits_done state limits privileges target option account added =
    same_added added (λ row. and_any (same_auth (holder row) account) (limit_gives state privileges target option row) limits)

-- whether a restriction is handed on
pub no_limit : (state : State) (privileges : PrivList) (target : Target) (option : Bool) (limit : Limit) (row : Row) → (target ≡ on.Global → ⊥) → false ≡ limit_gives state privileges target option row limit
unfolding limit_gives
no_limit state privileges on.Global option limit row other = absurd (other refl)
no_limit state privileges target option limit row other = refl

pub not_limited : (state : State) (privileges : PrivList) (target : Target) (option : Bool) (limit : Limit) (account : AuthId) (p : ℕ) → target ≡ on.Global
    → (holds limit.privileges p && grants_number privileges target option p) ≡ false → false ≡ limit_gives state privileges target option (Restriction account p limit.schema) limit
unfolding limit_gives
not_limited state privileges on.Global option limit account p is none = rw none (sym (and-false (text_eq limit.schema limit.schema)))
not_limited state privileges target option limit account p is none = refl

pub limited_if_new : {E : Type 0} (result : Result Bool E) (state : State) (privileges : PrivList) (target : Target) (option : Bool) (limit : Limit) (account : AuthId) (p : ℕ) → target ≡ on.Global
    → (holds limit.privileges p && grants_number privileges target option p) ≡ true
    → IfOk result (λ new. new ≡ (not (state.rows (Global account p)) && not (state.rows (Schema account limit.schema p))))
    → IfOk result (λ gives. gives ≡ limit_gives state privileges target option (Restriction account p limit.schema) limit)
unfolding limit_gives
limited_if_new (Err e) state privileges target option limit account p is granted new = tt
limited_if_new (Ok b) state privileges on.Global option limit account p is granted new = new ∙ rw (text_eq_itself limit.schema, granted) refl
limited_if_new (Ok b) state privileges target option limit account p is granted new = cc
