-- Each printed statement is feasible after those before it.
use Rattle.std.proofs.Common.{◌≡◌, ◌∙◌, ap, sym, refl, ℕ, ◌<◌, Bool, true, false, not, cond, ◌&&◌, ◌||◌, List, [], ◌∷◌, ◌++◌}
use Rattle.std.proofs.lemmas.Bool.{and_from, and_parts, or_right}
use Rattle.std.specs.List.{flat_map}
use Rattle.acl_names.proofs.SameAuth.{same_auth_itself}
use Rattle.acl_names.specs.AuthId.{same_auth}
use Rattle.acl_names.specs.declared.auth.AuthId.{AuthId}
use Rattle.acl_model.specs.Acceptance.{IsFeasible}
use Rattle.acl_model.specs.Effects.{becomes, changed}
use Rattle.acl_model.specs.Rows.{lists}
use Rattle.acl_model.specs.State.{State, stands}
use Rattle.acl_model.specs.Words.{grants, names_static}
use Rattle.acl_model.specs.declared.row.Row.{Row}
use Rattle.acl_model.specs.declared.row.Row.TheVariants.{Account, Edge, Global}
use Rattle.acl_stmt.specs.Lists.{is_some_list}
use Rattle.acl_stmt.specs.declared.privileges.PrivList.{PrivList}
use Rattle.acl_stmt.specs.declared.statement.Statement.{Statement}
use Rattle.acl_stmt.specs.declared.statement.Statement.TheVariants.{Grant, GrantRoles, Revoke}
use Rattle.acl_stmt.specs.declared.target.Target.{Target}
use Rattle.acl_stmt.specs.declared.target.Target.TheVariants as on
use Rattle.listed_privileges.specs.Sets.{but_option, some_below}
use Rattle.priv_sets.specs.Levels.{grant_option}
use Rattle.priv_sets.specs.declared.level.Level.TheVariants as level
use Rattle.show_grants.specs.Carried.{carried}
use Rattle.show_grants.specs.Keys.{Pair}
use Rattle.show_grants.specs.Lines.{columns_held, dynamic_lines, dynamic_list, function_line, global_line, grantable, line_if, lines_of, plain_list, procedure_line, restriction_line, role_line, roles_of, schema_line, table_line, table_privileges, ungrantable}
use Rattle.show_grants.specs.Listing.{Listing}
use Rattle.show_grants.specs.Rights.{Held}
use Rattle.shown_laws.proofs.Feasible.{AreFeasible, found_below, grant_feasible, revoke_feasible, roles_feasible}
use Rattle.shown_laws.proofs.NamedLists.{plain_named}
use Rattle.shown_laws.proofs.Orderly.{IsListed, IsOrderly}
use Rattle.shown_laws.proofs.Runs.{Adds, carried-append}
use Rattle.shown_laws.proofs.Steps.{grant_leaves, may_touch, revoke_leaves, roles_leave}
use Rattle.shown_laws.proofs.Whole.{global_line_adds, role_chosen}

-- from each state with the one property, all are feasible, and the other holds afterwards
pub record Goes (P : State → Type 0) (ss : List Statement) (Q : State → Type 0) : Type 0 where
  pub feasible : (st : State) → P st → AreFeasible ss st
  pub leads : (st : State) → P st → Q (carried ss st)

goes_nothing : (P : State → Type 0) → Goes P [] P
unfolding carried
goes_nothing P = record { feasible = λ st holds. tt; leads = λ st holds. holds }

goes_one : (P Q : State → Type 0) (s : Statement) → ((st : State) → P st → IsFeasible st s) → ((st : State) → P st → Q (changed [] s st)) → Goes P (s ∷ []) Q
unfolding carried
goes_one P Q s feasible leads = record { feasible = λ st holds. (feasible st holds, tt); leads = leads }

both_feasible : (xs ys : List Statement) (st : State) → AreFeasible xs st → AreFeasible ys (carried xs st) → AreFeasible (xs ++ ys) st
unfolding carried
both_feasible [] ys st first second = second
both_feasible (x ∷ xs) ys st first second = (first.0, both_feasible xs ys (changed [] x st) first.1 second)

goes_append : (P Q R : State → Type 0) (xs ys : List Statement) → Goes P xs Q → Goes Q ys R → Goes P (xs ++ ys) R
goes_append P Q R xs ys first second = record {
  feasible = λ st holds. both_feasible xs ys st (first.feasible st holds) (second.feasible (carried xs st) (first.leads st holds));
  leads = λ st holds. at_end st (second.leads (carried xs st) (first.leads st holds));
}
  where
    at_end : (st : State) → R (carried ys (carried xs st)) → R (carried (xs ++ ys) st)
    at_end st holds = rw (carried-append xs ys st) holds

goes_if : (P : State → Type 0) (t : Bool) (s : Statement) → (t ≡ true → Goes P (s ∷ []) P) → Goes P (line_if t s) P
goes_if P true s goes = goes refl
goes_if P false s goes = goes_nothing P

goes_each : {K : Type 0} (P : State → Type 0) (f : K → List Statement) → ((k : K) → Goes P (f k) P) → (keys : List K) → Goes P (flat_map f keys) P
goes_each P f goes [] = goes_nothing P
goes_each P f goes (k ∷ keys) = goes_append P P P (f k) (flat_map f keys) (goes k) (goes_each P f goes keys)

-- ---- what stays

account_untouched : (target : Target) (b : AuthId) → may_touch target (Account b) ≡ false
account_untouched on.Global b = refl
account_untouched (on.Schema s) b = refl
account_untouched _ b = refl

edge_untouched : (target : Target) (r h : AuthId) → may_touch target (Edge r h) ≡ false
edge_untouched on.Global r h = refl
edge_untouched (on.Schema s) r h = refl
edge_untouched _ r h = refl

global_kept : (privileges : PrivList) (target : Target) (accounts : List AuthId) (option : Bool) (b : AuthId) (p : ℕ) (st : State) → st.rows (Global b p) ≡ true
    → (changed [] (Grant privileges target accounts option) st).rows (Global b p) ≡ true
unfolding changed becomes
global_kept privileges on.Global accounts option b p st stood =
    or_right (grants (Grant privileges on.Global accounts option) on.Global b p) (st.rows (Global b p) && true) (and_from (st.rows (Global b p)) true stood refl)
global_kept privileges (on.Schema s) accounts option b p st stood = and_from (st.rows (Global b p)) true stood refl
global_kept privileges (on.Table s t) accounts option b p st stood = and_from (st.rows (Global b p)) true stood refl
global_kept privileges (on.Function s f) accounts option b p st stood = and_from (st.rows (Global b p)) true stood refl
global_kept privileges (on.Procedure s f) accounts option b p st stood = and_from (st.rows (Global b p)) true stood refl

edge_not_added : (roles accounts : List AuthId) (option : Bool) (r h : AuthId) (st : State) → lists roles r ≡ false → st.rows (Edge r h) ≡ false
    → (changed [] (GrantRoles roles accounts option) st).rows (Edge r h) ≡ false
unfolding changed becomes
edge_not_added roles accounts option r h st other none =
    ap (λ t. (t && lists accounts h) || (st.rows (Edge r h) && true)) other ∙ ap (λ t. t && true) none

line_added : (row : Row) (s : Statement) (b : Bool) → Adds row (s ∷ []) b → (st : State) → b ≡ true → (changed [] s st).rows row ≡ true
unfolding carried
line_added row s b adds st is = adds.adds st ∙ or_right (st.rows row) b is

-- the account and its roles stand, and it is nobody's role
pub record IsReady (a : AuthId) (held : Held) (st : State) : Type 0 where
  pub holder_stands : stands st a ≡ true
  pub roles_stand : (r : AuthId) → held.role r ≡ true → stands st r ≡ true
  pub no_holder : (h : AuthId) → st.rows (Edge a h) ≡ false

-- and it holds what it is to hold on `*.*`
pub record HoldsPlain (a : AuthId) (held : Held) (st : State) : Type 0 where
  pub ready : IsReady a held st
  pub plain : (p : ℕ) → held.plain p ≡ true → st.rows (Global a p) ≡ true

module _ (a : AuthId) (held : Held) where
  ready_grant : (privileges : PrivList) (target : Target) (option : Bool) (st : State) → IsReady a held st → IsReady a held (changed [] (Grant privileges target (a ∷ []) option) st)
  ready_grant privileges target option st ready = record {
    holder_stands = grant_leaves privileges target (a ∷ []) option (Account a) st (account_untouched target a) ∙ ready.holder_stands;
    roles_stand = λ r is. grant_leaves privileges target (a ∷ []) option (Account r) st (account_untouched target r) ∙ ready.roles_stand r is;
    no_holder = λ h. grant_leaves privileges target (a ∷ []) option (Edge a h) st (edge_untouched target a h) ∙ ready.no_holder h;
  }

  plain_grant : (privileges : PrivList) (target : Target) (option : Bool) → Goes (HoldsPlain a held) (Grant privileges target (a ∷ []) option ∷ []) (HoldsPlain a held)
  plain_grant privileges target option =
      goes_one (HoldsPlain a held) (HoldsPlain a held) (Grant privileges target (a ∷ []) option)
      (λ st holds. grant_feasible a privileges target option st holds.ready.holder_stands)
      (λ st holds. record {
        ready = ready_grant privileges target option st holds.ready;
        plain = λ p is. global_kept privileges target (a ∷ []) option a p st (holds.plain p is);
      })

  plain_revoke : (privileges : PrivList) (schema : List ℕ) (p : ℕ) → p < 31 → names_static privileges level.Schema p ≡ true → held.plain p ≡ true
      → Goes (HoldsPlain a held) (Revoke privileges (on.Schema schema) (a ∷ []) ∷ []) (HoldsPlain a held)
  plain_revoke privileges schema p below named is =
      goes_one (HoldsPlain a held) (HoldsPlain a held) (Revoke privileges (on.Schema schema) (a ∷ []))
      (λ st holds. revoke_feasible a privileges schema st p holds.ready.holder_stands below named (holds.plain p is))
      (λ st holds. record {
        ready = record {
          holder_stands = revoke_leaves privileges schema (a ∷ []) (Account a) st refl ∙ holds.ready.holder_stands;
          roles_stand = λ r granted. revoke_leaves privileges schema (a ∷ []) (Account r) st refl ∙ holds.ready.roles_stand r granted;
          no_holder = λ h. revoke_leaves privileges schema (a ∷ []) (Edge a h) st refl ∙ holds.ready.no_holder h;
        };
        plain = λ q there. revoke_leaves privileges schema (a ∷ []) (Global a q) st refl ∙ holds.plain q there;
      })

  not_listed : (roles : List AuthId) → ((r : AuthId) → lists roles r ≡ true → same_auth r a ≡ false) → lists roles a ≡ false
  not_listed roles other = by (lists roles a) refl
    where
      by : (t : Bool) → lists roles a ≡ t → t ≡ false
      by false is = refl
      by true is = sym (same_auth_itself a) ∙ other a is

  plain_roles : (roles : List AuthId) (option : Bool) → ((r : AuthId) → lists roles r ≡ true → held.role r ≡ true) → ((r : AuthId) → held.role r ≡ true → same_auth r a ≡ false)
      → Goes (HoldsPlain a held) (GrantRoles roles (a ∷ []) option ∷ []) (HoldsPlain a held)
  plain_roles roles option granted other =
      goes_one (HoldsPlain a held) (HoldsPlain a held) (GrantRoles roles (a ∷ []) option)
      (λ st holds. roles_feasible a roles option st holds.ready.holder_stands (λ r listed. holds.ready.roles_stand r (granted r listed)) holds.ready.no_holder (λ r listed. other r (granted r listed)))
      (λ st holds. record {
        ready = record {
          holder_stands = roles_leave roles (a ∷ []) option (Account a) st refl ∙ holds.ready.holder_stands;
          roles_stand = λ r is. roles_leave roles (a ∷ []) option (Account r) st refl ∙ holds.ready.roles_stand r is;
          no_holder = λ h. edge_not_added roles (a ∷ []) option a h st (not_listed roles (λ r listed. other r (granted r listed))) (holds.ready.no_holder h);
        };
        plain = λ p is. roles_leave roles (a ∷ []) option (Global a p) st refl ∙ holds.plain p is;
      })

module _ (a : AuthId) (held : Held) (listing : Listing) (orderly : IsOrderly held a) (listed : IsListed held listing) where
  abbrev pub P : State → Type 0
  P = HoldsPlain a held

  global_goes : Goes (IsReady a held) (global_line a held ∷ []) P
  global_goes =
      goes_one (IsReady a held) P (global_line a held)
      (λ st ready. grant_feasible a (plain_list (but_option held.plain)) on.Global (held.plain grant_option) st ready.holder_stands)
      (λ st ready. record {
        ready = ready_grant a held (plain_list (but_option held.plain)) on.Global (held.plain grant_option) st ready;
        plain = λ p is. line_added (Global a p) (global_line a held) (held.plain p) (global_line_adds a held listing orderly listed p) st is;
      })

  dynamic_goes : Goes P (dynamic_lines a held) P
  dynamic_goes =
      let first : Statement = Grant (dynamic_list (ungrantable held)) on.Global (a ∷ []) false in
      let second : Statement = Grant (dynamic_list (grantable held)) on.Global (a ∷ []) true in
      goes_append P P P (line_if (some_below 20 (ungrantable held)) first) (line_if (some_below 20 (grantable held)) second)
      (goes_if P (some_below 20 (ungrantable held)) first (λ some. plain_grant a held (dynamic_list (ungrantable held)) on.Global false))
      (goes_if P (some_below 20 (grantable held)) second (λ some. plain_grant a held (dynamic_list (grantable held)) on.Global true))

  restriction_goes : (s : List ℕ) → Goes P (restriction_line a held s) P
  restriction_goes s =
      goes_if P (some_below 31 (held.restricted s)) (Revoke (plain_list (held.restricted s)) (on.Schema s) (a ∷ []))
      (λ some.
      let at = found_below 31 (held.restricted s) some in
      plain_revoke a held (plain_list (held.restricted s)) s at.0 at.1
      (plain_named (held.restricted s) level.Schema at.0 (λ is. at.1) ∙ at.2) (orderly.restricted_held s at.0 at.2))

  schema_goes : (s : List ℕ) → Goes P (schema_line a held s) P
  schema_goes s =
      goes_if P (some_below 31 (held.on_schema s)) (Grant (plain_list (but_option (held.on_schema s))) (on.Schema s) (a ∷ []) (held.on_schema s grant_option))
      (λ some. plain_grant a held (plain_list (but_option (held.on_schema s))) (on.Schema s) (held.on_schema s grant_option))

  table_goes : (k : Pair) → Goes P (table_line a held listing k) P
  table_goes k =
      goes_if P (some_below 31 (λ p. held.on_table k.0 k.1 p || is_some_list (columns_held held listing k p)))
      (Grant (table_privileges held listing k) (on.Table k.0 k.1) (a ∷ []) (held.on_table k.0 k.1 grant_option))
      (λ some. plain_grant a held (table_privileges held listing k) (on.Table k.0 k.1) (held.on_table k.0 k.1 grant_option))

  function_goes : (k : Pair) → Goes P (function_line a held k) P
  function_goes k =
      goes_if P (some_below 31 (held.on_function k.0 k.1)) (Grant (plain_list (but_option (held.on_function k.0 k.1))) (on.Function k.0 k.1) (a ∷ []) (held.on_function k.0 k.1 grant_option))
      (λ some. plain_grant a held (plain_list (but_option (held.on_function k.0 k.1))) (on.Function k.0 k.1) (held.on_function k.0 k.1 grant_option))

  procedure_goes : (k : Pair) → Goes P (procedure_line a held k) P
  procedure_goes k =
      goes_if P (some_below 31 (held.on_procedure k.0 k.1)) (Grant (plain_list (but_option (held.on_procedure k.0 k.1))) (on.Procedure k.0 k.1) (a ∷ []) (held.on_procedure k.0 k.1 grant_option))
      (λ some. plain_grant a held (plain_list (but_option (held.on_procedure k.0 k.1))) (on.Procedure k.0 k.1) (held.on_procedure k.0 k.1 grant_option))

  pub chosen_granted : (b : Bool) (r : AuthId) → lists (roles_of held listing b) r ≡ true → held.role r ≡ true
  chosen_granted b r is = (and_parts (held.role r) (cond b (held.admin r) (not (held.admin r))) (sym (role_chosen a held listing orderly listed r b) ∙ is)).0

  role_goes : (b : Bool) → Goes P (role_line a held listing b) P
  role_goes b =
      goes_if P (is_some_list (roles_of held listing b)) (GrantRoles (roles_of held listing b) (a ∷ []) b)
      (λ some. plain_roles a held (roles_of held listing b) b (chosen_granted b) orderly.role_other)

  -- each line is feasible
  pub all_feasible : Goes (IsReady a held) (lines_of a held listing) P
  unfolding lines_of
  all_feasible =
      goes_append (IsReady a held) P P (global_line a held ∷ []) _ global_goes
      (goes_append P P P (dynamic_lines a held) _ dynamic_goes
      (goes_append P P P (flat_map (restriction_line a held) listing.schemas) _ (goes_each P (restriction_line a held) restriction_goes listing.schemas)
      (goes_append P P P (flat_map (schema_line a held) listing.schemas) _ (goes_each P (schema_line a held) schema_goes listing.schemas)
      (goes_append P P P (flat_map (table_line a held listing) listing.tables) _ (goes_each P (table_line a held listing) table_goes listing.tables)
      (goes_append P P P (flat_map (function_line a held) listing.functions) _ (goes_each P (function_line a held) function_goes listing.functions)
      (goes_append P P P (flat_map (procedure_line a held) listing.procedures) _ (goes_each P (procedure_line a held) procedure_goes listing.procedures)
      (goes_append P P P (role_line a held listing false) (role_line a held listing true) (role_goes false) (role_goes true))))))))
