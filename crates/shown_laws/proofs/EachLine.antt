-- A test that each printed statement passes.
use Rattle.std.proofs.Common.{◌≡◌, ◌∙◌, refl, ℕ, ◌||◌, Bool, true, false, List, [], ◌∷◌, ◌++◌}
use Rattle.std.proofs.lemmas.Bool.{and_from}
use Rattle.std.proofs.lemmas.List.Folds.{list_all-append}
use Rattle.std.specs.List.{flat_map, list_all}
use Rattle.acl_names.specs.declared.auth.AuthId.{AuthId}
use Rattle.acl_stmt.specs.Lists.{is_some_list}
use Rattle.acl_stmt.specs.declared.statement.Statement.{Statement}
use Rattle.acl_stmt.specs.declared.statement.Statement.TheVariants.{Grant, GrantRoles, Revoke}
use Rattle.acl_stmt.specs.declared.target.Target.TheVariants as on
use Rattle.listed_privileges.specs.Sets.{some_below}
use Rattle.priv_sets.specs.Levels.{grant_option}
use Rattle.show_grants.specs.Keys.{Pair}
use Rattle.show_grants.specs.Lines.{columns_held, dynamic_lines, dynamic_list, function_line, global_line, grantable, granting, line_if, lines_of, plain_list, procedure_line, restriction_line, role_line, roles_of, schema_line, table_line, table_privileges, ungrantable}
use Rattle.show_grants.specs.Listing.{Listing}
use Rattle.show_grants.specs.Rights.{Held}
use Rattle.shown_laws.proofs.Feasible.{found_below}

-- each statement passes that stands where something is held
pub record PassesEach (test : Statement → Bool) (a : AuthId) (held : Held) (listing : Listing) : Type 0 where
  pub global : test (global_line a held) ≡ true
  pub dynamic : (T : ℕ → Bool) (option : Bool) → test (Grant (dynamic_list T) on.Global (a ∷ []) option) ≡ true
  pub restriction : (s : List ℕ) (p : ℕ) → held.restricted s p ≡ true → test (Revoke (plain_list (held.restricted s)) (on.Schema s) (a ∷ [])) ≡ true
  pub schema : (s : List ℕ) (p : ℕ) → held.on_schema s p ≡ true → test (granting (on.Schema s) a (held.on_schema s)) ≡ true
  pub table : (k : Pair) (p : ℕ) → (held.on_table k.0 k.1 p || is_some_list (columns_held held listing k p)) ≡ true
      → test (Grant (table_privileges held listing k) (on.Table k.0 k.1) (a ∷ []) (held.on_table k.0 k.1 grant_option)) ≡ true
  pub function : (k : Pair) (p : ℕ) → held.on_function k.0 k.1 p ≡ true → test (granting (on.Function k.0 k.1) a (held.on_function k.0 k.1)) ≡ true
  pub procedure : (k : Pair) (p : ℕ) → held.on_procedure k.0 k.1 p ≡ true → test (granting (on.Procedure k.0 k.1) a (held.on_procedure k.0 k.1)) ≡ true
  pub roles : (b : Bool) → is_some_list (roles_of held listing b) ≡ true → test (GrantRoles (roles_of held listing b) (a ∷ []) b) ≡ true

module _ (test : Statement → Bool) where
  abbrev Passes : List Statement → Type 0
  Passes ss = list_all test ss ≡ true

  pass_one : (s : Statement) → test s ≡ true → Passes (s ∷ [])
  pass_one s passes = and_from (test s) true passes refl

  pass_append : (xs ys : List Statement) → Passes xs → Passes ys → Passes (xs ++ ys)
  pass_append xs ys first second = list_all-append test xs ys ∙ and_from (list_all test xs) (list_all test ys) first second

  pass_if : (t : Bool) (s : Statement) → (t ≡ true → test s ≡ true) → Passes (line_if t s)
  pass_if true s passes = pass_one s (passes refl)
  pass_if false s passes = refl

  pass_each : {K : Type 0} (f : K → List Statement) → ((k : K) → Passes (f k)) → (keys : List K) → Passes (flat_map f keys)
  pass_each f passes [] = refl
  pass_each f passes (k ∷ keys) = pass_append (f k) (flat_map f keys) (passes k) (pass_each f passes keys)

  -- a line that stands where some number passes
  pass_some : (T : ℕ → Bool) (s : Statement) → ((p : ℕ) → T p ≡ true → test s ≡ true) → Passes (line_if (some_below 31 T) s)
  pass_some T s passes = pass_if (some_below 31 T) s (λ some. let at = found_below 31 T some in passes at.0 at.2)

  pub all_pass : (a : AuthId) (held : Held) (listing : Listing) → PassesEach test a held listing → list_all test (lines_of a held listing) ≡ true
  unfolding lines_of
  all_pass a held listing each =
      pass_append (global_line a held ∷ []) _ (pass_one (global_line a held) each.global)
      (pass_append (dynamic_lines a held) _
      (pass_append (line_if (some_below 20 (ungrantable held)) (Grant (dynamic_list (ungrantable held)) on.Global (a ∷ []) false)) _
      (pass_if (some_below 20 (ungrantable held)) (Grant (dynamic_list (ungrantable held)) on.Global (a ∷ []) false) (λ some. each.dynamic (ungrantable held) false))
      (pass_if (some_below 20 (grantable held)) (Grant (dynamic_list (grantable held)) on.Global (a ∷ []) true) (λ some. each.dynamic (grantable held) true)))
      (pass_append (flat_map (restriction_line a held) listing.schemas) _
      (pass_each (restriction_line a held) (λ s. pass_some (held.restricted s) (Revoke (plain_list (held.restricted s)) (on.Schema s) (a ∷ [])) (each.restriction s)) listing.schemas)
      (pass_append (flat_map (schema_line a held) listing.schemas) _
      (pass_each (schema_line a held) (λ s. pass_some (held.on_schema s) (granting (on.Schema s) a (held.on_schema s)) (each.schema s)) listing.schemas)
      (pass_append (flat_map (table_line a held listing) listing.tables) _
      (pass_each (table_line a held listing)
      (λ k. pass_some (λ p. held.on_table k.0 k.1 p || is_some_list (columns_held held listing k p))
      (Grant (table_privileges held listing k) (on.Table k.0 k.1) (a ∷ []) (held.on_table k.0 k.1 grant_option)) (each.table k)) listing.tables)
      (pass_append (flat_map (function_line a held) listing.functions) _
      (pass_each (function_line a held) (λ k. pass_some (held.on_function k.0 k.1) (granting (on.Function k.0 k.1) a (held.on_function k.0 k.1)) (each.function k)) listing.functions)
      (pass_append (flat_map (procedure_line a held) listing.procedures) _
      (pass_each (procedure_line a held) (λ k. pass_some (held.on_procedure k.0 k.1) (granting (on.Procedure k.0 k.1) a (held.on_procedure k.0 k.1)) (each.procedure k)) listing.procedures)
      (pass_append (role_line a held listing false) (role_line a held listing true)
      (pass_if (is_some_list (roles_of held listing false)) (GrantRoles (roles_of held listing false) (a ∷ []) false) (each.roles false))
      (pass_if (is_some_list (roles_of held listing true)) (GrantRoles (roles_of held listing true) (a ∷ []) true) (each.roles true)))))))))
