-- Restrictions, schema rows and rows of `*.*` of one privilege, which lines change together.
use Rattle.std.proofs.Common.{◌≡◌, ◌∙◌, ap, sym, refl, ℕ, ◌<◌, Bool, true, false, not, ◌&&◌, ◌||◌, List, [], ◌∷◌, ◌++◌}
use Rattle.std.proofs.Math.Bool.{or-false}
use Rattle.std.proofs.lemmas.Bool.{and_parts, or_from}
use Rattle.std.specs.List.{flat_map}
use Rattle.acl_names.proofs.SameAuth.{equal_from_text_eq}
use Rattle.acl_names.specs.Text.{text_eq}
use Rattle.acl_names.specs.declared.auth.AuthId.{AuthId}
use Rattle.acl_model.specs.Effects.{becomes, changed, takes}
use Rattle.acl_model.specs.Rows.{lists}
use Rattle.acl_model.specs.State.{State}
use Rattle.acl_model.specs.Words.{grants, names_static}
use Rattle.acl_model.specs.declared.row.Row.TheVariants.{Global, Schema, Restriction}
use Rattle.acl_stmt.specs.declared.privileges.PrivList.{PrivList}
use Rattle.acl_stmt.specs.declared.statement.Statement.{Statement}
use Rattle.acl_stmt.specs.declared.statement.Statement.TheVariants.{Grant, Revoke}
use Rattle.acl_stmt.specs.declared.target.Target.TheVariants as on
use Rattle.accepted_lists.proofs.Named.{level_below}
use Rattle.listed_privileges.proofs.Bits.{none_below}
use Rattle.listed_privileges.specs.Sets.{but_option, some_below}
use Rattle.priv_sets.specs.Levels.{grant_option}
use Rattle.priv_sets.specs.declared.level.Level.TheVariants as level
use Rattle.show_grants.specs.Lines.{dynamic_lines, dynamic_list, function_line, global_line, grantable, line_if, lines_of, plain_list, procedure_line, restriction_line, role_line, schema_line, table_line, ungrantable}
use Rattle.show_grants.specs.Listing.{Listing}
use Rattle.show_grants.specs.Rights.{Held}
use Rattle.shown_laws.proofs.Found.{text_found}
use Rattle.shown_laws.proofs.NamedLists.{granted_named, plain_named}
use Rattle.shown_laws.proofs.Orderly.{IsListed, IsOrderly}
use Rattle.shown_laws.proofs.Runs.{Adds, Leads, leads_append, leads_if, leads_nothing, leads_one, marks_each}
use Rattle.shown_laws.proofs.Steps.{grant_leaves, listed_itself, named_static, revoke_leaves}
use Rattle.shown_laws.proofs.Tests.{never}
use Rattle.shown_laws.proofs.Whole.{all_roles_leave, dynamic_leaves, dynamic_lines_static, functions_leave, global_leaves, global_line_adds, procedures_leave, tables_leave}

-- ---- tests

not_handed : (x y z : Bool) → (((x && false) && y) && z) ≡ false
not_handed true y z = refl
not_handed false y z = refl

revoked_join : (m l n g r : Bool) → l ≡ true → (((((m && l) && n) && g) || false) || (r && true)) ≡ (r || ((m && n) && g))
revoked_join true true true true true is = refl
revoked_join true true true true false is = refl
revoked_join true true true false true is = refl
revoked_join true true true false false is = refl
revoked_join true true false g true is = refl
revoked_join true true false g false is = refl
revoked_join false true n g true is = refl
revoked_join false true n g false is = refl
revoked_join m false n g r is = never is

-- a restriction that no grant on its schema lifts
unlifted : (m l n r : Bool) → ((m && n) ≡ true → r ≡ false) → (r && not (((((m && l) && n) || false) || false) || false)) ≡ r
unlifted m l n false apart = refl
unlifted true true true true apart = sym (apart refl)
unlifted true true false true apart = refl
unlifted true false n true apart = refl
unlifted false l n true apart = refl

schema_join : (m l n r c : Bool) → l ≡ true → ((m && n) ≡ true → r ≡ false) → ((((m && l) && n) && not r) || (c && true)) ≡ (c || (m && n))
schema_join true true true true c is apart = never (sym (apart refl))
schema_join true true true false true is apart = refl
schema_join true true true false false is apart = refl
schema_join true true false r true is apart = refl
schema_join true true false r false is apart = refl
schema_join false true n r true is apart = refl
schema_join false true n r false is apart = refl
schema_join m false n r c is apart = never is

-- ---- one schema and one privilege

pub record Marked (a : AuthId) (s : List ℕ) (p : ℕ) (r c g : Bool) (st : State) : Type 0 where
  pub restriction : st.rows (Restriction a p s) ≡ r
  pub schema : st.rows (Schema a s p) ≡ c
  pub global : st.rows (Global a p) ≡ g

module _ (a : AuthId) (s : List ℕ) (p : ℕ) where
  Off : State → Type 0
  Off st = st.rows (Restriction a p s) ≡ false

  grant_off : (privileges : PrivList) (option : Bool) (st : State) → Off st → Off (changed [] (Grant privileges on.Global (a ∷ []) option) st)
  unfolding changed becomes Off
  grant_off privileges option st off =
      or_from (((grants (Grant privileges on.Global (a ∷ []) option) on.Global a p && false) && not (st.rows (Global a p))) && not (st.rows (Schema a s p)))
      (st.rows (Restriction a p s) && not (takes [] (Grant privileges on.Global (a ∷ []) option) (Restriction a p s)))
      (not_handed (grants (Grant privileges on.Global (a ∷ []) option) on.Global a p) (not (st.rows (Global a p))) (not (st.rows (Schema a s p))))
      (ap (λ t. t && not (takes [] (Grant privileges on.Global (a ∷ []) option) (Restriction a p s))) off)

  -- lines that give rows of `*.*` alone
  marked_global : (ss : List Statement) (c g b : Bool) → Leads Off ss Off → Adds (Schema a s p) ss false → Adds (Global a p) ss b
      → Leads (Marked a s p false c g) ss (Marked a s p false c (g || b))
  unfolding Off
  marked_global ss c g b off schema global = record {
    leads = λ st marked. record {
      restriction = off.leads st marked.restriction;
      schema = schema.adds st ∙ or-false (st.rows (Schema a s p)) ∙ marked.schema;
      global = global.adds st ∙ ap (λ t. t || b) marked.global;
    };
  }

  -- lines that leave all three
  marked_stays : (ss : List Statement) (r c g : Bool) → Adds (Restriction a p s) ss false → Adds (Schema a s p) ss false → Adds (Global a p) ss false
      → Leads (Marked a s p r c g) ss (Marked a s p r c g)
  marked_stays ss r c g restriction schema global = record {
    leads = λ st marked. record {
      restriction = restriction.adds st ∙ or-false (st.rows (Restriction a p s)) ∙ marked.restriction;
      schema = schema.adds st ∙ or-false (st.rows (Schema a s p)) ∙ marked.schema;
      global = global.adds st ∙ or-false (st.rows (Global a p)) ∙ marked.global;
    };
  }

  -- REVOKE at a schema
  revoke_restricts : (privileges : PrivList) (k : List ℕ) (st : State)
      → (changed [] (Revoke privileges (on.Schema k) (a ∷ [])) st).rows (Restriction a p s) ≡ (st.rows (Restriction a p s) || ((text_eq k s && names_static privileges level.Schema p) && st.rows (Global a p)))
  unfolding changed becomes
  revoke_restricts privileges k st =
      revoked_join (text_eq k s) (lists (a ∷ []) a) (names_static privileges level.Schema p) (st.rows (Global a p)) (st.rows (Restriction a p s)) (listed_itself a)

  revoke_no_schema : (privileges : PrivList) (k : List ℕ) (st : State) → st.rows (Schema a s p) ≡ false → (changed [] (Revoke privileges (on.Schema k) (a ∷ [])) st).rows (Schema a s p) ≡ false
  unfolding changed becomes
  revoke_no_schema privileges k st gone = ap (λ t. t && not (takes [] (Revoke privileges (on.Schema k) (a ∷ [])) (Schema a s p))) gone

  -- GRANT at a schema, where no restriction is lifted
  module _ (privileges : PrivList) (option : Bool) (k : List ℕ) (st : State) (apart : (text_eq k s && named_static privileges level.Schema option true p) ≡ true → st.rows (Restriction a p s) ≡ false) where
    grant_unlifted : (changed [] (Grant privileges (on.Schema k) (a ∷ []) option) st).rows (Restriction a p s) ≡ st.rows (Restriction a p s)
    unfolding changed becomes
    grant_unlifted = unlifted (text_eq k s) (lists (a ∷ []) a) (named_static privileges level.Schema option true p) (st.rows (Restriction a p s)) apart

    grant_schema : (changed [] (Grant privileges (on.Schema k) (a ∷ []) option) st).rows (Schema a s p) ≡ (st.rows (Schema a s p) || (text_eq k s && named_static privileges level.Schema option true p))
    unfolding changed becomes
    grant_schema = schema_join (text_eq k s) (lists (a ∷ []) a) (named_static privileges level.Schema option true p) (st.rows (Restriction a p s)) (st.rows (Schema a s p)) (listed_itself a) apart

marks_if : (M : Bool → State → Type 0) (x b t : Bool) (line : Statement) → (t ≡ true → Leads (M x) (line ∷ []) (M (x || b))) → (t ≡ false → b ≡ false) → Leads (M x) (line_if t line) (M (x || b))
marks_if M x b true line there gone = there refl
marks_if M x b false line there gone = rw (gone refl, or-false x) (leads_nothing (M x))

module _ (a : AuthId) (held : Held) (listing : Listing) (orderly : IsOrderly held a) (listed : IsListed held listing) (s : List ℕ) (p : ℕ) where
  -- ---- the lines of `*.*`

  global_off : Leads (Off a s p) (global_line a held ∷ []) (Off a s p)
  global_off = leads_one (Off a s p) (Off a s p) (global_line a held) (grant_off a s p (plain_list (but_option held.plain)) (held.plain grant_option))

  dynamic_off : Leads (Off a s p) (dynamic_lines a held) (Off a s p)
  dynamic_off =
      let first : Statement = Grant (dynamic_list (ungrantable held)) on.Global (a ∷ []) false in
      let second : Statement = Grant (dynamic_list (grantable held)) on.Global (a ∷ []) true in
      leads_append (Off a s p) (Off a s p) (Off a s p) (line_if (some_below 20 (ungrantable held)) first) (line_if (some_below 20 (grantable held)) second)
      (leads_if (Off a s p) (some_below 20 (ungrantable held)) first (λ some. leads_one (Off a s p) (Off a s p) first (grant_off a s p (dynamic_list (ungrantable held)) false)))
      (leads_if (Off a s p) (some_below 20 (grantable held)) second (λ some. leads_one (Off a s p) (Off a s p) second (grant_off a s p (dynamic_list (grantable held)) true)))

  -- ---- the restrictions

  restricted_below : (k : List ℕ) → held.restricted k p ≡ true → p < 31
  restricted_below k holds = level_below level.Schema p (orderly.restricted_level k p holds)

  beside_plain : (k : List ℕ) → ((text_eq k s && held.restricted k p) && held.plain p) ≡ (text_eq k s && held.restricted k p)
  beside_plain k = by (text_eq k s) (held.restricted k p) refl
    where
      by : (x y : Bool) → held.restricted k p ≡ y → ((x && y) && held.plain p) ≡ (x && y)
      by true true is = orderly.restricted_held k p is
      by true false is = refl
      by false y is = refl

  abbrev WithRestriction : Bool → State → Type 0
  WithRestriction x = Marked a s p x false (held.plain p)

  restriction_step : (k : List ℕ) (x : Bool) (st : State) → WithRestriction x st
      → WithRestriction (x || (text_eq k s && held.restricted k p)) (changed [] (Revoke (plain_list (held.restricted k)) (on.Schema k) (a ∷ [])) st)
  restriction_step k x st marked =
      let privileges : PrivList = plain_list (held.restricted k) in
      record {
        restriction = revoke_restricts a s p privileges k st
            ∙ ap (λ n. st.rows (Restriction a p s) || ((text_eq k s && n) && st.rows (Global a p))) (plain_named (held.restricted k) level.Schema p (restricted_below k))
            ∙ ap (λ g. st.rows (Restriction a p s) || ((text_eq k s && held.restricted k p) && g)) marked.global
            ∙ ap (λ t. st.rows (Restriction a p s) || t) (beside_plain k)
            ∙ ap (λ t. t || (text_eq k s && held.restricted k p)) marked.restriction;
        schema = revoke_no_schema a s p privileges k st marked.schema;
        global = revoke_leaves privileges k (a ∷ []) (Global a p) st refl ∙ marked.global;
      }

  none_meant : (m y : Bool) → y ≡ false → (m && y) ≡ false
  none_meant true y is = is
  none_meant false y is = refl

  none_held : (T : ℕ → Bool) → (T p ≡ true → p < 31) → some_below 31 T ≡ false → T p ≡ false
  none_held T bounded none = by (T p) refl
    where
      by : (t : Bool) → T p ≡ t → t ≡ false
      by false fails = refl
      by true passes = sym passes ∙ none_below 31 p T none (bounded passes)

  restriction_line_marks : (k : List ℕ) (x : Bool) → Leads (WithRestriction x) (restriction_line a held k) (WithRestriction (x || (text_eq k s && held.restricted k p)))
  restriction_line_marks k x =
      let line : Statement = Revoke (plain_list (held.restricted k)) (on.Schema k) (a ∷ []) in
      marks_if WithRestriction x (text_eq k s && held.restricted k p) (some_below 31 (held.restricted k)) line
      (λ some. leads_one (WithRestriction x) (WithRestriction (x || (text_eq k s && held.restricted k p))) line (restriction_step k x))
      (λ none. none_meant (text_eq k s) (held.restricted k p) (none_held (held.restricted k) (restricted_below k) none))

  restrictions_mark : Leads (WithRestriction false) (flat_map (restriction_line a held) listing.schemas) (WithRestriction (held.restricted s p))
  restrictions_mark =
      rw (← text_found (λ k. held.restricted k p) s listing.schemas (listed.restricted s p))
      (marks_each WithRestriction (restriction_line a held) (λ k. text_eq k s && held.restricted k p) restriction_line_marks listing.schemas false)

  -- ---- the schema rows

  abbrev WithSchema : Bool → State → Type 0
  WithSchema x = Marked a s p (held.restricted s p) x (held.plain p)

  schema_below : (k : List ℕ) → held.on_schema k p ≡ true → p < 31
  schema_below k holds = level_below level.Schema p (orderly.schema_level k p holds)

  -- what is held on the schema is not restricted there
  apart_from : (k : List ℕ) → (text_eq k s && held.on_schema k p) ≡ true → held.restricted s p ≡ false
  apart_from k both =
      let parts = and_parts (text_eq k s) (held.on_schema k p) both in
      let here : held.on_schema s p ≡ true = ap (λ (u : List ℕ). held.on_schema u p) (sym (equal_from_text_eq k s parts.0)) ∙ parts.1 in
      by here (held.restricted s p) refl
    where
      by : held.on_schema s p ≡ true → (t : Bool) → held.restricted s p ≡ t → t ≡ false
      by here false is = refl
      by here true is = sym here ∙ orderly.restricted_alone s p is

  schema_step : (k : List ℕ) (x : Bool) (st : State) → WithSchema x st
      → WithSchema (x || (text_eq k s && held.on_schema k p)) (changed [] (Grant (plain_list (but_option (held.on_schema k))) (on.Schema k) (a ∷ []) (held.on_schema k grant_option)) st)
  schema_step k x st marked =
      let privileges : PrivList = plain_list (but_option (held.on_schema k)) in
      let option : Bool = held.on_schema k grant_option in
      let named : named_static privileges level.Schema option true p ≡ held.on_schema k p = granted_named (held.on_schema k) level.Schema p (schema_below k) in
      let apart : (text_eq k s && named_static privileges level.Schema option true p) ≡ true → st.rows (Restriction a p s) ≡ false =
      λ both. marked.restriction ∙ apart_from k (sym (ap (λ n. text_eq k s && n) named) ∙ both) in
      record {
        restriction = grant_unlifted a s p privileges option k st apart ∙ marked.restriction;
        schema = grant_schema a s p privileges option k st apart
            ∙ ap (λ n. st.rows (Schema a s p) || (text_eq k s && n)) named ∙ ap (λ t. t || (text_eq k s && held.on_schema k p)) marked.schema;
        global = grant_leaves privileges (on.Schema k) (a ∷ []) option (Global a p) st refl ∙ marked.global;
      }

  schema_line_marks : (k : List ℕ) (x : Bool) → Leads (WithSchema x) (schema_line a held k) (WithSchema (x || (text_eq k s && held.on_schema k p)))
  schema_line_marks k x =
      let line : Statement = Grant (plain_list (but_option (held.on_schema k))) (on.Schema k) (a ∷ []) (held.on_schema k grant_option) in
      marks_if WithSchema x (text_eq k s && held.on_schema k p) (some_below 31 (held.on_schema k)) line
      (λ some. leads_one (WithSchema x) (WithSchema (x || (text_eq k s && held.on_schema k p))) line (schema_step k x))
      (λ none. none_meant (text_eq k s) (held.on_schema k p) (none_held (held.on_schema k) (schema_below k) none))

  schemas_mark : Leads (WithSchema false) (flat_map (schema_line a held) listing.schemas) (WithSchema (held.on_schema s p))
  schemas_mark =
      rw (← text_found (λ k. held.on_schema k p) s listing.schemas (listed.schema s p))
      (marks_each WithSchema (schema_line a held) (λ k. text_eq k s && held.on_schema k p) schema_line_marks listing.schemas false)

  -- ---- all lines

  rest_marks : (r c g : Bool)
      → Leads (Marked a s p r c g)
      (flat_map (table_line a held listing) listing.tables ++ (flat_map (function_line a held) listing.functions
      ++ (flat_map (procedure_line a held) listing.procedures ++ (role_line a held listing false ++ role_line a held listing true))))
      (Marked a s p r c g)
  rest_marks r c g =
      let M : State → Type 0 = Marked a s p r c g in
      leads_append M M M (flat_map (table_line a held listing) listing.tables) _
      (marked_stays a s p (flat_map (table_line a held listing) listing.tables) r c g (tables_leave a held listing (Restriction a p s) (λ u v. refl)) (tables_leave a held listing (Schema a s p) (λ u v. refl))
      (tables_leave a held listing (Global a p) (λ u v. refl)))
      (leads_append M M M (flat_map (function_line a held) listing.functions) _
      (marked_stays a s p (flat_map (function_line a held) listing.functions) r c g (functions_leave a held listing (Restriction a p s) (λ u v. refl)) (functions_leave a held listing (Schema a s p) (λ u v. refl))
      (functions_leave a held listing (Global a p) (λ u v. refl)))
      (leads_append M M M (flat_map (procedure_line a held) listing.procedures) _
      (marked_stays a s p (flat_map (procedure_line a held) listing.procedures) r c g (procedures_leave a held listing (Restriction a p s) (λ u v. refl)) (procedures_leave a held listing (Schema a s p) (λ u v. refl))
      (procedures_leave a held listing (Global a p) (λ u v. refl)))
      (marked_stays a s p (role_line a held listing false ++ role_line a held listing true) r c g (all_roles_leave a held listing (Restriction a p s) refl) (all_roles_leave a held listing (Schema a s p) refl)
      (all_roles_leave a held listing (Global a p) refl))))

  pub all_marks : Leads (Marked a s p false false false) (lines_of a held listing) (Marked a s p (held.restricted s p) (held.on_schema s p) (held.plain p))
  unfolding lines_of
  all_marks =
      let P : State → Type 0 = Marked a s p false false false in
      let Q : State → Type 0 = Marked a s p (held.restricted s p) (held.on_schema s p) (held.plain p) in
      let G : State → Type 0 = Marked a s p false false (held.plain p) in
      leads_append P G Q (global_line a held ∷ []) _
      (marked_global a s p (global_line a held ∷ []) false false (held.plain p) global_off (global_leaves a held listing (Schema a s p) refl) (global_line_adds a held listing orderly listed p))
      (leads_append G G Q (dynamic_lines a held) _
      (rw (or-false (held.plain p)) at (marked_global a s p (dynamic_lines a held) false (held.plain p) false dynamic_off (dynamic_leaves a held listing (Schema a s p) refl) (dynamic_lines_static a held listing orderly listed p)))
      (leads_append G (WithSchema false) Q (flat_map (restriction_line a held) listing.schemas) _ restrictions_mark
      (leads_append (WithSchema false) Q Q (flat_map (schema_line a held) listing.schemas) _ schemas_mark
      (rest_marks (held.restricted s p) (held.on_schema s p) (held.plain p)))))
