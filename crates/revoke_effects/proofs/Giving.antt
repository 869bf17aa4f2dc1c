-- What REVOKE gives, by the holder of the row and by the row.
use Rattle.std.proofs.Common.{◌≡◌, ◌∙◌, ap, sym, ℕ, ◌<◌, ◌+◌, ◌==◌, Bool, true, false, cond, ◌&&◌, ◌||◌, List, [], ◌∷◌, ◌++◌, Option, Some, None, add-one, append_assoc, get_or, length, take, refl}
use Rattle.std.proofs.Math.Bool.{and-false, and-true}
use Rattle.std.proofs.lemmas.Bool.{and_parts, eqb-true}
use Rattle.std.proofs.lemmas.List.Folds.{list_any-append}
use Rattle.std.proofs.lemmas.List.Elements.{filter_map-append}
use Rattle.std.proofs.Math.Seq.{take-suc}
use Rattle.std.specs.List.{cons_option, filter_map, list_any}
use Rattle.std.specs.Option.{option_to_list}
use Rattle.acl_names.proofs.SameAuth.{equal_from_text_eq, text_eq_itself}
use Rattle.acl_names.specs.AuthId.{same_auth}
use Rattle.acl_names.specs.Text.{text_eq}
use Rattle.acl_names.specs.declared.auth.AuthId.{AuthId}
use Rattle.acl_model.specs.Effects.{gives}
use Rattle.acl_model.specs.Rows.{holder, lists, same_row}
use Rattle.acl_model.specs.State.{State}
use Rattle.acl_model.specs.Words.{names_static}
use Rattle.acl_model.specs.declared.row.Row.{Row}
use Rattle.acl_model.specs.declared.row.Row.TheVariants.{Global, Restriction}
use Rattle.acl_stmt.specs.declared.privileges.PrivList.{PrivList}
use Rattle.acl_stmt.specs.declared.statement.Statement.TheVariants.{Revoke}
use Rattle.acl_stmt.specs.declared.target.Target.{Target}
use Rattle.acl_stmt.specs.declared.target.Target.TheVariants as on
use Rattle.priv_sets.specs.declared.level.Level.TheVariants as level
use Rattle.revoke_effects.proofs.Listing.{AreRowsOf, lists_more}
use Rattle.revoke_effects.specs.Given.{restriction_of}

-- whether the target is a schema
abbrev pub is_schema : Target → Bool
is_schema (on.Schema schema) = true
is_schema _ = false

-- whether a row is such a restriction of one of the rows
abbrev pub is_restriction_of : PrivList → List ℕ → List Row → Row → Bool
is_restriction_of privileges schema held (Restriction a p s) =
    text_eq schema s && names_static privileges level.Schema p && list_any (same_row (Global a p)) held
is_restriction_of privileges schema held _ = false

same_either_way : (s t : List ℕ) → text_eq s t ≡ text_eq t s
same_either_way s t = at (text_eq s t) (text_eq t s) refl refl
  where
    at : (u v : Bool) → text_eq s t ≡ u → text_eq t s ≡ v → u ≡ v
    at true true there back = refl
    at false false there back = refl
    at true false there back =
        let again : text_eq t s ≡ true = ap (λ x. text_eq x s) (sym (equal_from_text_eq s t there)) ∙ text_eq_itself s in
        cc
    at false true there back =
        let again : text_eq s t ≡ true = ap (λ x. text_eq x t) (sym (equal_from_text_eq t s back)) ∙ text_eq_itself t in
        cc

module _ (privileges : PrivList) (schema : List ℕ) where
  abbrev named : ℕ → Bool
  named p = names_static privileges level.Schema p

  -- a privilege that is named adds its restriction
  added : (g e n x : Bool) → (g ≡ true → n ≡ true) → ((g && e) || ((e && n) && x)) ≡ ((e && n) && (g || x))
  added true true n x names = rw (names refl) refl
  added true false n x names = refl
  added false e n x names = refl

  -- one that is not adds none
  not_added : (g e n x : Bool) → (g ≡ true → n ≡ false) → ((e && n) && x) ≡ ((e && n) && (g || x))
  not_added true e n x names = rw (names refl, and-false e) refl
  not_added false e n x names = refl

  at_global : (a b : AuthId) (p q : ℕ) (s : List ℕ) (rest held : List Row) (t : Bool) → named q ≡ t
      → list_any (same_row (Restriction a p s)) rest ≡ ((text_eq schema s && named p) && list_any (same_row (Global a p)) held)
      → list_any (same_row (Restriction a p s)) (cons_option (cond t (Some (Restriction b q schema)) None) rest)
      ≡ ((text_eq schema s && named p) && ((same_auth a b && p == q) || list_any (same_row (Global a p)) held))
  at_global a b p q s rest held true names later =
      ap (λ t. ((same_auth a b && p == q) && text_eq s schema) || t) later
      ∙ ap (λ t. ((same_auth a b && p == q) && t) || ((text_eq schema s && named p) && list_any (same_row (Global a p)) held)) (same_either_way s schema)
      ∙ added (same_auth a b && p == q) (text_eq schema s) (named p) (list_any (same_row (Global a p)) held)
      (λ same. ap named (eqb-true p q (and_parts (same_auth a b) (p == q) same).1) ∙ names)
  at_global a b p q s rest held false names later =
      later
      ∙ not_added (same_auth a b && p == q) (text_eq schema s) (named p) (list_any (same_row (Global a p)) held)
      (λ same. ap named (eqb-true p q (and_parts (same_auth a b) (p == q) same).1) ∙ names)

  is_other : Row → Bool
  is_other (Restriction a p s) = false
  is_other row = true

  at_other : (row : Row) (b : AuthId) (q : ℕ) (rest : List Row) (t u : Bool) → is_other row ≡ true → list_any (same_row row) rest ≡ u
      → list_any (same_row row) (cons_option (cond t (Some (Restriction b q schema)) None) rest) ≡ u
  unfolding is_other
  at_other (Restriction a p s) b q rest t u other later = cc
  at_other row b q rest true u other later = later
  at_other row b q rest false u other later = later

  one_row : (row x : Row) (rest held : List Row) → list_any (same_row row) rest ≡ is_restriction_of privileges schema held row
      → list_any (same_row row) (cons_option (restriction_of privileges schema x) rest) ≡ is_restriction_of privileges schema (x ∷ held) row
  unfolding is_other
  one_row (Restriction a p s) (Global b q) rest held later = at_global a b p q s rest held (named q) refl later
  one_row (Restriction a p s) x rest held later = later
  one_row row (Global b q) rest held later = at_other row b q rest (named q) false refl later
  one_row row x rest held later = later

  -- the rows that are made are the restrictions of what is held
  pub restricted : (held : List Row) (row : Row) → list_any (same_row row) (filter_map (restriction_of privileges schema) held) ≡ is_restriction_of privileges schema held row
  restricted [] (Restriction a p s) = sym (and-false (text_eq schema s && named p))
  restricted [] row = refl
  restricted (x ∷ held) row = one_row row x (filter_map (restriction_of privileges schema) held) held (restricted held row)

-- whether REVOKE at a schema gives the row where its holder is one of the accounts
abbrev given_at : PrivList → List ℕ → State → Row → Bool
given_at privileges schema state (Restriction a p s) = (text_eq schema s && names_static privileges level.Schema p) && state.rows (Global a p)
given_at privileges schema state _ = false

moved : (e l n g : Bool) → (((e && l) && n) && g || false) ≡ (l && ((e && n) && g))
moved true true true true = refl
moved true true true false = refl
moved true true false g = refl
moved true false n g = refl
moved false true n g = refl
moved false false n g = refl

gives_at : (privileges : PrivList) (schema : List ℕ) (accounts : List AuthId) (state : State) (row : Row)
    → gives [] (Revoke privileges (on.Schema schema) accounts) state row ≡ (lists accounts (holder row) && given_at privileges schema state row)
gives_at privileges schema accounts state (Restriction a p s) = moved (text_eq schema s) (lists accounts a) (names_static privileges level.Schema p) (state.rows (Global a p))
gives_at privileges schema accounts state row = sym (and-false (lists accounts (holder row)))

-- at any other target it gives nothing
pub gives_elsewhere : (privileges : PrivList) (target : Target) (accounts : List AuthId) (state : State) (row : Row) → is_schema target ≡ false
    → false ≡ gives [] (Revoke privileges target accounts) state row
gives_elsewhere privileges (on.Schema schema) accounts state row other = cc
gives_elsewhere privileges target accounts state (Restriction a p s) other = refl
gives_elsewhere privileges target accounts state row other = refl

joined : (l a g : Bool) → ((l && g) || (g && a)) ≡ ((l || a) && g)
joined true a true = refl
joined true a false = refl
joined false a true = sym (and-true a)
joined false a false = sym (and-false a)

-- the restrictions of one account more
pub given_step : (privileges : PrivList) (schema : List ℕ) (state : State) (accounts : List AuthId) (i : ℕ) (account : AuthId) (given held new : List Row)
    → i < length accounts → account ≡ get_or accounts i account
    → new ≡ given ++ filter_map (restriction_of privileges schema) held → AreRowsOf state.rows account held
    → ((row : Row) → list_any (same_row row) given ≡ gives [] (Revoke privileges (on.Schema schema) (take i accounts)) state row)
    → (row : Row) → list_any (same_row row) new ≡ gives [] (Revoke privileges (on.Schema schema) (take (i + 1) accounts)) state row
given_step privileges schema state accounts i account given held new within is same are so_far row =
    ap (list_any (same_row row)) same
    ∙ list_any-append (same_row row) given (filter_map (restriction_of privileges schema) held)
    ∙ ap (λ t. list_any (same_row row) given || t) (restricted privileges schema held row ∙ of_account row)
    ∙ ap (λ t. t || (given_at privileges schema state row && same_auth (holder row) account)) (so_far row ∙ gives_at privileges schema (take i accounts) state row)
    ∙ joined (lists (take i accounts) (holder row)) (same_auth (holder row) account) (given_at privileges schema state row)
    ∙ ap (λ t. t && given_at privileges schema state row) (sym (lists_more accounts i account (holder row) within is))
    ∙ sym (gives_at privileges schema (take (i + 1) accounts) state row)
  where
    grouped : (e g a : Bool) → (e && (g && a)) ≡ ((e && g) && a)
    grouped true g a = refl
    grouped false g a = refl

    of_account : (r : Row) → is_restriction_of privileges schema held r ≡ (given_at privileges schema state r && same_auth (holder r) account)
    of_account (Restriction a p s) =
        ap (λ t. (text_eq schema s && names_static privileges level.Schema p) && t) (are (Global a p))
        ∙ grouped (text_eq schema s && names_static privileges level.Schema p) (state.rows (Global a p)) (same_auth a account)
    of_account r = refl

pub none_given : (privileges : PrivList) (schema : List ℕ) (state : State) (row : Row) → false ≡ gives [] (Revoke privileges (on.Schema schema) []) state row
none_given privileges schema state row = sym (gives_at privileges schema [] state row)

-- one row more
pub one_more : (privileges : PrivList) (schema : List ℕ) (initial now new held : List Row) (i : ℕ) (row : Row) → i < length held → row ≡ get_or held i row
    → now ≡ initial ++ filter_map (restriction_of privileges schema) (take i held)
    → new ≡ now ++ option_to_list (restriction_of privileges schema row)
    → new ≡ initial ++ filter_map (restriction_of privileges schema) (take (i + 1) held)
one_more privileges schema initial now new held i row within is so_far same =
    let longer : take (i + 1) held ≡ take i held ++ row ∷ [] = rw (add-one, take-suc held i row within) (ap (λ (x : Row). take i held ++ x ∷ []) (sym is)) in
    same ∙ ap (λ rows. rows ++ option_to_list (restriction_of privileges schema row)) so_far
    ∙ append_assoc initial (filter_map (restriction_of privileges schema) (take i held)) (option_to_list (restriction_of privileges schema row))
    ∙ ap (λ rows. initial ++ rows)
    (ap (λ rows. filter_map (restriction_of privileges schema) (take i held) ++ rows) (of_one (restriction_of privileges schema row))
    ∙ sym (filter_map-append (restriction_of privileges schema) (take i held) (row ∷ []))
    ∙ ap (λ rows. filter_map (restriction_of privileges schema) rows) (sym longer))
  where
    of_one : (o : Option Row) → option_to_list o ≡ cons_option o []
    of_one None = refl
    of_one (Some x) = refl
