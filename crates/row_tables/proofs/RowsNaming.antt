-- The rows that name one of some accounts.
use Rattle.std.proofs.Common.{◌≡◌, ◌∙◌, ap, sym, ℕ, ◌<◌, ◌+◌, Bool, true, false, ◌&&◌, ◌||◌, List, [], ◌∷◌, ◌++◌, length, get_or, take, refl}
use Rattle.std.proofs.Math.Bool.{and-false, or-false}
use Rattle.std.proofs.lemmas.List.{take_more}
use Rattle.std.proofs.lemmas.List.Folds.{list_any-append}
use Rattle.acl_names.specs.AuthId.{same_auth}
use Rattle.acl_names.specs.declared.auth.AuthId.{AuthId}
use Rattle.acl_model.specs.Rows.{holder, lists, same_row, some_name}
use Rattle.acl_model.specs.State.{State}
use Rattle.acl_model.specs.declared.row.Row.{Row}
use Rattle.acl_model.specs.declared.row.Row.TheVariants.{Edge, Admin, Default}
use Rattle.row_tables.proofs.States.{same_auth_back}
use Rattle.row_tables.proofs.RowLists.{has}

lists_more : (xs : List AuthId) (x a : AuthId) → lists (xs ++ x ∷ []) a ≡ (lists xs a || same_auth x a)
lists_more xs x a =
    list_any-append (same_auth a) xs (x ∷ []) ∙ ap (λ t. lists xs a || t) (or-false (same_auth a x) ∙ sym (same_auth_back a x (same_auth a x) refl))

crossed : (a b c d : Bool) → ((a || b) || (c || d)) ≡ ((a || c) || (b || d))
crossed true b c d = refl
crossed false true true d = refl
crossed false true false d = refl
crossed false false true d = refl
crossed false false false d = refl

two_more : (xs : List AuthId) (x a b : AuthId) → (lists (xs ++ x ∷ []) a || lists (xs ++ x ∷ []) b) ≡ ((lists xs a || lists xs b) || (same_auth x a || same_auth x b))
two_more xs x a b =
    ap (λ t. t || lists (xs ++ x ∷ []) b) (lists_more xs x a) ∙ ap (λ t. (lists xs a || same_auth x a) || t) (lists_more xs x b)
    ∙ crossed (lists xs a) (same_auth x a) (lists xs b) (same_auth x b)

some_more : (xs : List AuthId) (x : AuthId) (row : Row) → some_name (lists (xs ++ x ∷ [])) row ≡ (some_name (lists xs) row || some_name (same_auth x) row)
some_more xs x (Edge role to) = two_more xs x role to
some_more xs x (Admin role to) = two_more xs x role to
some_more xs x (Default of role) = two_more xs x of role
some_more xs x row = lists_more xs x (holder row)

some_none : (row : Row) → some_name (lists []) row ≡ false
some_none (Edge role to) = refl
some_none _ = refl

apart : (t u v : Bool) → ((t && u) || (t && v)) ≡ (t && (u || v))
apart true u v = refl
apart false u v = refl

-- no account
pub naming_none : (s : State) (row : Row) → false ≡ (s.rows row && some_name (lists []) row)
naming_none s row = sym (ap (λ t. s.rows row && t) (some_none row) ∙ and-false (s.rows row))

-- one account more
pub naming_more : (s : State) (found more new : List Row) (all : List AuthId) (i : ℕ) (x : AuthId) → i < length all → x ≡ get_or all i x
    → new ≡ found ++ more → ((row : Row) → has more row ≡ (s.rows row && some_name (same_auth x) row))
    → ((row : Row) → has found row ≡ (s.rows row && some_name (lists (take i all)) row))
    → (row : Row) → has new row ≡ (s.rows row && some_name (lists (take (i + 1) all)) row)
naming_more s found more new all i x within is same are inv row =
    ap (λ rows. has rows row) same ∙ list_any-append (same_row row) found more
    ∙ ap (λ t. t || has more row) (inv row) ∙ ap (λ t. (s.rows row && some_name (lists (take i all)) row) || t) (are row)
    ∙ apart (s.rows row) (some_name (lists (take i all)) row) (some_name (same_auth x) row)
    ∙ ap (λ t. s.rows row && t) (sym (some_more (take i all) x row))
    ∙ ap (λ xs. s.rows row && some_name (lists xs) row) (sym (take_more all i x within ∙ ap (λ y. take i all ++ y ∷ []) (sym is)))
