-- The rows that an account holds, and those that name it.
use Rattle.std.proofs.Common.{◌≡◌, ◌∙◌, ap, sym, Bool, true, false, ◌&&◌, ◌||◌, List, filter, refl}
use Rattle.std.proofs.Math.Bool.{and-false, or-false}
use Rattle.std.specs.List.{list_any}
use Rattle.acl_names.proofs.SameAuth.{equal_from_same_auth}
use Rattle.acl_names.specs.AuthId.{same_auth}
use Rattle.acl_names.specs.declared.auth.AuthId.{AuthId}
use Rattle.acl_model.specs.Rows.{holder, same_row, some_name}
use Rattle.acl_model.specs.declared.row.Row.{Row}
use Rattle.acl_model.specs.declared.row.Row.TheVariants.{Account}
use Rattle.acl_rows.specs.Conditions.{is_account}
use Rattle.acl_rows.specs.Holders.{holds_as_grant, names_as_grant}
use Rattle.acl_rows.specs.Tables.{Tables, has_account, state_of}
use Rattle.acl_rows.proofs.RowLists.{any-filter}
use Rattle.acl_rows.proofs.States.{same_auth_back}

own_row : (accounts : List (AuthId × _)) (a b : AuthId) (u : Bool) → same_auth b a ≡ u → (has_account accounts a && u) ≡ (has_account accounts b && u)
own_row accounts a b true is = ap (λ (x : AuthId). has_account accounts x && true) (sym (equal_from_same_auth b a is))
own_row accounts a b false is = and-false (has_account accounts a) ∙ sym (and-false (has_account accounts b))

other_row : (b c : Bool) (row : Row) (a : AuthId) → is_account row ≡ false → (b || (c && same_row row (Account a))) ≡ b
other_row b c (Account x) a other = cc
other_row b c _ a other = ap (λ t. b || t) (and-false c) ∙ or-false b

-- the rows that name an account
pub naming : (tables : Tables) (a : AuthId) (row : Row)
    → (list_any (same_row row) (filter (names_as_grant a) tables.grants) || (has_account tables.accounts a && same_row row (Account a)))
    ≡ ((state_of tables).rows row && some_name (same_auth a) row)
unfolding state_of
naming tables a (Account b) =
    ap (λ t. t || (has_account tables.accounts a && same_auth b a)) (any-filter (names_as_grant a) (Account b) tables.grants ∙ and-false (list_any (same_row (Account b)) tables.grants))
    ∙ own_row tables.accounts a b (same_auth b a) refl
    ∙ ap (λ t. has_account tables.accounts b && t) (sym (same_auth_back b a (same_auth b a) refl))
naming tables a row =
    other_row (list_any (same_row row) (filter (names_as_grant a) tables.grants)) (has_account tables.accounts a) row a refl
    ∙ any-filter (names_as_grant a) row tables.grants

-- the rows that an account holds
pub holding : (tables : Tables) (a : AuthId) (row : Row)
    → (list_any (same_row row) (filter (holds_as_grant a) tables.grants) || (has_account tables.accounts a && same_row row (Account a)))
    ≡ ((state_of tables).rows row && same_auth (holder row) a)
unfolding state_of
holding tables a (Account b) =
    ap (λ t. t || (has_account tables.accounts a && same_auth b a)) (any-filter (holds_as_grant a) (Account b) tables.grants ∙ and-false (list_any (same_row (Account b)) tables.grants))
    ∙ own_row tables.accounts a b (same_auth b a) refl
holding tables a row =
    other_row (list_any (same_row row) (filter (holds_as_grant a) tables.grants)) (has_account tables.accounts a) row a refl
    ∙ any-filter (holds_as_grant a) row tables.grants
