-- Privileges with columns, in the order of the privileges.
use Rattle.std.specs.Prelude.{◌≡◌, ℕ, zero, suc, Bool, true, false, List, [], ◌∷◌, ◌++◌, refl}
use Rattle.acl_stmt.specs.Columns.{is_column_list}
use Rattle.acl_stmt.specs.declared.columns.ColumnPriv.{ColumnPriv}

-- the privilege on these columns, where the test says that they make a list
abbrev pub column_list_if : (p : ℕ) (names : List (List ℕ)) (test : Bool) → is_column_list p names ≡ test → List ColumnPriv
column_list_if p names true is = record { privilege = p; names = names; listed = is } ∷ []
column_list_if p names false is = []

abbrev pub column_list : ℕ → List (List ℕ) → List ColumnPriv
column_list p names = column_list_if p names (is_column_list p names) refl

-- the columns of so many privileges, from one number on
abbrev pub column_lists : ℕ → ℕ → (ℕ → List (List ℕ)) → List ColumnPriv
column_lists p zero names = []
column_lists p (suc left) names = column_list p (names p) ++ column_lists (suc p) left names
