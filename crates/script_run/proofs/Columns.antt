-- The column that a missing privilege of a request names.
use Rattle.std.proofs.Common.{◌≡◌, ◌∙◌, ap, sym, ℕ, ◌==◌, Option, Some, slice_get}
use Rattle.std.specs.List.{find}
use Rattle.acl_stmt.specs.declared.columns.ColumnPriv.{ColumnPriv}
use Rattle.acl_stmt.specs.declared.privileges.PrivList.{PrivList}
use Rattle.priv_sets.specs.declared.privilege.Privilege.{Privilege}
use Rattle.priv_sets.specs.declared.privilege.Privilege.TheVariants.{Plain, Dynamic}
use Rattle.script_run.specs.Denials.{static_number}
use Rattle.session_rules.specs.Answers.{column_at, columns_of, names_in}

some_inside : (a b : ℕ) → Some a ≡ Some b → a ≡ b
some_inside a b e = cc

pub column_found : (list : PrivList) (privilege : Privilege) (n place : ℕ) (column : Option ℕ) (columns : ColumnPriv) → static_number privilege ≡ Some n
    → find (λ c. c.privilege == n) list.columns ≡ Some columns → column ≡ Some place → slice_get columns.names place ≡ column_at (columns_of list privilege) column
column_found list (Plain p) n place column columns number found at =
    let same : p ≡ n = some_inside p n number in
    let here : find (λ c. c.privilege == p) list.columns ≡ Some columns = ap (λ k. find (λ (c : ColumnPriv). c.privilege == k) list.columns) same ∙ found in
    sym (ap (column_at (names_in (find (λ c. c.privilege == p) list.columns))) at ∙ ap (λ o. slice_get (names_in o) place) here)
column_found list (Dynamic d) n place column columns number found at = absurd (none number)
  where
    none : static_number (Dynamic d) ≡ Some n → ⊥
    none e = cc
