-- Lists of columns in the order of their privileges.
use Rattle.std.proofs.Common.{◌≡◌, ◌∙◌, refl, ℕ, ◌+◌, ◌<◌, Bool, true, List, [], ◌∷◌, ◌++◌, arith}
use Rattle.std.proofs.lemmas.Bool.{and_from, and_parts, lt-ltb, ltb-true}
use Rattle.std.proofs.lemmas.List.Folds.{list_all-append}
use Rattle.std.specs.List.{list_all}
use Rattle.std.specs.Prelude.{nat_lt}
use Rattle.acl_stmt.specs.Privileges.{are_in_order}
use Rattle.acl_stmt.specs.declared.columns.ColumnPriv.{ColumnPriv}

abbrev pub is_below : ℕ → ColumnPriv → Bool
is_below limit listed = nat_lt listed.privilege limit

-- a higher limit serves too
pub below_more : (lists : List ColumnPriv) (limit : ℕ) → list_all (is_below limit) lists ≡ true → list_all (is_below (limit + 1)) lists ≡ true
below_more [] limit below = refl
below_more (x ∷ xs) limit below =
    let parts = and_parts (is_below limit x) (list_all (is_below limit) xs) below in
    let first : x.privilege < limit = ltb-true x.privilege limit parts.0 in
    and_from (is_below (limit + 1) x) (list_all (is_below (limit + 1)) xs) (lt-ltb x.privilege (limit + 1) (omega arith)) (below_more xs limit parts.1)

pub below_push : (lists : List ColumnPriv) (last : ColumnPriv) (limit : ℕ) → last.privilege ≡ limit → list_all (is_below limit) lists ≡ true → list_all (is_below (limit + 1)) (lists ++ last ∷ []) ≡ true
below_push lists last limit same below =
    let here : is_below (limit + 1) last ≡ true = lt-ltb last.privilege (limit + 1) (omega arith) in
    list_all-append (is_below (limit + 1)) lists (last ∷ [])
    ∙ and_from (list_all (is_below (limit + 1)) lists) (list_all (is_below (limit + 1)) (last ∷ [])) (below_more lists limit below) (and_from (is_below (limit + 1) last) true here refl)

-- a list of a higher privilege comes last
pub order_push : (lists : List ColumnPriv) (last : ColumnPriv) → are_in_order lists ≡ true → list_all (is_below last.privilege) lists ≡ true → are_in_order (lists ++ last ∷ []) ≡ true
order_push [] last order below = refl
order_push (x ∷ []) last order below = and_from (nat_lt x.privilege last.privilege) true (and_parts (is_below last.privilege x) true below).0 refl
order_push (x ∷ y ∷ rest) last order below =
    let parts = and_parts (nat_lt x.privilege y.privilege) (are_in_order (y ∷ rest)) order in
    let lower = and_parts (is_below last.privilege x) (list_all (is_below last.privilege) (y ∷ rest)) below in
    and_from (nat_lt x.privilege y.privilege) (are_in_order ((y ∷ rest) ++ last ∷ [])) parts.0 (order_push (y ∷ rest) last parts.1 lower.1)
