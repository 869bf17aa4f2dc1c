-- Lists of privileges that are made of tests keep the rules of lists.
use Rattle.std.proofs.Common.{◌≡◌, refl, ℕ, zero, suc, ◌<◌, ◌^◌, nat_lt, Bool, true, false, ◌&&◌, List, [], ◌∷◌, ◌++◌, IsTrue, arith}
use Rattle.std.proofs.lemmas.Bool.{and_from, lt-ltb}
use Rattle.acl_stmt.specs.Columns.{is_column_list}
use Rattle.acl_stmt.specs.Privileges.{are_in_order, is_priv_list}
use Rattle.acl_stmt.specs.declared.columns.ColumnPriv.{ColumnPriv}
use Rattle.listed_privileges.proofs.Bits.{bits_below-lt}
use Rattle.listed_privileges.specs.Columns.{column_list_if, column_lists}
use Rattle.listed_privileges.specs.Sets.{bits_below}
use Rattle.priv_sets.specs.declared.static_set.Static.{Static}

-- the set of the static privileges that pass the test
abbrev plain_set : (ℕ → Bool) → Static
plain_set test = record { 0 = bits_below 31 test }

rules_from : (plain : Static) (columns : List ColumnPriv) (dynamic : ℕ) → plain.0 < 2 ^ 31 → dynamic < 2 ^ 20 → are_in_order columns ≡ true → is_priv_list false plain columns dynamic ≡ true
unfolding is_priv_list
rules_from plain columns dynamic known low ordered =
    and_from (nat_lt plain.0 (2 ^ 31) && nat_lt dynamic (2 ^ 20) && are_in_order columns) true
    (and_from (nat_lt plain.0 (2 ^ 31) && nat_lt dynamic (2 ^ 20)) (are_in_order columns)
    (and_from (nat_lt plain.0 (2 ^ 31)) (nat_lt dynamic (2 ^ 20)) (lt-ltb plain.0 (2 ^ 31) known) (lt-ltb dynamic (2 ^ 20) low)) ordered) refl

pub plain-listed : (test : ℕ → Bool) → IsTrue (is_priv_list false (record { 0 = bits_below 31 test }) [] 0)
plain-listed test = rules_from (plain_set test) [] 0 (bits_below-lt 31 test) (omega arith) refl

pub dynamic-listed : (test : ℕ → Bool) → IsTrue (is_priv_list false (record { 0 = 0 }) [] (bits_below 20 test))
dynamic-listed test = rules_from (record { 0 = 0 }) [] (bits_below 20 test) (omega arith) (bits_below-lt 20 test) refl

-- ---- columns

-- whether the first privilege is above a number
starts_above : ℕ → List ColumnPriv → Bool
starts_above n [] = true
starts_above n (first ∷ rest) = nat_lt n first.privilege

in_order_more : (first : ColumnPriv) (rest : List ColumnPriv) → starts_above first.privilege rest ≡ true → are_in_order rest ≡ true → are_in_order (first ∷ rest) ≡ true
unfolding starts_above
in_order_more first [] above ordered = refl
in_order_more first (second ∷ rest) above ordered = and_from (nat_lt first.privilege second.privilege) (are_in_order (second ∷ rest)) above ordered

first_above : (n p : ℕ) (names : List (List ℕ)) (test : Bool) (is : is_column_list p names ≡ test) (rest : List ColumnPriv) → n < p → starts_above n rest ≡ true
    → starts_above n (column_list_if p names test is ++ rest) ≡ true
unfolding starts_above
first_above n p names true is rest less above = lt-ltb n p less
first_above n p names false is rest less above = above

lists_above : (n left p : ℕ) (names : ℕ → List (List ℕ)) → n < p → starts_above n (column_lists p left names) ≡ true
unfolding starts_above
lists_above n zero p names less = refl
lists_above n (suc left) p names less =
    first_above n p (names p) (is_column_list p (names p)) refl (column_lists (suc p) left names) less (lists_above n left (suc p) names (omega arith))

first_in_order : (p : ℕ) (names : List (List ℕ)) (test : Bool) (is : is_column_list p names ≡ test) (rest : List ColumnPriv) → starts_above p rest ≡ true → are_in_order rest ≡ true
    → are_in_order (column_list_if p names test is ++ rest) ≡ true
first_in_order p names true is rest above ordered = in_order_more (record { privilege = p; names = names; listed = is }) rest above ordered
first_in_order p names false is rest above ordered = ordered

lists_in_order : (left p : ℕ) (names : ℕ → List (List ℕ)) → are_in_order (column_lists p left names) ≡ true
lists_in_order zero p names = refl
lists_in_order (suc left) p names =
    first_in_order p (names p) (is_column_list p (names p)) refl (column_lists (suc p) left names) (lists_above p left (suc p) names (omega arith)) (lists_in_order left (suc p) names)

pub columns-listed : (test : ℕ → Bool) (names : ℕ → List (List ℕ)) → IsTrue (is_priv_list false (record { 0 = bits_below 31 test }) (column_lists 0 31 names) 0)
columns-listed test names = rules_from (plain_set test) (column_lists 0 31 names) 0 (bits_below-lt 31 test) (omega arith) (lists_in_order 31 0 names)
