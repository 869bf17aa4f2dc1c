-- One list at most is meant by what is named.
use Rattle.std.proofs.Common.{◌≡◌, ◌∙◌, refl, sym, ap, subst, ℕ, ◌<◌, Bool, true, if◌then◌else◌, List, [], ◌∷◌, ◌++◌, append-nil, inl, inr, arith}
use Rattle.std.proofs.Props.{props}
use Rattle.std.proofs.lemmas.Bool.{and_from, and_parts, cases_eq, cases_lt, eq-eqb, lt-ltb, ltb-true, ne_eqb}
use Rattle.std.specs.List.{list_all}
use Rattle.std.specs.Prelude.{nat_lt}
use Rattle.acl_stmt.specs.Columns.{is_column_list}
use Rattle.acl_stmt.specs.Privileges.{are_in_order, is_priv_list}
use Rattle.acl_stmt.specs.declared.columns.ColumnPriv.{ColumnPriv}
use Rattle.acl_stmt.specs.declared.privileges.PrivList.{PrivList}
use Rattle.priv_sets.proofs.Bits.{same_sets}
use Rattle.priv_sets.specs.StaticSet.{holds}
use Rattle.priv_sets.specs.declared.static_set.Static.{Static}
use Rattle.priv_items.proofs.Fits.{is_empty_from, some_names}
use Rattle.priv_items.proofs.Lists.{rules_of}
use Rattle.priv_items.specs.Meaning.{IsMeant, columns_on}
use Rattle.priv_items.specs.declared.item.Named.{Named}

-- a list of columns is its privilege and its names
abbrev columns_from : (parts : ℕ × List (List ℕ)) → is_column_list parts.0 parts.1 ≡ true → ColumnPriv
columns_from parts rules = record { privilege = parts.0; names = parts.1; listed = rules }

same_columns_from : (p q : ℕ × List (List ℕ)) → p ≡ q → (r : is_column_list p.0 p.1 ≡ true) (s : is_column_list q.0 q.1 ≡ true) → columns_from p r ≡ columns_from q s
same_columns_from p q same =
    let P : ℕ × List (List ℕ) → Type 0 = λ q. (r : is_column_list p.0 p.1 ≡ true) (s : is_column_list q.0 q.1 ≡ true) → columns_from p r ≡ columns_from q s in
    let one : IsProp (is_column_list p.0 p.1 ≡ true) = hlevel props in
    subst P same (λ r s. ap (columns_from p) (one r s))

same_columns : (x y : ColumnPriv) → x.privilege ≡ y.privilege → x.names ≡ y.names → x ≡ y
same_columns x y privilege names = same_columns_from (x.privilege, x.names) (y.privilege, y.names) (λ i. (privilege i, names i)) x.listed y.listed

-- a list of privileges is its four parts
abbrev list_from : (parts : Bool × Static × List ColumnPriv × ℕ) → is_priv_list parts.0 parts.1 parts.2 parts.3 ≡ true → PrivList
list_from parts rules = record { all = parts.0; plain = parts.1; columns = parts.2; dynamic = parts.3; listed = rules }

same_list_from : (p q : Bool × Static × List ColumnPriv × ℕ) → p ≡ q → (r : is_priv_list p.0 p.1 p.2 p.3 ≡ true) (s : is_priv_list q.0 q.1 q.2 q.3 ≡ true) → list_from p r ≡ list_from q s
same_list_from p q same =
    let P : Bool × Static × List ColumnPriv × ℕ → Type 0 = λ q. (r : is_priv_list p.0 p.1 p.2 p.3 ≡ true) (s : is_priv_list q.0 q.1 q.2 q.3 ≡ true) → list_from p r ≡ list_from q s in
    let one : IsProp (is_priv_list p.0 p.1 p.2 p.3 ≡ true) = hlevel props in
    subst P same (λ r s. ap (list_from p) (one r s))

same_list : (a b : PrivList) → a.all ≡ b.all → a.plain ≡ b.plain → a.columns ≡ b.columns → a.dynamic ≡ b.dynamic → a ≡ b
same_list a b all plain columns dynamic =
    same_list_from (a.all, a.plain, a.columns, a.dynamic) (b.all, b.plain, b.columns, b.dynamic) (λ i. (all i, plain i, columns i, dynamic i)) a.listed b.listed

same_static : (a b : Static) → ((q : ℕ) → holds a q ≡ holds b q) → a ≡ b
unfolding holds
same_static a b same = ap (λ bits. let set : Static = record { 0 = bits } in set) (same_sets a.0 b.0 same)

-- what stands behind a list of columns has greater privileges
above_less : (lists : List ColumnPriv) (low high : ℕ) → low < high → list_all (λ listed. nat_lt high listed.privilege) lists ≡ true → list_all (λ listed. nat_lt low listed.privilege) lists ≡ true
above_less [] low high less above = refl
above_less (x ∷ xs) low high less above =
    let parts = and_parts (nat_lt high x.privilege) (list_all (λ listed. nat_lt high listed.privilege) xs) above in
    let first : high < x.privilege = ltb-true high x.privilege parts.0 in
    and_from (nat_lt low x.privilege) (list_all (λ listed. nat_lt low listed.privilege) xs) (lt-ltb low x.privilege (omega arith)) (above_less xs low high less parts.1)

order_above : (x : ColumnPriv) (xs : List ColumnPriv) → are_in_order (x ∷ xs) ≡ true → list_all (λ listed. nat_lt x.privilege listed.privilege) xs ≡ true
order_above x [] order = refl
order_above x (y ∷ ys) order =
    let parts = and_parts (nat_lt x.privilege y.privilege) (are_in_order (y ∷ ys)) order in
    and_from (nat_lt x.privilege y.privilege) (list_all (λ listed. nat_lt x.privilege listed.privilege) ys) parts.0
    (above_less ys x.privilege y.privilege (ltb-true x.privilege y.privilege parts.0) (order_above y ys parts.1))

pub order_rest : (x : ColumnPriv) (xs : List ColumnPriv) → are_in_order (x ∷ xs) ≡ true → are_in_order xs ≡ true
order_rest x [] order = refl
order_rest x (y ∷ ys) order = (and_parts (nat_lt x.privilege y.privilege) (are_in_order (y ∷ ys)) order).1

none_above : (lists : List ColumnPriv) (q : ℕ) → list_all (λ listed. nat_lt q listed.privilege) lists ≡ true → columns_on lists q ≡ []
none_above [] q above = refl
none_above (x ∷ xs) q above =
    let parts = and_parts (nat_lt q x.privilege) (list_all (λ listed. nat_lt q listed.privilege) xs) above in
    let first : q < x.privilege = ltb-true q x.privilege parts.0 in
    λ i. (if ne_eqb q x.privilege (omega arith) i then x.names else []) ++ none_above xs q parts.1 i

-- the columns of the first privilege, and of the others
pub own_columns : (x : ColumnPriv) (xs : List ColumnPriv) → are_in_order (x ∷ xs) ≡ true → columns_on (x ∷ xs) x.privilege ≡ x.names
own_columns x xs order =
    (λ i. (if eq-eqb x.privilege x.privilege refl i then x.names else []) ++ none_above xs x.privilege (order_above x xs order) i) ∙ append-nil x.names

pub other_columns : (x : ColumnPriv) (xs : List ColumnPriv) (q : ℕ) → (q ≡ x.privilege → ⊥) → columns_on (x ∷ xs) q ≡ columns_on xs q
other_columns x xs q other = λ i. (if ne_eqb q x.privilege other i then x.names else []) ++ columns_on xs q

not_first : (x : ColumnPriv) (xs others : List ColumnPriv) → columns_on others x.privilege ≡ [] → columns_on (x ∷ xs) x.privilege ≡ columns_on others x.privilege → ⊥
not_first x xs others none same =
    is_empty_from x.names (columns_on xs x.privilege) (some_names x)
    (sym (λ i. (if eq-eqb x.privilege x.privilege refl i then x.names else []) ++ columns_on xs x.privilege) ∙ same ∙ none)

none_before : (low : ℕ) (y : ColumnPriv) (ys : List ColumnPriv) → low < y.privilege → are_in_order (y ∷ ys) ≡ true → columns_on (y ∷ ys) low ≡ []
none_before low y ys less order =
    none_above (y ∷ ys) low (and_from (nat_lt low y.privilege) (list_all (λ listed. nat_lt low listed.privilege) ys) (lt-ltb low y.privilege less) (above_less ys low y.privilege less (order_above y ys order)))

rest_columns : (x y : ColumnPriv) (xs ys : List ColumnPriv) → x.privilege ≡ y.privilege → are_in_order (x ∷ xs) ≡ true → are_in_order (y ∷ ys) ≡ true
    → ((q : ℕ) → columns_on (x ∷ xs) q ≡ columns_on (y ∷ ys) q) → (q : ℕ) → columns_on xs q ≡ columns_on ys q
rest_columns x y xs ys privilege first second same q =
    elim (cases_eq q x.privilege) [
      | inl is ↦ ap (columns_on xs) is ∙ none_above xs x.privilege (order_above x xs first) ∙ sym (ap (columns_on ys) (is ∙ privilege) ∙ none_above ys y.privilege (order_above y ys second))
      | inr other ↦ sym (other_columns x xs q other) ∙ same q ∙ other_columns y ys q (λ is. other (is ∙ sym privilege))
    ]

same_lists : (xs ys : List ColumnPriv) → are_in_order xs ≡ true → are_in_order ys ≡ true → ((q : ℕ) → columns_on xs q ≡ columns_on ys q) → xs ≡ ys
same_lists [] [] first second same = refl
same_lists [] (y ∷ ys) first second same = absurd (not_first y ys [] refl (sym (same y.privilege)))
same_lists (x ∷ xs) [] first second same = absurd (not_first x xs [] refl (same x.privilege))
same_lists (x ∷ xs) (y ∷ ys) first second same =
    elim (cases_eq x.privilege y.privilege) [
      | inl is ↦
          let heads : x ≡ y = same_columns x y is (sym (own_columns x xs first) ∙ same x.privilege ∙ ap (columns_on (y ∷ ys)) is ∙ own_columns y ys second) in
          let tails : xs ≡ ys = same_lists xs ys (order_rest x xs first) (order_rest y ys second) (rest_columns x y xs ys is first second same) in
          λ i. heads i ∷ tails i
      | inr other ↦ elim (cases_lt x.privilege y.privilege) [
        | inl less ↦ absurd (not_first x xs (y ∷ ys) (none_before x.privilege y ys less second) (same x.privilege))
        | inr more ↦ absurd (not_first y ys (x ∷ xs) (none_before y.privilege x xs (omega arith) first) (sym (same y.privilege)))
      ]
    ]

pub one_list : (named : Named) (a b : PrivList) → IsMeant named a → IsMeant named b → a ≡ b
one_list named a b first second =
    same_list a b (first.all ∙ sym second.all) (same_static a.plain b.plain (λ q. first.plain q ∙ sym (second.plain q)))
    (same_lists a.columns b.columns (rules_of a.all a.plain a.columns a.dynamic a.listed).order (rules_of b.all b.plain b.columns b.dynamic b.listed).order (λ q. first.columns q ∙ sym (second.columns q)))
    (same_sets a.dynamic b.dynamic (λ q. first.dynamic q ∙ sym (second.dynamic q)))
