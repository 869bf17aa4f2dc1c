-- The order of rows is one, and tells each two of them apart.
use Rattle.std.proofs.Common.{◌≡◌, ◌∙◌, ap, sym, ℕ, Bool, true, false, cond, nat_eq, nat_lt, List, refl, arith, rules}
use Rattle.std.proofs.lemmas.Bool.{eqb-true}
use Rattle.std.proofs.lemmas.Cmp.{lists_total, nat_cmp_total, on_total, then_total, tied_itself}
use Rattle.std.specs.Cmp.{IsEquivalence, IsTotalOrder}
use Rattle.std.specs.Cmp.Rules.{comparing}
use Rattle.std.specs.Ordering.{eq_by_cmp, is_eq, nat_cmp, ordering_then}
use Rattle.std.specs.declared.cmp.Ordering.{Ordering}
use Rattle.std.specs.declared.cmp.Ordering.TheVariants.{Less, Equal, Greater}
use Rattle.acl_names.proofs.SameAuth.{equal_from_same_auth, equal_from_text_eq}
use Rattle.acl_names.specs.AuthId.{auth_cmp}
use Rattle.acl_names.specs.Text.{text_cmp, text_eq}
use Rattle.acl_names.specs.declared.auth.AuthId.{AuthId}
use Rattle.acl_model.proofs.SameRows.{equal_from_same_row, same_row_from_equal, same_row_itself}
use Rattle.acl_model.specs.Rows.{same_row}
use Rattle.acl_model.specs.declared.row.Row.{Row}
use Rattle.acl_model.specs.declared.row.Row.TheVariants.{Account, Global, Dynamic, DynamicGrant, Schema, Table, Column, Function, Procedure, Edge, Admin, Default, Restriction}
use Rattle.row_tables.specs.Order.{accounts_cmp, first_account, first_text, kind_of, last_number, leading_number, row_cmp, second_account, second_text, texts_cmp, third_text}
use Rattle.row_tables.proofs.Members.{auth_ties, auth_total, both_ways}

text_total : IsTotalOrder text_cmp
text_total = lists_total nat_cmp_total

text_ties : (a b : List ℕ) → text_eq a b ≡ eq_by_cmp text_cmp a b
text_ties = search (comparing, rules)

by_tests : (m n : ℕ) (a b : Bool) → nat_eq m n ≡ b → is_eq (cond a Less (cond b Equal Greater)) ≡ true → m ≡ n
by_tests m n true b same tied = cc
by_tests m n false true same tied = eqb-true m n same
by_tests m n false false same tied = cc

number_ties : (m n : ℕ) → is_eq (nat_cmp m n) ≡ true → m ≡ n
number_ties m n tied = by_tests m n (nat_lt m n) (nat_eq m n) refl tied

pub row_total : IsTotalOrder row_cmp
unfolding row_cmp
row_total =
    then_total (on_total kind_of nat_cmp_total)
    (then_total (then_total (on_total first_account auth_total) (on_total second_account auth_total))
    (then_total (on_total leading_number nat_cmp_total)
    (then_total (then_total (on_total first_text text_total) (then_total (on_total second_text text_total) (on_total third_text text_total)))
    (on_total last_number nat_cmp_total))))

both_tied : (o u : Ordering) → is_eq (ordering_then o u) ≡ true → (is_eq o ≡ true) × (is_eq u ≡ true)
both_tied Less u tied = cc
both_tied Equal u tied = (refl, tied)
both_tied Greater u tied = cc

record AlikeFields (x y : Row) : Type 0 where
  kind : kind_of x ≡ kind_of y
  first : first_account x ≡ first_account y
  second : second_account x ≡ second_account y
  leading : leading_number x ≡ leading_number y
  text : first_text x ≡ first_text y
  text_2 : second_text x ≡ second_text y
  text_3 : third_text x ≡ third_text y
  last : last_number x ≡ last_number y

by_fields : (x y : Row) → AlikeFields x y → x ≡ y
by_fields (Account a) (Account b) f = ap Account f.first
by_fields (Global a p) (Global b q) f = ap (λ x. Global x p) f.first ∙ ap (Global b) f.last
by_fields (Dynamic a p) (Dynamic b q) f = ap (λ x. Dynamic x p) f.first ∙ ap (Dynamic b) f.last
by_fields (DynamicGrant a p) (DynamicGrant b q) f = ap (λ x. DynamicGrant x p) f.first ∙ ap (DynamicGrant b) f.last
by_fields (Schema a s p) (Schema b t q) f = ap (λ x. Schema x s p) f.first ∙ ap (λ x. Schema b x p) f.text ∙ ap (Schema b t) f.last
by_fields (Table a s t p) (Table b u v q) f =
    ap (λ x. Table x s t p) f.first ∙ ap (λ x. Table b x t p) f.text ∙ ap (λ x. Table b u x p) f.text_2 ∙ ap (Table b u v) f.last
by_fields (Column a s t c p) (Column b u v d q) f =
    ap (λ x. Column x s t c p) f.first ∙ ap (λ x. Column b x t c p) f.text ∙ ap (λ x. Column b u x c p) f.text_2 ∙ ap (λ x. Column b u v x p) f.text_3 ∙ ap (Column b u v d) f.last
by_fields (Function a s t p) (Function b u v q) f =
    ap (λ x. Function x s t p) f.first ∙ ap (λ x. Function b x t p) f.text ∙ ap (λ x. Function b u x p) f.text_2 ∙ ap (Function b u v) f.last
by_fields (Procedure a s t p) (Procedure b u v q) f =
    ap (λ x. Procedure x s t p) f.first ∙ ap (λ x. Procedure b x t p) f.text ∙ ap (λ x. Procedure b u x p) f.text_2 ∙ ap (Procedure b u v) f.last
by_fields (Edge r a) (Edge q b) f = ap (λ x. Edge x a) f.first ∙ ap (Edge q) f.second
by_fields (Admin r a) (Admin q b) f = ap (λ x. Admin x a) f.first ∙ ap (Admin q) f.second
by_fields (Default a r) (Default b q) f = ap (λ x. Default x r) f.first ∙ ap (Default b) f.second
by_fields (Restriction a p s) (Restriction b q t) f = ap (λ x. Restriction x p s) f.first ∙ ap (λ x. Restriction b x s) f.leading ∙ ap (Restriction b q) f.text
by_fields x y f =
    let kind : kind_of x ≡ kind_of y = f.kind in
    absurd (omega arith)

auth_tied : (a b : AuthId) → is_eq (auth_cmp a b) ≡ true → a ≡ b
auth_tied a b tied = equal_from_same_auth a b (auth_ties a b ∙ tied)

text_tied : (a b : List ℕ) → is_eq (text_cmp a b) ≡ true → a ≡ b
text_tied a b tied = equal_from_text_eq a b (text_ties a b ∙ tied)

tied_rows : (x y : Row) → is_eq (row_cmp x y) ≡ true → x ≡ y
unfolding row_cmp
tied_rows x y tied =
    let kinds = both_tied (nat_cmp (kind_of x) (kind_of y)) _ tied in
    let accounts = both_tied (accounts_cmp x y) _ kinds.1 in
    let two = both_tied (auth_cmp (first_account x) (first_account y)) (auth_cmp (second_account x) (second_account y)) accounts.0 in
    let leads = both_tied (nat_cmp (leading_number x) (leading_number y)) _ accounts.1 in
    let texts = both_tied (texts_cmp x y) (nat_cmp (last_number x) (last_number y)) leads.1 in
    let one = both_tied (text_cmp (first_text x) (first_text y)) _ texts.0 in
    let more = both_tied (text_cmp (second_text x) (second_text y)) (text_cmp (third_text x) (third_text y)) one.1 in
    by_fields x y (record {
      kind = number_ties (kind_of x) (kind_of y) kinds.0;
      first = auth_tied (first_account x) (first_account y) two.0;
      second = auth_tied (second_account x) (second_account y) two.1;
      leading = number_ties (leading_number x) (leading_number y) leads.0;
      text = text_tied (first_text x) (first_text y) one.0;
      text_2 = text_tied (second_text x) (second_text y) more.0;
      text_3 = text_tied (third_text x) (third_text y) more.1;
      last = number_ties (last_number x) (last_number y) texts.1;
    })

pub row_ties : (x y : Row) → same_row x y ≡ eq_by_cmp row_cmp x y
row_ties x y = both_ways (same_row x y) (is_eq (row_cmp x y))
    (λ same. ap (λ z. is_eq (row_cmp x z)) (sym (equal_from_same_row x y same)) ∙ ap is_eq (tied_itself row_total x))
    (λ tied. same_row_from_equal x y (tied_rows x y tied))

pub row_equiv : IsEquivalence same_row
row_equiv = record {
  refl = same_row_itself;
  symm = λ x y. both_ways (same_row x y) (same_row y x) (λ same. same_row_from_equal y x (sym (equal_from_same_row x y same))) (λ same. same_row_from_equal x y (sym (equal_from_same_row y x same)));
  congr = λ x y z same. ap (λ r. same_row r z) (equal_from_same_row x y same);
}
