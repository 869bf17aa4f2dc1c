-- Rows are the same exactly where they are equal.
use Rattle.std.proofs.Common.{◌≡◌, ◌∙◌, ◌&&◌, ℕ, Bool, true, List, refl, ap, subst, nat_eq, eq-eqb}
use Rattle.std.proofs.lemmas.Bool.{and_parts, eqb-true}
use Rattle.acl_names.proofs.SameAuth.{equal_from_same_auth, equal_from_text_eq, same_auth_itself, text_eq_itself}
use Rattle.acl_names.specs.AuthId.{same_auth}
use Rattle.acl_names.specs.Text.{text_eq}
use Rattle.acl_names.specs.declared.auth.AuthId.{AuthId}
use Rattle.acl_model.specs.Rows.{same_row}
use Rattle.acl_model.specs.declared.row.Row.{Row}
use Rattle.acl_model.specs.declared.row.Row.TheVariants.{Account, Global, Dynamic, DynamicGrant, Schema, Table, Column, Function, Procedure, Edge, Admin, Default, Restriction}

pub same_row_itself : (row : Row) → same_row row row ≡ true
same_row_itself (Account a) = same_auth_itself a
same_row_itself (Global a p) = rw (same_auth_itself a, eq-eqb p p refl) refl
same_row_itself (Dynamic a d) = rw (same_auth_itself a, eq-eqb d d refl) refl
same_row_itself (DynamicGrant a d) = rw (same_auth_itself a, eq-eqb d d refl) refl
same_row_itself (Schema a s p) = rw (same_auth_itself a, text_eq_itself s, eq-eqb p p refl) refl
same_row_itself (Table a s t p) = simp (same_auth_itself a, text_eq_itself s, text_eq_itself t, eq-eqb p p refl)
same_row_itself (Column a s t c p) = simp (same_auth_itself a, text_eq_itself s, text_eq_itself t, text_eq_itself c, eq-eqb p p refl)
same_row_itself (Function a s f p) = simp (same_auth_itself a, text_eq_itself s, text_eq_itself f, eq-eqb p p refl)
same_row_itself (Procedure a s f p) = simp (same_auth_itself a, text_eq_itself s, text_eq_itself f, eq-eqb p p refl)
same_row_itself (Edge r a) = simp (same_auth_itself r, same_auth_itself a)
same_row_itself (Admin r a) = simp (same_auth_itself r, same_auth_itself a)
same_row_itself (Default a r) = simp (same_auth_itself a, same_auth_itself r)
same_row_itself (Restriction a p s) = simp (same_auth_itself a, text_eq_itself s, eq-eqb p p refl)

pub same_row_from_equal : (a b : Row) → a ≡ b → same_row a b ≡ true
same_row_from_equal a b equal = subst (λ (row : Row). same_row a row ≡ true) equal (same_row_itself a)

both_true : (x y : Bool) → x ≡ true → y ≡ true → (x && y) ≡ true
both_true x y first last = rw (first, last) refl

with_number : (row : AuthId → ℕ → Row) (a b : AuthId) (p q : ℕ) → (same_auth a b && nat_eq p q) ≡ true → row a p ≡ row b q
with_number row a b p q same =
    let parts = and_parts (same_auth a b) (nat_eq p q) same in
    ap (λ (x : AuthId). row x p) (equal_from_same_auth a b parts.0) ∙ ap (row b) (eqb-true p q parts.1)

with_text : (row : AuthId → ℕ → List ℕ → Row) (a b : AuthId) (s t : List ℕ) (p q : ℕ)
    → (same_auth a b && text_eq s t && nat_eq p q) ≡ true → row a p s ≡ row b q t
with_text row a b s t p q same =
    let outer = and_parts (same_auth a b && text_eq s t) (nat_eq p q) same in
    let inner = and_parts (same_auth a b) (text_eq s t) outer.0 in
    ap (λ (x : AuthId). row x p s) (equal_from_same_auth a b inner.0)
    ∙ ap (λ (n : ℕ). row b n s) (eqb-true p q outer.1)
    ∙ ap (row b q) (equal_from_text_eq s t inner.1)

with_roles : (row : AuthId → AuthId → Row) (a b c d : AuthId) → (same_auth a b && same_auth c d) ≡ true → row a c ≡ row b d
with_roles row a b c d same =
    let parts = and_parts (same_auth a b) (same_auth c d) same in
    ap (λ (x : AuthId). row x c) (equal_from_same_auth a b parts.0) ∙ ap (row b) (equal_from_same_auth c d parts.1)

with_object : (row : AuthId → List ℕ → List ℕ → ℕ → Row) (a b : AuthId) (s u t v : List ℕ) (p q : ℕ)
    → (same_auth a b && text_eq s u && text_eq t v && nat_eq p q) ≡ true → row a s t p ≡ row b u v q
with_object row a b s u t v p q same =
    let outer = and_parts (same_auth a b && text_eq s u && text_eq t v) (nat_eq p q) same in
    let inner = and_parts (same_auth a b && text_eq s u) (text_eq t v) outer.0 in
    with_text (λ x n w. row x w t n) a b s u p q (both_true (same_auth a b && text_eq s u) (nat_eq p q) inner.0 outer.1)
    ∙ ap (λ (w : List ℕ). row b u w q) (equal_from_text_eq t v inner.1)

-- rows that are the same are equal
pub equal_from_same_row : (a b : Row) → same_row a b ≡ true → a ≡ b
equal_from_same_row (Account a) (Account b) same = ap Account (equal_from_same_auth a b same)
equal_from_same_row (Global a p) (Global b q) same = with_number Global a b p q same
equal_from_same_row (Dynamic a d) (Dynamic b e) same = with_number Dynamic a b d e same
equal_from_same_row (DynamicGrant a d) (DynamicGrant b e) same = with_number DynamicGrant a b d e same
equal_from_same_row (Schema a s p) (Schema b t q) same = with_text (λ x n w. Schema x w n) a b s t p q same
equal_from_same_row (Table a s t p) (Table b u v q) same = with_object Table a b s u t v p q same
equal_from_same_row (Column a s t c p) (Column b u v d q) same =
    let outer = and_parts (same_auth a b && text_eq s u && text_eq t v && text_eq c d) (nat_eq p q) same in
    let inner = and_parts (same_auth a b && text_eq s u && text_eq t v) (text_eq c d) outer.0 in
    with_object (λ x w y n. Column x w y c n) a b s u t v p q (both_true (same_auth a b && text_eq s u && text_eq t v) (nat_eq p q) inner.0 outer.1)
    ∙ ap (λ (w : List ℕ). Column b u v w q) (equal_from_text_eq c d inner.1)
equal_from_same_row (Function a s f p) (Function b u g q) same = with_object Function a b s u f g p q same
equal_from_same_row (Procedure a s f p) (Procedure b u g q) same = with_object Procedure a b s u f g p q same
equal_from_same_row (Edge r a) (Edge q b) same = with_roles Edge r q a b same
equal_from_same_row (Admin r a) (Admin q b) same = with_roles Admin r q a b same
equal_from_same_row (Default a r) (Default b q) same = with_roles Default a b r q same
equal_from_same_row (Restriction a p s) (Restriction b q t) same =
    let outer = and_parts (same_auth a b && nat_eq p q) (text_eq s t) same in
    let inner = and_parts (same_auth a b) (nat_eq p q) outer.0 in
    with_text Restriction a b s t p q (both_true (same_auth a b && text_eq s t) (nat_eq p q) (both_true (same_auth a b) (text_eq s t) inner.0 outer.1) inner.1)
equal_from_same_row _ _ same = cc
