-- Holdings are the same exactly where they are equal.
use Rattle.std.proofs.Common.{◌≡◌, ◌∙◌, ◌&&◌, ◌==◌, ℕ, Bool, true, List, refl, ap, eq-eqb}
use Rattle.std.proofs.lemmas.Bool.{and_parts, eqb-true}
use Rattle.acl_names.proofs.SameAuth.{equal_from_text_eq, text_eq_itself}
use Rattle.acl_names.specs.Text.{text_eq}
use Rattle.account_holdings.specs.Globals.{same_kind}
use Rattle.account_holdings.specs.Holdings.{same_holding}
use Rattle.account_holdings.specs.declared.holding.Holding.{Holding}
use Rattle.account_holdings.specs.declared.holding.Holding.TheVariants.{OnAll, OnSchema, Restricted, OnObject, Edge, Admin, Default}
use Rattle.account_holdings.specs.declared.globals.GlobalKind.{GlobalKind}
use Rattle.account_holdings.specs.declared.globals.GlobalKind.TheVariants.{Static, Dynamic, Grantable}
use Rattle.object_bits.proofs.SameObjects.{equal_from_same_object, same_object_itself}
use Rattle.object_bits.specs.Objects.{same_object}

pub same_kind_itself : (kind : GlobalKind) → same_kind kind kind ≡ true
same_kind_itself Static = refl
same_kind_itself Dynamic = refl
same_kind_itself Grantable = refl

pub equal_from_same_kind : (one other : GlobalKind) → same_kind one other ≡ true → one ≡ other
equal_from_same_kind Static Static same = refl
equal_from_same_kind Dynamic Dynamic same = refl
equal_from_same_kind Grantable Grantable same = refl
equal_from_same_kind _ _ same = cc

pub same_holding_itself : (holding : Holding) → same_holding holding holding ≡ true
same_holding_itself (OnAll kind n p) = rw (eq-eqb n n refl, same_kind_itself kind, eq-eqb p p refl) refl
same_holding_itself (OnSchema n s p) = rw (eq-eqb n n refl, text_eq_itself s, eq-eqb p p refl) refl
same_holding_itself (Restricted n s p) = rw (eq-eqb n n refl, text_eq_itself s, eq-eqb p p refl) refl
same_holding_itself (OnObject n o p) = rw (eq-eqb n n refl, same_object_itself o, eq-eqb p p refl) refl
same_holding_itself (Edge role to) = rw (eq-eqb role role refl, eq-eqb to to refl) refl
same_holding_itself (Admin role to) = rw (eq-eqb role role refl, eq-eqb to to refl) refl
same_holding_itself (Default of role) = rw (eq-eqb of of refl, eq-eqb role role refl) refl

-- a holding of an account, with a part that is compared in its own way, and a privilege
three_parts : {A : Type 0} (same_part : A → A → Bool) → ((x y : A) → same_part x y ≡ true → x ≡ y)
    → (holding : ℕ → A → ℕ → Holding) (n m : ℕ) (x y : A) (p q : ℕ) → ((n == m) && same_part x y && (p == q)) ≡ true → holding n x p ≡ holding m y q
three_parts same_part equal holding n m x y p q same =
    let outer = and_parts ((n == m) && same_part x y) (p == q) same in
    let inner = and_parts (n == m) (same_part x y) outer.0 in
    ap (λ k. holding k x p) (eqb-true n m inner.0) ∙ ap (λ z. holding m z p) (equal x y inner.1) ∙ ap (holding m y) (eqb-true p q outer.1)

two_numbers : (holding : ℕ → ℕ → Holding) (n m p q : ℕ) → ((n == m) && (p == q)) ≡ true → holding n p ≡ holding m q
two_numbers holding n m p q same =
    let parts = and_parts (n == m) (p == q) same in
    ap (λ k. holding k p) (eqb-true n m parts.0) ∙ ap (holding m) (eqb-true p q parts.1)

-- holdings that are the same are equal
pub equal_from_same_holding : (one other : Holding) → same_holding one other ≡ true → one ≡ other
equal_from_same_holding (OnAll kind n p) (OnAll other m q) same =
    three_parts same_kind equal_from_same_kind (λ k z r. OnAll z k r) n m kind other p q same
equal_from_same_holding (OnSchema n s p) (OnSchema m t q) same = three_parts text_eq equal_from_text_eq OnSchema n m s t p q same
equal_from_same_holding (Restricted n s p) (Restricted m t q) same = three_parts text_eq equal_from_text_eq Restricted n m s t p q same
equal_from_same_holding (OnObject n o p) (OnObject m w q) same = three_parts same_object equal_from_same_object OnObject n m o w p q same
equal_from_same_holding (Edge role to) (Edge other holder) same = two_numbers Edge role other to holder same
equal_from_same_holding (Admin role to) (Admin other holder) same = two_numbers Admin role other to holder same
equal_from_same_holding (Default of role) (Default owner other) same = two_numbers Default of owner role other same
equal_from_same_holding _ _ same = cc
