-- A row and what numbered accounts hold: each is found from the other.
use Rattle.std.proofs.Common.{◌≡◌, ◌∙◌, refl, sym, ap, ℕ, Bool, true, false, ◌==◌, ◌||◌, Option, None, Some}
use Rattle.std.proofs.lemmas.Bool.{true≢false, eq-eqb}
use Rattle.acl_names.specs.declared.auth.AuthId.{AuthId}
use Rattle.account_holdings.proofs.SameHoldings.{equal_from_same_holding, same_holding_itself}
use Rattle.account_holdings.specs.Holdings.{names_number, same_holding}
use Rattle.account_holdings.specs.declared.holding.Holding.{Holding}
use Rattle.account_holdings.specs.declared.holding.Holding.TheVariants as held
use Rattle.account_holdings.specs.declared.globals.GlobalKind.TheVariants as kind
use Rattle.acl_model.proofs.SameRows.{equal_from_same_row, same_row_itself}
use Rattle.acl_model.specs.Rows.{same_row}
use Rattle.acl_model.specs.declared.row.Row.{Row}
use Rattle.acl_model.specs.declared.row.Row.TheVariants.{Account, Global, Dynamic, DynamicGrant, Schema, Table, Column, Function, Procedure, Edge, Admin, Default, Restriction}
use Rattle.acl_names.specs.AuthId.{same_auth}
use Rattle.numbered_rows.specs.Conditions.{is_account}
pub use Rattle.numbered_rows.specs.NamedRows.{name_of, name_or_root, object_row, row_of}
use Rattle.numbered_rows.specs.Numbering.{holding_of, number_of, one_number, two_numbers}
use Rattle.numbered_rows.proofs.Numbers.{Names, named_at}
use Rattle.object_bits.specs.declared.object.Object.TheVariants as object

-- the accounts that a row names; twice the same where it names one
abbrev pub first_of : Row → AuthId
first_of (Account a) = a
first_of (Global a p) = a
first_of (Dynamic a d) = a
first_of (DynamicGrant a d) = a
first_of (Schema a s p) = a
first_of (Table a s t p) = a
first_of (Column a s t c p) = a
first_of (Function a s f p) = a
first_of (Procedure a s f p) = a
first_of (Edge role to) = role
first_of (Admin role to) = role
first_of (Default of role) = of
first_of (Restriction a p s) = a

abbrev pub second_of : Row → AuthId
second_of (Edge role to) = to
second_of (Admin role to) = to
second_of (Default of role) = role
second_of row = first_of row

-- the row's holding for the numbers of its accounts; that of an account row is never asked for
abbrev pub shape : Row → ℕ → ℕ → Holding
shape (Account a) m n = held.Edge m n
shape (Global a p) m n = held.OnAll kind.Static m p
shape (Dynamic a d) m n = held.OnAll kind.Dynamic m d
shape (DynamicGrant a d) m n = held.OnAll kind.Grantable m d
shape (Schema a s p) m n = held.OnSchema m s p
shape (Table a s t p) m n = held.OnObject m (object.Table s t) p
shape (Column a s t c p) m n = held.OnObject m (object.Column s t c) p
shape (Function a s f p) m n = held.OnObject m (object.Function s f) p
shape (Procedure a s f p) m n = held.OnObject m (object.Procedure s f) p
shape (Edge role to) m n = held.Edge m n
shape (Admin role to) m n = held.Admin m n
shape (Default of role) m n = held.Default m n
shape (Restriction a p s) m n = held.Restricted m s p

twice : (holding : ℕ → Holding) (o : Option ℕ) → one_number holding o ≡ two_numbers (λ m n. holding m) o o
twice holding None = refl
twice holding (Some n) = refl

-- a holding by the numbers of the accounts that the row names
pub in_parts : (names : Names) (row : Row) → is_account row ≡ false → holding_of names row ≡ two_numbers (shape row) (number_of names (first_of row)) (number_of names (second_of row))
in_parts names (Account a) other = cc
in_parts names (Global a p) other = twice (λ n. held.OnAll kind.Static n p) (number_of names a)
in_parts names (Dynamic a d) other = twice (λ n. held.OnAll kind.Dynamic n d) (number_of names a)
in_parts names (DynamicGrant a d) other = twice (λ n. held.OnAll kind.Grantable n d) (number_of names a)
in_parts names (Schema a s p) other = twice (λ n. held.OnSchema n s p) (number_of names a)
in_parts names (Table a s t p) other = twice (λ n. held.OnObject n (object.Table s t) p) (number_of names a)
in_parts names (Column a s t c p) other = twice (λ n. held.OnObject n (object.Column s t c) p) (number_of names a)
in_parts names (Function a s f p) other = twice (λ n. held.OnObject n (object.Function s f) p) (number_of names a)
in_parts names (Procedure a s f p) other = twice (λ n. held.OnObject n (object.Procedure s f) p) (number_of names a)
in_parts names (Edge role to) other = refl
in_parts names (Admin role to) other = refl
in_parts names (Default of role) other = refl
in_parts names (Restriction a p s) other = twice (λ n. held.Restricted n s p) (number_of names a)

-- ---- from a holding back to the row

name_again : (names : Names) (a : AuthId) (n : ℕ) → number_of names a ≡ Some n → name_of names n ≡ a
name_again names a n found = ap name_or_root (named_at names a n found)

abbrev pub same_some : Option Holding → Holding → Bool
same_some None other = false
same_some (Some holding) other = same_holding holding other

module _ (names : Names) where
  one_again : (row : AuthId → Row) (holding : ℕ → Holding) → ((n : ℕ) → row_of names (holding n) ≡ row (name_of names n))
      → (a : AuthId) (o : Option ℕ) → number_of names a ≡ o → (h : Holding) → one_number holding o ≡ Some h → row_of names h ≡ row a
  one_again row holding reads a None found h is = cc
  one_again row holding reads a (Some n) found h is =
      let equal : holding n ≡ h = cc in
      ap (row_of names) (sym equal) ∙ reads n ∙ ap row (name_again names a n found)

  two_again : (row : AuthId → AuthId → Row) (holding : ℕ → ℕ → Holding) → ((m n : ℕ) → row_of names (holding m n) ≡ row (name_of names m) (name_of names n))
      → (a b : AuthId) (o u : Option ℕ) → number_of names a ≡ o → number_of names b ≡ u → (h : Holding) → two_numbers holding o u ≡ Some h → row_of names h ≡ row a b
  two_again row holding reads a b None u found known h is = cc
  two_again row holding reads a b (Some m) None found known h is = cc
  two_again row holding reads a b (Some m) (Some n) found known h is =
      let equal : holding m n ≡ h = cc in
      ap (row_of names) (sym equal) ∙ reads m n ∙ ap (λ x. row x (name_of names n)) (name_again names a m found) ∙ ap (row a) (name_again names b n known)

  -- the row of a row's holding is that row
  pub row_again : (row : Row) (h : Holding) → holding_of names row ≡ Some h → row_of names h ≡ row
  row_again (Account a) h is = cc
  row_again (Global a p) h is = one_again (λ x. Global x p) (λ n. held.OnAll kind.Static n p) (λ n. refl) a (number_of names a) refl h is
  row_again (Dynamic a d) h is = one_again (λ x. Dynamic x d) (λ n. held.OnAll kind.Dynamic n d) (λ n. refl) a (number_of names a) refl h is
  row_again (DynamicGrant a d) h is = one_again (λ x. DynamicGrant x d) (λ n. held.OnAll kind.Grantable n d) (λ n. refl) a (number_of names a) refl h is
  row_again (Schema a s p) h is = one_again (λ x. Schema x s p) (λ n. held.OnSchema n s p) (λ n. refl) a (number_of names a) refl h is
  row_again (Table a s t p) h is = one_again (λ x. Table x s t p) (λ n. held.OnObject n (object.Table s t) p) (λ n. refl) a (number_of names a) refl h is
  row_again (Column a s t c p) h is = one_again (λ x. Column x s t c p) (λ n. held.OnObject n (object.Column s t c) p) (λ n. refl) a (number_of names a) refl h is
  row_again (Function a s f p) h is = one_again (λ x. Function x s f p) (λ n. held.OnObject n (object.Function s f) p) (λ n. refl) a (number_of names a) refl h is
  row_again (Procedure a s f p) h is = one_again (λ x. Procedure x s f p) (λ n. held.OnObject n (object.Procedure s f) p) (λ n. refl) a (number_of names a) refl h is
  row_again (Edge role to) h is = two_again Edge held.Edge (λ m n. refl) role to (number_of names role) (number_of names to) refl refl h is
  row_again (Admin role to) h is = two_again Admin held.Admin (λ m n. refl) role to (number_of names role) (number_of names to) refl refl h is
  row_again (Default of role) h is = two_again Default held.Default (λ m n. refl) of role (number_of names of) (number_of names role) refl refl h is
  row_again (Restriction a p s) h is = one_again (λ x. Restriction x p s) (λ n. held.Restricted n s p) (λ n. refl) a (number_of names a) refl h is

  -- rows are the same exactly where their holdings are
  pub same_by_holding : (row added : Row) (h : Holding) → holding_of names added ≡ Some h → same_row row added ≡ same_some (holding_of names row) h
  same_by_holding row added h is = by (same_row row added) refl (holding_of names row) refl
    where
      alike : (g : Holding) (t : Bool) → same_holding g h ≡ t → holding_of names row ≡ Some g → same_row row added ≡ false → false ≡ t
      alike g false same known differs = refl
      alike g true same known differs =
          let equal : row ≡ added =
          sym (row_again row g known) ∙ ap (row_of names) (equal_from_same_holding g h same) ∙ row_again added h is in
          absurd (true≢false (sym (same_row_itself added) ∙ ap (λ r. same_row r added) (sym equal) ∙ differs))

      by : (t : Bool) → same_row row added ≡ t → (o : Option Holding) → holding_of names row ≡ o → t ≡ same_some o h
      by true same None known = cc (ap (holding_of names) (equal_from_same_row row added same), known, is)
      by true same (Some g) known =
          let equal : Some g ≡ Some h = sym known ∙ ap (holding_of names) (equal_from_same_row row added same) ∙ is in
          let e : g ≡ h = cc in
          sym (ap (λ x. same_holding x h) e ∙ same_holding_itself h)
      by false differs None known = refl
      by false differs (Some g) known = alike g (same_holding g h) refl known differs

-- ---- what a shape names

pub first_named : (row : Row) (m n : ℕ) → names_number m (shape row m n) ≡ true
first_named (Edge role to) m n = rw (eq-eqb m m refl) refl
first_named (Admin role to) m n = rw (eq-eqb m m refl) refl
first_named (Default of role) m n = rw (eq-eqb m m refl) refl
first_named (Account a) m n = rw (eq-eqb m m refl) refl
first_named _ m n = eq-eqb m m refl

pub or_last : (t : Bool) → (t || true) ≡ true
or_last true = refl
or_last false = refl

-- where the first account is another one than the second, the second is named too
pub second_named : (row : Row) (a : AuthId) → same_auth (first_of row) a ≡ false → same_auth (second_of row) a ≡ true → (m n : ℕ) → names_number n (shape row m n) ≡ true
second_named (Edge role to) a first second m n = rw (eq-eqb n n refl) (or_last (m == n))
second_named (Admin role to) a first second m n = rw (eq-eqb n n refl) (or_last (m == n))
second_named (Default of role) a first second m n = rw (eq-eqb n n refl) (or_last (m == n))
second_named _ a first second m n = cc
