-- The right to grant stands beside what may be granted, each row has its level, and whoever it names stands.
use Rattle.std.proofs.Common.{◌≡◌, ◌&&◌, subst, ℕ, true, Option, None, Some, is_some, refl, IsTrue}
use Rattle.account_holdings.proofs.Roles.{granted_with_admin}
use Rattle.account_holdings.specs.Holdings.{Holdings}
use Rattle.account_holdings.specs.declared.globals.GlobalKind.TheVariants as kind
use Rattle.account_holdings.specs.declared.holding.Holding.{Holding}
use Rattle.account_holdings.specs.declared.holding.Holding.TheVariants as held
use Rattle.acl_model.specs.declared.row.Row.{Row}
use Rattle.acl_model.specs.declared.row.Row.TheVariants.{Account, Global, Dynamic, DynamicGrant, Schema, Table, Column, Function, Procedure, Edge, Admin, Default, Restriction}
use Rattle.acl_names.specs.declared.auth.AuthId.{AuthId}
use Rattle.numbered_rows.proofs.Levels.{row_level}
use Rattle.numbered_rows.specs.Conditions.{has_its_level, names_stand}
use Rattle.numbered_rows.specs.Numbering.{holds_some, number_of, one_number, two_numbers}
use Rattle.numbered_rows.specs.Tables.{AreSound, Tables, state_of}
use Rattle.object_bits.specs.declared.object.Object.TheVariants as object

one_named : (tables : Holdings) (holding : ℕ → Holding) (o : Option ℕ) → holds_some tables (one_number holding o) ≡ true → is_some o ≡ true
one_named tables holding None there = cc
one_named tables holding (Some n) there = refl

two_named : (tables : Holdings) (holding : ℕ → ℕ → Holding) (o u : Option ℕ) → holds_some tables (two_numbers holding o u) ≡ true → (is_some o && is_some u) ≡ true
two_named tables holding None u there = cc
two_named tables holding (Some m) None there = cc
two_named tables holding (Some m) (Some n) there = refl

row_named : (t : Tables) (row : Row) → (state_of t).rows row ≡ true → names_stand (state_of t) row ≡ true
unfolding state_of
row_named t (Account a) there = refl
row_named t (Edge role to) there = two_named t.holdings held.Edge (number_of t.accounts.names role) (number_of t.accounts.names to) there
row_named t (Admin role to) there = two_named t.holdings held.Admin (number_of t.accounts.names role) (number_of t.accounts.names to) there
row_named t (Default of role) there = two_named t.holdings held.Default (number_of t.accounts.names of) (number_of t.accounts.names role) there
row_named t (Global a p) there = one_named t.holdings (λ n. held.OnAll kind.Static n p) (number_of t.accounts.names a) there
row_named t (Dynamic a d) there = one_named t.holdings (λ n. held.OnAll kind.Dynamic n d) (number_of t.accounts.names a) there
row_named t (DynamicGrant a d) there = one_named t.holdings (λ n. held.OnAll kind.Grantable n d) (number_of t.accounts.names a) there
row_named t (Schema a s p) there = one_named t.holdings (λ n. held.OnSchema n s p) (number_of t.accounts.names a) there
row_named t (Table a s u p) there = one_named t.holdings (λ n. held.OnObject n (object.Table s u) p) (number_of t.accounts.names a) there
row_named t (Column a s u c p) there = one_named t.holdings (λ n. held.OnObject n (object.Column s u c) p) (number_of t.accounts.names a) there
row_named t (Function a s f p) there = one_named t.holdings (λ n. held.OnObject n (object.Function s f) p) (number_of t.accounts.names a) there
row_named t (Procedure a s f p) there = one_named t.holdings (λ n. held.OnObject n (object.Procedure s f) p) (number_of t.accounts.names a) there
row_named t (Restriction a p s) there = one_named t.holdings (λ n. held.Restricted n s p) (number_of t.accounts.names a) there

module _ (tables now : Tables) (seen : tables ≡ now) (sound : AreSound tables) where
  one_beside : (d : ℕ) (o : Option ℕ) → holds_some tables.holdings (one_number (λ n. held.OnAll kind.Grantable n d) o) ≡ true
      → holds_some tables.holdings (one_number (λ n. held.OnAll kind.Dynamic n d) o) ≡ true
  one_beside d None there = cc
  one_beside d (Some n) there = sound.basis n d there

  two_beside : (o u : Option ℕ) → holds_some tables.holdings (two_numbers held.Admin o u) ≡ true → holds_some tables.holdings (two_numbers held.Edge o u) ≡ true
  two_beside None u there = cc
  two_beside (Some m) None there = cc
  two_beside (Some m) (Some n) there = granted_with_admin tables.holdings.roles m n there

  pub privilege_beside : (a : AuthId) (d : ℕ) → IsTrue ((state_of now).rows (DynamicGrant a d)) → IsTrue ((state_of now).rows (Dynamic a d))
  unfolding state_of
  privilege_beside a d =
      let P : Tables → Type 0 = λ t. IsTrue ((state_of t).rows (DynamicGrant a d)) → IsTrue ((state_of t).rows (Dynamic a d)) in
      subst P seen (one_beside d (number_of tables.accounts.names a))

  pub role_beside : (role to : AuthId) → IsTrue ((state_of now).rows (Admin role to)) → IsTrue ((state_of now).rows (Edge role to))
  unfolding state_of
  role_beside role to =
      let P : Tables → Type 0 = λ t. IsTrue ((state_of t).rows (Admin role to)) → IsTrue ((state_of t).rows (Edge role to)) in
      subst P seen (two_beside (number_of tables.accounts.names role) (number_of tables.accounts.names to))

  pub level_of_each : (row : Row) → IsTrue ((state_of now).rows row) → IsTrue (has_its_level row)
  unfolding state_of
  level_of_each row =
      subst (λ t. IsTrue ((state_of t).rows row) → IsTrue (has_its_level row)) seen (row_level tables sound.levels row)

-- whoever a row names stands
pub names_of_each : (now : Tables) (row : Row) → IsTrue ((state_of now).rows row) → IsTrue (names_stand (state_of now) row)
names_of_each now row = row_named now row
