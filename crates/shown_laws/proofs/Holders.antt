-- The rows of the account after all lines, kind by kind.
use Rattle.std.proofs.Common.{◌≡◌, ◌∙◌, ap, refl, ℕ, Bool, true, false, ◌||◌, List}
use Rattle.std.proofs.lemmas.Bool.{or_right}
use Rattle.acl_names.proofs.SameAuth.{equal_from_same_auth, same_auth_itself}
use Rattle.acl_names.specs.AuthId.{same_auth}
use Rattle.acl_names.specs.declared.auth.AuthId.{AuthId}
use Rattle.accepted_lists.specs.Listed.{is_account}
use Rattle.acl_model.specs.Rows.{holder, some_name}
use Rattle.acl_model.specs.State.{State}
use Rattle.acl_model.specs.declared.row.Row.{Row}
use Rattle.acl_model.specs.declared.row.Row.TheVariants.{Account, Global, Dynamic, DynamicGrant, Schema, Table, Column, Function, Procedure, Edge, Admin, Default, Restriction}
use Rattle.show_grants.specs.Carried.{carried}
use Rattle.show_grants.specs.Lines.{lines_of}
use Rattle.show_grants.specs.Listing.{Listing}
use Rattle.show_grants.specs.Rights.{Held}
use Rattle.shown_laws.proofs.Marks.{Marked, all_marks}
use Rattle.shown_laws.proofs.Orderly.{IsListed, IsOrderly}
use Rattle.shown_laws.proofs.Runs.{Adds}
use Rattle.shown_laws.proofs.Whole.{account_adds, admin_adds, column_adds, dynamic_adds, edge_adds, function_adds, global_adds, grantable_adds, procedure_adds, table_adds}
use Rattle.shown_laws.specs.Known.{IsBare, is_default}
use Rattle.std.proofs.Math.Bool.{or-false}

-- what is held, as a row of the account
abbrev pub held_row : Held → Row → Bool
held_row held (Account a) = true
held_row held (Global a p) = held.plain p
held_row held (Dynamic a d) = held.dynamic d
held_row held (DynamicGrant a d) = held.grantable d
held_row held (Schema a s p) = held.on_schema s p
held_row held (Table a s t p) = held.on_table s t p
held_row held (Column a s t c p) = held.on_column s t c p
held_row held (Function a s f p) = held.on_function s f p
held_row held (Procedure a s f p) = held.on_procedure s f p
held_row held (Edge role to) = held.role role
held_row held (Admin role to) = held.admin role
held_row held (Default of role) = false
held_row held (Restriction a p s) = held.restricted s p

module _ (a : AuthId) (held : Held) (listing : Listing) (orderly : IsOrderly held a) (listed : IsListed held listing) (here : State) (bare : IsBare here a) where
  abbrev afterwards : State
  afterwards = carried (lines_of a held listing) here

  from_nothing : (row : Row) (b : Bool) → Adds row (lines_of a held listing) b → some_name (same_auth a) row ≡ true → is_account row ≡ false → afterwards.rows row ≡ b
  from_nothing row b adds named other = adds.adds here ∙ ap (λ t. t || b) (bare.unnamed row named other)

  both_named : (r : AuthId) → (same_auth a r || same_auth a a) ≡ true
  both_named r = or_right (same_auth a r) (same_auth a a) (same_auth_itself a)

  marked : (s : List ℕ) (p : ℕ) → Marked a s p (held.restricted s p) (held.on_schema s p) (held.plain p) afterwards
  marked s p = (all_marks a held listing orderly listed s p).leads here (record {
    restriction = bare.unnamed (Restriction a p s) (same_auth_itself a) refl;
    schema = bare.unnamed (Schema a s p) (same_auth_itself a) refl;
    global = bare.unnamed (Global a p) (same_auth_itself a) refl;
  })

  -- a row of the account stands afterwards where it is held
  own_row : (row : AuthId → Row) (b : Bool) → afterwards.rows (row a) ≡ b → (x : AuthId) → same_auth x a ≡ true → afterwards.rows (row x) ≡ b
  own_row row b is x same = ap (λ (y : AuthId). afterwards.rows (row y)) (equal_from_same_auth x a same) ∙ is

  pub at_holder : (row : Row) → same_auth (holder row) a ≡ true → is_default row ≡ false → afterwards.rows row ≡ held_row held row
  at_holder (Account x) same other =
      own_row Account true ((account_adds a held listing a).adds here ∙ or-false (here.rows (Account a)) ∙ bare.account_stands) x same
  at_holder (Global x p) same other =
      own_row (λ y. Global y p) (held.plain p) (from_nothing (Global a p) (held.plain p) (global_adds a held listing orderly listed p) (same_auth_itself a) refl) x same
  at_holder (Dynamic x d) same other =
      own_row (λ y. Dynamic y d) (held.dynamic d) (from_nothing (Dynamic a d) (held.dynamic d) (dynamic_adds a held listing orderly listed d) (same_auth_itself a) refl) x same
  at_holder (DynamicGrant x d) same other =
      own_row (λ y. DynamicGrant y d) (held.grantable d) (from_nothing (DynamicGrant a d) (held.grantable d) (grantable_adds a held listing orderly listed d) (same_auth_itself a) refl) x same
  at_holder (Schema x s p) same other = own_row (λ y. Schema y s p) (held.on_schema s p) (marked s p).schema x same
  at_holder (Table x s t p) same other =
      own_row (λ y. Table y s t p) (held.on_table s t p) (from_nothing (Table a s t p) (held.on_table s t p) (table_adds a held listing orderly listed s t p) (same_auth_itself a) refl) x same
  at_holder (Column x s t c p) same other =
      own_row (λ y. Column y s t c p) (held.on_column s t c p) (from_nothing (Column a s t c p) (held.on_column s t c p) (column_adds a held listing orderly listed s t c p) (same_auth_itself a) refl) x same
  at_holder (Function x s f p) same other =
      own_row (λ y. Function y s f p) (held.on_function s f p) (from_nothing (Function a s f p) (held.on_function s f p) (function_adds a held listing orderly listed s f p) (same_auth_itself a) refl) x same
  at_holder (Procedure x s f p) same other =
      own_row (λ y. Procedure y s f p) (held.on_procedure s f p) (from_nothing (Procedure a s f p) (held.on_procedure s f p) (procedure_adds a held listing orderly listed s f p) (same_auth_itself a) refl) x same
  at_holder (Edge r x) same other =
      own_row (Edge r) (held.role r) (from_nothing (Edge r a) (held.role r) (edge_adds a held listing orderly listed r) (both_named r) refl) x same
  at_holder (Admin r x) same other =
      own_row (Admin r) (held.admin r) (from_nothing (Admin r a) (held.admin r) (admin_adds a held listing orderly listed r) (both_named r) refl) x same
  at_holder (Default x r) same other = cc
  at_holder (Restriction x p s) same other = own_row (λ y. Restriction y p s) (held.restricted s p) (marked s p).restriction x same
