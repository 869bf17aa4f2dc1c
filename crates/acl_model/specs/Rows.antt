-- Rows of the grant tables (MySQL 8.0 Reference Manual, "Grant Tables"): when two are one, and whom each names.
use Rattle.std.specs.Prelude.{Bool, true, false, ◌&&◌, ◌||◌, ◌==◌, List}
use Rattle.std.specs.List.{list_any}
use Rattle.acl_names.specs.AuthId.{same_auth}
use Rattle.acl_names.specs.Text.{text_eq}
use Rattle.acl_names.specs.declared.auth.AuthId.{AuthId}
use Rattle.acl_model.specs.declared.row.Row.{Row}
use Rattle.acl_model.specs.declared.row.Row.TheVariants.{Account, Global, Dynamic, DynamicGrant, Schema, Table, Column, Function, Procedure, Edge, Admin, Default, Restriction}

-- the same kind of row with the same fields
abbrev pub same_row : Row → Row → Bool
same_row (Account a) (Account b) = same_auth a b
same_row (Global a p) (Global b q) = same_auth a b && p == q
same_row (Dynamic a d) (Dynamic b e) = same_auth a b && d == e
same_row (DynamicGrant a d) (DynamicGrant b e) = same_auth a b && d == e
same_row (Schema a s p) (Schema b t q) = same_auth a b && text_eq s t && p == q
same_row (Table a s t p) (Table b u v q) = same_auth a b && text_eq s u && text_eq t v && p == q
same_row (Column a s t c p) (Column b u v d q) = same_auth a b && text_eq s u && text_eq t v && text_eq c d && p == q
same_row (Function a s f p) (Function b u g q) = same_auth a b && text_eq s u && text_eq f g && p == q
same_row (Procedure a s f p) (Procedure b u g q) = same_auth a b && text_eq s u && text_eq f g && p == q
same_row (Edge r a) (Edge q b) = same_auth r q && same_auth a b
same_row (Admin r a) (Admin q b) = same_auth r q && same_auth a b
same_row (Default a r) (Default b q) = same_auth a b && same_auth r q
same_row (Restriction a p s) (Restriction b q t) = same_auth a b && p == q && text_eq s t
same_row _ _ = false

-- a privilege, its grant option or its restriction: no account, and nothing about a role
abbrev pub is_privilege_row : Row → Bool
is_privilege_row (Account a) = false
is_privilege_row (Edge role to) = false
is_privilege_row (Admin role to) = false
is_privilege_row (Default of role) = false
is_privilege_row _ = true

-- whether a list has an account
abbrev pub lists : List AuthId → AuthId → Bool
lists accounts account = list_any (same_auth account) accounts

-- whose row it is: the account that holds what the row gives
abbrev pub holder : Row → AuthId
holder (Account a) = a
holder (Global a p) = a
holder (Dynamic a d) = a
holder (DynamicGrant a d) = a
holder (Schema a s p) = a
holder (Table a s t p) = a
holder (Column a s t c p) = a
holder (Function a s f p) = a
holder (Procedure a s f p) = a
holder (Edge role to) = to
holder (Admin role to) = to
holder (Default of role) = of
holder (Restriction a p s) = a

-- whether a name in the row passes the test: its holder, or a role
abbrev pub some_name : (AuthId → Bool) → Row → Bool
some_name test (Edge role to) = test role || test to
some_name test (Admin role to) = test role || test to
some_name test (Default of role) = test of || test role
some_name test row = test (holder row)
