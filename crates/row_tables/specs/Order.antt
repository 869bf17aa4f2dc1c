-- The order of rows: by their kinds, and then by their fields.
use Rattle.std.specs.Prelude.{ℕ, List, []}
use Rattle.std.specs.declared.cmp.Ordering.{Ordering}
use Rattle.std.specs.Ordering.{nat_cmp, on, then_cmp}
use Rattle.acl_names.specs.AuthId.{auth_cmp}
use Rattle.acl_names.specs.Text.{text_cmp}
use Rattle.acl_names.specs.declared.auth.AuthId.{AuthId}
use Rattle.acl_model.specs.declared.row.Row.{Row}
use Rattle.acl_model.specs.declared.row.Row.TheVariants.{Account, Global, Dynamic, DynamicGrant, Schema, Table, Column, Function, Procedure, Edge, Admin, Default, Restriction}

-- the place of a row's kind among the kinds
abbrev pub kind_of : Row → ℕ
kind_of (Account a) = 0
kind_of (Global a p) = 1
kind_of (Dynamic a d) = 2
kind_of (DynamicGrant a d) = 3
kind_of (Schema a s p) = 4
kind_of (Table a s t p) = 5
kind_of (Column a s t c p) = 6
kind_of (Function a s f p) = 7
kind_of (Procedure a s f p) = 8
kind_of (Edge role to) = 9
kind_of (Admin role to) = 10
kind_of (Default of role) = 11
kind_of (Restriction a p s) = 12

-- the first field
abbrev pub first_account : Row → AuthId
first_account (Account a) = a
first_account (Global a p) = a
first_account (Dynamic a d) = a
first_account (DynamicGrant a d) = a
first_account (Schema a s p) = a
first_account (Table a s t p) = a
first_account (Column a s t c p) = a
first_account (Function a s f p) = a
first_account (Procedure a s f p) = a
first_account (Edge role to) = role
first_account (Admin role to) = role
first_account (Default of role) = of
first_account (Restriction a p s) = a

-- the second account; the first one again where there is none
abbrev pub second_account : Row → AuthId
second_account (Edge role to) = to
second_account (Admin role to) = to
second_account (Default of role) = role
second_account row = first_account row

-- the number that stands before the texts; 0 where none does
abbrev pub leading_number : Row → ℕ
leading_number (Restriction a p s) = p
leading_number _ = 0

-- the texts; the empty one where there is none
abbrev pub first_text : Row → List ℕ
first_text (Schema a s p) = s
first_text (Table a s t p) = s
first_text (Column a s t c p) = s
first_text (Function a s f p) = s
first_text (Procedure a s f p) = s
first_text (Restriction a p s) = s
first_text _ = []

abbrev pub second_text : Row → List ℕ
second_text (Table a s t p) = t
second_text (Column a s t c p) = t
second_text (Function a s f p) = f
second_text (Procedure a s f p) = f
second_text _ = []

abbrev pub third_text : Row → List ℕ
third_text (Column a s t c p) = c
third_text _ = []

-- the number that stands last; 0 where none does
abbrev pub last_number : Row → ℕ
last_number (Global a p) = p
last_number (Dynamic a d) = d
last_number (DynamicGrant a d) = d
last_number (Schema a s p) = p
last_number (Table a s t p) = p
last_number (Column a s t c p) = p
last_number (Function a s f p) = p
last_number (Procedure a s f p) = p
last_number _ = 0

abbrev pub accounts_cmp : Row → Row → Ordering
accounts_cmp = then_cmp (on first_account auth_cmp) (on second_account auth_cmp)

abbrev pub texts_cmp : Row → Row → Ordering
texts_cmp = then_cmp (on first_text text_cmp) (then_cmp (on second_text text_cmp) (on third_text text_cmp))

-- by the kind, and then field by field
unfoldable pub row_cmp : Row → Row → Ordering
row_cmp = then_cmp (on kind_of nat_cmp) (then_cmp accounts_cmp (then_cmp (on leading_number nat_cmp) (then_cmp texts_cmp (on last_number nat_cmp))))
