-- Names, lists of privileges and states that the worked examples share.
use Rattle.std.specs.Prelude.{ℕ, false, IsTrue, List, [], ◌∷◌, codes, refl}
use Rattle.acl_names.specs.declared.auth.AuthId.{AuthId}
use Rattle.acl_model.specs.Effects.{changed}
use Rattle.acl_model.specs.State.{State}
use Rattle.acl_stmt.specs.Columns.{is_column_list}
use Rattle.acl_stmt.specs.Limits.{is_limit}
use Rattle.acl_stmt.specs.Privileges.{is_priv_list}
use Rattle.acl_stmt.specs.declared.columns.ColumnPriv.{ColumnPriv}
use Rattle.acl_stmt.specs.declared.limit.Limit.{Limit}
use Rattle.acl_stmt.specs.declared.privileges.PrivList.{PrivList}
use Rattle.acl_stmt.specs.declared.statement.Statement.{Statement}
use Rattle.priv_sets.specs.Levels.{has_level}
use Rattle.priv_sets.specs.StaticSet.{holds}
use Rattle.priv_sets.specs.declared.static_set.Static.{Static}

abbrev pub at_any_host : List ℕ → AuthId
at_any_host user = record { user = user; host = codes "%" }

abbrev pub ann : AuthId
ann = at_any_host (codes "ann")

abbrev pub bob : AuthId
bob = at_any_host (codes "bob")

abbrev pub cat : AuthId
cat = at_any_host (codes "cat")

abbrev pub reader : AuthId
reader = at_any_host (codes "reader")

abbrev pub writer : AuthId
writer = at_any_host (codes "writer")

abbrev pub pay : List ℕ
pay = codes "pay"

abbrev pub world : List ℕ
world = codes "world"

abbrev pub city : List ℕ
city = codes "city"

abbrev pub area : List ℕ
area = codes "area"

-- the static privileges of these bits
abbrev pub plain_bits : ℕ → Static
plain_bits bits = record { 0 = bits }

pub area-listed : IsTrue (is_column_list 0 (area ∷ []))
unfolding is_column_list has_level
area-listed = refl

-- SELECT (area)
abbrev pub select_area : ColumnPriv
select_area = record { privilege = 0; names = area ∷ []; listed = area-listed }

pub both-listed : IsTrue (is_column_list 0 (city ∷ area ∷ []))
unfolding is_column_list has_level
both-listed = refl

-- SELECT (city, area)
abbrev pub select_both : ColumnPriv
select_both = record { privilege = 0; names = city ∷ area ∷ []; listed = both-listed }

pub select-listed : IsTrue (is_priv_list false (plain_bits 1) [] 0)
unfolding is_priv_list
select-listed = refl

-- SELECT
abbrev pub select : PrivList
select = record { all = false; plain = plain_bits 1; columns = []; dynamic = 0; listed = select-listed }

pub insert_delete-listed : IsTrue (is_priv_list false (plain_bits 10) [] 0)
unfolding is_priv_list
insert_delete-listed = refl

-- INSERT and DELETE
abbrev pub insert_delete : PrivList
insert_delete = record { all = false; plain = plain_bits 10; columns = []; dynamic = 0; listed = insert_delete-listed }

pub insert-listed : IsTrue (is_priv_list false (plain_bits 2) [] 0)
unfolding is_priv_list
insert-listed = refl

-- INSERT
abbrev pub insert : PrivList
insert = record { all = false; plain = plain_bits 2; columns = []; dynamic = 0; listed = insert-listed }

pub delete-listed : IsTrue (is_priv_list false (plain_bits 8) [] 0)
unfolding is_priv_list
delete-listed = refl

-- DELETE
abbrev pub delete : PrivList
delete = record { all = false; plain = plain_bits 8; columns = []; dynamic = 0; listed = delete-listed }

pub select_and_area-listed : IsTrue (is_priv_list false (plain_bits 1) (select_area ∷ []) 0)
unfolding is_priv_list
select_and_area-listed = refl

-- SELECT and SELECT (area)
abbrev pub select_and_area : PrivList
select_and_area = record { all = false; plain = plain_bits 1; columns = (select_area ∷ []); dynamic = 0; listed = select_and_area-listed }

pub select_columns-listed : IsTrue (is_priv_list false (plain_bits 0) (select_both ∷ []) 0)
unfolding is_priv_list
select_columns-listed = refl

-- SELECT (city, area)
abbrev pub select_columns : PrivList
select_columns = record { all = false; plain = plain_bits 0; columns = (select_both ∷ []); dynamic = 0; listed = select_columns-listed }

pub backup-listed : IsTrue (is_priv_list false (plain_bits 0) [] 4)
unfolding is_priv_list
backup-listed = refl

-- BACKUP_ADMIN
abbrev pub backup : PrivList
backup = record { all = false; plain = plain_bits 0; columns = []; dynamic = 4; listed = backup-listed }

pub option_alone-listed : IsTrue (is_priv_list false (plain_bits 1073741824) [] 0)
unfolding is_priv_list
option_alone-listed = refl

-- GRANT OPTION
abbrev pub option_alone : PrivList
option_alone = record { all = false; plain = plain_bits 1073741824; columns = []; dynamic = 0; listed = option_alone-listed }

pub pay-restricts : IsTrue (is_limit (plain_bits 1))
unfolding is_limit holds has_level
pay-restricts = refl

-- SELECT stays restricted on `pay`
abbrev pub no_pay : List Limit
no_pay = record { schema = pay; privileges = plain_bits 1; restricts = pay-restricts } ∷ []

-- the state after a statement without limits
abbrev pub next : Statement → State → State
next statement before = changed [] statement before
