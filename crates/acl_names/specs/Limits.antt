-- The most characters of each kind of name (MySQL 8.0 Reference Manual, "Account User Names and Passwords",
-- "Specifying Account Names", "Schema Object Names").
use Rattle.std.specs.Prelude.{ℕ}

abbrev pub user_limit : ℕ
user_limit = 32

abbrev pub host_limit : ℕ
host_limit = 255

-- of schemas, tables, columns and routines
abbrev pub ident_limit : ℕ
ident_limit = 64
