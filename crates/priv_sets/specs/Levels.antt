-- The levels of the static privileges and of GRANT OPTION, by their numbers.
use Rattle.std.specs.Prelude.{ℕ, Bool, ◌||◌, ◌==◌, nat_lt, List, [], ◌∷◌}
use Rattle.std.specs.List.{list_any}
use Rattle.priv_sets.specs.declared.level.Level.{Level}
use Rattle.priv_sets.specs.declared.level.Level.TheVariants.{Column, Table, Routine, Schema, Global}

-- SELECT, INSERT, UPDATE, REFERENCES
abbrev pub of_columns : List ℕ
of_columns = 0 ∷ 1 ∷ 2 ∷ 10 ∷ []

-- DELETE, CREATE, DROP, INDEX, ALTER, CREATE VIEW, SHOW VIEW, TRIGGER
abbrev pub of_tables : List ℕ
of_tables = 3 ∷ 4 ∷ 5 ∷ 11 ∷ 12 ∷ 20 ∷ 21 ∷ 26 ∷ []

-- EXECUTE, ALTER ROUTINE
abbrev pub of_routines : List ℕ
of_routines = 17 ∷ 23 ∷ []

-- CREATE TEMPORARY TABLES, LOCK TABLES, CREATE ROUTINE, EVENT
abbrev pub of_schemas : List ℕ
of_schemas = 15 ∷ 16 ∷ 22 ∷ 25 ∷ []

-- the number of GRANT OPTION
abbrev pub grant_option : ℕ
grant_option = 30

abbrev pub is_one_of : List ℕ → ℕ → Bool
is_one_of numbers number = list_any (λ one. one == number) numbers

-- whether the privilege of a number is granted at a level
unfoldable pub has_level : Level → ℕ → Bool
has_level Column number = is_one_of of_columns number
has_level Table number = is_one_of of_columns number || is_one_of of_tables number || number == grant_option
has_level Routine number = is_one_of of_routines number || number == grant_option
has_level Schema number =
    is_one_of of_columns number || is_one_of of_tables number || is_one_of of_routines number || is_one_of of_schemas number || number == grant_option
has_level Global number = nat_lt number 31
