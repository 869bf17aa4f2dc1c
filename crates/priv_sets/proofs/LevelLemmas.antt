-- The table of levels speaks of 31 privileges.
use Rattle.std.proofs.Common.{◌≡◌, refl, ℕ, ◌<◌, ◌≤◌, ◌==◌, true, false, nat_lt, List, [], ◌∷◌, arith}
use Rattle.std.proofs.lemmas.Bool.{and_parts, or_from, ne_eqb, ltb-true, le-ltb}
use Rattle.std.specs.List.{list_all}
use Rattle.priv_sets.specs.Levels.{has_level, is_one_of, of_columns, of_tables, of_routines, of_schemas}
use Rattle.priv_sets.specs.declared.level.Level.{Level}
use Rattle.priv_sets.specs.declared.level.Level.TheVariants.{Column, Table, Routine, Schema, Global}

one_of_above : (numbers : List ℕ) (q : ℕ) → list_all (λ n. nat_lt n 31) numbers ≡ true → 31 ≤ q → is_one_of numbers q ≡ false
one_of_above [] q below above = refl
one_of_above (n ∷ ns) q below above =
    let parts = and_parts (nat_lt n 31) (list_all (λ n. nat_lt n 31) ns) below in
    let n_below : n < 31 = ltb-true n 31 parts.0 in
    or_from (n == q) (is_one_of ns q) (ne_eqb n q (λ same. omega arith)) (one_of_above ns q parts.1 above)

-- from 31 on there is no privilege at any level
pub no_level_above : (level : Level) (q : ℕ) → 31 ≤ q → has_level level q ≡ false
unfolding has_level
no_level_above Column q above = one_of_above of_columns q refl above
no_level_above Table q above = or_from _ _ (or_from _ _ (one_of_above of_columns q refl above) (one_of_above of_tables q refl above)) (ne_eqb q 30 (λ same. omega arith))
no_level_above Routine q above = or_from _ _ (one_of_above of_routines q refl above) (ne_eqb q 30 (λ same. omega arith))
no_level_above Schema q above = or_from _ _ (or_from _ _ (or_from _ _ (or_from _ _ (one_of_above of_columns q refl above) (one_of_above of_tables q refl above)) (one_of_above of_routines q refl above)) (one_of_above of_schemas q refl above)) (ne_eqb q 30 (λ same. omega arith))
no_level_above Global q above = le-ltb q 31 above
