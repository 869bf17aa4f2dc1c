-- Privileges on a target.
use Rattle.std.specs.Prelude.{ℕ, zero, suc, Bool, true, ◌&&◌, ◌||◌, ◌==◌, not}
use Rattle.acl_stmt.specs.Lists.{is_some_list}
use Rattle.acl_stmt.specs.Targets.{is_table, is_target, level_of}
use Rattle.acl_stmt.specs.declared.privileges.PrivList.{PrivList}
use Rattle.acl_stmt.specs.declared.target.Target.{Target}
use Rattle.priv_sets.specs.Levels.{has_level}
use Rattle.priv_sets.specs.Privileges.{is_global_level}
use Rattle.priv_sets.specs.StaticSet.{holds}

-- the test holds of each number below a limit
abbrev pub all_below : ℕ → (ℕ → Bool) → Bool
all_below zero test = true
all_below (suc limit) test = all_below limit test && test limit

-- each named privilege has the level of the target, and columns stand with a table
abbrev pub have_levels : PrivList → Target → Bool
have_levels privileges target =
    all_below 31 (λ number. not (holds privileges.plain number) || has_level (level_of target) number)
    && (not (is_some_list privileges.columns) || is_table target)
    && (privileges.dynamic == 0 || is_global_level (level_of target))

unfoldable pub is_request : PrivList → Target → Bool
is_request privileges target = have_levels privileges target && is_target target
