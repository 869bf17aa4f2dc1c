-- What a GRANT of privileges names (MySQL 8.0 Reference Manual, "GRANT Statement").
use Rattle.std.specs.Prelude.{ℕ, Bool, ◌&&◌, ◌||◌, ◌==◌}
use Rattle.acl_model.specs.Words.{gives_grant_option, names_static}
use Rattle.acl_stmt.specs.Targets.{level_of}
use Rattle.acl_stmt.specs.declared.privileges.PrivList.{PrivList}
use Rattle.acl_stmt.specs.declared.target.Target.{Target}
use Rattle.priv_sets.specs.Levels.{grant_option}

-- whether the grant is of the static privilege of a number, GRANT OPTION where WITH GRANT OPTION means it
unfoldable pub grants_number : PrivList → Target → Bool → ℕ → Bool
grants_number privileges target with_grant_option p =
    names_static privileges (level_of target) p || (with_grant_option && p == grant_option && gives_grant_option privileges target)
