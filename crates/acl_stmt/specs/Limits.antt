-- Restrictions that a grant hands on.
use Rattle.std.specs.Prelude.{Bool, ◌&&◌, ◌||◌, ◌==◌, not}
use Rattle.acl_stmt.specs.Requests.{all_below}
use Rattle.priv_sets.specs.Levels.{has_level}
use Rattle.priv_sets.specs.StaticSet.{bits_of, holds, is_known}
use Rattle.priv_sets.specs.declared.level.Level.TheVariants.{Schema}
use Rattle.priv_sets.specs.declared.static_set.Static.{Static}

-- one privilege or more, each with the schema level
unfoldable pub is_limit : Static → Bool
is_limit privileges =
    is_known privileges && not (bits_of privileges == 0) && all_below 31 (λ number. not (holds privileges number) || has_level Schema number)
