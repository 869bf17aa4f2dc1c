-- What a GRANT of privileges is of has a number below 31.
use Rattle.std.proofs.Common.{◌≡◌, ℕ, ◌<◌, Bool, true, ◌&&◌, nat_eq, inl, inr, arith}
use Rattle.std.proofs.lemmas.Bool.{and_parts, eqb-true, or_cases}
use Rattle.acl_model.specs.Words.{gives_grant_option, names_static}
use Rattle.acl_rows.proofs.NamedPrivileges.{named_below}
use Rattle.acl_stmt.specs.Targets.{level_of}
use Rattle.acl_stmt.specs.declared.privileges.PrivList.{PrivList}
use Rattle.acl_stmt.specs.declared.target.Target.{Target}
use Rattle.grant_effects.specs.Granted.{grants_number}
use Rattle.priv_sets.specs.Levels.{grant_option}

pub number_below : (privileges : PrivList) (target : Target) (option : Bool) (p : ℕ) → grants_number privileges target option p ≡ true → p < 31
unfolding grants_number
number_below privileges target option p granted =
    elim (or_cases (names_static privileges (level_of target) p) (option && nat_eq p grant_option && gives_grant_option privileges target) granted) [
      | inl named ↦ named_below privileges (level_of target) p named
      | inr is_option ↦ let same : p ≡ 30 = eqb-true p grant_option (and_parts option (nat_eq p grant_option) (and_parts (option && nat_eq p grant_option) (gives_grant_option privileges target) is_option).0).1 in omega arith
    ]
