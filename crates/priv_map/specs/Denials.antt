-- What a verdict says: the first privilege that is missing, or None.
use Rattle.std.specs.Prelude.{Option, Some, None}
use Rattle.acl_stmt.specs.declared.refusal.Missing.{Missing}
use Rattle.priv_map.specs.declared.verdict.Verdict.{Verdict}
use Rattle.priv_map.specs.declared.verdict.Verdict.TheVariants.{Allowed, Denied}

abbrev pub denial_of : Verdict → Option Missing
denial_of Allowed = None
denial_of (Denied missing) = Some missing
