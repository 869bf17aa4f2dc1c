use Rattle.account_match.proofs.Fitting.{form_is, ordered_by}
use Rattle.account_match.proofs.host_pattern.HostPattern.compare.Goals as goal

pub returns : goal.returns
returns c =
    ordered_by _ _ c.self.inside.form c.other.inside.form _
    (form_is _ _ _ c.self.view_is c.self.invariant) (form_is _ _ _ c.other.view_is c.other.invariant) (cc)
