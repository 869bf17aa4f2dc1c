use Rattle.std.proofs.Common.{◌≡◌, None, rules}
use Rattle.acl_names.proofs.Lowered.{lowered_name}
use Rattle.acl_names.proofs.host.HostText.read.Goals as goal
use Rattle.acl_names.specs.Limits.{host_limit}
use Rattle.acl_names.specs.Name.{name_fault}

pub invariant_of-result : goal.invariant_of-result
invariant_of-result c =
    let same : c.in_ok-text.text ≡ c.args.text.now = search rules in
    let faultless : name_fault host_limit c.args.text.now ≡ None = search rules in
    rw (c.lower.ensures, same) (lowered_name host_limit c.args.text.now faultless)
