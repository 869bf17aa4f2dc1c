use Rattle.std.proofs.Common.{◌≡◌, IsTrue, drop, nat_lt}
use Rattle.std.specs.List.{list_all}
use Rattle.priv_sets.specs.PlainNames.{plain_name}
use Rattle.privilege_statements.specs.PrivilegeNames.{lone_numbers, named_among}
use Rattle.privilege_statements.proofs.names.lone_name.Given as goal

abbrev pub invariant-loop-number : goal.invariant-loop-number
invariant-loop-number l = record {
  left : named_among plain_name (drop l.number-index l.number-items) l.word ≡ named_among plain_name lone_numbers l.word;
  below : IsTrue (list_all (λ number. nat_lt number 31) l.number-items);
}
