use Rattle.std.proofs.Common.{rules, ℕ, ◌<◌, ◌^◌, Ok, ap, arith}
use Rattle.acl_ports.specs.declared.Failed.{Failed}
use Rattle.acl_ports.proofs.Moments.{passed}
use Rattle.acl_ports.proofs.memory_disk.MemoryDiskDisk.length.Goals as goal

pub returns-in_err-answer-clause-after : goal.returns-in_err-answer-clause-after
returns-in_err-answer-clause-after c = search rules

pub returns-in_err-answer-clause-time : goal.returns-in_err-answer-clause-time
returns-in_err-answer-clause-time c =
    let small : c.args.self.now.most_calls < 2 ^ 64 = omega (arith, ap (λ d. d.most_calls) c.self.view_is, c.self.invariant) in
    let early : c.args.self.now.calls.made < 2 ^ 64 = omega (arith, ap (λ d. d.calls.made) c.self.view_is, c.self.invariant) in
    passed c.args.self.now _ _ small early (returns-in_err-answer-clause-after c)

pub returns-clause-after : goal.returns-clause-after
returns-clause-after c = search rules

pub returns-clause-time : goal.returns-clause-time
returns-clause-time c =
    let small : c.args.self.now.most_calls < 2 ^ 64 = omega (arith, ap (λ d. d.most_calls) c.self.view_is, c.self.invariant) in
    let early : c.args.self.now.calls.made < 2 ^ 64 = omega (arith, ap (λ d. d.calls.made) c.self.view_is, c.self.invariant) in
    passed {T = ℕ} {E = Failed} c.args.self.now _ (Ok 0) small early (returns-clause-after c)
