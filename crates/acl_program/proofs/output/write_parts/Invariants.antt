use Rattle.std.proofs.Common.{◌≡◌, ◌≤◌, ◌++◌, map, take, Some, IfSome}
use Rattle.std.specs.List.{concat}
use Rattle.acl_program.proofs.output.write_parts.Given as goal

abbrev pub invariant-loop-part : goal.invariant-loop-part
invariant-loop-part g l = record {
  written : IfSome (g.K.Sink.written l.initial.sink) (λ before. g.K.Sink.written l.sink ≡ Some (before ++ concat (map (λ part. part.now) (take l.part-index l.parts))));
  faults : g.K.Sink.faults l.initial.sink ≤ g.K.Sink.faults l.sink;
}
