use Rattle.std.proofs.Common.{◌≡◌, ◌++◌, take}
use Rattle.std.specs.List.{AllByRecursion, flat_map}
use Rattle.entry_bytes.specs.Spelling.{IsSchema, limit_bytes}
use Rattle.entry_bytes.proofs.writing.append_limits.Given as goal

abbrev pub invariant-loop-limit : goal.invariant-loop-limit
invariant-loop-limit l = record {
  put : l.bytes.items ≡ l.fn.bytes.items ++ flat_map limit_bytes (take l.limit-index l.limits);
  kept : AllByRecursion (λ limit. IsSchema limit.schema) (take l.limit-index l.limits);
}
