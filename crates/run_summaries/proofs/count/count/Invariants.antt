use Rattle.std.proofs.Common.{◌≡◌, take}
use Rattle.std.specs.Prelude.{count_by}
use Rattle.std.specs.List.{flat_map}
use Rattle.run_summaries.specs.Counts.{is_of_sort}
use Rattle.run_summaries.proofs.count.count.Given as goal

abbrev pub invariant-loop-session : goal.invariant-loop-session
invariant-loop-session l =
    l.total ≡ count_by (λ told. is_of_sort l.sort told.answer) (flat_map (λ session. session.answers.items) (take l.session-index l.session-items))
