use Rattle.std.proofs.Common.{◌≡◌, ◌++◌, string_bytes, take}
use Rattle.std.specs.List.{flat_map}
use Rattle.canonical_texts.proofs.lists.write_others.Given as goal

abbrev pub invariant-loop-other : goal.invariant-loop-other
invariant-loop-other g l =
    string_bytes l.text ≡ string_bytes l.initial.text ++ flat_map (λ other. l.between ++ g.M.Member.text_of_member other) (take l.other-index l.others)
