use Rattle.std.proofs.Common.{◌++◌, ◌∙◌, append_assoc, ap, length}
use Rattle.entry_bytes.specs.Spelling.{size_bytes}
use Rattle.entry_bytes.proofs.writing.append_short.Goals as goal

pub returns : goal.returns
unfolding size_bytes
returns c =
    c.in_ok-extend_from_slice-2.ensures.items
    ∙ ap (λ l. l ++ c.as_bytes.result.now) c.in_ok-extend_from_slice.ensures.items
    ∙ ap (λ l. (c.args.bytes.now.items ++ l) ++ c.as_bytes.result.now) c.to_le_bytes.ensures
    ∙ ap (λ l. (c.args.bytes.now.items ++ size_bytes (length c.args.text.now)) ++ l) c.as_bytes.ensures.value
    ∙ append_assoc c.args.bytes.now.items (size_bytes (length c.args.text.now)) c.args.text.now
