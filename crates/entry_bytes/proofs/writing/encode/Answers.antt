use Rattle.std.proofs.Common.{◌++◌, ◌∙◌, ap, length, sym}
use Rattle.std.specs.List.{flat_map}
use Rattle.entry_bytes.proofs.Written.{written}
use Rattle.entry_bytes.specs.Spelling.{bytes_of, limit_bytes, number_bytes}
use Rattle.entry_bytes.proofs.writing.encode.Goals as goal

pub returns-clause-bytes : goal.returns-clause-bytes
unfolding bytes_of
returns-clause-bytes c =
    written _ _ _ _ _ _ _ _ _ _ _ _ _ _ _ _ _
    c.new-bytes.ensures.items
    c.in_ok-append_number.ensures
    c.in_ok-append_number-2.ensures
    c.in_ok-append_user.ensures.put
    c.in_ok-append_host.ensures.put
    (c.in_ok-append_number-3.ensures ∙ ap (λ n. c.append_host.new.bytes.items ++ number_bytes n) c.len.ensures)
    (c.in_ok-append_limits.ensures.put ∙ ap (λ l. c.append_number-3.new.bytes.items ++ flat_map limit_bytes l) c.as_slice.ensures)
    (c.in_ok-append_number-4.ensures ∙ ap (λ n. c.append_limits.new.bytes.items ++ number_bytes n) (c.len-2.ensures ∙ sym c.as_bytes.ensures.len ∙ ap length (c.as_bytes.ensures.value ∙ c.in_ok-text.ensures.text)))
    (c.in_ok-extend_from_slice.ensures.items ∙ ap (λ l. c.append_number-4.new.bytes.items ++ l) (c.as_bytes.ensures.value ∙ c.in_ok-text.ensures.text))
